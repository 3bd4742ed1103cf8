-- What is read of a message is what the definitions say of it, and the other way round.
use Rattle.std.proofs.Common.{◌≡◌, ◌⊎◌, ℕ, zero, suc, ◌+◌, ◌/◌, ◌<◌, Bool, true, false, cond, eqb, ◌&&◌, List, Option, Some, None, Result, Ok, Err, length, refl, sym, ◌∙◌, ap, subst, arith, inl, inr}
use Rattle.std.specs.Option.{option_map, option_map_or}
use Rattle.std.specs.Result.{IfErr, IfOk, MatchResult}
use Rattle.std.proofs.lemmas.Bool.{and_parts, eqb-true, eq-eqb, ltb-false, le-ltb}
use Rattle.he_addr.specs.declared.ip.Family.{Family}
use Rattle.he_addr.specs.declared.ip.Ip.{Ip}
use Rattle.he_dns.specs.declared.entries.Entry.{Entry}
use Rattle.he_dns.specs.declared.fault.AnswerFault.{AnswerFault}
use Rattle.he_dns.specs.declared.fault.AnswerFault.TheVariants as faults
use Rattle.he_dns.specs.declared.header.Header.{Header}
use Rattle.he_dns.specs.Answers.{Answers, Fails, HasFault, IsStranger, Tells}
use Rattle.he_dns.specs.Chains.{Leads, addresses_of, alias_of}
use Rattle.he_dns.specs.Codes.{IsFine, code_fault}
use Rattle.he_dns.specs.Header.{Asks, IsHeader, Responds, tc_of}
use Rattle.he_dns.specs.Names.{is_same}
use Rattle.he_dns.specs.Numbers.{type_of}
use Rattle.he_dns.specs.Reading.{addresses_at, answer_of, behind_question, chain_addresses, chain_end, code_in, entries_from, header_at, responds, response_fault, response_in, section_addresses}
use Rattle.he_dns.specs.Records.{AreEntries}
use Rattle.he_dns.proofs.Chained.{alias_step, own_step}
use Rattle.he_dns.proofs.CodeLaws.{fault_stands, fine_found, fine_stands}
use Rattle.he_dns.proofs.NameLaws.{name_found, name_stands}
use Rattle.he_dns.proofs.Numerals.{allowed, bind_some, not_refused, some_same, word_found, word_stands}
use Rattle.he_dns.proofs.RecordLaws.{entries_found, entries_stand}

-- the header
pub header_stands : (m : List ℕ) (h : Header) → header_at m ≡ Some h → IsHeader m h.id h.flags h.questions h.answers
unfolding header_at
header_stands m h is =
    let whole = not_refused _ _ h is in
    let id = bind_some _ _ h whole.1 in
    let flags = bind_some _ _ h id.2 in
    let questions = bind_some _ _ h flags.2 in
    let answers = bind_some _ _ h questions.2 in
    let made : Header = record { id = id.0; flags = flags.0; questions = questions.0; answers = answers.0 } in
    subst (λ (x : Header). IsHeader m x.id x.flags x.questions x.answers) (some_same made h answers.2) (record {
      whole = ltb-false (length m) 12 whole.0;
      id_word = word_stands m 0 id.0 id.1;
      flags_word = word_stands m 2 flags.0 flags.1;
      questions_word = word_stands m 4 questions.0 questions.1;
      answers_word = word_stands m 6 answers.0 answers.1;
    })

pub header_found : (m : List ℕ) (h : Header) → IsHeader m h.id h.flags h.questions h.answers → header_at m ≡ Some h
unfolding header_at
header_found m h is =
    let whole = le-ltb (length m) 12 is.whole in
    let id = word_found m 0 h.id is.id_word in
    let flags = word_found m 2 h.flags is.flags_word in
    let questions = word_found m 4 h.questions is.questions_word in
    let answers = word_found m 6 h.answers is.answers_word in
    rw (whole, id, flags, questions, answers) refl

-- the question
question_stands : (m name : List ℕ) (family : Family) (at : ℕ) → behind_question m name family ≡ Some at → Asks m name family at
unfolding behind_question
question_stands m name family at h =
    let asked = bind_some _ _ at h in
    let kind = bind_some _ _ at asked.2 in
    let class = bind_some _ _ at kind.2 in
    let test = allowed (is_same asked.0.0 name && eqb kind.0 (type_of family) && eqb class.0 1) (Some (asked.0.1 + 4)) at class.2 in
    let outer = and_parts (is_same asked.0.0 name && eqb kind.0 (type_of family)) (eqb class.0 1) test.0 in
    let inner = and_parts (is_same asked.0.0 name) (eqb kind.0 (type_of family)) outer.0 in
    record {
      asked = asked.0.0;
      after = asked.0.1;
      stands = name_stands m 12 asked.0.0 asked.0.1 asked.1;
      same = inner.0;
      kind = word_stands m asked.0.1 (type_of family) (kind.1 ∙ ap Some (eqb-true kind.0 (type_of family) inner.1));
      class = word_stands m (asked.0.1 + 2) 1 (class.1 ∙ ap Some (eqb-true class.0 1 outer.1));
      ends = sym (some_same (asked.0.1 + 4) at test.1);
    }

question_found : (m name : List ℕ) (family : Family) (at : ℕ) → Asks m name family at → behind_question m name family ≡ Some at
unfolding behind_question
question_found m name family at is =
    let asked = name_found m 12 is.asked is.after is.stands in
    let kind = word_found m is.after (type_of family) is.kind in
    let class = word_found m (is.after + 2) 1 is.class in
    let same : is_same is.asked name ≡ true = is.same in
    let of_type = eq-eqb (type_of family) (type_of family) refl in
    rw (asked, kind, class, same, of_type) (ap Some (sym is.ends))

abbrev paired : Header → ℕ → Header × ℕ
paired h at = (h, at)

mapped : (o : Option ℕ) (a b : Header) (at : ℕ) → option_map (paired a) o ≡ Some (paired b at) → (o ≡ Some at) × (a ≡ b)
mapped None a b at h = cc
mapped (Some x) a b at h =
    let same : paired a x ≡ paired b at = some_same (paired a x) (paired b at) h in
    (ap (λ (p : Header × ℕ). Some p.1) same, ap (λ (p : Header × ℕ). p.0) same)

-- the response
response_stands : (m : List ℕ) (id : ℕ) (name : List ℕ) (family : Family) (h : Header) (at : ℕ) → response_in m id name family ≡ Some (h, at)
    → Responds m id name family h.flags h.answers at
unfolding response_in
response_stands m id name family h at is =
    let header = bind_some _ _ (h, at) is in
    let test = allowed (responds header.0 id) (option_map (paired header.0) (behind_question m name family)) (paired h at) header.2 in
    let outer = and_parts (eqb header.0.id id && eqb (header.0.flags / 2048) 16) (eqb header.0.questions 1) test.0 in
    let inner = and_parts (eqb header.0.id id) (eqb (header.0.flags / 2048) 16) outer.0 in
    let question = mapped (behind_question m name family) header.0 h at test.1 in
    let stands = header_stands m header.0 header.1 in
    let one : IsHeader m id header.0.flags 1 header.0.answers =
    subst (λ (q : ℕ). IsHeader m id header.0.flags q header.0.answers) (eqb-true header.0.questions 1 outer.1)
    (subst (λ (i : ℕ). IsHeader m i header.0.flags header.0.questions header.0.answers) (eqb-true header.0.id id inner.0) stands) in
    subst (λ (x : Header). Responds m id name family x.flags x.answers at) question.1 (record {
      header = one;
      standard = eqb-true (header.0.flags / 2048) 16 inner.1;
      question = question_stands m name family at question.0;
    })

pub response_found : (m : List ℕ) (id : ℕ) (name : List ℕ) (family : Family) (flags answers at : ℕ) → Responds m id name family flags answers at
    → response_in m id name family ≡ Some (record { id = id; flags = flags; questions = 1; answers = answers }, at)
unfolding response_in
response_found m id name family flags answers at is =
    let h : Header = record { id = id; flags = flags; questions = 1; answers = answers } in
    let header = header_found m (record { id = id; flags = flags; questions = 1; answers = answers }) is.header in
    let same = eq-eqb id id refl in
    let standard = eq-eqb (flags / 2048) 16 is.standard in
    let question = question_found m name family at is.question in
    rw (header, same, standard, question) refl

-- the chain
-- by what is known of the name
by_alias : (n : ℕ) (entries : List Entry) (name host : List ℕ) (alias : Option (List ℕ)) → alias_of entries name ≡ alias
    → ((target : List ℕ) → chain_end n entries target ≡ Ok host → (count : ℕ) × (count < n) × Leads entries count target host × (alias_of entries host ≡ None))
    → option_map_or (λ target. chain_end n entries target) alias (Ok name) ≡ Ok host
    → (count : ℕ) × (count < suc n) × Leads entries count name host × (alias_of entries host ≡ None)
unfolding Leads
by_alias n entries name host None is later h =
    let same : name ≡ host = cc in
    (zero, omega arith, same, ap (alias_of entries) (sym same) ∙ is)
by_alias n entries name host (Some target) is later h =
    let rest = later target h in
    (suc rest.0, omega (arith, rest.1), (target, is, rest.2), rest.3)

too_long_by : (n : ℕ) (entries : List Entry) (name : List ℕ) (fault : AnswerFault) (alias : Option (List ℕ)) → alias_of entries name ≡ alias
    → ((target : List ℕ) → chain_end n entries target ≡ Err fault → (fault ≡ faults.ChainTooLong) × ((host : List ℕ) × Leads entries n target host))
    → option_map_or (λ target. chain_end n entries target) alias (Ok name) ≡ Err fault
    → (fault ≡ faults.ChainTooLong) × ((host : List ℕ) × Leads entries (suc n) name host)
unfolding Leads
too_long_by n entries name fault None is later h = cc
too_long_by n entries name fault (Some target) is later h =
    let rest = later target h in
    (rest.0, (rest.1.0, (target, is, rest.1.1)))

chain_stands : (n : ℕ) (entries : List Entry) (name host : List ℕ) → chain_end n entries name ≡ Ok host
    → (count : ℕ) × (count < n) × Leads entries count name host × (alias_of entries host ≡ None)
unfolding chain_end
chain_stands zero entries name host h = cc
chain_stands (suc n) entries name host h = by_alias n entries name host (alias_of entries name) refl (λ target is. chain_stands n entries target host is) h

chain_goes_on : (n : ℕ) (entries : List Entry) (name : List ℕ) (fault : AnswerFault) → chain_end n entries name ≡ Err fault
    → (fault ≡ faults.ChainTooLong) × ((host : List ℕ) × Leads entries n name host)
unfolding chain_end Leads
chain_goes_on zero entries name fault h =
    let same : fault ≡ faults.ChainTooLong = cc in
    (same, (name, refl))
chain_goes_on (suc n) entries name fault h = too_long_by n entries name fault (alias_of entries name) refl (λ target is. chain_goes_on n entries target fault is) h

pub chain_found : (count n : ℕ) (entries : List Entry) (name host : List ℕ) → count < n → Leads entries count name host → alias_of entries host ≡ None
    → chain_end n entries name ≡ Ok host
unfolding Leads
chain_found zero zero entries name host lt leads own = absurd (omega arith)
chain_found zero (suc n) entries name host lt leads own = own_step n entries name (ap (alias_of entries) leads ∙ own) ∙ ap Ok leads
chain_found (suc count) zero entries name host lt leads own = absurd (omega arith)
chain_found (suc count) (suc n) entries name host lt (target, is, leads) own =
    alias_step n entries name target is ∙ chain_found count n entries target host (omega arith) leads own

-- the answer, by what is found on the way to it
told : (m : List ℕ) (id : ℕ) (name : List ℕ) (family : Family) (h : Header) (at : ℕ) (entries : List Entry) → Responds m id name family h.flags h.answers at
    → response_fault m h.flags h.answers at ≡ None → entries_from h.answers m family at ≡ Some entries → Tells m id name family entries
told m id name family h at entries responds fine is =
    let stand = entries_stand h.answers m family at entries is in
    record {
      flags = h.flags;
      at = at;
      responds = subst (λ (answers : ℕ). Responds m id name family h.flags answers at) (sym stand.1) responds;
      fine = subst (λ (answers : ℕ). IsFine m h.flags answers at) (sym stand.1) (fine_stands m h.flags h.answers at fine);
      section = stand.0;
    }

by_chain : (m : List ℕ) (id : ℕ) (name : List ℕ) (family : Family) (entries : List Entry) (ips : List Ip) (r : Result (List ℕ) AnswerFault) → Tells m id name family entries
    → chain_end 17 entries name ≡ r → addresses_at entries r ≡ Ok ips → Answers m id name family ips
by_chain m id name family entries ips (Ok host) tells is h =
    let chain = chain_stands 17 entries name host is in
    let same : ips ≡ addresses_of entries host = cc in
    record {
      entries = entries;
      told = tells;
      host = host;
      canonical = record { aliases = chain.0; few = omega (arith, chain.1); leads = chain.2; own = chain.3 };
      value = same;
    }
by_chain m id name family entries ips (Err fault) tells is h = cc

by_entries : (m : List ℕ) (id : ℕ) (name : List ℕ) (family : Family) (h : Header) (at : ℕ) (ips : List Ip) (o : Option (List Entry)) → Responds m id name family h.flags h.answers at
    → response_fault m h.flags h.answers at ≡ None → entries_from h.answers m family at ≡ o
    → option_map_or (λ entries. chain_addresses entries name) o (Err faults.Malformed) ≡ Ok ips → Answers m id name family ips
unfolding chain_addresses
by_entries m id name family h at ips None responds fine is answer = cc
by_entries m id name family h at ips (Some entries) responds fine is answer =
    by_chain m id name family entries ips (chain_end 17 entries name) (told m id name family h at entries responds fine is) refl answer

by_flags : (m : List ℕ) (id : ℕ) (name : List ℕ) (family : Family) (h : Header) (at : ℕ) (ips : List Ip) (o : Option AnswerFault) → Responds m id name family h.flags h.answers at
    → response_fault m h.flags h.answers at ≡ o → option_map_or (λ fault. Err fault) o (section_addresses m h at name family) ≡ Ok ips → Answers m id name family ips
unfolding section_addresses
by_flags m id name family h at ips None responds is answer =
    by_entries m id name family h at ips (entries_from h.answers m family at) responds is refl answer
by_flags m id name family h at ips (Some fault) responds is answer = cc

by_response : (m : List ℕ) (id : ℕ) (name : List ℕ) (family : Family) (ips : List Ip) (o : Option (Header × ℕ)) → response_in m id name family ≡ o
    → option_map_or (λ response. option_map_or (λ fault. Err fault) (response_fault m response.0.flags response.0.answers response.1) (section_addresses m response.0 response.1 name family)) o (Err faults.NotOurs) ≡ Ok ips
    → Answers m id name family ips
by_response m id name family ips None is answer = cc
by_response m id name family ips (Some (h, at)) is answer =
    by_flags m id name family h at ips (response_fault m h.flags h.answers at) (response_stands m id name family h at is) refl answer

pub answer_stands : (m : List ℕ) (id : ℕ) (name : List ℕ) (family : Family) (ips : List Ip) → answer_of m id name family ≡ Ok ips → Answers m id name family ips
unfolding answer_of
answer_stands m id name family ips h = by_response m id name family ips (response_in m id name family) refl h

answer_found : (m : List ℕ) (id : ℕ) (name : List ℕ) (family : Family) (ips : List Ip) → Answers m id name family ips → answer_of m id name family ≡ Ok ips
unfolding answer_of section_addresses chain_addresses
answer_found m id name family ips is =
    let response = response_found m id name family is.told.flags (length is.entries) is.told.at is.told.responds in
    let fine = fine_found m is.told.flags (length is.entries) is.told.at is.told.fine in
    let entries = entries_found m family is.told.at is.entries is.told.section in
    let chain = chain_found is.canonical.aliases 17 is.entries name is.host (omega (arith, is.canonical.few)) is.canonical.leads is.canonical.own in
    rw (response, fine, entries, chain) (ap Ok (sym is.value))

-- the faults
abbrev IsCodeFault : AnswerFault → Type 0
IsCodeFault faults.NotOurs = ⊥
IsCodeFault faults.ChainTooLong = ⊥
IsCodeFault faults.Memory = ⊥
IsCodeFault _ = Unit {0}

code_tests : (z b c d : Bool) (code : ℕ) (fault : AnswerFault)
    → cond z None (cond b (Some faults.ServerFailure) (cond c (Some faults.NoSuchName) (cond d (Some faults.Refused) (Some (faults.OtherCode code))))) ≡ Some fault
    → IsCodeFault fault
code_tests true b c d code fault h = cc
code_tests false true c d code fault h = subst IsCodeFault (some_same faults.ServerFailure fault h) tt
code_tests false false true d code fault h = subst IsCodeFault (some_same faults.NoSuchName fault h) tt
code_tests false false false true code fault h = subst IsCodeFault (some_same faults.Refused fault h) tt
code_tests false false false false code fault h = subst IsCodeFault (some_same (faults.OtherCode code) fault h) tt

fault_tests : (t : Bool) (o : Option ℕ) (fault : AnswerFault) → cond t (Some faults.Truncated) (option_map_or code_fault o (Some faults.Malformed)) ≡ Some fault → IsCodeFault fault
fault_tests true o fault h = subst IsCodeFault (some_same faults.Truncated fault h) tt
fault_tests false None fault h = subst IsCodeFault (some_same faults.Malformed fault h) tt
fault_tests false (Some code) fault h = code_tests (eqb code 0) (eqb code 2) (eqb code 3) (eqb code 5) code fault h

has_code : (m : List ℕ) (id : ℕ) (name : List ℕ) (family : Family) (fault : AnswerFault) → IsCodeFault fault → Fails m id name family fault → HasFault m id name family fault
has_code m id name family faults.NotOurs is h = absurd is
has_code m id name family faults.Malformed is h = inl h
has_code m id name family faults.ChainTooLong is h = absurd is
has_code m id name family faults.Memory is h = absurd is
has_code m id name family faults.Truncated is h = h
has_code m id name family faults.NoSuchName is h = h
has_code m id name family faults.ServerFailure is h = h
has_code m id name family faults.Refused is h = h
has_code m id name family (faults.OtherCode code) is h = h

chain_fault : (m : List ℕ) (id : ℕ) (name : List ℕ) (family : Family) (entries : List Entry) (fault : AnswerFault) (r : Result (List ℕ) AnswerFault) → Tells m id name family entries
    → chain_end 17 entries name ≡ r → addresses_at entries r ≡ Err fault → HasFault m id name family fault
chain_fault m id name family entries fault (Ok host) tells is h = cc
chain_fault m id name family entries fault (Err found) tells is h =
    let on = chain_goes_on 17 entries name found is in
    let same : fault ≡ found = cc in
    subst (λ (f : AnswerFault). HasFault m id name family f) (sym (same ∙ on.0)) (entries, tells, on.1)

entries_fault : (m : List ℕ) (id : ℕ) (name : List ℕ) (family : Family) (h : Header) (at : ℕ) (fault : AnswerFault) (o : Option (List Entry)) → Responds m id name family h.flags h.answers at
    → response_fault m h.flags h.answers at ≡ None → entries_from h.answers m family at ≡ o
    → option_map_or (λ entries. chain_addresses entries name) o (Err faults.Malformed) ≡ Err fault → HasFault m id name family fault
unfolding chain_addresses
entries_fault m id name family h at fault None responds fine is answer =
    let same : fault ≡ faults.Malformed = cc in
    let none : (entries : List Entry) → length entries ≡ h.answers → AreEntries m family at entries → ⊥ =
    λ entries count stand. let some : entries_from h.answers m family at ≡ Some entries = ap (λ (n : ℕ). entries_from n m family at) (sym count) ∙ entries_found m family at entries stand in cc in
    subst (λ (f : AnswerFault). HasFault m id name family f) (sym same) (inr (h.flags, h.answers, at, responds, fine_stands m h.flags h.answers at fine, none))
entries_fault m id name family h at fault (Some entries) responds fine is answer =
    chain_fault m id name family entries fault (chain_end 17 entries name) (told m id name family h at entries responds fine is) refl answer

flags_wrong : (m : List ℕ) (id : ℕ) (name : List ℕ) (family : Family) (h : Header) (at : ℕ) (fault : AnswerFault) (o : Option AnswerFault) → Responds m id name family h.flags h.answers at
    → response_fault m h.flags h.answers at ≡ o → option_map_or (λ fault. Err fault) o (section_addresses m h at name family) ≡ Err fault → HasFault m id name family fault
unfolding section_addresses
flags_wrong m id name family h at fault None responds is answer =
    entries_fault m id name family h at fault (entries_from h.answers m family at) responds is refl answer
flags_wrong m id name family h at fault (Some found) responds is answer =
    let same : found ≡ fault = cc in
    let this : response_fault m h.flags h.answers at ≡ Some fault = is ∙ ap Some same in
    has_code m id name family fault (fault_tests (eqb (tc_of h.flags) 1) (code_in m h.flags h.answers at) fault this)
    (h.flags, h.answers, at, responds, fault_stands m h.flags h.answers at fault this)

response_wrong : (m : List ℕ) (id : ℕ) (name : List ℕ) (family : Family) (fault : AnswerFault) (o : Option (Header × ℕ)) → response_in m id name family ≡ o
    → option_map_or (λ response. option_map_or (λ fault. Err fault) (response_fault m response.0.flags response.0.answers response.1) (section_addresses m response.0 response.1 name family)) o (Err faults.NotOurs) ≡ Err fault
    → HasFault m id name family fault
response_wrong m id name family fault None is answer =
    let same : fault ≡ faults.NotOurs = cc in
    let stranger : IsStranger m id name family =
    λ flags answers at responds. let some = response_found m id name family flags answers at responds in cc in
    subst (λ (f : AnswerFault). HasFault m id name family f) (sym same) stranger
response_wrong m id name family fault (Some (h, at)) is answer =
    flags_wrong m id name family h at fault (response_fault m h.flags h.answers at) (response_stands m id name family h at is) refl answer

answer_faults : (m : List ℕ) (id : ℕ) (name : List ℕ) (family : Family) (fault : AnswerFault) → answer_of m id name family ≡ Err fault → HasFault m id name family fault
unfolding answer_of
answer_faults m id name family fault h = response_wrong m id name family fault (response_in m id name family) refl h

-- the public clauses, of a reading that answers what was to be answered or is refused memory
pub found_is : {V : Type 0} (r : Result V AnswerFault) (items : V → List Ip) (m : List ℕ) (id : ℕ) (name : List ℕ) (family : Family)
    → MatchResult r (λ v. answer_of m id name family ≡ Ok (items v)) (λ fault. (fault ≡ faults.Memory) ⊎ (answer_of m id name family ≡ Err fault))
    → IfOk r (λ v. Answers m id name family (items v))
found_is (Ok v) items m id name family h = answer_stands m id name family (items v) h
found_is (Err fault) items m id name family h = tt

pub fault_is : {V : Type 0} (r : Result V AnswerFault) (items : V → List Ip) (m : List ℕ) (id : ℕ) (name : List ℕ) (family : Family)
    → MatchResult r (λ v. answer_of m id name family ≡ Ok (items v)) (λ fault. (fault ≡ faults.Memory) ⊎ (answer_of m id name family ≡ Err fault))
    → IfErr r (λ fault. HasFault m id name family fault)
fault_is (Ok v) items m id name family h = tt
fault_is (Err fault) items m id name family (inl h) = subst (λ (f : AnswerFault). HasFault m id name family f) (sym h) tt
fault_is (Err fault) items m id name family (inr h) = answer_faults m id name family fault h

pub none_missed : {V : Type 0} (r : Result V AnswerFault) (items : V → List Ip) (m : List ℕ) (id : ℕ) (name : List ℕ) (family : Family)
    → MatchResult r (λ v. answer_of m id name family ≡ Ok (items v)) (λ fault. (fault ≡ faults.Memory) ⊎ (answer_of m id name family ≡ Err fault))
    → IfErr r (λ fault. (fault ≡ faults.Memory → ⊥) → (ips : List Ip) → Answers m id name family ips → ⊥)
none_missed (Ok v) items m id name family h = tt
none_missed (Err fault) items m id name family (inl h) = λ other ips answers. other h
none_missed (Err fault) items m id name family (inr h) = λ other ips answers. let found = answer_found m id name family ips answers in cc
