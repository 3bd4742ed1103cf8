-- The code that is read of a response is the one that it has, and the other way round.
use Rattle.std.proofs.Common.{◌≡◌, ◌≢◌, ℕ, zero, suc, ◌+◌, ◌*◌, Bool, true, false, cond, eqb, ◌&&◌, not, List, [], ◌∷◌, Option, Some, None, length, refl, sym, ◌∙◌, ap, subst, arith, inl, inr}
use Rattle.std.specs.Option.{option_map_or}
use Rattle.std.proofs.lemmas.Bool.{and_parts, eqb-false, eqb-true, eq-eqb, ne_eqb}
use Rattle.he_dns.specs.declared.fault.AnswerFault.{AnswerFault}
use Rattle.he_dns.specs.declared.fault.AnswerFault.TheVariants as faults
use Rattle.he_dns.specs.declared.records.Record.{Record}
use Rattle.he_dns.specs.Codes.{AreAdditional, HasCode, HasExtension, HasNoAnswer, IsExtension, IsFailure, IsFine, code_fault, opts_in}
use Rattle.he_dns.specs.Header.{rcode_of, tc_of}
use Rattle.he_dns.specs.Numbers.{IsWordAt}
use Rattle.he_dns.specs.Reading.{behind_records, code_by, code_in, extended, extension_from, extension_in, record_at, response_fault, word_at}
use Rattle.he_dns.specs.Records.{AreRecords, record_end}
use Rattle.he_dns.proofs.Numerals.{allowed, bind_some, some_same, word_found, word_stands}
use Rattle.he_dns.proofs.RecordLaws.{record_found, record_stands}

-- records

pub records_stand : (count : ℕ) (m : List ℕ) (at end : ℕ) → behind_records count m at ≡ Some end
    → (records : List Record) × AreRecords m at records end × (length records ≡ count)
unfolding behind_records
records_stand zero m at end h = ([], sym (some_same at end h), refl)
records_stand (suc count) m at end h =
    let first = bind_some (record_at m at) _ end h in
    let rest = records_stand count m (first.0.place + first.0.size) end first.2 in
    (first.0 ∷ rest.0, (record_stands m at first.0 first.1, rest.1), ap suc rest.2)

pub records_found : (m : List ℕ) (at : ℕ) (records : List Record) (end : ℕ) → AreRecords m at records end → behind_records (length records) m at ≡ Some end
unfolding behind_records
records_found m at [] end is = ap Some (sym is)
records_found m at (r ∷ more) end (first, rest) =
    let found = record_found m at r first in
    let left = records_found m (record_end r) more end rest in
    rw (found, left) refl

-- the upper bits, of the OPT records behind those that were found

abbrev Adds : Option ℕ → List Record → ℕ → Type 0
Adds None opts extension = IsExtension opts extension
Adds (Some found) opts extension = (opts ≡ []) × (extension ≡ found)

empty_of : {A : Type 0} (xs : List A) → length xs ≡ 0 → xs ≡ []
empty_of [] h = refl
empty_of (x ∷ xs) h = absurd (omega (arith, h))

-- one record that is an OPT record, or is none
one_adds : (found : Option ℕ) (r : Record) (more : Option ℕ) (opts : List Record) (extension : ℕ) (b : Bool) → eqb r.kind 41 ≡ b → extended found r ≡ Some more → Adds more opts extension
    → Adds found (cond b (r ∷ opts) opts) extension
one_adds found r more opts extension false is h adds =
    let same : Some found ≡ Some more = rw is at h in
    subst (λ (o : Option ℕ). Adds o opts extension) (sym (some_same found more same)) adds
one_adds (Some x) r more opts extension true is h adds = let no = rw is at h in cc
one_adds None r more opts extension true is h adds =
    let step = allowed (eqb (length r.owner) 0) (Some (Some r.ttl_first)) more (rw is at h) in
    let has : Adds (Some r.ttl_first) opts extension = subst (λ (o : Option ℕ). Adds o opts extension) (sym (some_same (Some r.ttl_first) more step.1)) adds in
    subst (λ (os : List Record). IsExtension (r ∷ os) extension) (sym has.0) (empty_of r.owner (eqb-true (length r.owner) 0 step.0), has.1)

added : (count : ℕ) (m : List ℕ) (found : Option ℕ) (at extension : ℕ) → extension_from count m found at ≡ Some extension
    → (records : List Record) × (end : ℕ) × AreRecords m at records end × (length records ≡ count) × Adds found (opts_in records) extension
unfolding extension_from
added zero m None at extension h = ([], at, refl, refl, sym (some_same 0 extension h))
added zero m (Some x) at extension h = ([], at, refl, refl, (refl, sym (some_same x extension h)))
added (suc count) m found at extension h =
    let first = bind_some (record_at m at) _ extension h in
    let step = bind_some (extended found first.0) _ extension first.2 in
    let rest = added count m step.0 (first.0.place + first.0.size) extension step.2 in (
      first.0 ∷ rest.0,
      rest.1,
      (record_stands m at first.0 first.1, rest.2),
      ap suc rest.3,
      one_adds found first.0 step.0 (opts_in rest.0) extension (eqb first.0.kind 41) refl step.1 rest.4,
    )

-- the other way round
abbrev Left : Option ℕ → Record → List Record → ℕ → Type 0
Left found r opts extension = (more : Option ℕ) × (extended found r ≡ Some more) × Adds more opts extension

one_left : (found : Option ℕ) (r : Record) (opts : List Record) (extension : ℕ) (b : Bool) → eqb r.kind 41 ≡ b → Adds found (cond b (r ∷ opts) opts) extension
    → Left found r opts extension
one_left found r opts extension false is adds = (found, rw is refl, adds)
one_left (Some x) r opts extension true is adds = absurd (let no = adds.0 in cc)
one_left None r [] extension true is adds =
    let bare : eqb (length r.owner) 0 ≡ true = eq-eqb (length r.owner) 0 (ap length adds.0) in
    (Some r.ttl_first, rw (is, bare) refl, (refl, adds.1))
one_left None r (o ∷ os) extension true is adds = absurd adds

found_all : (m : List ℕ) (found : Option ℕ) (at : ℕ) (records : List Record) (end extension : ℕ) → AreRecords m at records end → Adds found (opts_in records) extension
    → extension_from (length records) m found at ≡ Some extension
unfolding extension_from
found_all m None at [] end extension is adds = ap Some (sym adds)
found_all m (Some x) at [] end extension is adds = ap Some (sym adds.1)
found_all m found at (r ∷ more) end extension (first, rest) adds =
    let here = record_found m at r first in
    let left = one_left found r (opts_in more) extension (eqb r.kind 41) refl adds in
    let others = found_all m left.0 (record_end r) more end extension rest left.2 in
    rw (here, left.1, others) refl

pub extension_stands : (m : List ℕ) (answers at extension : ℕ) → extension_in m answers at ≡ Some extension → HasExtension m answers at extension
unfolding extension_in
extension_stands m answers at extension h =
    let authorities = bind_some (word_at m 8) _ extension h in
    let additionals = bind_some (word_at m 10) _ extension authorities.2 in
    let behind = bind_some (behind_records answers m at) _ extension additionals.2 in
    let begin = bind_some (behind_records authorities.0 m behind.0) _ extension behind.2 in
    let answer = records_stand answers m at behind.0 behind.1 in
    let authority = records_stand authorities.0 m behind.0 begin.0 begin.1 in
    let additional = added additionals.0 m None begin.0 extension begin.2 in
    let are : AreAdditional m answers at additional.0 = record {
      answer = answer.0;
      authority = authority.0;
      answer_end = behind.0;
      begin = begin.0;
      end = additional.1;
      answer_stand = answer.1;
      authority_stand = authority.1;
      additional_stand = additional.2;
      ancount = answer.2;
      nscount = subst (λ (n : ℕ). IsWordAt m 8 n) (sym authority.2) (word_stands m 8 authorities.0 authorities.1);
      arcount = subst (λ (n : ℕ). IsWordAt m 10 n) (sym additional.3) (word_stands m 10 additionals.0 additionals.1);
    } in
    (additional.0, are, additional.4)

pub extension_found : (m : List ℕ) (answers at extension : ℕ) → HasExtension m answers at extension → extension_in m answers at ≡ Some extension
unfolding extension_in
extension_found m answers at extension (additional, are, is) =
    let authorities = word_found m 8 (length are.authority) are.nscount in
    let additionals = word_found m 10 (length additional) are.arcount in
    let behind : behind_records answers m at ≡ Some are.answer_end =
    ap (λ (n : ℕ). behind_records n m at) (sym are.ancount) ∙ records_found m at are.answer are.answer_end are.answer_stand in
    let begin = records_found m are.answer_end are.authority are.begin are.authority_stand in
    let all = found_all m None are.begin additional are.end extension are.additional_stand is in
    rw (authorities, additionals, behind, begin) all

-- the code

not_true : (b : Bool) → not b ≡ true → b ≡ false
not_true true h = cc
not_true false h = refl

pub is_failure : (code : ℕ) → (not (eqb code 0) && not (eqb code 3)) ≡ true → IsFailure code
is_failure code h =
    let both = and_parts (not (eqb code 0)) (not (eqb code 3)) h in
    (eqb-false code 0 (not_true (eqb code 0) both.0), eqb-false code 3 (not_true (eqb code 3) both.1))

by_extension : (m : List ℕ) (flags answers at code : ℕ) (o : Option ℕ) → extension_in m answers at ≡ o → code_by (rcode_of flags) o ≡ Some code → HasCode m flags answers at code
by_extension m flags answers at code (Some extension) is h =
    inl (extension, extension_stands m answers at extension is, sym (some_same (extension * 16 + rcode_of flags) code h))
by_extension m flags answers at code None is h =
    let a = allowed (not (eqb (rcode_of flags) 0) && not (eqb (rcode_of flags) 3)) (Some (rcode_of flags)) code h in
    let same : rcode_of flags ≡ code = some_same (rcode_of flags) code a.1 in
    let none : (extension : ℕ) → HasExtension m answers at extension → ⊥ =
    λ extension has. let e : None ≡ Some extension = sym is ∙ extension_found m answers at extension has in cc in
    inr (none, subst IsFailure same (is_failure (rcode_of flags) a.0), sym same)

pub code_stands : (m : List ℕ) (flags answers at code : ℕ) → code_in m flags answers at ≡ Some code → HasCode m flags answers at code
code_stands m flags answers at code h = by_extension m flags answers at code (extension_in m answers at) refl h

no_extension : (m : List ℕ) (answers at : ℕ) (o : Option ℕ) → extension_in m answers at ≡ o → ((extension : ℕ) → HasExtension m answers at extension → ⊥) → o ≡ None
no_extension m answers at None is none = refl
no_extension m answers at (Some extension) is none = absurd (none extension (extension_stands m answers at extension is))

pub code_found : (m : List ℕ) (flags answers at code : ℕ) → HasCode m flags answers at code → code_in m flags answers at ≡ Some code
code_found m flags answers at code (inl (extension, has, is)) = rw (extension_found m answers at extension has) (ap Some (sym is))
code_found m flags answers at code (inr (none, fails, is)) =
    let no = no_extension m answers at (extension_in m answers at) refl none in
    let not_zero = ne_eqb (rcode_of flags) 0 (λ e. fails.0 (is ∙ e)) in
    let not_three = ne_eqb (rcode_of flags) 3 (λ e. fails.1 (is ∙ e)) in
    rw (no, not_zero, not_three) (ap Some (sym is))

-- what that says of the response

fine_by : (m : List ℕ) (flags answers at : ℕ) (t : Bool) (o : Option ℕ) → eqb (tc_of flags) 1 ≡ t → code_in m flags answers at ≡ o
    → cond t (Some faults.Truncated) (option_map_or code_fault o (Some faults.Malformed)) ≡ None → IsFine m flags answers at
fine_by m flags answers at true o ht ho h = cc
fine_by m flags answers at false None ht ho h = cc
fine_by m flags answers at false (Some code) ht ho h =
    let zero : code ≡ 0 = well code (eqb code 0) (eqb code 2) (eqb code 3) (eqb code 5) refl h in
    (eqb-false (tc_of flags) 1 ht, code_stands m flags answers at 0 (ho ∙ ap Some zero))
  where
    well : (code : ℕ) (z b c d : Bool) → eqb code 0 ≡ z
        → cond z None (cond b (Some faults.ServerFailure) (cond c (Some faults.NoSuchName) (cond d (Some faults.Refused) (Some (faults.OtherCode code))))) ≡ None → code ≡ 0
    well code true b c d is h = eqb-true code 0 is
    well code false true c d is h = cc
    well code false false true d is h = cc
    well code false false false true is h = cc
    well code false false false false is h = cc

pub fine_stands : (m : List ℕ) (flags answers at : ℕ) → response_fault m flags answers at ≡ None → IsFine m flags answers at
fine_stands m flags answers at h = fine_by m flags answers at (eqb (tc_of flags) 1) (code_in m flags answers at) refl refl h

pub fine_found : (m : List ℕ) (flags answers at : ℕ) → IsFine m flags answers at → response_fault m flags answers at ≡ None
fine_found m flags answers at (whole, code) = rw (ne_eqb (tc_of flags) 1 whole, code_found m flags answers at 0 code) refl

coded : (m : List ℕ) (flags answers at code : ℕ) (fault : AnswerFault) (z b c d : Bool) → tc_of flags ≢ 1 → HasCode m flags answers at code → code_fault code ≡ Some fault
    → cond z None (cond b (Some faults.ServerFailure) (cond c (Some faults.NoSuchName) (cond d (Some faults.Refused) (Some (faults.OtherCode code))))) ≡ Some fault
    → HasNoAnswer m flags answers at fault
coded m flags answers at code fault true b c d whole has is h = cc
coded m flags answers at code fault false true c d whole has is h =
    let same = some_same faults.ServerFailure fault h in
    subst (λ (f : AnswerFault). HasNoAnswer m flags answers at f) same (whole, (code, has, is ∙ ap Some (sym same)))
coded m flags answers at code fault false false true d whole has is h =
    let same = some_same faults.NoSuchName fault h in
    subst (λ (f : AnswerFault). HasNoAnswer m flags answers at f) same (whole, (code, has, is ∙ ap Some (sym same)))
coded m flags answers at code fault false false false true whole has is h =
    let same = some_same faults.Refused fault h in
    subst (λ (f : AnswerFault). HasNoAnswer m flags answers at f) same (whole, (code, has, is ∙ ap Some (sym same)))
coded m flags answers at code fault false false false false whole has is h =
    let same = some_same (faults.OtherCode code) fault h in
    subst (λ (f : AnswerFault). HasNoAnswer m flags answers at f) same (whole, (code, has, is ∙ ap Some (sym same)))

fault_by : (m : List ℕ) (flags answers at : ℕ) (fault : AnswerFault) (t : Bool) (o : Option ℕ) → eqb (tc_of flags) 1 ≡ t → code_in m flags answers at ≡ o
    → cond t (Some faults.Truncated) (option_map_or code_fault o (Some faults.Malformed)) ≡ Some fault → HasNoAnswer m flags answers at fault
fault_by m flags answers at fault true o ht ho h =
    subst (λ (f : AnswerFault). HasNoAnswer m flags answers at f) (some_same faults.Truncated fault h) (eqb-true (tc_of flags) 1 ht)
fault_by m flags answers at fault false None ht ho h =
    let none : (code : ℕ) → HasCode m flags answers at code → ⊥ =
    λ code has. let e : None ≡ Some code = sym ho ∙ code_found m flags answers at code has in cc in
    subst (λ (f : AnswerFault). HasNoAnswer m flags answers at f) (some_same faults.Malformed fault h) (eqb-false (tc_of flags) 1 ht, none)
fault_by m flags answers at fault false (Some code) ht ho h =
    coded m flags answers at code fault (eqb code 0) (eqb code 2) (eqb code 3) (eqb code 5) (eqb-false (tc_of flags) 1 ht) (code_stands m flags answers at code ho) h h

pub fault_stands : (m : List ℕ) (flags answers at : ℕ) (fault : AnswerFault) → response_fault m flags answers at ≡ Some fault → HasNoAnswer m flags answers at fault
fault_stands m flags answers at fault h = fault_by m flags answers at fault (eqb (tc_of flags) 1) (code_in m flags answers at) refl refl h
