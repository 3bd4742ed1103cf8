-- The least TTL that is found is that of the records that an answer stands on.
use Rattle.std.proofs.Common.{◌≡◌, ◌⊎◌, ℕ, zero, suc, true, List, [], ◌∷◌, Option, Some, None, Result, Ok, Err, is_some, length, refl, sym, ◌∙◌, ap, subst, arith, inl, inr}
use Rattle.std.specs.Option.{option_map_or}
use Rattle.std.specs.Result.{IfOk, MatchResult}
use Rattle.he_addr.specs.declared.ip.Family.{Family}
use Rattle.he_addr.specs.declared.ip.Ip.{Ip}
use Rattle.he_dns.specs.declared.entries.Entry.{Entry}
use Rattle.he_dns.specs.declared.fault.AnswerFault.{AnswerFault}
use Rattle.he_dns.specs.declared.fault.AnswerFault.TheVariants as faults
use Rattle.he_dns.specs.Answers.{Answers}
use Rattle.he_dns.specs.Chains.{Leads, address_for, alias_of, target_for}
use Rattle.he_dns.specs.Reading.{address_ttl, addresses_ttl, answer_of, chain_end, chain_ttl, lesser, section_ttl, ttl_of}
use Rattle.he_dns.specs.Ttls.{IsAddressTtl, IsAliasTtl, IsLeast, MayKeep, alias_ttl}
use Rattle.he_dns.proofs.AnswerLaws.{answer_stands, chain_found, response_found}
use Rattle.he_dns.proofs.Lesser.{least_of_both, least_same}
use Rattle.he_dns.proofs.RecordLaws.{entries_found}

-- the aliases

alias_has : (entries : List Entry) (name target : List ℕ) → alias_of entries name ≡ Some target → (ttl : ℕ) × (alias_ttl entries name ≡ Some ttl)
alias_has [] name target h = cc
alias_has (entry ∷ more) name target h = (elim (target_for name entry) as (λ o. target_for name entry ≡ o → (ttl : ℕ) × (alias_ttl (entry ∷ more) name ≡ Some ttl)) [
  | Some found ↦ λ is. (entry.ttl, rw is refl)
  | None ↦ λ is. let rest = alias_has more name target (rw is at h) in (rest.0, rw is rest.1)
]) refl

alias_lacks : (entries : List Entry) (name : List ℕ) → alias_of entries name ≡ None → alias_ttl entries name ≡ None
alias_lacks [] name h = refl
alias_lacks (entry ∷ more) name h = (elim (target_for name entry) as (λ o. target_for name entry ≡ o → alias_ttl (entry ∷ more) name ≡ None) [
  | Some found ↦ λ is. let no = rw is at h in cc
  | None ↦ λ is. rw is (alias_lacks more name (rw is at h))
]) refl

-- the TTL of the name's own alias
own_least : (entries : List Entry) (name : List ℕ) (ttl : Option ℕ) → alias_ttl entries name ≡ ttl → IsLeast (λ t. alias_ttl entries name ≡ Some t) ttl
own_least entries name None is = λ other some. let no : None ≡ Some other = sym is ∙ some in cc
own_least entries name (Some ttl) is = (is, λ other some. let same : Some ttl ≡ Some other = sym is ∙ some in let le : ttl ≡ other = cc in omega (arith, le))

-- an alias that is followed is the name's own, or one of its target
alias_first : (entries : List Entry) (name target : List ℕ) → alias_of entries name ≡ Some target → (ttl : ℕ)
    → ((alias_ttl entries name ≡ Some ttl) ⊎ IsAliasTtl entries target ttl) → IsAliasTtl entries name ttl
unfolding Leads
alias_first entries name target is ttl (inl own) = (zero, name, refl, own)
alias_first entries name target is ttl (inr (count, owner, leads, later)) = (suc count, owner, (target, is, leads), later)

alias_parts : (entries : List Entry) (name target : List ℕ) → alias_of entries name ≡ Some target → (ttl : ℕ)
    → IsAliasTtl entries name ttl → (alias_ttl entries name ≡ Some ttl) ⊎ IsAliasTtl entries target ttl
unfolding Leads
alias_parts entries name target is ttl (zero, owner, leads, own) = inl (ap (alias_ttl entries) leads ∙ own)
alias_parts entries name target is ttl (suc count, owner, (other, also, leads), later) =
    let both : Some other ≡ Some target = sym also ∙ is in
    let same : other ≡ target = cc in
    inr (count, owner, subst (λ (x : List ℕ). Leads entries count x owner) same leads, later)

none_followed : (entries : List Entry) (name : List ℕ) → alias_of entries name ≡ None → (ttl : ℕ) → IsAliasTtl entries name ttl → ⊥
unfolding Leads
none_followed entries name is ttl (zero, owner, leads, own) =
    let no : None ≡ Some ttl = sym (alias_lacks entries name is) ∙ ap (alias_ttl entries) leads ∙ own in cc
none_followed entries name is ttl (suc count, owner, (other, also, leads), later) = let no : None ≡ Some other = sym is ∙ also in cc

chain_by : (n : ℕ) (entries : List Entry) (name host : List ℕ) (alias : Option (List ℕ)) → alias_of entries name ≡ alias
    → ((target : List ℕ) → chain_end n entries target ≡ Ok host → IsLeast (IsAliasTtl entries target) (chain_ttl n entries target))
    → option_map_or (λ target. chain_end n entries target) alias (Ok name) ≡ Ok host
    → IsLeast (IsAliasTtl entries name) (option_map_or (λ target. lesser (alias_ttl entries name) (chain_ttl n entries target)) alias None)
chain_by n entries name host None is later h = λ ttl followed. none_followed entries name is ttl followed
chain_by n entries name host (Some target) is later h =
    least_same (λ t. (alias_ttl entries name ≡ Some t) ⊎ IsAliasTtl entries target t) (IsAliasTtl entries name)
    (lesser (alias_ttl entries name) (chain_ttl n entries target)) (alias_first entries name target is) (alias_parts entries name target is)
    (least_of_both (λ t. alias_ttl entries name ≡ Some t) (IsAliasTtl entries target) (alias_ttl entries name) (chain_ttl n entries target) (own_least entries name (alias_ttl entries name) refl) (later target h))

chain_least : (n : ℕ) (entries : List Entry) (name host : List ℕ) → chain_end n entries name ≡ Ok host → IsLeast (IsAliasTtl entries name) (chain_ttl n entries name)
unfolding chain_end chain_ttl
chain_least zero entries name host h = cc
chain_least (suc n) entries name host h = chain_by n entries name host (alias_of entries name) refl (λ target is. chain_least n entries target host is) h

-- the addresses

one_least : (host : List ℕ) (entry : Entry) (ip : Option Ip) → address_for host entry ≡ ip
    → IsLeast (λ t. (is_some (address_for host entry) ≡ true) × (t ≡ entry.ttl)) (address_ttl host entry)
one_least host entry None is = rw is (λ other (some, same). cc)
one_least host entry (Some ip) is = rw is ((refl, refl), λ other (some, same). omega (arith, same))

addresses_least : (entries : List Entry) (host : List ℕ) → IsLeast (IsAddressTtl entries host) (addresses_ttl entries host)
addresses_least [] host = λ other no. no
addresses_least (entry ∷ more) host =
    least_of_both (λ t. (is_some (address_for host entry) ≡ true) × (t ≡ entry.ttl)) (IsAddressTtl more host)
    (address_ttl host entry) (addresses_ttl more host) (one_least host entry (address_for host entry) refl) (addresses_least more host)

-- both

may_keep : (m : List ℕ) (id : ℕ) (name : List ℕ) (family : Family) (ips : List Ip) → Answers m id name family ips → MayKeep m id name family (ttl_of m id name family)
unfolding ttl_of section_ttl
may_keep m id name family ips is =
    let response = response_found m id name family is.told.flags (length is.entries) is.told.at is.told.responds in
    let entries = entries_found m family is.told.at is.entries is.told.section in
    let chain = chain_found is.canonical.aliases 17 is.entries name is.host (omega (arith, is.canonical.few)) is.canonical.leads is.canonical.own in
    record {
      entries = is.entries;
      told = is.told;
      host = is.host;
      canonical = is.canonical;
      least = rw (response, entries, chain)
          (least_of_both (IsAliasTtl is.entries name) (IsAddressTtl is.entries is.host) (chain_ttl 17 is.entries name) (addresses_ttl is.entries is.host) (chain_least 17 is.entries name is.host chain) (addresses_least is.entries is.host));
    }

-- the public clause
pub ttl_is : {V : Type 0} (r : Result V AnswerFault) (items : V → List Ip) (ttl : V → Option ℕ) (m : List ℕ) (id : ℕ) (name : List ℕ) (family : Family)
    → MatchResult r (λ v. answer_of m id name family ≡ Ok (items v)) (λ fault. (fault ≡ faults.Memory) ⊎ (answer_of m id name family ≡ Err fault))
    → IfOk r (λ v. ttl v ≡ ttl_of m id name family) → IfOk r (λ v. MayKeep m id name family (ttl v))
ttl_is (Ok v) items ttl m id name family h same =
    subst (λ (t : Option ℕ). MayKeep m id name family t) (sym same) (may_keep m id name family (items v) (answer_stands m id name family (items v) h))
ttl_is (Err fault) items ttl m id name family h same = tt
