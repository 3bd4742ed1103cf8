-- One more alias of a chain.
use Rattle.std.proofs.Common.{◌≡◌, ℕ, zero, suc, ◌+◌, ◌-◌, ◌<◌, ◌≤◌, List, Option, Some, None, Result, Ok, Err, refl, sym, ◌∙◌, ap, arith}
use Rattle.he_dns.specs.declared.entries.Entry.{Entry}
use Rattle.he_dns.specs.declared.fault.AnswerFault.{AnswerFault}
use Rattle.he_dns.specs.declared.fault.AnswerFault.TheVariants as faults
use Rattle.he_dns.specs.Chains.{alias_of}
use Rattle.he_dns.specs.Reading.{chain_end, chain_ttl, lesser}
use Rattle.he_dns.specs.Ttls.{alias_ttl}
use Rattle.he_dns.proofs.Lesser.{lesser_assoc, lesser_last}

one_fewer : (passed : ℕ) → passed < 17 → 17 - passed ≡ suc (17 - (passed + 1))
one_fewer passed h = omega arith

pub own_step : (k : ℕ) (entries : List Entry) (name : List ℕ) → alias_of entries name ≡ None → chain_end (suc k) entries name ≡ Ok name
unfolding chain_end
own_step k entries name h = rw h refl

pub alias_step : (k : ℕ) (entries : List Entry) (name target : List ℕ) → alias_of entries name ≡ Some target → chain_end (suc k) entries name ≡ chain_end k entries target
unfolding chain_end
alias_step k entries name target h = rw h refl

pub own_left : (entries : List Entry) (name : List ℕ) (passed : ℕ) (whole : Result (List ℕ) AnswerFault) → passed < 17 → chain_end (17 - passed) entries name ≡ whole
    → alias_of entries name ≡ None → whole ≡ Ok name
own_left entries name passed whole lt same h =
    sym same ∙ ap (λ k. chain_end k entries name) (one_fewer passed lt) ∙ own_step (17 - (passed + 1)) entries name h

pub alias_left : (entries : List Entry) (name target : List ℕ) (passed : ℕ) (whole : Result (List ℕ) AnswerFault) → passed < 17 → chain_end (17 - passed) entries name ≡ whole
    → alias_of entries name ≡ Some target → chain_end (17 - (passed + 1)) entries target ≡ whole
alias_left entries name target passed whole lt same h =
    sym (alias_step (17 - (passed + 1)) entries name target h) ∙ ap (λ k. chain_end k entries name) (sym (one_fewer passed lt)) ∙ same

pub nothing_left : (entries : List Entry) (name : List ℕ) (passed : ℕ) (whole : Result (List ℕ) AnswerFault) → 17 ≤ passed → chain_end (17 - passed) entries name ≡ whole
    → whole ≡ Err faults.ChainTooLong
unfolding chain_end
nothing_left entries name passed whole le same =
    let e0 : 17 - passed ≡ zero = omega arith in
    sym same ∙ ap (λ k. chain_end k entries name) e0

-- the least TTL of the chain
own_none : (k : ℕ) (entries : List Entry) (name : List ℕ) → alias_of entries name ≡ None → chain_ttl (suc k) entries name ≡ None
unfolding chain_ttl
own_none k entries name h = rw h refl

pub least_kept : (entries : List Entry) (name : List ℕ) (passed : ℕ) (least whole : Option ℕ) → passed < 17
    → lesser least (chain_ttl (17 - passed) entries name) ≡ whole → alias_of entries name ≡ None → least ≡ whole
least_kept entries name passed least whole lt same h =
    sym (lesser_last least) ∙ sym (ap (λ k. lesser least (chain_ttl k entries name)) (one_fewer passed lt)
    ∙ ap (lesser least) (own_none (17 - (passed + 1)) entries name h)) ∙ same

alias_least : (k : ℕ) (entries : List Entry) (name target : List ℕ) (ttl : ℕ) → alias_of entries name ≡ Some target → alias_ttl entries name ≡ Some ttl
    → chain_ttl (suc k) entries name ≡ lesser (Some ttl) (chain_ttl k entries target)
unfolding chain_ttl
alias_least k entries name target ttl h t = rw (h, t) refl

pub least_left : (entries : List Entry) (name target : List ℕ) (passed ttl : ℕ) (least new whole : Option ℕ) → passed < 17
    → lesser least (chain_ttl (17 - passed) entries name) ≡ whole → alias_of entries name ≡ Some target → alias_ttl entries name ≡ Some ttl
    → new ≡ lesser least (Some ttl) → lesser new (chain_ttl (17 - (passed + 1)) entries target) ≡ whole
least_left entries name target passed ttl least new whole lt same h t is =
    ap (λ a. lesser a (chain_ttl (17 - (passed + 1)) entries target)) is
    ∙ lesser_assoc least (Some ttl) (chain_ttl (17 - (passed + 1)) entries target)
    ∙ sym (ap (λ k. lesser least (chain_ttl k entries name)) (one_fewer passed lt)
    ∙ ap (lesser least) (alias_least (17 - (passed + 1)) entries name target ttl h t)) ∙ same
