-- What a set of tried addresses has.
use Rattle.std.proofs.Common.{◌≡◌, ℕ, ◌+◌, ◌<◌, ◌||◌, ◌++◌, Bool, true, false, cond, List, [], ◌∷◌, length, take, get_or, refl, sym, ◌∙◌, ap, subst}
use Rattle.std.specs.List.{list_any}
use Rattle.std.proofs.lemmas.List.Folds.{list_any-append, list_any_more}
use Rattle.he_addr.specs.Ip.{same_ip}
use Rattle.he_addr.specs.declared.ip.Ip.{Ip}
use Rattle.he_plan.specs.declared.attempts.Attempt.{Attempt}
use Rattle.he_plan.specs.Attempts.{is_tried}
use Rattle.he_timeline.specs.Race.{has_ip}
use Rattle.he_timeline.proofs.Addressed.{found_is}
use Rattle.he_timeline.proofs.ByAddress.{IsSame}
use Rattle.he_plan.proofs.Distinct.{same_ip-is}

or_false : (b c : Bool) → (b || (c || false)) ≡ (b || c)
or_false true c = refl
or_false false true = refl
or_false false false = refl

-- a set has what it had and the address that is inserted, whether it had that or not
inserted : (eq : Ip → Ip → Bool) → IsSame eq → (keys : List Ip) (x ip : Ip) → has_ip ip (cond (list_any (eq x) keys) keys (keys ++ x ∷ [])) ≡ (has_ip ip keys || same_ip x ip)
inserted eq same keys x ip = by_found (list_any (eq x) keys) refl
  where
    there : (b : Bool) → same_ip x ip ≡ b → has_ip x keys ≡ true → has_ip ip keys ≡ (has_ip ip keys || b)
    there true e h = ap (λ (b : Bool). b) (has_too e h) ∙ sym (ap (λ (b : Bool). b || true) (has_too e h))
      where
        has_too : same_ip x ip ≡ true → has_ip x keys ≡ true → has_ip ip keys ≡ true
        has_too f k = subst (λ y. has_ip y keys ≡ true) (same_ip-is x ip f) k
    there false e h = or_none (has_ip ip keys)
      where
        or_none : (b : Bool) → b ≡ (b || false)
        or_none true = refl
        or_none false = refl

    by_found : (b : Bool) → list_any (eq x) keys ≡ b → has_ip ip (cond b keys (keys ++ x ∷ [])) ≡ (has_ip ip keys || same_ip x ip)
    by_found true e = there (same_ip x ip) refl (sym (found_is eq same x keys) ∙ e)
    by_found false e = list_any-append (λ other. same_ip other ip) keys (x ∷ []) ∙ or_false (has_ip ip keys) (same_ip x ip)

-- a set of what the attempts before a place try, and the address of the attempt there
pub tried_next : (eq : Ip → Ip → Bool) → IsSame eq → (keys new : List Ip) (done : List Attempt) (i : ℕ) (d : Attempt) (x : Ip) → i < length done → x ≡ (get_or done i d).ip → ((ip : Ip) → has_ip ip keys ≡ is_tried (take i done) ip) → new ≡ cond (list_any (eq x) keys) keys (keys ++ x ∷ []) → (ip : Ip) → has_ip ip new ≡ is_tried (take (i + 1) done) ip
tried_next eq same keys new done i d x below at is grown ip =
    ap (has_ip ip) grown
    ∙ inserted eq same keys x ip
    ∙ ap (λ (b : Bool). b || same_ip x ip) (is ip)
    ∙ ap (λ (y : Ip). is_tried (take i done) ip || same_ip y ip) at
    ∙ sym (list_any_more (λ (y : Attempt). same_ip y.ip ip) done i d below)
