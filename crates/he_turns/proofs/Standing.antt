-- Each attempt of a race is at an address of an answer: at any other one it would leave as many addresses untried.
use Rattle.std.proofs.Common.{◌≡◌, ℕ, zero, suc, ◌<◌, ◌||◌, ◌++◌, Bool, true, false, not, List, [], ◌∷◌, if◌then◌else◌, length, filter, get_or, Some, refl, ◌∙◌, ap, arith}
use Rattle.std.specs.List.{Contains, list_any, slice_get}
use Rattle.std.proofs.lemmas.List.Folds.{list_any-append}
use Rattle.he_addr.specs.declared.ip.Ip.{Ip}
use Rattle.he_addr.specs.Ip.{is_usable, same_ip}
use Rattle.he_plan.specs.declared.attempts.Attempt.{Attempt}
use Rattle.he_plan.specs.Attempts.{AreNextInTurn, IsNext, is_tried, is_untried}
use Rattle.he_timeline.specs.Race.{Race, addresses_of, has_ip, is_in_answer}
use Rattle.he_timeline.proofs.Bools.{or_left_none, or_none, or_right_none}
use Rattle.he_plan.proofs.Few.{left_of, untried_fewer}
use Rattle.he_timeline.proofs.Ranges.{same_ip-sym}

none_of : (p q : Ip → Bool) (ips : List Ip) → list_any p ips ≡ false → list_any p (filter q ips) ≡ false
none_of p q [] h = refl
none_of p q (ip ∷ ips) h = by_head (q ip) (none_of p q ips (or_right_none _ _ h))
  where
    by_head : (b : Bool) → list_any p (filter q ips) ≡ false → list_any p (if b then ip ∷ filter q ips else filter q ips) ≡ false
    by_head true rest = or_none _ _ (or_left_none _ _ h) rest
    by_head false rest = rest

tried_still : (done : List Attempt) (x : Attempt) (ip : Ip) → same_ip ip x.ip ≡ false → is_tried (done ++ x ∷ []) ip ≡ is_tried done ip
tried_still done x ip apart =
    list_any-append (λ (y : Attempt). same_ip y.ip ip) done (x ∷ []) ∙ drop_none (is_tried done ip) (same_ip x.ip ip) (same_ip-sym x.ip ip ∙ apart)
  where
    drop_none : (a b : Bool) → b ≡ false → (a || (b || false)) ≡ a
    drop_none a true e = cc
    drop_none true false e = refl
    drop_none false false e = refl

untried_still : (done : List Attempt) (x : Attempt) (ips : List Ip) → has_ip x.ip ips ≡ false → filter (is_untried (done ++ x ∷ [])) ips ≡ filter (is_untried done) ips
untried_still done x [] h = refl
untried_still done x (ip ∷ ips) h =
    let head : is_untried (done ++ x ∷ []) ip ≡ is_untried done ip = ap not (tried_still done x ip (or_left_none _ _ h)) in
    let rest : filter (is_untried (done ++ x ∷ [])) ips ≡ filter (is_untried done) ips = untried_still done x ips (or_right_none _ _ h) in
    ap (λ (b : Bool). if b then ip ∷ filter (is_untried (done ++ x ∷ [])) ips else filter (is_untried (done ++ x ∷ [])) ips) head
    ∙ ap (λ (zs : List Ip). if is_untried done ip then ip ∷ zs else zs) rest

stands-next : (race : Race) (done : List Attempt) (x : Attempt) → IsNext race done x → is_in_answer race x.ip ≡ true
stands-next race done x is = by_test (is_in_answer race x.ip) refl
  where
    none_among : is_in_answer race x.ip ≡ false → has_ip x.ip (filter is_usable (addresses_of race.aaaa) ++ filter is_usable (addresses_of race.a)) ≡ false
    none_among e =
        list_any-append (λ (other : Ip). same_ip other x.ip) (filter is_usable (addresses_of race.aaaa)) (filter is_usable (addresses_of race.a))
        ∙ or_none (has_ip x.ip (filter is_usable (addresses_of race.aaaa))) (has_ip x.ip (filter is_usable (addresses_of race.a)))
        (none_of (λ (other : Ip). same_ip other x.ip) is_usable (addresses_of race.aaaa) (or_left_none (has_ip x.ip (addresses_of race.aaaa)) (has_ip x.ip (addresses_of race.a)) e))
        (none_of (λ (other : Ip). same_ip other x.ip) is_usable (addresses_of race.a) (or_right_none (has_ip x.ip (addresses_of race.aaaa)) (has_ip x.ip (addresses_of race.a)) e))

    by_test : (b : Bool) → is_in_answer race x.ip ≡ b → is_in_answer race x.ip ≡ true
    by_test true e = e
    by_test false e =
        let fewer : left_of race (done ++ x ∷ []) < left_of race done = untried_fewer race done x is in
        let same : left_of race (done ++ x ∷ []) ≡ left_of race done = ap length (untried_still done x (filter is_usable (addresses_of race.aaaa) ++ filter is_usable (addresses_of race.a)) (none_among e)) in
        absurd (let no : ⊥ = omega arith in no)

at_index : (xs : List Attempt) (k : ℕ) (x : Attempt) → k < length xs → get_or xs k x ≡ x → slice_get xs k ≡ Some x
at_index [] k x lt e = absurd (let no : ⊥ = omega arith in no)
at_index (y ∷ xs) zero x lt e = ap Some e
at_index (y ∷ xs) (suc k) x lt e = at_index xs k x (omega arith) e

pub stands-made : (race : Race) (xs : List Attempt) → AreNextInTurn race xs → (x : Attempt) → Contains xs x → is_in_answer race x.ip ≡ true
stands-made race xs turn x at = stands-next race _ x (turn at.0 x (at_index xs at.0 x at.1 at.2))
