-- An attempt's address is the first untried one of the interlaced list.
use Rattle.std.proofs.Common.{◌≡◌, ℕ, zero, suc, ◌+◌, ◌≤◌, ◌&&◌, Bool, true, false, not, cond, if◌then◌else◌, List, [], ◌∷◌, find, take, refl, sym, ◌∙◌, ap, subst, arith}
use Rattle.std.specs.Prelude.{Some, slice_get}
use Rattle.std.specs.List.{count_by, list_all}
use Rattle.he_addr.specs.declared.ip.Ip.{Ip}
use Rattle.he_addr.specs.Ip.{same_ip}
use Rattle.he_select.proofs.Equality.{ip_from, ip_self}
use Rattle.he_plan.specs.declared.attempts.Attempt.{Attempt}
use Rattle.he_plan.proofs.Distinct.{count-cons, count_at}
use Rattle.he_plan.specs.Attempts.{is_tried, is_untried, order_at}
use Rattle.he_timeline.proofs.Bools.{clash}
use Rattle.he_course.specs.Laws.{IsFirstUntried, PlacesStand}
use Rattle.he_course.specs.Listing.{place_in}
use Rattle.he_course.proofs.LaterLaws.{found_passes}

plus_one : (n : ℕ) → n + 1 ≡ suc n
plus_one n = omega arith

tried_if : (b : Bool) → not b ≡ false → b ≡ true
tried_if true e = refl
tried_if false e = sym e

-- the address and those before it, in a list whose first address is not it
after : (done : List Attempt) (first : Ip) (more : List Ip) (ip : Ip) → is_untried done first ≡ false → IsFirstUntried done more (place_in ip more) ip
    → IsFirstUntried done (first ∷ more) (place_in ip more + 1) ip
after done first more ip was rest =
    subst (λ n. IsFirstUntried done (first ∷ more) n ip) (sym (plus_one (place_in ip more)))
    (rest.0, ap (λ b. b && list_all (is_tried done) (take (place_in ip more) more)) (tried_if (is_tried done first) was) ∙ rest.1)

pub first_untried : (done : List Attempt) (list : List Ip) (ip : Ip) → find (is_untried done) list ≡ Some ip → IsFirstUntried done list (place_in ip list) ip
first_untried done [] ip h = cc
first_untried done (first ∷ more) ip h =
    at_head (is_untried done first) (same_ip first ip) refl refl h (found_passes (is_untried done) (first ∷ more) ip h) (first_untried done more ip)
  where
    at_head : (b same : Bool) → is_untried done first ≡ b → same_ip first ip ≡ same → cond b (Some first) (find (is_untried done) more) ≡ Some ip
        → is_untried done ip ≡ true → (find (is_untried done) more ≡ Some ip → IsFirstUntried done more (place_in ip more) ip)
        → IsFirstUntried done (first ∷ more) (if same then 0 else place_in ip more + 1) ip
    at_head true true e is h it rest = (h, refl)
    at_head true false e is h it rest =
        let same : first ≡ ip = cc in
        absurd (clash (same_ip first ip) (ap (λ x. same_ip x ip) same ∙ ip_self ip) is)
    at_head false true e is h it rest = absurd (clash (is_untried done ip) it (ap (is_untried done) (sym (ip_from first ip is)) ∙ e))
    at_head false false e is h it rest = after done first more ip e (rest h)

-- an address that stands in a list is counted in it
counted_at : (list : List Ip) (n : ℕ) (ip : Ip) → slice_get list n ≡ Some ip → 1 ≤ count_by (same_ip ip) list
counted_at [] n ip at = cc
counted_at (first ∷ more) zero ip at =
    let same : first ≡ ip = cc in
    let is : same_ip ip first ≡ true = ap (same_ip ip) same ∙ ip_self ip in
    omega (arith, count_at (same_ip ip) first more true is)
counted_at (first ∷ more) (suc n) ip at = omega (arith, counted_at more n ip at, count-cons (same_ip ip) first more)

-- where it stands once at most, its place is where it stands
pub stands_at : (list : List Ip) (n : ℕ) (ip : Ip) → slice_get list n ≡ Some ip → count_by (same_ip ip) list ≤ 1 → place_in ip list ≡ n
stands_at [] n ip at once = cc
stands_at (first ∷ more) zero ip at once =
    let same : first ≡ ip = cc in
    ap (λ (b : Bool). if b then 0 else place_in ip more + 1) (ap (λ x. same_ip x ip) same ∙ ip_self ip)
stands_at (first ∷ more) (suc n) ip at once = by_head (same_ip first ip) refl (stands_at more n ip at)
  where
    by_head : (b : Bool) → same_ip first ip ≡ b → (count_by (same_ip ip) more ≤ 1 → place_in ip more ≡ n) → (if b then 0 else place_in ip more + 1) ≡ suc n
    by_head true e rest =
        let is : same_ip ip first ≡ true = ap (same_ip ip) (ip_from first ip e) ∙ ip_self ip in
        absurd (omega (arith, once, count_at (same_ip ip) first more true is, counted_at more n ip at))
    by_head false e rest =
        let few : count_by (same_ip ip) more ≤ 1 = omega (arith, once, count-cons (same_ip ip) first more) in
        let place : place_in ip more ≡ n = rest few in
        omega (arith, place)

pub places_stand : PlacesStand
places_stand race done next is = first_untried done (order_at race next.tick) next.ip is.ip
