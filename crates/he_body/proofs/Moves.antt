-- What several octets do at once.
use Rattle.std.proofs.Common.{◌≡◌, ℕ, ◌+◌, ◌-◌, ◌<◌, ◌≤◌, false, cond, leb, List, [], ◌∷◌, ◌++◌, length, take, drop, refl, sym, ◌∙◌, ap, arith}
use Rattle.std.proofs.lemmas.Bool.{lt-leb}
use Rattle.std.proofs.lemmas.List.{length-take-le}
use Rattle.std.proofs.Math.Seq.{take-add}
use Rattle.he_body.specs.declared.body.Body.{Body}
use Rattle.he_body.specs.declared.body.Body.TheVariants.{Left, Data, DataEnd, Over}
use Rattle.he_body.specs.Steps.{after, next}

pub after-append : (body : Body) (xs ys : List ℕ) → after body (xs ++ ys) ≡ after (after body xs) ys
after-append body [] ys = refl
after-append body (x ∷ xs) ys = after-append (next body x) xs ys

-- the first of them, and then some of the rest
pub after-more : (body : Body) (done more : ℕ) (xs : List ℕ) → after body (take (done + more) xs) ≡ after (after body (take done xs)) (take more (drop done xs))
after-more body done more xs =
    ap (after body) (take-add done more xs) ∙ after-append body (take done xs) (take more (drop done xs))

left_some : (left : ℕ) (xs : List ℕ) → length xs < left → after (Left left) xs ≡ Left (left - length xs)
left_some left [] below = let e : left ≡ left - 0 = omega arith in ap Left e
left_some left (x ∷ xs) below =
    let more : length xs < left - 1 = omega arith in
    let e : (left - 1) - length xs ≡ left - length (x ∷ xs) = omega arith in
    let not : leb left 1 ≡ false = lt-leb left 1 (omega arith) in
    ap (λ b. after (cond b Over (Left (left - 1))) xs) not ∙ left_some (left - 1) xs more ∙ ap Left e

data_some : (left : ℕ) (xs : List ℕ) → length xs < left → after (Data left) xs ≡ Data (left - length xs)
data_some left [] below = let e : left ≡ left - 0 = omega arith in ap Data e
data_some left (x ∷ xs) below =
    let more : length xs < left - 1 = omega arith in
    let e : (left - 1) - length xs ≡ left - length (x ∷ xs) = omega arith in
    let not : leb left 1 ≡ false = lt-leb left 1 (omega arith) in
    ap (λ b. after (cond b DataEnd (Data (left - 1))) xs) not ∙ data_some (left - 1) xs more ∙ ap Data e

pub left_bulk : (body : Body) (left count : ℕ) (xs : List ℕ) → body ≡ Left left → count < left → count ≤ length xs → Left (left - count) ≡ after body (take count xs)
left_bulk body left count xs is below within =
    let len : length (take count xs) ≡ count = length-take-le count xs within in
    sym (ap (λ b. after b (take count xs)) is ∙ left_some left (take count xs) (omega arith) ∙ ap (λ n. Left (left - n)) len)

pub data_bulk : (body : Body) (left count : ℕ) (xs : List ℕ) → body ≡ Data left → count < left → count ≤ length xs → Data (left - count) ≡ after body (take count xs)
data_bulk body left count xs is below within =
    let len : length (take count xs) ≡ count = length-take-le count xs within in
    sym (ap (λ b. after b (take count xs)) is ∙ data_some left (take count xs) (omega arith) ∙ ap (λ n. Data (left - n)) len)

pub after_next : (start now new : Body) (done more : ℕ) (xs rest : List ℕ) → rest ≡ drop done xs → now ≡ after start (take done xs) → new ≡ after now (take more rest) → new ≡ after start (take (done + more) xs)
after_next start now new done more xs rest is before step =
    step ∙ ap (λ r. after now (take more r)) is ∙ ap (λ b. after b (take more (drop done xs))) before ∙ sym (after-more start done more xs)
