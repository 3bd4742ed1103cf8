-- Lines that are added one by one.
use Rattle.std.proofs.Common.{◌≡◌, ℕ, ◌+◌, ◌<◌, List, [], ◌∷◌, ◌++◌, length, map, drop, get_or, refl, sym, ◌∙◌, ap, add-one}
use Rattle.std.proofs.Math.Seq.{drop-cons}
use Rattle.he_record.specs.Said.{Said}
use Rattle.he_recording.specs.Added.{added, with_line}

pub added_append : (before first second : List Said) → added before (first ++ second) ≡ added (added before first) second
added_append before [] second = refl
added_append before (said ∷ first) second = added_append (with_line before said) first second

-- what was added first, and then the rest
pub then_rest : (before new first rest : List Said) → new ≡ added before first → added new rest ≡ added before (first ++ rest)
then_rest before new first rest e =
    ap (λ (t : List Said). added t rest) e ∙ sym (added_append before first rest)

-- one more element of a list
pub one_more : {X : Type 0} (line : X → Said) (xs : List X) (i : ℕ) (d : X) (before told new : List Said) → i < length xs
    → added told (map line (drop i xs)) ≡ added before (map line xs) → new ≡ with_line told (line (get_or xs i d))
    → added new (map line (drop (i + 1) xs)) ≡ added before (map line xs)
one_more line xs i d before told new within so e =
    let step : drop i xs ≡ get_or xs i d ∷ drop (i + 1) xs = rw add-one (drop-cons xs i d within) in
    ap (λ (t : List Said). added t (map line (drop (i + 1) xs))) e
    ∙ ap (λ ys. added told (map line ys)) (sym step)
    ∙ so
