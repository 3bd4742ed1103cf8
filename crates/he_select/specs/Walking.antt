-- Mirrors the code: the best fitting member so far, which the private loops keep. Laws in proofs/ relate it to
-- `best_by`.
use Rattle.std.specs.Prelude.{Bool, cond, List, [], ◌∷◌, Option, None, Some}

abbrev pub keep_better : {X : Type 0} → (X → X → Bool) → Option X → X → Option X
keep_better better None x = Some x
keep_better better (Some best) x = Some (cond (better x best) x best)

abbrev pub keep_fitting : {X : Type 0} → (X → Bool) → (X → X → Bool) → Option X → X → Option X
keep_fitting fits better best x = cond (fits x) (keep_better better best x) best

abbrev pub walk_fitting : {X : Type 0} → (X → Bool) → (X → X → Bool) → Option X → List X → Option X
walk_fitting fits better best [] = best
walk_fitting fits better best (x ∷ xs) = walk_fitting fits better (keep_fitting fits better best x) xs
