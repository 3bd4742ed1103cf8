-- The text of one race.
use Rattle.std.proofs.Common.{ℕ, ◌≡◌, ◌∙◌, ◌++◌, List, [], ◌∷◌, None, false, ap, inl, inr, refl, subst, sym}
use Rattle.std.proofs.lemmas.List.{append-nil}
use Rattle.he_inputs.specs.Inputs.{HasRaces, IsFaultBehind}
use Rattle.he_inputs.specs.Recorded.{IsRecordedText}
use Rattle.he_timeline.specs.Race.{Race}

-- without a fault nothing follows the races
nothing_left : (races lines : ℕ) (rest : List ℕ) → IsFaultBehind false races lines rest None → rest ≡ []
nothing_left races lines [] is = refl
nothing_left races lines (byte ∷ rest) (inl most) = let is = most.1 in cc
nothing_left races lines (byte ∷ rest) (inr (few, found, wrong, is)) = cc

pub one_recorded : (text : List ℕ) (race : Race) → HasRaces text false (race ∷ []) None → IsRecordedText text race
one_recorded text race has =
    let (first, more, split, is, none) = has.whole in
    let left = nothing_left _ _ has.rest has.fault_is in
    let whole : text ≡ first =
    has.parts ∙ ap (λ (rest : List ℕ). has.before ++ rest) left ∙ append-nil has.before ∙ split ∙ ap (λ (m : List ℕ). first ++ m) none ∙ append-nil first in
    subst (λ (t : List ℕ). IsRecordedText t race) (sym whole) is
