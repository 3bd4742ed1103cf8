-- A list filtered step by step: the next element is kept, or it is not.
use Rattle.std.proofs.Common.{◌≡◌, ℕ, ◌+◌, ◌<◌, ◌++◌, Bool, true, false, cond, List, [], ◌∷◌, length, take, filter, get_or, sym, ◌∙◌, ap}
use Rattle.std.proofs.lemmas.List.{append-nil}
use Rattle.std.proofs.lemmas.List.Elements.{filter_more}

pub kept_next : {X : Type 0} (keep : X → Bool) (xs ys zs : List X) (i : ℕ) (d : X) → i < length xs → keep (get_or xs i d) ≡ true → ys ≡ filter keep (take i xs) → zs ≡ ys ++ get_or xs i d ∷ [] → zs ≡ filter keep (take (i + 1) xs)
kept_next keep xs ys zs i d below kept was grown =
    grown ∙ ap (λ front. front ++ get_or xs i d ∷ []) was
    ∙ sym (filter_more keep xs i d below ∙ ap (λ b. filter keep (take i xs) ++ cond b (get_or xs i d ∷ []) []) kept)

pub left_next : {X : Type 0} (keep : X → Bool) (xs ys : List X) (i : ℕ) (d : X) → i < length xs → keep (get_or xs i d) ≡ false → ys ≡ filter keep (take i xs) → ys ≡ filter keep (take (i + 1) xs)
left_next keep xs ys i d below left was =
    was ∙ sym (filter_more keep xs i d below ∙ ap (λ b. filter keep (take i xs) ++ cond b (get_or xs i d ∷ []) []) left ∙ append-nil (filter keep (take i xs)))
