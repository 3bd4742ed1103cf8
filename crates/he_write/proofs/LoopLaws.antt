-- A text to which a loop appends the text of one element after the other.
use Rattle.std.proofs.Common.{◌≡◌, ℕ, ◌+◌, ◌<◌, ◌≤◌, List, [], ◌∷◌, ◌++◌, length, map, take, get_or, sym, ◌∙◌, ap}
use Rattle.std.specs.List.{flat_map}
use Rattle.std.proofs.lemmas.List.Folds.{flat_map-map}
use Rattle.std.proofs.lemmas.List.{take_more, take_all, flat_map_more}
use Rattle.he_write.specs.Writing.{spaced}

-- one element more
pub one_more : {X : Type 0} (f : X → List ℕ) (xs : List X) (i : ℕ) (x : X) (old now new : List ℕ) → i < length xs → x ≡ get_or xs i x
    → now ≡ old ++ flat_map f (take i xs) → new ≡ now ++ f x → new ≡ old ++ flat_map f (take (i + 1) xs)
one_more f xs i x old now new within is before after =
    let more : take (i + 1) xs ≡ take i xs ++ x ∷ [] = take_more xs i x within ∙ ap (λ y. take i xs ++ y ∷ []) (sym is) in
    after ∙ ap (λ text. text ++ f x) before ∙ flat_map_more f old (take i xs) x ∙ ap (λ ys. old ++ flat_map f ys) (sym more)

-- the same of an element that is read by its place
pub one_more_at : {X : Type 0} (f : X → List ℕ) (xs : List X) (i : ℕ) (d : X) (old now new : List ℕ) → i < length xs
    → now ≡ old ++ flat_map f (take i xs) → new ≡ now ++ f (get_or xs i d) → new ≡ old ++ flat_map f (take (i + 1) xs)
one_more_at f xs i d old now new within before after =
    after ∙ ap (λ text. text ++ f (get_or xs i d)) before ∙ flat_map_more f old (take i xs) (get_or xs i d)
    ∙ ap (λ ys. old ++ flat_map f ys) (sym (take_more xs i d within))

-- all elements
pub all_done : {X : Type 0} (f : X → List ℕ) (xs : List X) (i : ℕ) (old new : List ℕ) → length xs ≤ i → new ≡ old ++ flat_map f (take i xs) → new ≡ old ++ flat_map f xs
all_done f xs i old new past done = done ∙ ap (λ ys. old ++ flat_map f ys) (take_all i xs past)

-- the same of elements that are written each behind a space
spaced_map : {X : Type 0} (h : X → List ℕ) (xs : List X) → spaced (map h xs) ≡ flat_map (λ x. 32 ∷ h x) xs
spaced_map h xs = flat_map-map (λ text. 32 ∷ text) h xs

pub one_more_spaced : {X : Type 0} (h : X → List ℕ) (xs : List X) (i : ℕ) (d : X) (old now new : List ℕ) → i < length xs
    → now ≡ old ++ spaced (map h (take i xs)) → new ≡ now ++ 32 ∷ h (get_or xs i d) → new ≡ old ++ spaced (map h (take (i + 1) xs))
one_more_spaced h xs i d old now new within before after =
    one_more_at (λ x. 32 ∷ h x) xs i d old now new within (before ∙ ap (λ text. old ++ text) (spaced_map h (take i xs))) after
    ∙ ap (λ text. old ++ text) (sym (spaced_map h (take (i + 1) xs)))

pub all_spaced : {X : Type 0} (h : X → List ℕ) (xs : List X) (i : ℕ) (old new : List ℕ) → length xs ≤ i
    → new ≡ old ++ spaced (map h (take i xs)) → new ≡ old ++ spaced (map h xs)
all_spaced h xs i old new past done = done ∙ ap (λ ys. old ++ spaced (map h ys)) (take_all i xs past)
