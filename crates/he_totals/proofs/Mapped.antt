-- One item more of a loop that makes a list.
use Rattle.std.proofs.Common.{ℕ, ◌≡◌, ◌+◌, ◌<◌, ◌≤◌, ◌++◌, ◌∙◌, List, [], ◌∷◌, length, drop, get_or, map, ap, sym, append_assoc}
use Rattle.std.proofs.lemmas.List.{append-nil, drop_all, drop_more, map-append}

-- what is made so far, and what the rest makes, is the whole
pub mapped_on : {X Y Z : Type 0} (seen : Y → Z) (f : X → Z) (xs : List X) (i : ℕ) (d : X) (old new : List Y) (y : Y) (whole : List Z) → i < length xs → new ≡ old ++ y ∷ []
    → seen y ≡ f (get_or xs i d) → map seen old ++ map f (drop i xs) ≡ whole → map seen new ++ map f (drop (i + 1) xs) ≡ whole
mapped_on {X} {Y} {Z} seen f xs i d old new y whole lt pushed same is =
    ap (λ (ys : List Y). map seen ys ++ map f (drop (i + 1) xs)) pushed
    ∙ ap (λ (zs : List Z). zs ++ map f (drop (i + 1) xs)) (map-append seen old (y ∷ []))
    ∙ append_assoc (map seen old) (seen y ∷ []) (map f (drop (i + 1) xs))
    ∙ ap (λ (z : Z). map seen old ++ z ∷ map f (drop (i + 1) xs)) same
    ∙ ap (λ (rest : List X). map seen old ++ map f rest) (sym (drop_more xs i d lt)) ∙ is

pub mapped_all : {X Y Z : Type 0} (seen : Y → Z) (f : X → Z) (xs : List X) (i : ℕ) (new : List Y) (whole : List Z) → length xs ≤ i → map seen new ++ map f (drop i xs) ≡ whole → map seen new ≡ whole
mapped_all {X} {Y} {Z} seen f xs i new whole le is = sym (append-nil (map seen new)) ∙ ap (λ (rest : List X). map seen new ++ map f rest) (sym (drop_all i xs le)) ∙ is
