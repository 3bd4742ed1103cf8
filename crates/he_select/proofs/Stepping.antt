-- One step of the loops that make the attributes and the key of each address: what is made, with what is still to be
-- made, stays.
use Rattle.std.proofs.Common.{◌≡◌, ℕ, ◌+◌, ◌<◌, ◌≤◌, All, List, [], ◌∷◌, ◌++◌, length, drop, sym, ◌∙◌, ap, subst, arith, get_or}
use Rattle.std.proofs.Math.Numerals.{add-one}
use Rattle.std.proofs.Math.Seq.{drop-cons}
use Rattle.std.proofs.lemmas.List.{append-nil, append_assoc, drop_all, get_or_default}
use Rattle.std.proofs.lemmas.List.Elements.{AllWithin-more}
use Rattle.std.specs.List.{AllWithin}
use Rattle.he_select.specs.declared.ranking.Key.{Key}
use Rattle.he_select.specs.declared.attributes.DestinationAttributes.{DestinationAttributes}
use Rattle.he_select.specs.DestinationKeys.{key_of, keys_of}

rest : (xs : List DestinationAttributes) (n : ℕ) (x : DestinationAttributes) → n < length xs → drop n xs ≡ get_or xs n x ∷ drop (n + 1) xs
rest xs n x inside = drop-cons xs n x inside ∙ ap (λ (k : ℕ). get_or xs n x ∷ drop k xs) (sym (add-one n))

pub one_more_key : (xs : List DestinationAttributes) (n : ℕ) (x : DestinationAttributes) (made more all : List Key) (key : Key)
    → n < length xs → made ++ keys_of n (drop n xs) ≡ all → more ≡ made ++ key ∷ [] → key ≡ key_of (get_or xs n x) n
    → more ++ keys_of (n + 1) (drop (n + 1) xs) ≡ all
one_more_key xs n x made more all key inside kept is made_of =
    ap (λ l. l ++ keys_of (n + 1) (drop (n + 1) xs)) (is ∙ ap (λ y. made ++ y ∷ []) made_of)
    ∙ append_assoc made (key_of (get_or xs n x) n ∷ []) (keys_of (n + 1) (drop (n + 1) xs))
    ∙ ap (λ l. made ++ keys_of n l) (sym (rest xs n x inside))
    ∙ kept

pub all_keyed : (xs : List DestinationAttributes) (n : ℕ) (made all : List Key) → length xs ≤ n → made ++ keys_of n (drop n xs) ≡ all → made ≡ all
all_keyed xs n made all over kept = sym (ap (λ l. made ++ keys_of n l) (drop_all n xs over) ∙ append-nil made) ∙ kept

pub one_more_within : {X : Type 0} (P : X → Type 0) (xs : List X) (n : ℕ) (x : X) → n < length xs → AllWithin P xs 0 n → P (get_or xs n x) → AllWithin P xs 0 (n + 1)
one_more_within P xs n x inside kept holds = AllWithin-more P xs 0 n kept (λ d. subst P (get_or_default xs n x d inside) holds)

pub all_within : {X : Type 0} (P : X → Type 0) (xs : List X) (n : ℕ) → length xs ≤ n → AllWithin P xs 0 n → All P xs
all_within P xs n over kept k d inside = kept k d (omega arith) (omega arith)
