-- What the texts of a line name, one after the other.
use Rattle.std.proofs.Common.{◌≡◌, ◌+◌, ◌<◌, ◌≤◌, ◌++◌, ◌∙◌, ℕ, List, [], ◌∷◌, ap, get_or, length, map, subst, sym, take}
use Rattle.std.specs.Borrow.{Bor}
use Rattle.std.proofs.lemmas.List.{map-append, take_all, take_more}
use Rattle.he_proxy_request.specs.Proxies.{AreNamed}

more : {X : Type 0} (names : List ℕ → X → Type 0) (texts : List (List ℕ)) (xs : List X) (text : List ℕ) (x : X) → AreNamed names texts xs → names text x → AreNamed names (texts ++ text ∷ []) (xs ++ x ∷ [])
more names [] [] text x are is = (is, tt)
more names [] (y ∷ ys) text x are is = absurd are
more names (t ∷ ts) [] text x are is = absurd are
more names (t ∷ ts) (y ∷ ys) text x are is = (are.0, more names ts ys text x are.1 is)

-- one more text of a line
pub one_named : {X : Type 0} (names : List ℕ → X → Type 0) (texts : List (Bor (List ℕ))) (i : ℕ) (default : Bor (List ℕ)) (xs longer : List X) (bytes : List ℕ) (x : X)
    → i < length texts → AreNamed names (map (λ text. text.now) (take i texts)) xs → bytes ≡ (get_or texts i default).now → names bytes x → longer ≡ xs ++ x ∷ []
    → AreNamed names (map (λ text. text.now) (take (i + 1) texts)) longer
one_named names texts i default xs longer bytes x below are same is pushed =
    let split : map (λ text. text.now) (take (i + 1) texts) ≡ map (λ text. text.now) (take i texts) ++ bytes ∷ [] =
    ap (map (λ (text : Bor (List ℕ)). text.now)) (take_more texts i default below) ∙ map-append (λ (text : Bor (List ℕ)). text.now) (take i texts) (get_or texts i default ∷ [])
    ∙ ap (λ (b : List ℕ). map (λ (text : Bor (List ℕ)). text.now) (take i texts) ++ b ∷ []) (sym same)
    in
    rw (split, pushed) (more names (map (λ text. text.now) (take i texts)) xs bytes x are is)

-- all of them
pub all_named : {X : Type 0} (names : List ℕ → X → Type 0) (texts : List (Bor (List ℕ))) (i : ℕ) (xs : List X) → length texts ≤ i → AreNamed names (map (λ text. text.now) (take i texts)) xs → AreNamed names (map (λ text. text.now) texts) xs
all_named names texts i xs end are =
    subst (λ (list : List (Bor (List ℕ))). AreNamed names (map (λ text. text.now) list) xs) (take_all i texts end) are
