-- One item more of a loop that makes a text.
use Rattle.std.proofs.Common.{ℕ, ◌≡◌, ◌+◌, ◌-◌, ◌<◌, ◌≤◌, ◌++◌, ◌∙◌, List, [], ◌∷◌, length, drop, get_or, map, min, take, ap, refl, subst, sym, append_assoc, arith}
use Rattle.std.specs.Borrow.{Bor}
use Rattle.std.specs.List.{flat_map}
use Rattle.std.proofs.lemmas.List.{append-nil, drop_all, drop_more, length-map}
use Rattle.he_summary.specs.Written.{after_comma, hosts_text, more_text}
use Rattle.he_summary.proofs.Joined.{joined}

-- what is written so far, and what the rest writes, is the whole
pub named_on : {X Y : Type 0} (f : Y → List ℕ) (seen : X → Y) (xs : List X) (i : ℕ) (d : X) (old new whole : List ℕ) → i < length xs → new ≡ old ++ f (seen (get_or xs i d))
    → old ++ flat_map f (map seen (drop i xs)) ≡ whole → new ++ flat_map f (map seen (drop (i + 1) xs)) ≡ whole
named_on {X} f seen xs i d old new whole lt more is =
    ap (λ (t : List ℕ). t ++ flat_map f (map seen (drop (i + 1) xs))) more ∙ append_assoc old (f (seen (get_or xs i d))) (flat_map f (map seen (drop (i + 1) xs)))
    ∙ ap (λ (rest : List X). old ++ flat_map f (map seen rest)) (sym (drop_more xs i d lt)) ∙ is

pub named_all : {X Y : Type 0} (f : Y → List ℕ) (seen : X → Y) (xs : List X) (i : ℕ) (new whole : List ℕ) → length xs ≤ i → new ++ flat_map f (map seen (drop i xs)) ≡ whole → new ≡ whole
named_all {X} f seen xs i new whole le is = sym (append-nil new) ∙ ap (λ (rest : List X). new ++ flat_map f (map seen rest)) (sym (drop_all i xs le)) ∙ is

-- two names after the first, and the number of the others
shown_of : (more : List (Bor (List ℕ))) (m : ℕ) → m ≡ min (length more) 2
    → flat_map after_comma (map (λ (name : Bor (List ℕ)). name.now) (take m more)) ++ more_text (length (drop m more))
    ≡ flat_map after_comma (take 2 (map (λ (name : Bor (List ℕ)). name.now) more)) ++ more_text (length (map (λ (name : Bor (List ℕ)). name.now) more) - 2)
shown_of [] m is =
    let none : 0 ≡ m = omega arith in
    subst (λ n. flat_map after_comma (map (λ (name : Bor (List ℕ)). name.now) (take n [])) ++ more_text (length (drop {A = Bor (List ℕ)} n [])) ≡ []) none refl
shown_of (a ∷ []) m is =
    let one : 1 ≡ m = omega arith in
    subst (λ n. flat_map after_comma (map (λ (name : Bor (List ℕ)). name.now) (take n (a ∷ []))) ++ more_text (length (drop n (a ∷ []))) ≡ flat_map after_comma (a.now ∷ []) ++ []) one refl
shown_of (a ∷ b ∷ rest) m is =
    let two : 2 ≡ m = omega arith in
    let long = length-map rest (λ (name : Bor (List ℕ)). name.now) in
    let left : length rest ≡ length (map (λ (name : Bor (List ℕ)). name.now) (a ∷ b ∷ rest)) - 2 = omega arith in
    subst (λ n. flat_map after_comma (map (λ (name : Bor (List ℕ)). name.now) (take n (a ∷ b ∷ rest))) ++ more_text (length (drop n (a ∷ b ∷ rest))) ≡ flat_map after_comma (a.now ∷ b.now ∷ []) ++ more_text (length (map (λ (name : Bor (List ℕ)). name.now) (a ∷ b ∷ rest)) - 2)) two
    (ap (λ n. flat_map after_comma (a.now ∷ b.now ∷ []) ++ more_text n) left)

-- the hosts of a row, piece by piece
pub hosts_written : (first : Bor (List ℕ)) (more names : List (Bor (List ℕ))) (m : ℕ) (named others : List (Bor (List ℕ))) (text words behind one each all : List ℕ) → names ≡ first ∷ more
    → m ≡ min (length more) 2 → named ≡ take m more → others ≡ drop m more → behind ≡ text ++ words → one ≡ behind ++ first.now → each ≡ one ++ flat_map after_comma (map (λ name. name.now) named)
    → all ≡ each ++ more_text (length others) → all ≡ text ++ (words ++ hosts_text (map (λ name. name.now) names))
hosts_written first more names m named others text words behind one each all is least front back gap begun listed ended =
    let rest : List ℕ = flat_map after_comma (map (λ name. name.now) named) ++ more_text (length others) in
    let behind_one : all ≡ one ++ rest = joined (flat_map after_comma (map (λ name. name.now) named)) (more_text (length others)) one each all listed ended in
    let behind_gap : all ≡ behind ++ (first.now ++ rest) = joined first.now rest behind one all begun behind_one in
    joined words (first.now ++ rest) text behind all gap behind_gap
    ∙ ap (λ (t : List ℕ). text ++ (words ++ (first.now ++ t)))
    ((λ i. flat_map after_comma (map (λ name. name.now) (front i)) ++ more_text (length (back i))) ∙ shown_of more m least)
    ∙ ap (λ (l : List (Bor (List ℕ))). text ++ (words ++ hosts_text (map (λ name. name.now) l))) (sym is)
