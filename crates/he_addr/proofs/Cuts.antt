-- A text cut at its first mark.
use Rattle.std.proofs.Common.{◌≡◌, ℕ, ◌+◌, ◌<◌, Bool, true, false, cond, ltb, eqb, not, List, ◌∷◌, ◌++◌, Some, None, length, get_or, take, drop, refl, sym, ◌∙◌, ap, subst, arith}
use Rattle.std.specs.List.{position_or_len, before_first, after_first}
use Rattle.std.specs.Option.{option_map}
use Rattle.std.proofs.lemmas.Bool.{lt-ltb, ltb-true, eq-eqb, eqb-true, cond-true, not-false}
use Rattle.std.proofs.lemmas.List.{take_at, drop_at, length-take, get_or-take, drop-drop, get_or_at, get_or_append_left, length-append}
use Rattle.std.proofs.lemmas.List.Elements.{All-from_recursion, recursion_from_All}
use Rattle.std.proofs.lemmas.List.Sums.{position_or_len_is, split_at_first, prefix_len_stops, fails_before_first}
use Rattle.he_addr.specs.Reading.{cut_in}
use Rattle.he_addr.specs.Text.{Lacks}

pub position_joined : (mark : ℕ) (front rest : List ℕ) → Lacks mark front → position_or_len (λ b. eqb b mark) (front ++ mark ∷ rest) ≡ length front
position_joined mark front rest lacks =
    position_or_len_is (λ b. eqb b mark) (front ++ mark ∷ rest) (length front) 0
    (omega (arith, length-append front (mark ∷ rest)))
    (λ k below. ap (λ b. eqb b mark) (get_or_append_left front (mark ∷ rest) 0 k below) ∙ All-from_recursion (λ b. eqb b mark ≡ false) front lacks k 0 below)
    (λ _. eq-eqb _ mark (get_or_at front mark rest 0 (length front) refl))

pub cut_joined : (mark : ℕ) (front rest : List ℕ) → Lacks mark front → cut_in mark (front ++ mark ∷ rest) ≡ Some (front, rest)
unfolding cut_in
cut_joined mark front rest lacks =
    let text : List ℕ = front ++ mark ∷ rest in
    let at = position_joined mark front rest lacks in
    let inside : length front < length text = omega (arith, length-append front (mark ∷ rest)) in
    let behind : drop (length front + 1) text ≡ rest = sym (drop-drop 1 (length front) text) ∙ ap (drop 1) (drop_at front (mark ∷ rest) (length front) refl) in
    ap (λ n. option_map (λ at. (take at text, drop (at + 1) text)) (cond (ltb n (length text)) (Some n) None)) at
    ∙ ap (option_map (λ at. (take at text, drop (at + 1) text))) (cond-true (ltb (length front) (length text)) (Some (length front)) None (lt-ltb _ _ inside))
    ∙ ap (λ a. Some (a, drop (length front + 1) text)) (take_at front (mark ∷ rest) (length front) refl)
    ∙ ap (λ b. Some (front, b)) behind

-- what a cut gives
pub record IsCut (mark : ℕ) (text front rest : List ℕ) : Type 0 where
  pub joined : text ≡ front ++ mark ∷ rest
  pub lacks : Lacks mark front

position_found : (mark : ℕ) (text : List ℕ) → position_or_len (λ b. eqb b mark) text < length text → IsCut mark text (before_first (λ b. eqb b mark) text) (after_first (λ b. eqb b mark) text)
position_found mark text inside =
    let p : ℕ → Bool = λ b. eqb b mark in
    let at = position_or_len p text in
    let is_mark : get_or text at 0 ≡ mark = eqb-true _ mark (not-false _ (prefix_len_stops (λ x. not (p x)) text 0 inside)) in
    record {
      joined = split_at_first p text 0 inside ∙ ap (λ m. before_first p text ++ m ∷ after_first p text) is_mark;
      lacks = recursion_from_All (λ b. eqb b mark ≡ false) (before_first p text) (λ k d below.
          let front : k < at = omega (arith, length-take at text) in
          ap (λ b. eqb b mark) (get_or-take at text k d front) ∙ fails_before_first p text k d front);
    }

mapped_some : {A B : Type 0} (f : A → B) (b : Bool) (x : A) (y : B) → option_map f (cond b (Some x) None) ≡ Some y → (b ≡ true) × (f x ≡ y)
mapped_some f true x y h = (refl, cc)
mapped_some f false x y h = cc

pub cut_some : (mark : ℕ) (text : List ℕ) (c : List ℕ × List ℕ) → cut_in mark text ≡ Some c → IsCut mark text c.0 c.1
unfolding cut_in
cut_some mark text c h =
    let at : ℕ = position_or_len (λ b. eqb b mark) text in
    let found = mapped_some (λ at. (take at text, drop (at + 1) text)) (ltb at (length text)) at c h in
    let P : List ℕ × List ℕ → Type 0 = λ c. IsCut mark text c.0 c.1 in
    subst P found.1 (position_found mark text (ltb-true at (length text) found.0))
