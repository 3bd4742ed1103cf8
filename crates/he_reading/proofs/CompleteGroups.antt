-- The groups of the lines of a race: in order, and counted.
use Rattle.std.proofs.Common.{◌≡◌, ℕ, ◌+◌, ◌≤◌, ◌==◌, Bool, true, false, cond, leb, eqb, List, [], ◌∷◌, ◌++◌, length, Option, Some, None, is_some, refl, sym, ◌∙◌, ap, subst, arith}
use Rattle.std.specs.List.{AllZip, filter_map, cons_option}
use Rattle.std.proofs.lemmas.Bool.{leb-true, le-leb, and_parts, and_from, eqb-true}
use Rattle.std.proofs.lemmas.List.Sums.{sum_by-cons}
use Rattle.he_reading.specs.Faults.{group_by, group_on, last_group, lines_with}
use Rattle.he_reading.specs.Said.{Said}
use Rattle.he_reading.specs.Text.{group_said, are_in_order}
use Rattle.he_reading.proofs.CompleteForms.{IsLine, word_group}

pub line_group : (line : List ℕ) (s : Said) → IsLine line s → group_on line ≡ group_said s
unfolding group_on
line_group line s is = ap group_by is.word ∙ word_group s

-- the group of the last thing said
abbrev pub group_last : ℕ → List Said → ℕ
group_last group [] = group
group_last group (s ∷ said) = group_last (group_said s) said

pub last_is : (group : ℕ) (lines : List (List ℕ)) (said : List Said) → AllZip IsLine lines said → last_group group lines ≡ group_last group said
last_is group [] [] all = refl
last_is group [] (s ∷ said) all = absurd all
last_is group (line ∷ lines) [] all = absurd all
last_is group (line ∷ lines) (s ∷ said) all = last_is (group_on line) lines said all.1 ∙ ap (λ g. group_last g said) (line_group line s all.0)

pub order_split : (group : ℕ) (told later : List Said) (s : Said) → are_in_order group (told ++ s ∷ later) ≡ true → (group_last group told ≤ group_said s) × (are_in_order (group_said s) later ≡ true)
order_split group [] later s h =
    let parts = and_parts (leb group (group_said s)) (are_in_order (group_said s) later) h in
    (leb-true group (group_said s) parts.0, parts.1)
order_split group (t ∷ told) later s h =
    let parts = and_parts (leb group (group_said t)) (are_in_order (group_said t) (told ++ s ∷ later)) h in
    order_split (group_said t) told later s parts.1

pub order_below : (low high : ℕ) (said : List Said) → low ≤ high → are_in_order high said ≡ true → are_in_order low said ≡ true
order_below low high [] le h = refl
order_below low high (s ∷ said) le h =
    let parts = and_parts (leb high (group_said s)) (are_in_order (group_said s) said) h in
    let above : high ≤ group_said s = leb-true high (group_said s) parts.0 in
    and_from (leb low (group_said s)) (are_in_order (group_said s) said) (le-leb low (group_said s) (omega arith)) parts.1

-- what is not said from a group on isn't said later
pub none_later : {Y : Type 0} (h : Said → Option Y) (group : ℕ) → ((t : Said) → group ≤ group_said t → h t ≡ None) → (later : List Said) → are_in_order group later ≡ true → filter_map h later ≡ []
none_later h group nothing [] order = refl
none_later h group nothing (t ∷ later) order =
    let parts = and_parts (leb group (group_said t)) (are_in_order (group_said t) later) order in
    let above : group ≤ group_said t = leb-true group (group_said t) parts.0 in
    ap (λ o. cons_option o (filter_map h later)) (nothing t above)
    ∙ none_later h group nothing later (order_below group (group_said t) later above parts.1)

-- there are no more lines of a group than things said by them
pub few_lines : {Y : Type 0} (h : Said → Option Y) (group : ℕ) → ((s : Said) → group_said s ≡ group → is_some (h s) ≡ true) → (lines : List (List ℕ)) (said : List Said) → AllZip IsLine lines said → lines_with group lines ≤ length (filter_map h said)
few_lines h group gives [] [] all = omega arith
few_lines h group gives [] (s ∷ said) all = absurd all
few_lines h group gives (line ∷ lines) [] all = absurd all
few_lines {Y = Y} h group gives (line ∷ lines) (s ∷ said) all =
    let P : ℕ → Type 0 = λ n. n ≤ length (cons_option (h s) (filter_map h said)) in
    subst P (sym (sum_by-cons (λ l. cond (group_on l == group) 1 0) line lines))
    (by_case (eqb (group_on line) group) refl (h s) refl (few_lines h group gives lines said all.1))
  where
    not_none : (o : Option Y) → h s ≡ o → is_some o ≡ false → is_some (h s) ≡ true → ⊥
    not_none o e none some = let wrong : false ≡ true = sym none ∙ ap is_some (sym e) ∙ some in cc

    by_case : (b : Bool) → eqb (group_on line) group ≡ b → (o : Option Y) → h s ≡ o → lines_with group lines ≤ length (filter_map h said)
        → cond b 1 0 + lines_with group lines ≤ length (cons_option o (filter_map h said))
    by_case true e None g rest = absurd (not_none None g refl (gives s (sym (line_group line s all.0) ∙ eqb-true (group_on line) group e)))
    by_case true e (Some y) g rest = omega (arith, rest)
    by_case false e None g rest = omega (arith, rest)
    by_case false e (Some y) g rest = omega (arith, rest)
