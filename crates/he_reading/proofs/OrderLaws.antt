-- The order of the lines: what is kept of it while they are read is what the lines before give.
use Rattle.std.proofs.Common.{◌≡◌, ℕ, ◌+◌, ◌<◌, ◌≤◌, ◌==◌, ◌&&◌, ◌||◌, Bool, true, false, cond, leb, ltb, List, [], ◌∷◌, ◌++◌, Some, None, Ok, Err, refl, sym, ◌∙◌, ap, subst, inl, inr, ⊎_elim, arith}
use Rattle.std.specs.Prelude.{◌⊎◌}
use Rattle.std.specs.List.{AllByRecursion}
use Rattle.std.proofs.lemmas.Bool.{cases_lt, ltb-false, eqb-true, eqb-false, eq-eqb, ne_eqb}
use Rattle.std.proofs.lemmas.List.Sums.{sum_by-append, sum_by-cons}
use Rattle.he_reading.specs.declared.draft.LastGroup.{LastGroup}
use Rattle.he_words.specs.declared.fault.TextKind.{TextKind}
use Rattle.he_words.specs.declared.fault.TextKind.TheVariants as kinds
use Rattle.he_words.specs.declared.words.Word.{Word}
use Rattle.he_words.specs.declared.words.Word.TheVariants as words
use Rattle.he_reading.specs.Faults.{first_fault, test, group_by, group_on, last_group, lines_with, wrong_word, excess, too_often}
use Rattle.he_reading.specs.Forms.{word_of}
use Rattle.he_reading.specs.Parts.{tokens_of}
use Rattle.he_reading.specs.Reading.{counted, admit}
use Rattle.he_words.specs.Words.{group_of, most_lines}
use Rattle.he_reading.proofs.ToldLaws.{outcome}

-- the groups of which the lines are counted
abbrev pub is_counted : ℕ → Bool
is_counted group = (ltb 1 group && ltb group 7) || (group == 10)

abbrev pub counted_lines : ℕ → List (List ℕ) → ℕ
counted_lines group lines = cond (is_counted group) (lines_with group lines) 0

abbrev pub order_of : List (List ℕ) → LastGroup
order_of before = record { group = last_group 0 before; lines = counted_lines (last_group 0 before) before }

-- no line is of a later group
abbrev pub Under : ℕ → List (List ℕ) → Type 0
Under group lines = AllByRecursion (λ line. group_on line ≤ group) lines

pub last_more : (group : ℕ) (lines : List (List ℕ)) (line : List ℕ) → last_group group (lines ++ line ∷ []) ≡ group_on line
last_more group [] line = refl
last_more group (first ∷ lines) line = last_more (group_on first) lines line

pub under_more : (m n : ℕ) (lines : List (List ℕ)) (line : List ℕ) → Under m lines → m ≤ n → group_on line ≤ n → Under n (lines ++ line ∷ [])
under_more m n [] line under le here = (here, tt)
under_more m n (first ∷ lines) line under le here = (omega (arith, under.0), under_more m n lines line under.1 le here)

pub lines_cons : (group : ℕ) (first : List ℕ) (lines : List (List ℕ)) → lines_with group (first ∷ lines) ≡ cond (group_on first == group) 1 0 + lines_with group lines
lines_cons group first lines = sum_by-cons (λ l. cond (group_on l == group) 1 0) first lines

pub lines_none : (m group : ℕ) (lines : List (List ℕ)) → Under m lines → m < group → lines_with group lines ≡ 0
lines_none m group [] under less = refl
lines_none m group (first ∷ lines) under less =
    let other : (group_on first == group) ≡ false = ne_eqb (group_on first) group (λ e. absurd (omega (arith, under.0, e))) in
    let rest : lines_with group lines ≡ 0 = lines_none m group lines under.1 less in
    lines_cons group first lines ∙ ap (λ b. cond b 1 0 + lines_with group lines) other ∙ omega arith

pub lines_more : (group : ℕ) (lines : List (List ℕ)) (line : List ℕ) → group_on line ≡ group → lines_with group (lines ++ line ∷ []) ≡ lines_with group lines + 1
lines_more group lines line e =
    let here : (group_on line == group) ≡ true = eq-eqb (group_on line) group e in
    sum_by-append (λ l. cond (group_on l == group) 1 0) lines (line ∷ [])
    ∙ ap (λ n. lines_with group lines + n) (lines_cons group line [])
    ∙ ap (λ b. lines_with group lines + (cond b 1 0 + lines_with group [])) here

pub counted_word : (word : Word) → ((most_lines word ≡ None) × (is_counted (group_of word) ≡ false)) ⊎ ((most : ℕ × TextKind) × (most_lines word ≡ Some most) × (is_counted (group_of word) ≡ true))
counted_word words.Set = inl (refl, refl)
counted_word words.Policy = inr (_, refl, refl)
counted_word words.Source = inr (_, refl, refl)
counted_word words.Route = inr (_, refl, refl)
counted_word words.Aaaa = inr (_, refl, refl)
counted_word words.A = inr (_, refl, refl)
counted_word words.Rtt = inl (refl, refl)
counted_word words.Used = inl (refl, refl)
counted_word words.Connect = inl (refl, refl)
counted_word words.Pause = inr (_, refl, refl)
counted_word words.End = inl (refl, refl)

-- the order with a line more
order_more : (before : List (List ℕ)) (line : List ℕ) (group : ℕ) → group_on line ≡ group
    → order_of (before ++ line ∷ []) ≡ record { group = group; lines = cond (is_counted group) (lines_with group before + 1) 0 }
order_more before line group e =
    let last : last_group 0 (before ++ line ∷ []) ≡ group = last_more 0 before line ∙ e in
    let at : ℕ → LastGroup = λ g. record { group = g; lines = counted_lines g (before ++ line ∷ []) } in
    let count : ℕ → LastGroup = λ n. record { group = group; lines = cond (is_counted group) n 0 } in
    ap at last ∙ ap count (lines_more group before line e)

-- how many lines of the word's group there are is known from the last group's
known_lines : (before : List (List ℕ)) (group : ℕ) (same : Bool) → (group == last_group 0 before) ≡ same → is_counted group ≡ true → Under (last_group 0 before) before → ltb group (last_group 0 before) ≡ false
    → cond same (counted_lines (last_group 0 before) before) 0 ≡ lines_with group before
known_lines before group true e counts under later =
    let is : group ≡ last_group 0 before = eqb-true group (last_group 0 before) e in
    let P : ℕ → Type 0 = λ g. counted_lines g before ≡ lines_with group before in
    subst P is (ap (λ b. cond b (lines_with group before) 0) counts)
known_lines before group false e counts under later =
    let other = eqb-false group (last_group 0 before) e in
    let ge = ltb-false group (last_group 0 before) later in
    let less : last_group 0 before < group = ⊎_elim (λ (l : last_group 0 before < group). l) (λ (g : group ≤ last_group 0 before). absurd (other (omega arith))) (cases_lt (last_group 0 before) group) in
    sym (lines_none (last_group 0 before) group before under less)

abbrev placed : ℕ → ℕ → LastGroup
placed group lines = record { group = group; lines = lines }

counted_some : (group : ℕ) (most : ℕ × TextKind) (n : ℕ) (full : Bool) → cond full (Err most.1) (Ok (placed group (n + 1))) ≡ outcome (first_fault (None ∷ test full most.1 ∷ [])) (placed group (n + 1))
counted_some group most n true = refl
counted_some group most n false = refl

admit_later : (word : Word) (tokens : List (List ℕ)) (before : List (List ℕ)) (line : List ℕ) → group_on line ≡ group_of word → Under (last_group 0 before) before → ltb (group_of word) (last_group 0 before) ≡ false
    → counted (group_of word) (most_lines word) (cond (group_of word == last_group 0 before) (counted_lines (last_group 0 before) before) 0)
    ≡ outcome (first_fault (None ∷ too_often before (Ok (word, tokens)) ∷ [])) (order_of (before ++ line ∷ []))
unfolding counted
admit_later word tokens before line e under later = elim (counted_word word) [
  | inl none ↦
      ap (λ m. counted (group_of word) m (cond (group_of word == last_group 0 before) (counted_lines (last_group 0 before) before) 0)) none.0
      ∙ ap Ok (sym (order_more before line (group_of word) e ∙ ap (λ b. none_order b) none.1))
      ∙ ap (λ m. outcome (first_fault (None ∷ excess m (lines_with (group_of word) before) ∷ [])) (order_of (before ++ line ∷ []))) (sym none.0)
  | inr some ↦
      let n : ℕ = lines_with (group_of word) before in
      let lines = known_lines before (group_of word) (group_of word == last_group 0 before) refl some.2 under later in
      ap (λ m. counted (group_of word) m (cond (group_of word == last_group 0 before) (counted_lines (last_group 0 before) before) 0)) some.1
      ∙ ap (λ k. counted (group_of word) (Some some.0) k) lines
      ∙ counted_some (group_of word) some.0 n (leb some.0.0 n)
      ∙ ap (λ o. outcome (first_fault (None ∷ test (leb some.0.0 n) some.0.1 ∷ [])) o) (sym (order_more before line (group_of word) e ∙ ap (λ b. some_order b) some.2))
      ∙ ap (λ m. outcome (first_fault (None ∷ excess m n ∷ [])) (order_of (before ++ line ∷ []))) (sym some.1)
]
  where
    none_order : Bool → LastGroup
    none_order b = record { group = group_of word; lines = cond b (lines_with (group_of word) before + 1) 0 }

    some_order : Bool → LastGroup
    some_order b = record { group = group_of word; lines = cond b (lines_with (group_of word) before + 1) 0 }

by_group : (word : Word) (tokens : List (List ℕ)) (before : List (List ℕ)) (line : List ℕ) (earlier : Bool) → ltb (group_of word) (last_group 0 before) ≡ earlier → group_on line ≡ group_of word → Under (last_group 0 before) before
    → cond earlier (Err kinds.Word) (counted (group_of word) (most_lines word) (cond (group_of word == last_group 0 before) (counted_lines (last_group 0 before) before) 0))
    ≡ outcome (first_fault (test earlier kinds.Word ∷ too_often before (Ok (word, tokens)) ∷ [])) (order_of (before ++ line ∷ []))
by_group word tokens before line true h e under = refl
by_group word tokens before line false h e under = admit_later word tokens before line e under h

-- the group of a line with a word
pub group_is : (line : List ℕ) (word : Word) (tokens : List (List ℕ)) → word_of (tokens_of line) ≡ Ok (word, tokens) → group_on line ≡ group_of word
unfolding group_on
group_is line word tokens h = ap group_by h

pub admit_agrees : (word : Word) (tokens : List (List ℕ)) (before : List (List ℕ)) (line : List ℕ) → word_of (tokens_of line) ≡ Ok (word, tokens) → Under (last_group 0 before) before
    → admit word (order_of before) ≡ outcome (first_fault (wrong_word (last_group 0 before) (Ok (word, tokens)) ∷ too_often before (Ok (word, tokens)) ∷ [])) (order_of (before ++ line ∷ []))
unfolding admit
admit_agrees word tokens before line h under =
    by_group word tokens before line (ltb (group_of word) (last_group 0 before)) refl (group_is line word tokens h) under
