-- The checks of a line after the first one, from the fourth on.
use Rattle.std.proofs.Common.{◌≡◌, ℕ, Bool, true, false, ltb, List, [], ◌∷◌, Option, Some, None, Result, Ok, Err, refl, sym, ◌∙◌, ap}
use Rattle.he_reading.specs.declared.draft.LastGroup.{LastGroup}
use Rattle.std.specs.Result.{result_err}
use Rattle.he_words.specs.declared.fault.TextKind.{TextKind}
use Rattle.he_words.specs.declared.fault.TextKind.TheVariants as kinds
use Rattle.he_words.specs.declared.words.Version.{Version}
use Rattle.he_words.specs.declared.words.Word.{Word}
use Rattle.he_reading.specs.Faults.{first_fault, test, last_group, known_to, said_before, too_long, unfinished, wrong_word, too_often, wrong_bounds, repeated, wrong_group, of_said, line_fault}
use Rattle.he_reading.specs.Forms.{◌>>=◌, version_word, said_by}
use Rattle.he_reading.specs.Parts.{tokens_of}
use Rattle.he_reading.specs.Said.{Said}
use Rattle.he_words.specs.Words.{group_of}
use Rattle.he_reading.proofs.ToldLaws.{outcome}

-- checks 4 to 10
abbrev pub later_checks : Option TextKind → Option TextKind → Result Said TextKind → (Said → Option TextKind) → (Said → Option TextKind) → (Said → Option TextKind) → Option TextKind
later_checks word often said bounds again table = first_fault (word ∷ often ∷ result_err said ∷ of_said bounds said ∷ of_said again said ∷ of_said table said ∷ [])

-- an order and what is told, taken one after the other, fail as the checks do
pub taken_in_order : {S T : Type 0} (word often : Option TextKind) (said : Result Said TextKind) (bounds again table : Said → Option TextKind) (so_far : LastGroup) (admitted : Result LastGroup TextKind) (told : Result S TextKind) (after : Said → S) (final : S) (give : LastGroup → S → T)
    → admitted ≡ outcome (first_fault (word ∷ often ∷ [])) so_far
    → (word ≡ None → often ≡ None → told ≡ (said >>= λ s. outcome (first_fault (bounds s ∷ again s ∷ table s ∷ [])) (after s)))
    → ((s : Said) → said ≡ Ok s → after s ≡ final)
    → (admitted >>= λ next. told >>= λ t. Ok (give next t)) ≡ outcome (later_checks word often said bounds again table) (give so_far final)
taken_in_order (Some kind) often said bounds again table so_far admitted told after final give ha ht hf = ap (λ a. a >>= λ next. told >>= λ t. Ok (give next t)) ha
taken_in_order None (Some kind) said bounds again table so_far admitted told after final give ha ht hf = ap (λ a. a >>= λ next. told >>= λ t. Ok (give next t)) ha
taken_in_order None None (Err kind) bounds again table so_far admitted told after final give ha ht hf =
    ap (λ a. a >>= λ next. told >>= λ t. Ok (give next t)) ha ∙ ap (λ r. r >>= λ t. Ok (give so_far t)) (ht refl refl)
taken_in_order None None (Ok s) bounds again table so_far admitted told after final give ha ht hf =
    ap (λ a. a >>= λ next. told >>= λ t. Ok (give next t)) ha ∙ ap (λ r. r >>= λ t. Ok (give so_far t)) (ht refl refl)
    ∙ by_fault (first_fault (bounds s ∷ again s ∷ table s ∷ [])) (after s) final give so_far (hf s refl)
  where
    by_fault : {S T : Type 0} (fault : Option TextKind) (here final : S) (give : LastGroup → S → T) (so_far : LastGroup) → here ≡ final
        → (outcome fault here >>= λ t. Ok (give so_far t)) ≡ outcome fault (give so_far final)
    by_fault (Some kind) here final give so_far same = refl
    by_fault None here final give so_far same = ap (λ t. Ok (give so_far t)) same

abbrev pub line_checks : List (List ℕ) → List ℕ → List (List ℕ) → Result (Word × List (List ℕ)) TextKind → Option TextKind
line_checks before line after word =
    later_checks (wrong_word (last_group 0 before) word) (too_often before word)
    (word >>= λ parts. said_by (known_to (said_before before)) parts.0 parts.1)
    (wrong_bounds (said_before before)) (repeated (said_before before)) (wrong_group (said_before before) after)

first_again : (long fin word often form bounds again table : Option TextKind)
    → first_fault (long ∷ fin ∷ word ∷ often ∷ form ∷ bounds ∷ again ∷ table ∷ []) ≡ first_fault (long ∷ fin ∷ first_fault (word ∷ often ∷ form ∷ bounds ∷ again ∷ table ∷ []) ∷ [])
first_again (Some k) fin word often form bounds again table = refl
first_again None (Some k) word often form bounds again table = refl
first_again None None (Some k) often form bounds again table = refl
first_again None None None (Some k) form bounds again table = refl
first_again None None None None (Some k) bounds again table = refl
first_again None None None None None (Some k) again table = refl
first_again None None None None None None (Some k) table = refl
first_again None None None None None None None (Some k) = refl
first_again None None None None None None None None = refl

-- the checks of a line whose word is known
pub line_fault_is : (v : Version) → (before : List (List ℕ)) (line : List ℕ) (after : List (List ℕ)) (word : Result (Word × List (List ℕ)) TextKind) → version_word v (tokens_of line) ≡ word
    → line_fault v before line after ≡ first_fault (too_long line ∷ unfinished after ∷ line_checks before line after word ∷ [])
unfolding line_fault
line_fault_is v before line after word is =
    let at : Result (Word × List (List ℕ)) TextKind → Option TextKind = λ w. first_fault (too_long line ∷ unfinished after ∷ wrong_word (last_group 0 before) w ∷ too_often before w
    ∷ result_err (w >>= λ parts. said_by (known_to (said_before before)) parts.0 parts.1)
    ∷ of_said (wrong_bounds (said_before before)) (w >>= λ parts. said_by (known_to (said_before before)) parts.0 parts.1)
    ∷ of_said (repeated (said_before before)) (w >>= λ parts. said_by (known_to (said_before before)) parts.0 parts.1)
    ∷ of_said (wrong_group (said_before before) after) (w >>= λ parts. said_by (known_to (said_before before)) parts.0 parts.1) ∷ []) in
    let bound : Result Said TextKind = word >>= λ parts. said_by (known_to (said_before before)) parts.0 parts.1 in
    ap at is ∙ first_again (too_long line) (unfinished after) (wrong_word (last_group 0 before) word) (too_often before word) (result_err bound) (of_said (wrong_bounds (said_before before)) bound) (of_said (repeated (said_before before)) bound) (of_said (wrong_group (said_before before) after) bound)

is_fault : Some kinds.Word ≡ None → ⊥
is_fault e = cc

-- the word is in order where the checks pass
pub in_order : (before : List (List ℕ)) (line : List ℕ) (after : List (List ℕ)) (word : Word) (tokens : List (List ℕ)) → line_checks before line after (Ok (word, tokens)) ≡ None → ltb (group_of word) (last_group 0 before) ≡ false
in_order before line after word tokens h = by_test (ltb (group_of word) (last_group 0 before)) refl
  where
    by_test : (b : Bool) → ltb (group_of word) (last_group 0 before) ≡ b → b ≡ false
    by_test false e = refl
    by_test true e = absurd (is_fault (ap (λ t. later_checks (test t kinds.Word) (too_often before (Ok (word, tokens))) (said_by (known_to (said_before before)) word tokens) (wrong_bounds (said_before before)) (repeated (said_before before)) (wrong_group (said_before before) after)) (sym e) ∙ h))

pub checks_said : (word often : Option TextKind) (said : Result Said TextKind) (bounds again table : Said → Option TextKind) → later_checks word often said bounds again table ≡ None → (s : Said) × (said ≡ Ok s)
checks_said (Some kind) often said bounds again table h = cc
checks_said None (Some kind) said bounds again table h = cc
checks_said None None (Err kind) bounds again table h = cc
checks_said None None (Ok s) bounds again table h = (s, refl)

-- what the checks tell, where none fails
pub record ArePassed (often : Option TextKind) (said : Result Said TextKind) (again table : Said → Option TextKind) : Type 0 where
  pub s : Said
  pub said_is : said ≡ Ok s
  pub often_is : often ≡ None
  pub again_is : again s ≡ None
  pub table_is : table s ≡ None

pub checks_passed : (word often : Option TextKind) (said : Result Said TextKind) (bounds again table : Said → Option TextKind) → later_checks word often said bounds again table ≡ None → ArePassed often said again table
checks_passed (Some kind) often said bounds again table h = cc
checks_passed None (Some kind) said bounds again table h = cc
checks_passed None None (Err kind) bounds again table h = cc
checks_passed None None (Ok s) bounds again table h =
    let two = last_two (bounds s) (again s) (table s) h in
    record { s = s; said_is = refl; often_is = refl; again_is = two.0; table_is = two.1 }
  where
    last_two : (b a t : Option TextKind) → first_fault (b ∷ a ∷ t ∷ []) ≡ None → (a ≡ None) × (t ≡ None)
    last_two (Some kind) a t e = cc
    last_two None (Some kind) t e = cc
    last_two None None (Some kind) e = cc
    last_two None None None e = (refl, refl)
