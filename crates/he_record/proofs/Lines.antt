-- Lines of the program that are found are found in what they say.
use Rattle.std.proofs.Common.{◌≡◌, ℕ, suc, ◌+◌, ◌-◌, Bool, true, false, cond, List, [], ◌∷◌, length, map, Some, refl, sym, ◌∙◌, ap, arith}
use Rattle.std.specs.Prelude.{find, option_map, slice_get}
use Rattle.std.proofs.lemmas.List.{length-map}
use Rattle.he_record.specs.declared.line.RecordLine.{RecordLine}
use Rattle.he_record.specs.Faults.{last_group}
use Rattle.he_record.specs.Left.{said_of}
use Rattle.he_record.specs.Said.{Said, group_said}

pub find-map : (p : Said → Bool) (lines : List RecordLine) → find p (map said_of lines) ≡ option_map said_of (find (λ line. p (said_of line)) lines)
find-map p [] = refl
find-map p (line ∷ lines) = by_test (p (said_of line)) (find-map p lines)
  where
    by_test : (b : Bool) → find p (map said_of lines) ≡ option_map said_of (find (λ line. p (said_of line)) lines)
        → cond b (Some (said_of line)) (find p (map said_of lines)) ≡ option_map said_of (cond b (Some line) (find (λ line. p (said_of line)) lines))
    by_test true h = refl
    by_test false h = h

-- the group of the last line
pub last_is : (group : ℕ) (lines : List RecordLine) (line : RecordLine) → slice_get lines (length lines - 1) ≡ Some line → last_group group (map said_of lines) ≡ group_said (said_of line)
last_is group [] line h = cc
last_is group (first ∷ []) line h = let same : first ≡ line = cc (h) in ap (λ l. group_said (said_of l)) same
last_is group (first ∷ next ∷ lines) line h =
    let place : length (first ∷ next ∷ lines) - 1 ≡ suc (length (next ∷ lines) - 1) = omega arith in
    last_is (group_said (said_of first)) (next ∷ lines) line (sym (ap (slice_get (first ∷ next ∷ lines)) place) ∙ h)

-- the number of the line after them, where they say this
pub line_number : (lines : List RecordLine) (new told : List Said) → map said_of lines ≡ new → new ≡ told → length lines + 1 ≡ length told + 1
line_number lines new told said same =
    let all : length lines ≡ length told = sym (length-map lines said_of) ∙ ap length said ∙ ap length same in
    ap (λ (n : ℕ). n + 1) all
