-- The faults of record lines. A line undergoes the checks in this order. Each is a condition on the line and on the
-- lines before it (these are right, since the first faulty line decides); the second check depends on the parts after
-- the line.
use Rattle.std.specs.Prelude.{ℕ, ◌==◌, List, [], ◌∷◌, Option, Some, None, Result, Ok, Err, nat_lt, count_by}
use Rattle.std.specs.Result.{result_err}
use Rattle.he_words.specs.declared.fault.TextKind.{TextKind}
use Rattle.he_words.specs.declared.fault.TextKind.TheVariants as kinds
use Rattle.he_reading.specs.Faults.{test, first_fault, too_long, unfinished, excess}
use Rattle.he_reading.specs.Parts.{tokens_of}
use Rattle.he_record.specs.declared.words.RecordWord.{RecordWord}
use Rattle.he_record.specs.Forms.{word_of, said_in}
use Rattle.he_record.specs.Said.{Said, LookupSaid, AttemptSaid, UntriedSaid, group_said, looks_up, tells_of}
use Rattle.he_record.specs.Words.{word_group, most_record_lines}

-- the group of the last line; 0 before the first line
abbrev pub last_group : ℕ → List Said → ℕ
last_group group [] = group
last_group group (said ∷ more) = last_group (group_said said) more

-- the number of lines of the group
abbrev pub lines_with : ℕ → List Said → ℕ
lines_with group said = count_by (λ s. group_said s == group) said

-- 3: no word, or one of an earlier group than the line before
abbrev pub out_of_order : List Said → RecordWord → Option TextKind
out_of_order before word = test (nat_lt (word_group word) (last_group 0 before)) kinds.Word

-- 4: a line too many of its group
abbrev pub one_too_many : List Said → RecordWord → Option TextKind
one_too_many before word = excess (most_record_lines word) (lines_with (word_group word) before)

abbrev pub of_word : (RecordWord → Option TextKind) → Result (RecordWord × List (List ℕ)) TextKind → Option TextKind
of_word check (Ok parts) = check parts.0
of_word check (Err kind) = Some kind

-- 6: a second look-up of a family, or a second line about an address
abbrev pub repeated : List Said → Said → Option TextKind
repeated before (LookupSaid family reason) = test (nat_lt 0 (count_by (looks_up family) before)) kinds.Repeated
repeated before (AttemptSaid ip reason) = test (nat_lt 0 (count_by (tells_of ip) before)) kinds.Repeated
repeated before (UntriedSaid ip) = test (nat_lt 0 (count_by (tells_of ip) before)) kinds.Repeated
repeated before said = None

abbrev pub of_said : (Said → Option TextKind) → Result Said TextKind → Option TextKind
of_said check (Ok said) = check said
of_said check (Err kind) = None

-- the checks of a line's contents after lines with these contents. The fifth is that of the line's own form
-- (`Forms`): the number of tokens, then each token from left to right.
unfoldable pub content_fault : List Said → List ℕ → Option TextKind
content_fault before line =
    first_fault (
    of_word (out_of_order before) (word_of (tokens_of line))
    ∷ of_word (one_too_many before) (word_of (tokens_of line))
    ∷ result_err (said_in line)
    ∷ of_said (repeated before) (said_in line)
    ∷ [])

-- the first check that fails on a record line, after lines with these contents, with these parts after it
unfoldable pub line_fault : List Said → List ℕ → List (List ℕ) → Option TextKind
line_fault before line after = first_fault (too_long line ∷ unfinished after ∷ content_fault before line ∷ [])
