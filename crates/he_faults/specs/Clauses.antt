-- The faults that have a clause after their sentence, and the line that it is about.
use Rattle.std.specs.Prelude.{ℕ, ◌≡◌, ◌==◌, ◌||◌, ◌-◌, ◌++◌, Bool, true, false, List, [], codes, if◌then◌else◌, Option, None}
use Rattle.std.specs.List.{filter_map, slice_get}
use Rattle.std.specs.Option.{option_or, unwrap_or}
use Rattle.he_reading.specs.Parts.{lines_of, tokens_of}
use Rattle.he_words.specs.declared.fault.TextFault.{TextFault}
use Rattle.he_words.specs.declared.fault.TextKind.{TextKind}
use Rattle.he_words.specs.declared.fault.TextKind.TheVariants as kinds
use Rattle.he_faults.specs.Meant.{begins, has, input_meant, meant_of}
use Rattle.he_faults.specs.Sentences.{clause_text}
use Rattle.he_faults.specs.declared.meant.Meant.{Meant}

-- the line with this number, counted from 1; empty if there is none
abbrev pub line_at : ℕ → List ℕ → List ℕ
line_at number input = unwrap_or (slice_get (lines_of input) (number - 1)) []

-- the likely meaning of the first word of the line that has one; the host of a record line has none, and so has a line
-- with a NUL byte, which is no text
abbrev pub words_meant : List ℕ → Option Meant
words_meant line = slice_get (filter_map meant_of (tokens_of line)) 0

unfoldable pub line_meant : List ℕ → Option Meant
line_meant line = if begins (codes "record ") line || has 0 line then None else words_meant line

-- a word that is in no text may cause this kind of fault
abbrev pub is_of_words : TextKind → Bool
is_of_words kinds.Header = true
is_of_words kinds.Word = true
is_of_words kinds.Number = true
is_of_words kinds.Address = true
is_of_words kinds.Prefix = true
is_of_words _ = false

-- the likely meaning of a fault: by the first bytes of the input, if it is on the first line; else by the words of
-- its line
abbrev pub hint_of : List ℕ → TextFault → Option Meant
hint_of input fault =
    option_or (if fault.line == 1 then input_meant input else None)
    (if is_of_words fault.kind then line_meant (line_at fault.line input) else None)

-- the likely meaning of a fault on a line of this rest of an input, after `lines` lines
abbrev pub hint_in : ℕ → List ℕ → TextFault → Option Meant
hint_in lines rest fault =
    option_or (if fault.line == 1 then input_meant rest else None)
    (if is_of_words fault.kind then line_meant (line_at (fault.line - lines) rest) else None)

-- the explanation of a fault of this rest of an input ends in that clause
abbrev pub EndsInHint : ℕ → List ℕ → TextFault → List ℕ → Type 0
EndsInHint lines rest fault text = (said : List ℕ) × (text ≡ said ++ clause_text (hint_in lines rest fault))

-- the explanation of the input's fault was appended to the old text, and ends in the fault's clause
abbrev pub EndsInClause : List ℕ → TextFault → List ℕ → List ℕ → Type 0
EndsInClause input fault old new = (said : List ℕ) × (new ≡ old ++ (said ++ clause_text (hint_of input fault)))
