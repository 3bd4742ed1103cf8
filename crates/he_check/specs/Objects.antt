-- The report of an input as a JSON object (RFC 8259), on one line.
use Rattle.std.specs.Prelude.{ℕ, ◌++◌, ◌==◌, Bool, true, false, List, [], codes, decimal, drop, if◌then◌else◌, Option, Some, None}
use Rattle.std.specs.List.{flat_map}
use Rattle.he_print.specs.Escaping.{string_text}
use Rattle.he_check.specs.Sentences.{sentence_of}
use Rattle.he_check.specs.declared.input.Checked.{Checked}
use Rattle.he_check.specs.declared.slips.Slip.{Slip}
use Rattle.he_check.specs.declared.slips.Slip.TheVariants.{NoRace, NoSource, IdleFloor, NoRoute, NoAnswer, LateAnswer, UnusableAnswer, NoSourceOf, LateOutcome, Unanswered}
use Rattle.he_check.specs.declared.slips.Warning.{Warning}

-- the name of a file; null if the input has none
abbrev pub file_text : Option (List ℕ) → List ℕ
file_text None = codes "null"
file_text (Some name) = string_text name

-- the object: the name, and then these members
abbrev pub object_text : Option (List ℕ) → List ℕ → List ℕ
object_text file members = codes "{\"file\":" ++ (file_text file ++ (members ++ codes "}\n"))

-- the entry of a fault or a warning, after a comma: its line, its kind, and its sentence
abbrev pub entry_text : ℕ → List ℕ → List ℕ → List ℕ
entry_text line kind said =
    codes ",{\"line\":" ++ (decimal line ++ (codes ",\"kind\":" ++ (string_text kind
    ++ (codes ",\"text\":" ++ (string_text said ++ codes "}")))))

-- entries as a list; the comma of the first one is left out
abbrev pub list_text : List ℕ → List ℕ
list_text entries = codes "[" ++ (drop 1 entries ++ codes "]")

-- the kind of a slip
abbrev pub slip_word : Slip → List ℕ
slip_word NoRace = codes "no race"
slip_word NoSource = codes "no source"
slip_word IdleFloor = codes "idle floor"
slip_word (NoRoute family) = codes "no route"
slip_word (NoAnswer family) = codes "no answer"
slip_word (LateAnswer family) = codes "late answer"
slip_word (UnusableAnswer family) = codes "unusable answer"
slip_word (NoSourceOf family) = codes "no source of the family"
slip_word (LateOutcome family) = codes "late outcome"
slip_word Unanswered = codes "unanswered address"

abbrev pub warning_entry : Warning → List ℕ
warning_entry warning = entry_text warning.line (slip_word warning.slip) (sentence_of warning.slip)

-- the members of an input without a fault
abbrev pub right_members : Checked → List Warning → List ℕ
right_members checked warnings =
    codes ",\"races\":" ++ (decimal checked.races ++ (codes ",\"lines\":" ++ (decimal checked.lines
    ++ (codes ",\"warnings\":" ++ list_text (flat_map warning_entry warnings)))))

-- the number of faults without an entry; empty if each has one
unfoldable pub more_member : ℕ → List ℕ
more_member n = if n == 0 then [] else codes ",\"more\":" ++ decimal n

-- the member for an input that broke off
abbrev pub end_member : Bool → List ℕ
end_member true = codes ",\"broken\":true"
end_member false = []

-- the members of an input with faults, with these entries
abbrev pub faults_member : List ℕ → ℕ → Bool → List ℕ
faults_member entries more is_broken =
    codes ",\"faults\":" ++ (list_text entries ++ (more_member more ++ end_member is_broken))
