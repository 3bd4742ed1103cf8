-- The effect of a check on its input and its output.
use Rattle.std.specs.Prelude.{ℕ, ◌≡◌, ◌==◌, ◌⊎◌, Bool, true, false, List, [], ◌∷◌, ◌++◌, if◌then◌else◌, decimal, codes, Option, Result, Ok, Err}
use Rattle.std.specs.List.{flat_map}
use Rattle.he_words.specs.declared.fault.TextFault.{TextFault}
use Rattle.he_check.specs.AllFaults.{AreFaults, AreTold, alone_text, none_text}
use Rattle.he_check.specs.Checked.{IsRight, IsSure, IsWrong}
use Rattle.he_faults.specs.Clauses.{hint_of}
use Rattle.he_check.specs.Objects.{object_text, right_members}
use Rattle.he_check.specs.Sentences.{warning_text}
use Rattle.he_check.specs.Slips.{HasWarnings}
use Rattle.he_inputs.specs.declared.stream_fault.StreamFault.{StreamFault}
use Rattle.he_inputs.specs.declared.stream_fault.StreamFault.TheVariants.{Text, Read, Write, Memory}
use Rattle.he_check.specs.declared.form.Form.{Form}
use Rattle.he_check.specs.declared.form.Form.TheVariants.{Json}
use Rattle.he_check.specs.declared.input.Checked.{Checked}
use Rattle.he_check.specs.declared.slips.Warning.{Warning}

-- a number and its word, singular or plural
abbrev pub counted : ℕ → List ℕ → List ℕ → List ℕ
counted n one many = decimal n ++ (if n == 1 then one else many)

-- N races, M lines
abbrev pub report_text : Checked → List ℕ
report_text checked =
    counted checked.races (codes " race, ") (codes " races, ")
    ++ counted checked.lines (codes " line" ++ 10 ∷ []) (codes " lines" ++ 10 ∷ [])

-- the whole input, or the bytes up to where it broke off, has no fault, and these numbers of races and lines
pub record FindsRight (Given : List ℕ → Bool → Type 0) (checked : Checked) : Type 0 where
  pub input : List ℕ
  pub is_broken : Bool
  pub given : Given input is_broken
  pub right : IsRight input is_broken checked

-- the whole input, or the bytes up to where it broke off, has this first fault
pub record FindsWrong (Given : List ℕ → Bool → Type 0) (fault : StreamFault) : Type 0 where
  pub input : List ℕ
  pub is_broken : Bool
  pub given : Given input is_broken
  pub wrong : IsWrong input is_broken fault

-- exactly these bytes of the input were taken, and whatever follows them, this is the first fault
pub record FindsSure (Taken : List ℕ → Type 0) (fault : TextFault) : Type 0 where
  pub input : List ℕ
  pub taken : Taken input
  pub sure : IsSure input fault

-- `Given`: the bytes of the whole input, and whether it broke off after them; `Taken`: the bytes taken of an input
-- that was not read further; `Whole` and `Part`: the text, all of which was written to the output and flushed, or a
-- first part before an error; `Kept`: nothing was written to the output
abbrev pub Checks : (List ℕ → Bool → Type 0) → (List ℕ → Type 0) → (List ℕ → Type 0) → (List ℕ → Type 0) → Type 0
    → Result (Unit {0}) StreamFault → Type 0
Checks Given Taken Whole Part Kept (Ok done) =
    (checked : Checked) × FindsRight Given checked × Whole (report_text checked)
Checks Given Taken Whole Part Kept (Err (Text fault)) =
    (FindsWrong Given (Text fault) ⊎ FindsSure Taken fault) × Kept
Checks Given Taken Whole Part Kept (Err Read) = FindsWrong Given Read × Kept
Checks Given Taken Whole Part Kept (Err Write) =
    (checked : Checked) × FindsRight Given checked × Part (report_text checked)
Checks Given Taken Whole Part Kept (Err Memory) = Kept

-- the warnings of the whole input, or of the bytes up to where it broke off, are appended to the old text
pub record TellsWarnings (Given : List ℕ → Bool → Type 0) (old new : List ℕ) : Type 0 where
  pub input : List ℕ
  pub is_broken : Bool
  pub given : Given input is_broken
  pub warnings : List Warning
  pub are : HasWarnings input warnings
  pub told : new ≡ old ++ flat_map warning_text warnings

-- exactly these bytes of the input were taken, whether more follow or not; the explanation of its fault ends in the
-- fault's clause
pub record TellsFault (form : Form) (Given : List ℕ → Bool → Type 0) (Taken : List ℕ → Type 0) (fault : TextFault)
    (old new : List ℕ) : Type 0 where
  pub input : List ℕ
  pub taken : Taken input ⊎ ((is_broken : Bool) × Given input is_broken)
  pub said : List ℕ
  pub told : new ≡ old ++ alone_text form fault said (hint_of input fault)

-- the faults of the whole input, or of the bytes up to where it broke off, are appended to the old text
pub record TellsAll (form : Form) (Given : List ℕ → Bool → Type 0) (faults : List TextFault)
    (old new : List ℕ) : Type 0 where
  pub input : List ℕ
  pub is_broken : Bool
  pub given : Given input is_broken
  pub are : AreFaults input is_broken faults
  pub text : List ℕ
  pub said : AreTold form input is_broken faults text
  pub told : new ≡ old ++ text

-- a fault of the text is reported, with all others after it, or alone
abbrev pub TellsText : Bool → Form → (List ℕ → Bool → Type 0) → (List ℕ → Type 0) → TextFault → List ℕ → List ℕ
    → Type 0
TellsText true form Given Taken fault old new =
    (others : List TextFault) × TellsAll form Given (fault ∷ others) old new
TellsText false form Given Taken fault old new = TellsFault form Given Taken fault old new

-- if all faults are asked for, the report is that the input broke off and has none
abbrev pub TellsRead : Bool → Form → (List ℕ → Bool → Type 0) → List ℕ → List ℕ → Type 0
TellsRead true form Given old new = TellsAll form Given [] old new
TellsRead false form Given old new = new ≡ old ++ none_text form

-- an input without a fault: its warnings are reported; any other: its first fault, or all faults
abbrev pub Explains : Bool → Form → (List ℕ → Bool → Type 0) → (List ℕ → Type 0) → List ℕ → List ℕ
    → Result (Unit {0}) StreamFault → Type 0
Explains is_all form Given Taken old new (Ok done) = TellsWarnings Given old new
Explains is_all form Given Taken old new (Err (Text fault)) = TellsText is_all form Given Taken fault old new
Explains is_all form Given Taken old new (Err Read) = TellsRead is_all form Given old new
Explains is_all form Given Taken old new (Err Write) = TellsWarnings Given old new
Explains is_all form Given Taken old new (Err Memory) = new ≡ old

-- the whole input, or the bytes up to where it broke off, has these numbers of races and lines and these warnings
pub record TakesRight (Given : List ℕ → Bool → Type 0) (checked : Checked) (warnings : List Warning) : Type 0 where
  pub input : List ℕ
  pub is_broken : Bool
  pub given : Given input is_broken
  pub right : IsRight input is_broken checked
  pub warned : HasWarnings input warnings

-- the object of an input with this result of its check: the numbers of races and lines and the warnings, or the first
-- fault, or all faults, as in the lines of a check
abbrev pub IsObject : Bool → Option (List ℕ) → (List ℕ → Bool → Type 0) → (List ℕ → Type 0)
    → Result (Unit {0}) StreamFault → List ℕ → Type 0
IsObject is_all file Given Taken (Ok done) text =
    (checked : Checked) × (warnings : List Warning) × TakesRight Given checked warnings
    × (text ≡ object_text file (right_members checked warnings))
IsObject is_all file Given Taken (Err (Text fault)) text =
    (FindsWrong Given (Text fault) ⊎ FindsSure Taken fault)
    × (faults : List ℕ) × TellsText is_all Json Given Taken fault [] faults × (text ≡ object_text file faults)
IsObject is_all file Given Taken (Err Read) text =
    FindsWrong Given Read
    × (faults : List ℕ) × TellsRead is_all Json Given [] faults × (text ≡ object_text file faults)
IsObject is_all file Given Taken (Err Write) text = ⊥
IsObject is_all file Given Taken (Err Memory) text = ⊥

-- the object of an input was written, or a first part of it before an error; or nothing, since an allocation failed
abbrev pub PutsObject : (List ℕ → Type 0) → (List ℕ → Type 0) → Type 0
    → (Result (Unit {0}) StreamFault → List ℕ → Type 0) → Result (Unit {0}) StreamFault → Type 0
PutsObject Whole Part Kept Is (Err Write) =
    (end : Result (Unit {0}) StreamFault) × (text : List ℕ) × Is end text × Part text
PutsObject Whole Part Kept Is (Err Memory) = Kept
PutsObject Whole Part Kept Is end = (text : List ℕ) × Is end text × Whole text
