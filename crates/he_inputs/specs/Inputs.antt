-- The races of an input, and its fault after them.
use Rattle.std.specs.Prelude.{ℕ, ◌≡◌, ◌≢◌, ◌≤◌, ◌+◌, ◌==◌, ◌++◌, ⊤, Bool, true, false, List, [], ◌∷◌, length, count_by, ◌⊎◌, Option, Some, None, Result, Ok, Err}
use Rattle.he_timeline.specs.Race.{Race}
use Rattle.he_words.specs.declared.fault.TextFault.{TextFault}
use Rattle.he_words.specs.declared.fault.TextKind.{TextKind}
use Rattle.he_words.specs.declared.fault.TextKind.TheVariants as kinds
use Rattle.he_inputs.specs.declared.input_fault.InputFault.{InputFault}
use Rattle.he_inputs.specs.declared.input_fault.InputFault.TheVariants.{Text, Read}
use Rattle.he_inputs.specs.declared.inputs.NotOneRace.{NotOneRace}
use Rattle.he_inputs.specs.declared.inputs.NotOneRace.TheVariants as faults
use Rattle.he_words.specs.Ranges.{line_end, most_races}
use Rattle.he_inputs.specs.Recorded.{IsRecordedText, recorded_fault}

-- the text consists of a text of each race, in this order
abbrev pub AreTexts : (List ℕ → Race → Type 0) → List Race → List ℕ → Type 0
AreTexts IsText [] text = text ≡ []
AreTexts IsText (race ∷ races) text =
    (first : List ℕ) × (more : List ℕ) × (text ≡ first ++ more) × IsText first race × AreTexts IsText races more

-- a timeline text of each of the races, with its record lines
abbrev pub AreRaceTexts : List Race → List ℕ → Type 0
AreRaceTexts races text = AreTexts IsRecordedText races text

-- the number of lines that end in the text
abbrev pub line_count : List ℕ → ℕ
line_count text = count_by (λ byte. byte == line_end) text

-- the fault of an input that ends after whole races: `Read` if it broke off there, else none
abbrev pub fault_at_end : Bool → Option InputFault
fault_at_end true = Some Read
fault_at_end false = None

-- a fault of the text after `lines` lines; if the input broke off, a text that ends inside a race is a read error
abbrev pub fault_behind : Bool → ℕ → ℕ × TextKind → InputFault
fault_behind true lines (line, kinds.Unfinished) = Read
fault_behind is_broken lines (line, kind) = Text (record { line = lines + line; kind = kind })

-- the fault of `rest`, after `races` races and `lines` lines: nothing may follow the last race that an input may
-- have; after fewer races, `rest` does not begin with a race
abbrev pub IsFaultBehind : Bool → ℕ → ℕ → List ℕ → Option InputFault → Type 0
IsFaultBehind is_broken races lines [] fault = fault ≡ fault_at_end is_broken
IsFaultBehind is_broken races lines (byte ∷ rest) fault =
    ((races ≡ most_races) × (fault ≡ Some (Text (record { line = lines + 1; kind = kinds.TooMany }))))
    ⊎ ((races + 1 ≤ most_races)
    × (found : ℕ × TextKind) × (recorded_fault (byte ∷ rest) ≡ Some found)
    × (fault ≡ Some (fault_behind is_broken lines found)))

-- the input has these races up to its first fault, and this fault; `is_broken`: it broke off after these bytes
pub record HasRaces (input : List ℕ) (is_broken : Bool) (races : List Race) (fault : Option InputFault) : Type 0 where
  pub before : List ℕ
  pub rest : List ℕ
  pub parts : input ≡ before ++ rest
  pub whole : AreRaceTexts races before
  pub few : length races ≤ most_races
  pub fault_is : IsFaultBehind is_broken (length races) (line_count before) rest fault

-- an input is not one race and nothing else for this reason: its first fault, or its number of races if it has none
abbrev pub IsNotOne : List ℕ → Bool → NotOneRace → Type 0
IsNotOne input is_broken (faults.Fault fault) = (races : List Race) × HasRaces input is_broken races (Some fault)
IsNotOne input is_broken faults.Count = (races : List Race) × HasRaces input is_broken races None × (length races ≢ 1)
IsNotOne input is_broken faults.Memory = ⊤

-- the input was given, and is this one race
pub record GivesOne (Given : List ℕ → Bool → Type 0) (race : Race) : Type 0 where
  pub input : List ℕ
  pub is_broken : Bool
  pub given : Given input is_broken
  pub one : HasRaces input is_broken (race ∷ []) None

-- the input was given, and is not one race, for this reason
pub record GivesNone (Given : List ℕ → Bool → Type 0) (why : NotOneRace) : Type 0 where
  pub input : List ℕ
  pub is_broken : Bool
  pub given : Given input is_broken
  pub none : IsNotOne input is_broken why

-- exactly these bytes of the input were taken; no input that begins with them is one race, for this fault
pub record StopsNone (Taken : List ℕ → Type 0) (fault : TextFault) : Type 0 where
  pub input : List ℕ
  pub taken : Taken input
  pub none : (more : List ℕ) (is_broken : Bool) → IsNotOne (input ++ more) is_broken (faults.Fault (Text fault))

-- `Given`: the bytes of the whole input, and whether it broke off after them; `Taken`: the bytes taken of an input
-- that was not read further
abbrev pub TakesOne : (List ℕ → Bool → Type 0) → (List ℕ → Type 0) → Result Race NotOneRace → Type 0
TakesOne Given Taken (Ok race) = GivesOne Given race
TakesOne Given Taken (Err (faults.Fault (Text fault))) =
    GivesNone Given (faults.Fault (Text fault)) ⊎ StopsNone Taken fault
TakesOne Given Taken (Err (faults.Fault Read)) = GivesNone Given (faults.Fault Read)
TakesOne Given Taken (Err faults.Count) = GivesNone Given faults.Count
TakesOne Given Taken (Err faults.Memory) = ⊤
