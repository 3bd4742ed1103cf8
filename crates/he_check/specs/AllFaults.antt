-- The faults that a check reports if it continues after a faulty race: the first one of each part of the input. A
-- part begins with the input, or with the next race or record line after a fault.
use Rattle.std.specs.Prelude.{ℕ, ◌≡◌, ◌⊎◌, ◌≤◌, ◌+◌, ◌-◌, ◌==◌, Bool, true, false, List, [], ◌∷◌, ◌++◌, length, take, drop, codes, decimal, if◌then◌else◌, Option, Some}
use Rattle.std.specs.List.{AllByRecursion}
use Rattle.he_timeline.specs.Race.{Race}
use Rattle.he_inputs.specs.Inputs.{HasRaces, fault_at_end, line_count}
use Rattle.he_words.specs.Ranges.{line_end}
use Rattle.he_reading.specs.Parts.{lines_of, tokens_of}
use Rattle.he_record.specs.Forms.{is_record_line}
use Rattle.he_record.specs.Fronts.{goes_on}
use Rattle.he_words.specs.declared.fault.TextFault.{TextFault}
use Rattle.he_inputs.specs.declared.input_fault.InputFault.TheVariants.{Text}
use Rattle.he_faults.specs.Clauses.{hint_of}
use Rattle.he_check.specs.Kinds.{kind_text}
use Rattle.he_check.specs.Objects.{entry_text, faults_member}
use Rattle.he_faults.specs.Sentences.{clause_text, meant_text}
use Rattle.he_check.specs.declared.form.Form.{Form}
use Rattle.he_check.specs.declared.form.Form.TheVariants.{Json, Lines}
use Rattle.he_check.specs.declared.limits.TheConstants.{MOST_TOLD}
use Rattle.he_faults.specs.declared.meant.Meant.{Meant}

-- the beginning of a line that may start a part: `race 1`, `race 2`, or `record` as its first token
pub data PartStart : Type 0 where
  RaceOne : PartStart
  RaceTwo : PartStart
  RecordSpaced : PartStart
  RecordAlone : PartStart

abbrev pub start_text : PartStart → List ℕ
start_text RaceOne = codes "race 1" ++ line_end ∷ []
start_text RaceTwo = codes "race 2" ++ line_end ∷ []
start_text RecordSpaced = codes "record "
start_text RecordAlone = codes "record" ++ line_end ∷ []

-- the line at this place has such a beginning, and another line ends before it
abbrev pub BeginsPart : List ℕ → ℕ → Type 0
BeginsPart text at =
    (front : List ℕ) × (start : PartStart) × (more : List ℕ)
    × (text ≡ front ++ (line_end ∷ (start_text start ++ more))) × (at ≡ length front + 1)

-- the next race or record line after the first line of the text
pub record IsNextPart (text : List ℕ) (at : ℕ) : Type 0 where
  pub begins : BeginsPart text at
  pub first : (other : ℕ) → BeginsPart text other → at ≤ other

abbrev pub IsLastPart : List ℕ → Type 0
IsLastPart text = (at : ℕ) → BeginsPart text at → ⊥

-- The search for the next part of a text with a fault on this line begins after the first line of `left`: after the
-- faulty line, or after the first line of the race if that comes before it. Before `left` are record lines. If the
-- race has no `end`, its faulty line is the first line of the next part, since no other line begins with `race` or
-- `record`: the next part begins on the faulty line.
pub record SeeksAfter (text : List ℕ) (line : ℕ) (front left : List ℕ) : Type 0 where
  pub lines : List (List ℕ)
  pub parts : text ≡ front ++ left
  pub whole : lines_of front ≡ lines ++ [] ∷ []
  pub records : AllByRecursion (λ l. is_record_line (tokens_of l) ≡ true) lines
  pub before : length lines + 1 ≤ line
  pub ends : (line ≡ length lines + 1) ⊎ (goes_on (lines_of left) ≡ false)

-- a fault of a part, with its line counted over the whole input
abbrev pub behind : ℕ → TextFault → TextFault
behind lines fault = record { line = lines + fault.line; kind = fault.kind }

-- the faults of the parts of a text after `lines` lines of an input
abbrev pub AreFaultsBehind : Bool → ℕ → List ℕ → List TextFault → Type 0
AreFaultsBehind is_broken lines text [] = (races : List Race) × HasRaces text is_broken races (fault_at_end is_broken)
AreFaultsBehind is_broken lines text (fault ∷ faults) =
    (races : List Race) × (found : TextFault) × (has : HasRaces text is_broken races (Some (Text found)))
    × (fault ≡ behind lines found)
    × (front : List ℕ) × (left : List ℕ) × SeeksAfter has.rest (found.line - line_count has.before) front left
    × ((IsLastPart left × (faults ≡ []))
    ⊎ ((at : ℕ) × IsNextPart left at
    × AreFaultsBehind is_broken (lines + line_count has.before + line_count front + line_count (take at left))
    (drop at left) faults))

-- the faults of an input, in order
abbrev pub AreFaults : List ℕ → Bool → List TextFault → Type 0
AreFaults input is_broken faults = AreFaultsBehind is_broken 0 input faults

-- he: line N: KIND, and the explanation of the fault, which ends in the clause of the likely meaning; or its entry in
-- JSON
abbrev pub said_text : Form → TextFault → List ℕ → Option Meant → List ℕ
said_text Lines fault said meant =
    codes "he: line " ++ (decimal fault.line ++ (codes ": " ++ (kind_text fault.kind
    ++ (10 ∷ (said ++ clause_text meant)))))
said_text Json fault said meant = entry_text fault.line (kind_text fault.kind) (said ++ meant_text meant)

abbrev pub fault_text : Form → List ℕ → TextFault → List ℕ → List ℕ
fault_text form input fault said = said_text form fault said (hint_of input fault)

-- the text reports these faults of the input, in order
abbrev pub AreSaid : Form → List ℕ → List TextFault → List ℕ → Type 0
AreSaid form input [] text = text ≡ []
AreSaid form input (fault ∷ faults) text =
    (said : List ℕ) × (more : List ℕ) × (text ≡ fault_text form input fault said ++ more)
    × AreSaid form input faults more

-- he: N more faults; empty if there are none
unfoldable pub more_text : ℕ → List ℕ
more_text n =
    if n == 0 then []
    else codes "he: " ++ (decimal n ++ ((if n == 1 then codes " more fault" else codes " more faults") ++ 10 ∷ []))

-- the line for an input that broke off
abbrev pub end_text : Bool → List ℕ
end_text true = codes "he: cannot read the input" ++ 10 ∷ []
end_text false = []

-- the report: these lines or entries of the first faults, the number of the others, and whether the input broke off
abbrev pub whole_text : Form → List ℕ → ℕ → Bool → List ℕ
whole_text Lines first more is_broken = first ++ (more_text more ++ end_text is_broken)
whole_text Json first more is_broken = faults_member first more is_broken

-- The text reports the first 1,000 faults of the input, each with its explanation, then the number of the others, and
-- last whether the input broke off.
pub record AreTold (form : Form) (input : List ℕ) (is_broken : Bool) (faults : List TextFault)
    (text : List ℕ) : Type 0 where
  pub first : List ℕ
  pub said : AreSaid form input (take MOST_TOLD faults) first
  pub all : text ≡ whole_text form first (length faults - MOST_TOLD) is_broken

-- the report of the first fault, if no other is reported
abbrev pub alone_text : Form → TextFault → List ℕ → Option Meant → List ℕ
alone_text Lines fault said meant = said ++ clause_text meant
alone_text Json fault said meant = faults_member (said_text Json fault said meant) 0 false

-- the report of an input that broke off before a fault was found, if only the first fault is reported
abbrev pub none_text : Form → List ℕ
none_text Lines = []
none_text Json = faults_member [] 0 true
