-- Mirrors the code: the progress of a check in an input, of which it holds the bytes after the last race passed.
-- `Checked`, `Slips` and `AllFaults` define its report.
use Rattle.std.specs.Prelude.{ℕ, ◌≡◌, ◌⊎◌, ◌<◌, ◌≤◌, ◌+◌, ◌-◌, ◌*◌, ◌==◌, Bool, true, false, List, [], ◌∷◌, ◌++◌, ◌||◌, length, map, take, drop, codes, if◌then◌else◌, Option, Some, None, IfSome, Result, Ok, Err}
use Rattle.std.specs.List.{flat_map, slice_get}
use Rattle.std.specs.Option.{option_or}
use Rattle.he_timeline.specs.Race.{Race}
use Rattle.he_inputs.specs.Inputs.{AreRaceTexts, HasRaces, line_count}
use Rattle.he_inputs.specs.RaceReading.{EndsAt, IsReaderFault, IsWithin, MayFollow, ending_of}
use Rattle.he_inputs.specs.declared.input_fault.InputFault.TheVariants.{Text, Read}
use Rattle.he_inputs.specs.declared.race_reader.Ending.{Ending}
use Rattle.he_inputs.specs.declared.race_reader.Ending.TheVariants as endings
use Rattle.he_inputs.specs.declared.race_reader.RaceReader.{RaceReader}
use Rattle.he_inputs.specs.declared.race_reader.RaceReaderFault.TheVariants as readers
use Rattle.he_inputs.specs.declared.stream_fault.StreamFault.{StreamFault}
use Rattle.he_inputs.specs.declared.stream_fault.StreamFault.TheVariants as checks
use Rattle.he_stream.specs.Limits.{read_size}
use Rattle.he_words.specs.Ranges.{line_end, most_races}
use Rattle.he_words.specs.declared.fault.TextFault.{TextFault}
use Rattle.he_check.specs.AllFaults.{AreFaults, AreFaultsBehind, AreSaid, IsLastPart, IsNextPart, SeeksAfter, alone_text, none_text, said_text, whole_text}
use Rattle.he_faults.specs.Clauses.{hint_in}
use Rattle.he_faults.specs.Meant.{begins}
use Rattle.he_check.specs.Sentences.{warning_text}
use Rattle.he_check.specs.Slips.{AreWarned, slip_if, warning_at}
use Rattle.he_check.specs.Stream.{Checks, Explains, report_text}
use Rattle.he_check.specs.declared.all_faults.Told.{Told}
use Rattle.he_check.specs.declared.counting.Counted.{Counted}
use Rattle.he_check.specs.declared.form.Form.{Form}
use Rattle.he_check.specs.declared.input.Checked.{Checked}
use Rattle.he_check.specs.declared.limits.TheConstants.{FIRST_BYTES, MOST_TOLD}
use Rattle.he_faults.specs.declared.rest.RestOfInput.{RestOfInput}
use Rattle.he_check.specs.declared.slips.Slip.TheVariants.{NoRace}
use Rattle.he_check.specs.declared.slips.Warning.{Warning}
use Rattle.he_check.specs.declared.taking.Held.{Held}

-- the first fault of every input that consists of these bytes and any that may follow
abbrev pub IsFirstIn : List ℕ → Ending → TextFault → Type 0
IsFirstIn bytes ending fault =
    (more : List ℕ) (is_broken : Bool) → MayFollow ending more is_broken
    → (races : List Race) × HasRaces (bytes ++ more) is_broken races (Some (Text fault))

-- whole lines
abbrev pub AreWhole : List ℕ → Type 0
AreWhole lines = (lines ≡ []) ⊎ ((front : List ℕ) × (lines ≡ front ++ line_end ∷ []))

-- the first line of the text is `race 1` or `race 2`, or a record line
abbrev pub begins_part : List ℕ → Bool
begins_part text =
    begins (codes "race 1" ++ 10 ∷ []) text || begins (codes "race 2" ++ 10 ∷ []) text
    || begins (codes "record ") text || begins (codes "record" ++ 10 ∷ []) text

-- the record lines passed after a fault on this line of a text, before the search for the next part; none if only the
-- first fault is asked for
pub record PassesRecords (is_all : Bool) (text : List ℕ) (line : ℕ) (bytes lines : ℕ) : Type 0 where
  pub inside : bytes ≤ length text
  pub lined : lines ≡ line_count (take bytes text)
  pub seeks : is_all ≡ true → SeeksAfter text line (take bytes text) (drop bytes text)
  pub none : is_all ≡ false → bytes ≡ 0

-- the report of the fault alone ends in the clause of its likely meaning
abbrev pub EndsIn : Form → ℕ → List ℕ → TextFault → List ℕ → Type 0
EndsIn form lines rest fault text =
    (said : List ℕ) × (text ≡ alone_text form fault said (hint_in lines rest fault))

-- no race is faulty yet: these are the races, and their warnings
pub record IsClean (front : List ℕ) (reader : RaceReader) (warnings : List Warning) : Type 0 where
  pub races : List Race
  pub whole : AreRaceTexts races front
  pub counted : reader.races ≡ length races
  pub warned : AreWarned 0 races front warnings

-- the faults of a text after `races` races of its part and `lines` lines of its input
abbrev pub AreFaultsPast : Bool → ℕ → ℕ → List ℕ → List TextFault → Type 0
AreFaultsPast is_broken races lines text faults =
    (passed : List Race) (front : List ℕ) (start : ℕ) → AreRaceTexts passed front → length passed ≡ races
    → lines ≡ start + line_count front → AreFaultsBehind is_broken start (front ++ text) faults

-- the faults of a text after `lines` lines, from the next part on
abbrev pub AreFaultsAfter : Bool → ℕ → List ℕ → List TextFault → Type 0
AreFaultsAfter is_broken lines text faults =
    (IsLastPart text × (faults ≡ []))
    ⊎ ((at : ℕ) × IsNextPart text at
    × AreFaultsBehind is_broken (lines + line_count (take at text)) (drop at text) faults)

-- the faults of a text that begins at the reader's position
abbrev pub AreLeft : Bool → RaceReader → Bool → List ℕ → List TextFault → Type 0
AreLeft true reader is_broken text faults = AreFaultsAfter is_broken reader.lines text faults
AreLeft false reader is_broken text faults = AreFaultsPast is_broken reader.races reader.lines text faults

-- the faults so far are reported, and the rest of the input has the others
pub record HasTold {A : Type 0} (ending : Ending) (input left : List ℕ) (counted : Counted A) : Type 0 where
  pub faults : List TextFault
  pub first : counted.told.first ≡ slice_get faults 0
  pub number : counted.told.count ≡ length faults
  pub are : (more : List ℕ) (is_broken : Bool) (others : List TextFault) → MayFollow ending more is_broken
      → AreLeft counted.is_seeking counted.reader is_broken (left ++ more) others
      → AreFaults (input ++ more) is_broken (faults ++ others)
  pub said : (more : List ℕ) (is_broken : Bool) → MayFollow ending more is_broken
      → AreSaid counted.told.form (input ++ more) (take MOST_TOLD faults) counted.told.text.items

-- the position of a check in an input of these bytes, which may go on; the bytes `before` are no longer in memory
pub record IsAt {A : Type 0} (ending : Ending) (before bytes : List ℕ) (counted : Counted A) : Type 0 where
  pub lined : counted.reader.lines ≡ line_count (before ++ take counted.reader.end bytes)
  pub whole : counted.is_seeking ≡ false → AreWhole (before ++ take counted.reader.end bytes)
  pub clean : counted.told.first ≡ None
      → IsClean (before ++ take counted.reader.end bytes) counted.reader counted.warnings.items
  pub first : IfSome counted.told.first (IsFirstIn (before ++ bytes) ending)
  pub alone : counted.told.is_all ≡ false
      → IfSome counted.told.first (λ fault. counted.reader.lines + 1 ≤ fault.line)
  pub told : counted.told.is_all ≡ true → HasTold ending (before ++ bytes) (drop counted.reader.end bytes) counted

-- the bounds of a check: each fault has a line of its own, and the search for the next race follows a fault
pub record IsSound {A : Type 0} (counted : Counted A) : Type 0 where
  pub few : counted.reader.races ≤ most_races
  pub count : counted.told.is_all ≡ true
      → counted.told.count ≤ counted.reader.lines + (if counted.is_seeking then 1 else 0)
  pub zero : counted.told.first ≡ None → counted.told.count ≡ 0
  pub reads : counted.told.first ≡ None → counted.is_seeking ≡ false
  pub seeks : counted.is_seeking ≡ true → counted.told.is_all ≡ true

-- the check may continue: if only the first fault is asked for, none is found
abbrev pub IsOpen : {A : Type 0} → Counted A → Type 0
IsOpen counted = counted.told.is_all ≡ false → counted.told.first ≡ None

-- if all faults are reported, there are enough first bytes to identify the input
abbrev pub IsEnough : {A : Type 0} → Ending → List ℕ → Counted A → Type 0
IsEnough ending bytes counted = counted.told.is_all ≡ true → ending ≡ endings.Open → FIRST_BYTES ≤ length bytes

-- the conditions to continue in the bytes
pub record MayGo {A : Type 0} (ending : Ending) (bytes : List ℕ) (counted : Counted A) : Type 0 where
  pub within : IsWithin bytes counted.reader
  pub sound : IsSound counted
  pub enough : IsEnough ending bytes counted

-- the check continued in the bytes
pub record HasGone {A : Type 0} (ending : Ending) (bytes : List ℕ) (old new : Counted A) : Type 0 where
  pub may : MayGo ending bytes new
  pub all : new.told.is_all ≡ old.told.is_all
  pub form : new.told.form ≡ old.told.form
  pub on : (before : List ℕ) → IsAt ending before bytes old → IsAt ending before bytes new

-- the check can't continue in the bytes: if nothing follows them, the rest has no fault
pub record HasStopped {A : Type 0} (ending : Ending) (bytes : List ℕ) (counted : Counted A) : Type 0 where
  pub ends : counted.told.first ≡ None
      → EndsAt ending (drop counted.reader.end bytes)
      ⊎ IsReaderFault bytes ending counted.reader (readers.Input Read)
  pub none : counted.told.is_all ≡ true → (is_broken : Bool) → ending ≡ ending_of is_broken
      → AreLeft counted.is_seeking counted.reader is_broken (drop counted.reader.end bytes) []

-- the number of steps left, at most
abbrev pub steps_left : {A : Type 0} → List ℕ → Counted A → ℕ
steps_left bytes counted = 2 * (length bytes - counted.reader.end) + (if counted.is_seeking then 0 else 1)

-- one step more was made
pub record HasStepped {A : Type 0} (ending : Ending) (bytes : List ℕ) (old new : Counted A)
    (goes_on : Bool) : Type 0 where
  pub gone : HasGone ending bytes old new
  pub more : goes_on ≡ true → IsOpen new
  pub less : goes_on ≡ true → steps_left bytes new < steps_left bytes old
  pub stopped : goes_on ≡ false → HasStopped ending bytes new

-- a check at its start
pub record IsNew {A : Type 0} (is_all : Bool) (form : Form) (counted : Counted A) : Type 0 where
  pub reader : counted.reader ≡ record { end = 0; races = 0; lines = 0 }
  pub reads : counted.is_seeking ≡ false
  pub all : counted.told.is_all ≡ is_all
  pub formed : counted.told.form ≡ form
  pub none : counted.told.first ≡ None
  pub zero : counted.told.count ≡ 0
  pub warned : counted.warnings.items ≡ []
  pub said : counted.told.text.items ≡ []

-- one more fault is counted, and reported if it is one of the first
pub record AddsFault {A : Type 0} (part : RestOfInput) (fault : TextFault) (old new : Told A) : Type 0 where
  pub all : new.is_all ≡ old.is_all
  pub form : new.form ≡ old.form
  pub first : new.first ≡ option_or old.first (Some fault)
  pub count : new.count ≡ old.count + 1
  pub said : old.is_all ≡ true
      → ((old.count + 1 ≤ MOST_TOLD) × (said : List ℕ)
      × (new.text.items
      ≡ old.text.items ++ said_text old.form fault said (hint_in part.lines part.text.now fault)))
      ⊎ ((MOST_TOLD ≤ old.count) × (new.text.items ≡ old.text.items))

-- the fault of an input that is read to its end or to where it broke off
abbrev pub fault_found : Option TextFault → Bool → Option StreamFault
fault_found (Some fault) is_broken = Some (checks.Text fault)
fault_found None true = Some checks.Read
fault_found None false = None

-- the numbers of races and lines, and the warnings
abbrev pub IsCounted : {A : Type 0} → Counted A → Checked → List Warning → Type 0
IsCounted counted checked warnings =
    (checked ≡ record { races = counted.reader.races; lines = counted.reader.lines })
    × (warnings ≡ counted.warnings.items ++ map (warning_at 1) (slip_if (counted.reader.races == 0) NoRace))

-- the report of the faults, of all or of the first one
pub record IsSaidOf {A : Type 0} (bytes : List ℕ) (is_broken : Bool) (counted : Counted A) (text : List ℕ) : Type 0 where
  pub all : counted.told.is_all ≡ true → text
      ≡ whole_text counted.told.form counted.told.text.items (counted.told.count - MOST_TOLD) is_broken
  pub none : counted.told.is_all ≡ false → counted.told.first ≡ None → text ≡ none_text counted.told.form
  pub first : counted.told.is_all ≡ false
      → IfSome counted.told.first
      (λ fault. EndsIn counted.told.form counted.reader.lines (drop counted.reader.end bytes) fault text)

-- a check ends with this fault, and its report is appended; or an allocation failed
abbrev pub EndsWith : {A : Type 0} → List ℕ → Bool → Counted A → List ℕ → List ℕ → StreamFault → Type 0
EndsWith bytes is_broken counted old new fault =
    ((fault ≡ checks.Memory) × (new ≡ old))
    ⊎ ((fault_found counted.told.first is_broken ≡ Some fault)
    × (text : List ℕ) × IsSaidOf bytes is_broken counted text × (new ≡ old ++ text))

-- the held bytes of an input begin at the reader's position
pub record IsHeld {A : Type 0} (held : Held A) : Type 0 where
  pub tried : held.tried ≤ length held.input.bytes
  pub front : held.counted.reader.end ≡ 0
  pub sound : IsSound held.counted

-- the bytes before the reader's position were dropped
abbrev pub at_front : {A : Type 0} → Counted A → Counted A
at_front counted = record counted { reader = record counted.reader { end = 0 } }

-- the held bytes that were checked
abbrev pub tried_bytes : {A : Type 0} → Held A → List ℕ
tried_bytes held = take held.tried held.input.bytes

-- a first part of the bytes was dropped, and the others are held
abbrev pub HoldsOn : {A : Type 0} → Held A → Held A → Type 0
HoldsOn old new =
    (before : List ℕ) → IsAt endings.Open before (tried_bytes old) old.counted
    → (front : List ℕ) × (before ++ old.input.bytes ≡ front ++ new.input.bytes)
    × IsAt endings.Open front (tried_bytes new) new.counted

-- the position of a check in an input of which these bytes were taken: the bytes dropped, and the bytes held
pub record IsTaken {A : Type 0} (is_all : Bool) (form : Form) (Took : List ℕ → Type 0) (held : Held A) : Type 0 where
  pub holds : IsHeld held
  pub all : held.counted.told.is_all ≡ is_all
  pub formed : held.counted.told.form ≡ form
  pub before : List ℕ
  pub at : IsAt endings.Open before (tried_bytes held) held.counted
  pub took : Took (before ++ held.input.bytes)
  pub size : length before + length held.input.bytes ≤ read_size * held.input.steps

-- a check of an input ends with this fault, before anything is written to an output
abbrev pub TakesWrong : Bool → Form → (List ℕ → Bool → Type 0) → (List ℕ → Type 0) → List ℕ → List ℕ → StreamFault
    → Type 0
TakesWrong is_all form Given Taken old new fault =
    Checks Given Taken (λ text. ⊥) (λ text. ⊥) (Unit {0}) (Err fault)
    × Explains is_all form Given Taken old new (Err fault)

-- the warnings of an input without a fault are appended, and its numbers are written, or a first part of them; or
-- nothing was done
abbrev pub TellsRight : (List ℕ → Type 0) → (List ℕ → Type 0) → Type 0 → Checked → List Warning → List ℕ → List ℕ
    → Result (Unit {0}) StreamFault → Type 0
TellsRight Whole Part Kept checked warnings old new (Ok done) =
    Whole (report_text checked) × (new ≡ old ++ flat_map warning_text warnings)
TellsRight Whole Part Kept checked warnings old new (Err checks.Write) =
    Part (report_text checked) × (new ≡ old ++ flat_map warning_text warnings)
TellsRight Whole Part Kept checked warnings old new (Err checks.Memory) = Kept × (new ≡ old)
TellsRight Whole Part Kept checked warnings old new (Err fault) = ⊥

-- a text was written, or a first part of it before an error; or nothing, since an allocation failed
abbrev pub Puts : (List ℕ → Type 0) → (List ℕ → Type 0) → Type 0 → List ℕ → Result (Unit {0}) StreamFault → Type 0
Puts Whole Part Kept text (Ok done) = Whole text
Puts Whole Part Kept text (Err checks.Write) = Part text
Puts Whole Part Kept text (Err checks.Memory) = Kept
Puts Whole Part Kept text (Err fault) = ⊥
