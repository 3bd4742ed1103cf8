-- Mirrors the code: the rounds of a call through an input. It helps the proofs; `Stream` has the bytes that a whole
-- call takes and puts.
use Rattle.std.specs.Prelude.{ℕ, ◌≡◌, ◌≤◌, ◌+◌, ◌⊎◌, ◌++◌, Bool, List, [], Option, None, Some, Result, Ok, Err, length, take, drop}
use Rattle.he_timeline.specs.Race.{Race}
use Rattle.he_stream.specs.declared.answer.Flushed.{Flushed}
use Rattle.he_stream.specs.declared.answer.Put.{Put}
use Rattle.he_stream.specs.Output.{PutsPart, PutsWhole}
use Rattle.he_inputs.specs.declared.input_fault.InputFault.{InputFault}
use Rattle.he_inputs.specs.declared.input_fault.InputFault.TheVariants as inputs
use Rattle.he_inputs.specs.declared.race_reader.Ending.{Ending}
use Rattle.he_inputs.specs.declared.race_reader.Ending.TheVariants as endings
use Rattle.he_inputs.specs.declared.race_reader.RaceReader.{RaceReader}
use Rattle.he_inputs.specs.Inputs.{IsFaultBehind, line_count}
use Rattle.he_words.specs.Ranges.{most_races}
use Rattle.he_inputs.specs.RaceReading.{EndsAt, MayFollow}
use Rattle.he_inputs.specs.declared.stream_fault.StreamFault.{StreamFault}
use Rattle.he_inputs.specs.declared.stream_fault.StreamFault.TheVariants as faults
use Rattle.he_json.specs.Documents.{name_of}
use Rattle.he_record.specs.Said.{Said}
use Rattle.he_streaming.specs.declared.race_texts.TextRequest.{TextRequest}
use Rattle.he_streaming.specs.declared.rounds.RoundEnd.{RoundEnd}
use Rattle.he_streaming.specs.Output.{AreTold, IsTextWith, TextRelation}

-- the text that is asked for of the race
abbrev pub IsAsked : TextRequest → ℕ → ℕ → List ℕ → List Said → Race → Type 0
IsAsked asked = IsTextWith asked.content asked.changes (name_of asked.file)

-- such a text was appended
pub record WritesText (IsSuch : List ℕ → Type 0) (old new : List ℕ) : Type 0 where
  pub told : List ℕ
  pub is_told : IsSuch told
  pub appended : new ≡ old ++ told

-- of bytes after this number of races and lines, the text is that of the races that the reader passed
pub record HasTold (IsText : TextRelation) (bytes : List ℕ) (races_before lines_before : ℕ) (text : List ℕ)
    (reader : RaceReader) : Type 0 where
  pub races : List Race
  pub within : reader.end ≤ length bytes
  pub told : AreTold IsText (races_before + 1) (lines_before + 1) races (take reader.end bytes) text
  pub counted : reader.races ≡ races_before + length races
  pub few : reader.races ≤ most_races
  pub lined : reader.lines ≡ lines_before + line_count (take reader.end bytes)

-- the fault after the races that the reader passed, in every input that goes on so
abbrev pub IsFaultPast : Ending → List ℕ → RaceReader → Option InputFault → Type 0
IsFaultPast ending bytes reader fault =
    (more : List ℕ) (is_broken : Bool) → MayFollow ending more is_broken
    → IsFaultBehind is_broken reader.races reader.lines (drop reader.end bytes ++ more) fault

-- the reader came to `reach`, or no race follows there, or there is a fault, whatever follows
abbrev pub Reaches : Ending → List ℕ → ℕ → RaceReader → Type 0
Reaches ending bytes reach reader =
    (reach ≤ reader.end) ⊎ EndsAt ending (drop reader.end bytes)
    ⊎ ((fault : InputFault) × IsFaultPast ending bytes reader (Some fault))

-- the text of more races was appended to that of earlier ones
abbrev pub TellsOn : TextRelation → List ℕ → RaceReader → List ℕ → List ℕ → RaceReader → Type 0
TellsOn IsText bytes begun old new reader =
    (races lines : ℕ) → HasTold IsText bytes races lines old begun → HasTold IsText bytes races lines new reader

-- the text of more races was appended, and the fault after them, if it is known
pub record Tells (IsText : TextRelation) (ending : Ending) (bytes : List ℕ) (begun : RaceReader) (old new : List ℕ)
    (told : RoundEnd) : Type 0 where
  pub on : TellsOn IsText bytes begun old new told.reader
  pub fault_is : ((ending ≡ endings.Open) × (told.fault ≡ None)) ⊎ IsFaultPast ending bytes told.reader told.fault

-- the text was put, or there was none and more may follow
abbrev pub PutsAny : {S : Type 0} → (S → Option (List ℕ)) → (S → Put → S → Type 0) → (S → Flushed → S → Type 0)
    → Ending → List ℕ → S → S → Type 0
PutsAny contents puts flushes ending text first last =
    PutsWhole contents puts flushes first last text ⊎ ((ending ≡ endings.Open) × (text ≡ []) × (first ≡ last))

-- the way the text of the races is put: a fault of the input is reported after it
abbrev pub PutsTold : {S : Type 0} → (S → Option (List ℕ)) → (S → Put → S → Type 0) → (S → Flushed → S → Type 0)
    → Ending → RoundEnd → List ℕ → S → S → Result RaceReader StreamFault → Type 0
PutsTold contents puts flushes ending told text first last (Ok reader) =
    (reader ≡ told.reader) × (told.fault ≡ None) × PutsAny contents puts flushes ending text first last
PutsTold contents puts flushes ending told text first last (Err (faults.Text fault)) =
    (told.fault ≡ Some (inputs.Text fault)) × PutsWhole contents puts flushes first last text
PutsTold contents puts flushes ending told text first last (Err faults.Read) =
    (told.fault ≡ Some inputs.Read) × PutsWhole contents puts flushes first last text
PutsTold contents puts flushes ending told text first last (Err faults.Write) =
    PutsPart contents puts flushes first last text
PutsTold contents puts flushes ending told text first last (Err faults.Memory) = ⊥

-- a round went on: the text of these races of the bytes was put, and the bytes after them are held
pub record GoesOn {S : Type 0} (IsText : TextRelation) (contents : S → Option (List ℕ)) (puts : S → Put → S → Type 0)
    (flushes : S → Flushed → S → Type 0) (ending : Ending) (bytes : List ℕ) (from : RaceReader) (kept : List ℕ)
    (next : RaceReader) (first last : S) : Type 0 where
  pub text : List ℕ
  pub reader : RaceReader
  pub told : HasTold IsText bytes from.races from.lines text reader
  pub fault_is : (ending ≡ endings.Open) ⊎ IsFaultPast ending bytes reader None
  pub put : PutsAny contents puts flushes ending text first last
  pub held : kept ≡ drop reader.end bytes
  pub at : next ≡ record { end = 0; races = reader.races; lines = reader.lines }

-- the text of all races at the front of the bytes was put, and this is the fault after them
pub record EndsWithFault {S : Type 0} (IsText : TextRelation) (contents : S → Option (List ℕ))
    (puts : S → Put → S → Type 0) (flushes : S → Flushed → S → Type 0) (ending : Ending) (bytes : List ℕ)
    (from : RaceReader) (first last : S) (fault : InputFault) : Type 0 where
  pub text : List ℕ
  pub reader : RaceReader
  pub told : HasTold IsText bytes from.races from.lines text reader
  pub fault_is : IsFaultPast ending bytes reader (Some fault)
  pub put : PutsWhole contents puts flushes first last text

-- the end of a round: the bytes that are held then, or a fault
abbrev pub PutsRound : {S : Type 0} → TextRelation → (S → Option (List ℕ)) → (S → Put → S → Type 0)
    → (S → Flushed → S → Type 0) → Ending → List ℕ → RaceReader → List ℕ → RaceReader → S → S
    → Result (Unit {0}) StreamFault → Type 0
PutsRound IsText contents puts flushes ending bytes from kept next first last (Ok done) =
    GoesOn IsText contents puts flushes ending bytes from kept next first last
PutsRound IsText contents puts flushes ending bytes from kept next first last (Err (faults.Text fault)) =
    EndsWithFault IsText contents puts flushes ending bytes from first last (inputs.Text fault)
PutsRound IsText contents puts flushes ending bytes from kept next first last (Err faults.Read) =
    EndsWithFault IsText contents puts flushes ending bytes from first last inputs.Read
PutsRound IsText contents puts flushes ending bytes from kept next first last (Err faults.Write) =
    (text : List ℕ) × (reader : RaceReader) × HasTold IsText bytes from.races from.lines text reader
    × PutsPart contents puts flushes first last text
PutsRound IsText contents puts flushes ending bytes from kept next first last (Err faults.Memory) = first ≡ last

-- the position of a call: the races that were written, and the bytes that are held after them. Took: the bytes taken
-- so far; Done: the text put so far
pub record IsAt (IsText : TextRelation) (held : List ℕ) (reader : RaceReader)
    (Took Done : List ℕ → Type 0) : Type 0 where
  pub races : List Race
  pub before : List ℕ
  pub text : List ℕ
  pub told : AreTold IsText 1 1 races before text
  pub front : reader.end ≡ 0
  pub counted : reader.races ≡ length races
  pub few : reader.races ≤ most_races
  pub lined : reader.lines ≡ line_count before
  pub took : Took (before ++ held)
  pub put : Done text
