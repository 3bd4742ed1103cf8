-- The bytes held of an input that is taken step by step.
use Rattle.std.specs.Prelude.{ℕ, ◌≡◌, ◌≤◌, ◌+◌, ◌*◌, ◌++◌, true, false, List, length, Result, Ok, Err}
use Rattle.std.specs.Io.KnownBytes.{Consumes}
use Rattle.he_stream.specs.declared.answer.Taken.{Taken}
use Rattle.he_stream.specs.declared.answer.Taken.TheVariants as answers
use Rattle.he_stream.specs.declared.stream.InputStream as inputs
use Rattle.he_stream.specs.Input.{Gives, TakesOn}
use Rattle.he_stream.specs.Limits.{most_reads, read_size}
use Rattle.he_stream.specs.Runs.{StepsOn}
use Rattle.he_inputs.specs.declared.race_reader.Ending.{Ending}
use Rattle.he_inputs.specs.declared.race_reader.Ending.TheVariants as endings

-- the bytes held, and the number of steps
pub record HeldBytes : Type 0 where
  pub bytes : List ℕ
  pub steps : ℕ

-- the input gave these bytes between two of its states: in `steps` steps, after which it may go on, or up to its end,
-- or up to where it broke off
abbrev pub GivesBy : {I : Type 0} → inputs.Ghosts I → I → I → ℕ → Ending → List ℕ → Type 0
GivesBy input first last steps endings.Open bytes =
    (steps ≤ most_reads) × Consumes (input.remaining first) (input.remaining last) bytes
    × StepsOn input.takes TakesOn steps first last
GivesBy input first last steps endings.Whole bytes = Gives input.remaining input.takes first last bytes false
GivesBy input first last steps endings.Broken bytes = Gives input.remaining input.takes first last bytes true

-- more bytes were taken of an input, and appended to those held
pub record TakesMore {I : Type 0} (input : inputs.Ghosts I) (before after : I) (old new : HeldBytes)
    (ending : Ending) : Type 0 where
  pub more : List ℕ
  pub grown : new.bytes ≡ old.bytes ++ more
  pub later : old.steps ≤ new.steps
  pub few : old.steps ≤ most_reads → new.steps ≤ most_reads
  pub size : length more + read_size * old.steps ≤ read_size * new.steps
  pub gives : (first : I) (bytes : List ℕ) → GivesBy input first before old.steps endings.Open bytes
      → GivesBy input first after new.steps ending (bytes ++ more)

-- the ending after a result: still open if an allocation failed
abbrev pub ending_told : {E : Type 0} → Result Ending E → Ending
ending_told (Ok ending) = ending
ending_told (Err refused) = endings.Open

-- Mirrors the code: one step.

abbrev pub gained : Taken → ℕ
gained (answers.Bytes count) = count
gained answers.End = 0
gained answers.Interrupted = 0
gained answers.Failed = 0

abbrev pub ending_after : Taken → Ending
ending_after (answers.Bytes count) = endings.Open
ending_after answers.End = endings.Whole
ending_after answers.Interrupted = endings.Open
ending_after answers.Failed = endings.Broken
