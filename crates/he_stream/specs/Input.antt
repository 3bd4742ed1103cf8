-- How the reading of an input ends.
use Rattle.std.specs.Prelude.{◌⊎◌, ℕ, ⊤, Bool, true, false, List, Option, Result, Ok, Err}
use Rattle.std.specs.Bool.{OnFalse}
use Rattle.std.specs.Io.KnownBytes.{Consumes, IsAtEnd}
use Rattle.he_stream.specs.declared.answer.Taken.{Taken}
use Rattle.he_stream.specs.declared.answer.Taken.TheVariants as taken
use Rattle.he_stream.specs.declared.fault.ReadFault.{ReadFault}
use Rattle.he_stream.specs.declared.fault.ReadFault.TheVariants as faults
use Rattle.he_stream.specs.Limits.{most_reads}
use Rattle.he_stream.specs.Runs.{EndsWith, RunsOut, Stops}

-- a result after which another step is taken
abbrev pub TakesOn : Taken → Type 0
TakesOn (taken.Bytes count) = ⊤
TakesOn taken.Interrupted = ⊤
TakesOn taken.End = ⊥
TakesOn taken.Failed = ⊥

-- `Ok` only at the end, `Failed` only after a failed step, `Bound` only after the maximum number of steps
abbrev pub ReadsTo : {S : Type 0} → (S → Taken → S → Type 0) → S → S → Result (Unit {0}) ReadFault → Type 0
ReadsTo takes first last (Ok done) = EndsWith takes TakesOn most_reads taken.End first last
ReadsTo takes first last (Err faults.Failed) = EndsWith takes TakesOn most_reads taken.Failed first last
ReadsTo takes first last (Err faults.Bound) = RunsOut takes TakesOn most_reads first last
ReadsTo takes first last (Err faults.Memory) = Stops takes TakesOn most_reads first last

-- the input ended, or it broke off: a step failed, or the maximum number of steps was reached
abbrev pub EndsBroken : {S : Type 0} → (S → Taken → S → Type 0) → S → S → Bool → Type 0
EndsBroken takes first last false = EndsWith takes TakesOn most_reads taken.End first last
EndsBroken takes first last true =
    EndsWith takes TakesOn most_reads taken.Failed first last ⊎ RunsOut takes TakesOn most_reads first last

-- the input gave these bytes, and then ended or broke off
pub record Gives {S : Type 0} (remaining : S → Option (List ℕ)) (takes : S → Taken → S → Type 0) (first last : S)
    (bytes : List ℕ) (is_broken : Bool) : Type 0 where
  pub taken : Consumes (remaining first) (remaining last) bytes
  pub whole : OnFalse is_broken (IsAtEnd (remaining last))
  pub told : EndsBroken takes first last is_broken

-- the input gave these bytes, and neither ended nor broke off yet
pub record GivesSoFar {S : Type 0} (remaining : S → Option (List ℕ)) (takes : S → Taken → S → Type 0) (first last : S)
    (bytes : List ℕ) : Type 0 where
  pub taken : Consumes (remaining first) (remaining last) bytes
  pub told : Stops takes TakesOn most_reads first last
