-- How the writing of an output ends.
use Rattle.std.specs.Prelude.{◌≡◌, ◌⊎◌, ℕ, zero, suc, ⊤, List, [], ◌++◌, Option, Result, Ok, Err}
use Rattle.std.specs.Io.KnownBytes.{Appends}
use Rattle.he_stream.specs.declared.answer.Flushed.{Flushed}
use Rattle.he_stream.specs.declared.answer.Flushed.TheVariants as flushed
use Rattle.he_stream.specs.declared.answer.Put.{Put}
use Rattle.he_stream.specs.declared.answer.Put.TheVariants as put
use Rattle.he_stream.specs.declared.fault.WriteFault.{WriteFault}
use Rattle.he_stream.specs.Limits.{most_writes}
use Rattle.he_stream.specs.Runs.{EndsWith, RunsOut, Stops}

-- the output took a beginning of the text
abbrev pub AppendsPart : Option (List ℕ) → Option (List ℕ) → List ℕ → Type 0
AppendsPart before after text = (part : List ℕ) × (rest : List ℕ) × (text ≡ part ++ rest) × Appends before after part

-- a result after which another step is taken
abbrev pub PutsOn : Put → Type 0
PutsOn (put.Bytes count) = ⊤
PutsOn put.Interrupted = ⊤
PutsOn put.Full = ⊥
PutsOn put.Failed = ⊥

-- a result after which another flush is tried
abbrev pub FlushesOn : Flushed → Type 0
FlushesOn flushed.Interrupted = ⊤
FlushesOn flushed.Done = ⊥
FlushesOn flushed.Failed = ⊥

-- steps none of which failed
abbrev pub PutsAll : {S : Type 0} → (S → Put → S → Type 0) → S → S → Type 0
PutsAll puts first last = Stops puts PutsOn most_writes first last

-- a step failed or took no byte, or the maximum number of steps was reached
abbrev pub FailsToPut : {S : Type 0} → (S → Put → S → Type 0) → S → S → Type 0
FailsToPut puts first last =
    EndsWith puts PutsOn most_writes put.Failed first last
    ⊎ (EndsWith puts PutsOn most_writes put.Full first last ⊎ RunsOut puts PutsOn most_writes first last)

-- the last flush was completed
abbrev pub IsFlushed : {S : Type 0} → (S → Flushed → S → Type 0) → S → S → Type 0
IsFlushed flushes first last = EndsWith flushes FlushesOn most_writes flushed.Done first last

-- the last flush failed, or the maximum number of tries was reached
abbrev pub FailsToFlush : {S : Type 0} → (S → Flushed → S → Type 0) → S → S → Type 0
FailsToFlush flushes first last =
    EndsWith flushes FlushesOn most_writes flushed.Failed first last ⊎ RunsOut flushes FlushesOn most_writes first last

abbrev pub Flushes : {S : Type 0} → (S → Flushed → S → Type 0) → S → S → Result (Unit {0}) WriteFault → Type 0
Flushes flushes first last (Ok done) = IsFlushed flushes first last
Flushes flushes first last (Err fault) = FailsToFlush flushes first last

-- the output took the whole text, and was then flushed
pub record PutsWhole {S : Type 0} (contents : S → Option (List ℕ)) (puts : S → Put → S → Type 0)
    (flushes : S → Flushed → S → Type 0) (first last : S) (text : List ℕ) : Type 0 where
  pub state : S
  pub put : PutsAll puts first state
  pub flushed : IsFlushed flushes state last
  pub written : Appends (contents first) (contents last) text

-- the output took a beginning of the text, since a step failed or took no byte, the flush failed, or a maximum was
-- reached
pub record PutsPart {S : Type 0} (contents : S → Option (List ℕ)) (puts : S → Put → S → Type 0)
    (flushes : S → Flushed → S → Type 0) (first last : S) (text : List ℕ) : Type 0 where
  pub written : AppendsPart (contents first) (contents last) text
  pub failed : FailsToPut puts first last ⊎ ((state : S) × PutsAll puts first state × FailsToFlush flushes state last)

-- this number of rounds: in each the output took a whole text, and was then flushed. The text is theirs, one after
-- the other
abbrev pub PutsRounds : {S : Type 0} → (S → Option (List ℕ)) → (S → Put → S → Type 0) → (S → Flushed → S → Type 0) → ℕ
    → S → S → List ℕ → Type 0
PutsRounds contents puts flushes zero first last text = (first ≡ last) × (text ≡ [])
PutsRounds {S} contents puts flushes (suc rounds) first last text =
    (before : List ℕ) × (more : List ℕ) × (state : S) × (text ≡ before ++ more)
    × PutsRounds contents puts flushes rounds first state before × PutsWhole contents puts flushes state last more

-- the output took the whole text in rounds, possibly none for an empty text
abbrev pub PutsInRounds : {S : Type 0} → (S → Option (List ℕ)) → (S → Put → S → Type 0) → (S → Flushed → S → Type 0)
    → S → S → List ℕ → Type 0
PutsInRounds contents puts flushes first last text =
    (rounds : ℕ) × PutsRounds contents puts flushes rounds first last text

-- the output took the whole text in rounds, at least one, so that the last step was a completed flush
abbrev pub PutsAndEnds : {S : Type 0} → (S → Option (List ℕ)) → (S → Put → S → Type 0) → (S → Flushed → S → Type 0) → S
    → S → List ℕ → Type 0
PutsAndEnds contents puts flushes first last text =
    (rounds : ℕ) × PutsRounds contents puts flushes (suc rounds) first last text

-- the output took a beginning of the text in rounds, and failed in the next round
pub record PutsRoundsPart {S : Type 0} (contents : S → Option (List ℕ)) (puts : S → Put → S → Type 0)
    (flushes : S → Flushed → S → Type 0) (first last : S) (text : List ℕ) : Type 0 where
  pub before : List ℕ
  pub more : List ℕ
  pub state : S
  pub parts : text ≡ before ++ more
  pub put : PutsInRounds contents puts flushes first state before
  pub failed : PutsPart contents puts flushes state last more
