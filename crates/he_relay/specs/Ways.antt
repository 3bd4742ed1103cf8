-- One way of a polled relay: the bytes that it holds, and those that it has moved.
use Rattle.std.specs.Prelude.{◌≡◌, ◌⊎◌, ℕ, ◌+◌, ◌-◌, ◌^◌, min, true, false, List, [], ◌++◌, slice_range}
use Rattle.std.specs.declared.io.Error.{Error}
use Rattle.tokio.specs.Io.Copying.{count_after}
use Rattle.tokio.specs.Io.Moved.{Passes}
use Rattle.he_relay.specs.declared.way.Way.{Way}
use Rattle.he_relay.specs.declared.way.WayFault.{WayFault}
use Rattle.he_relay.specs.declared.way.WayFault.TheVariants as faults

-- the bytes that were read and aren't written yet
abbrev pub held : Way → List ℕ
held way = slice_range way.room.items way.from way.to

-- it holds the early data, and has moved nothing
abbrev pub Begins : List ℕ → Way → Type 0
Begins early way = (held way ≡ early) × (way.moved ≡ 0) × (way.has_ended ≡ false)

-- the first `count` bytes that it held are written and counted, and the rest is held
abbrev pub IsAfter : ℕ → Way → Way → Type 0
IsAfter count old new =
    (new.room ≡ old.room) × (new.from ≡ old.from + count) × (new.to ≡ old.to)
    × (new.has_ended ≡ old.has_ended) × (new.moved ≡ min (old.moved + count) (2 ^ 64 - 1))

-- it holds nothing, as before, and is otherwise unchanged
abbrev pub IsAsEmpty : Way → Way → Type 0
IsAsEmpty old new =
    (new.from ≡ old.from) × (new.to ≡ old.to) × (new.has_ended ≡ old.has_ended) × (new.is_shut ≡ old.is_shut)
    × (new.moved ≡ old.moved)

-- the reader has ended, all its bytes are written, and the writer is shut down
abbrev pub IsOver : Way → Type 0
IsOver way = (way.is_shut ≡ true) × (way.has_ended ≡ true) × (held way ≡ [])

-- of the bytes held, followed by those read, a front part was written and the rest is held: in order, each once. The
-- written bytes are counted, and only the reader's end ends the way
pub record Moves {R W : Type 0} (reads : Passes R) (writes : Passes W) (is_at_end : R → Type 0) (old : Way) (reader : R) (writer : W) (new : Way) (reader' : R) (writer' : W) : Type 0 where
  pub got : List ℕ
  pub put : List ℕ
  pub read : reads reader got reader'
  pub written : writes writer put writer'
  pub in_order : held old ++ got ≡ put ++ held new
  pub counted : new.moved ≡ count_after old.moved put
  pub stays_ended : old.has_ended ≡ true → (new.has_ended ≡ true) × (reader' ≡ reader) × (got ≡ [])
  pub gets_ended : new.has_ended ≡ true → (old.has_ended ≡ true) ⊎ is_at_end reader'

-- the fault: a read returned an error; or a write or the shutdown returned one, or a write took no byte
abbrev pub Breaks : {R W : Type 0} → (R → Error → Type 0) → (W → Error → Type 0) → (W → Type 0) → R → W → WayFault
    → Type 0
Breaks read write is_full reader writer faults.Reader = (error : Error) × read reader error
Breaks read write is_full reader writer faults.Writer = ((error : Error) × write writer error) ⊎ is_full writer
