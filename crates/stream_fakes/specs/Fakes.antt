-- The state of the fake streams that a test knows.
use Rattle.std.specs.Prelude.{ℕ, ◌+◌, ◌-◌, ◌^◌, Bool, List, length, min, Option}

-- the bytes that a reader has left, the most that it gives in one read, whether it breaks after them, the read that
-- is interrupted, and the number of reads
pub record Source : Type 0 where
  pub left : List ℕ
  pub step : ℕ
  pub is_broken : Bool
  pub interrupted : Option ℕ
  pub reads : ℕ

-- the bytes that a writer holds, the most that it takes in all and in one write, whether it takes none instead of
-- failing when it is full, whether its flush fails, the call that is interrupted, and the numbers of calls and of
-- flushes
pub record Sink : Type 0 where
  pub held : List ℕ
  pub most : ℕ
  pub step : ℕ
  pub takes_none : Bool
  pub flush_fails : Bool
  pub interrupted : Option ℕ
  pub calls : ℕ
  pub flushes : ℕ

-- one call more, up to the greatest u64
abbrev pub next_count : ℕ → ℕ
next_count n = min (n + 1) (2 ^ 64 - 1)

-- the number of bytes that a read gives into this room
abbrev pub given_count : Source → ℕ → ℕ
given_count source room = min (min source.step room) (length source.left)

-- the number of bytes that a write takes of `count`
abbrev pub taken_count : Sink → ℕ → ℕ
taken_count sink count = min (min sink.step count) (sink.most - length sink.held)
