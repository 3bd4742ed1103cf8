-- The maximum number of steps in one call, and of bytes in one step.
use Rattle.std.specs.Prelude.{ℕ}

abbrev pub most_reads : ℕ
most_reads = 4294967296

-- for steps that put bytes in, and for tries of one flush
abbrev pub most_writes : ℕ
most_writes = 4294967296

-- the maximum room for a read, in bytes
abbrev pub read_size : ℕ
read_size = 4194304
