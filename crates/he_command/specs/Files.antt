-- The bytes read from a file, and those written to a new one.
use Rattle.std.specs.Prelude.{ℕ, false, List}
use Rattle.he_stream.specs.declared.stream.InputStream as inputs
use Rattle.he_stream.specs.declared.stream.OutputStream as outputs
use Rattle.he_tasks.specs.Streams.{Gave, TookAll}

-- a file was opened, and gave these bytes to its end
pub record WasRead {F : Type 0} (file : inputs.Ghosts F) (bytes : List ℕ) : Type 0 where
  pub opened : F
  pub closed : F
  pub gave : Gave file opened closed bytes false

-- a file was made, took the whole text, and was flushed
pub record WasWritten {P : Type 0} (page : outputs.Ghosts P) (text : List ℕ) : Type 0 where
  pub made : P
  pub written : P
  pub took : TookAll page made written text
