-- The refusal of a line that clap does not take.
use Rattle.clap.specs.declared.error.Error.{Error}
use Rattle.clap.specs.declared.error.kind.ErrorKind.{ErrorKind}
use Rattle.clap.specs.declared.error.kind.ErrorKind.TheVariants as kinds
use Rattle.he_options.specs.declared.refusal.Refusal.{Refusal}
use Rattle.he_options.specs.declared.refusal.Refusal.TheVariants as refusals

abbrev pub refusal_by : ErrorKind → Error → Refusal
refusal_by kinds.OutOfMemory error = refusals.Memory
refusal_by kinds.DisplayHelp error = refusals.Help error
refusal_by kinds.DisplayVersion error = refusals.Help error
refusal_by kind error = refusals.Words error
