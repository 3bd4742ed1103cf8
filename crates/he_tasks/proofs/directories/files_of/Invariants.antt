use Rattle.std.proofs.Common.{map, take}
use Rattle.std.specs.Prelude.{string_bytes}
use Rattle.he_tasks.specs.Directories.{AreFilesOf}
use Rattle.he_tasks.proofs.directories.files_of.Given as goal

abbrev pub invariant-loop-name : goal.invariant-loop-name
invariant-loop-name g l =
    AreFilesOf (map (λ name. name.now) (take l.name-index l.names)) (map string_bytes l.files.items)
