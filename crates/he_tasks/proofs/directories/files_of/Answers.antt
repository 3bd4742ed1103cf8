use Rattle.std.proofs.Common.{[], map, rules, subst, sym}
use Rattle.std.specs.Prelude.{string_bytes}
use Rattle.he_tasks.specs.Directories.{AreFilesOf, NoFiles}
use Rattle.he_tasks.proofs.FilesOf.{one_more}
use Rattle.he_tasks.proofs.directories.files_of.Goals as goal

pub loop-name-init : goal.loop-name-init
loop-name-init g c = subst (λ files. AreFilesOf [] (map string_bytes files)) (sym c.new-files.ensures.items) NoFiles

pub loop-name-preserved : goal.loop-name-preserved
loop-name-preserved g c =
    one_more (λ name. name.now) string_bytes c.args.names.now c.loop-name.name-index _ c.loop-name.files.items
    c.in_ok-own.own.items c.append.new.self.items c.loop-name-test.true c.loop-name.invariant c.in_ok-own.ensures
    (search rules)
