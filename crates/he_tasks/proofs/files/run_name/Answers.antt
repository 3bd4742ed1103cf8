use Rattle.std.proofs.Common.{◌∙◌, rules}
use Rattle.he_stream.specs.contracts.reader.FromReaderInputStream.TheImpl.{ghosts}
use Rattle.he_tasks.specs.Texts.{RunsOne}
use Rattle.he_tasks.proofs.InTurn.{of_file}
use Rattle.he_tasks.proofs.files.run_name.Goals as goal

pub returns-in-Ok-open : goal.returns-in-Ok-open
returns-in-Ok-open g c =
    of_file (RunsOne {O = g.row.O.Denot} g.O.OutputStream c.args.texts.now) g.I.InputStream (ghosts g.row.R-File g.R.File.Read g.R.File.Read-dict)
    c.args.path c.as_str-shown.result.now _ c.new-file.result c.run_text-status.new.input _ _ _
    (c.as_str-shown.ensures.value ∙ c.in-Ok.ensures) (search rules) c.run_text-status.ensures
