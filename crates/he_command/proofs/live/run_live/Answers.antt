use Rattle.std.proofs.Common.{inl, rules}
use Rattle.he_command.proofs.Files.{of_file, of_input, of_standard}
use Rattle.he_command.proofs.live.run_live.Goals.{in_default-via-in-Some+else-ne, in_default-via-in_default}
use Rattle.he_command.proofs.live.run_live.Goals as goal

pub returns-in-Some : goal.returns-in-Some
returns-in-Some g c =
    inl (of_file _ _ g.O.OutputStream c.args.options.now c.in-Some.path _ _ _ _ _ (search rules) (search rules) c.number_of.ensures.output c.run_file.ensures)

pub returns-in_default : goal.returns-in_default
returns-in_default g c =
    elim c.in_default.branch [
      | in_default-via-in-Some+else-ne w ↦
          inl (of_standard g.I.InputStream _ g.O.OutputStream c.args.options.now w.in-Some.path _ _ _ _ _ _ (search rules) (search rules) c.number_of.ensures.output c.run_recorded.ensures)
      | in_default-via-in_default w ↦
          inl (of_input g.I.InputStream _ g.O.OutputStream c.args.options.now _ _ _ _ _ _ (search rules) c.number_of.ensures.output c.run_recorded.ensures)
    ]
