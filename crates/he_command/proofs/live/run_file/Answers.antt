use Rattle.std.proofs.Common.{inl}
use Rattle.he_command.proofs.live.run_file.Goals as goal

pub returns-in-Ok : goal.returns-in-Ok
returns-in-Ok g c = inl (c.new-file.result, c.run_recorded-status.new.input, c.run_recorded-status.ensures)
