use Rattle.std.proofs.Common.{rules}
use Rattle.he_command.proofs.Whole.{was_read}
use Rattle.he_command.proofs.port.read_whole.Goals as goal

pub returns : goal.returns
returns g c = was_read g.F.InputStream c.args.file c.take_input.new.input _ _ (search rules) c.in_ok-given.ensures
