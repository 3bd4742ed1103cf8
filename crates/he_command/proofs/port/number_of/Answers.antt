use Rattle.std.proofs.Common.{rules}
use Rattle.he_command.proofs.Service.{has_port, lacks_port}
use Rattle.he_command.proofs.port.number_of.Goals as goal

pub returns-in-Ok-read_port-clause-number : goal.returns-in-Ok-read_port-clause-number
returns-in-Ok-read_port-clause-number g c =
    has_port _ c.args.port c.in-Service.name c.in-Ok.services.items _ _ _ (search rules) c.deref.ensures.value c.as_bytes.ensures.value c.in-Ok.ensures c.in-Ok-read_port.ensures.port

pub returns-in-Err-Unknown-clause-status : goal.returns-in-Err-Unknown-clause-status
returns-in-Err-Unknown-clause-status g c =
    lacks_port _ c.args.port c.in-Service.name c.in-Ok.services.items _ _ c.in-Err-Unknown.field-0 _ (search rules) c.deref.ensures.value c.as_bytes.ensures.value (search rules) (search rules) c.in-Ok.ensures c.in-Err-Unknown.ensures.fault
