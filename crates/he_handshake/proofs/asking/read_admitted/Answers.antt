use Rattle.std.proofs.Common.{subst}
use Rattle.he_forward.specs.Requests.{Reads}
use Rattle.he_handshake.proofs.asking.read_admitted.Goals as goal

pub returns-in-Ok-Whole : goal.returns-in-Ok-Whole
returns-in-Ok-Whole c =
    c.ask_of.ensures c.args.users.now c.args.octets.now (subst (λ read. Reads c.args.octets.now read) c.in-Ok-Whole.field-0-is c.in-Ok-Whole.ensures)
    c.requires
