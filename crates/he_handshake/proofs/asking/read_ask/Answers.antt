use Rattle.std.proofs.Common.{IfOk, subst, sym}
use Rattle.he_handshake.specs.Asks.{Asks}
use Rattle.he_handshake.specs.declared.asking.Stage.{Stage}
use Rattle.he_handshake.proofs.asking.read_ask.Goals as goal

pub returns-in-Greeted : goal.returns-in-Greeted
returns-in-Greeted c =
    subst (λ (s : Stage). IfOk c.read_socks.result (Asks c.args.users.now s c.args.octets.now)) (sym c.in-Greeted.is) (c.read_socks.ensures c.args.users.now)

pub returns-in-Admitted : goal.returns-in-Admitted
returns-in-Admitted c =
    subst (λ (s : Stage). IfOk c.read_socks-in-Admitted.result (Asks c.args.users.now s c.args.octets.now)) (sym c.in-Admitted.is)
    (c.read_socks-in-Admitted.ensures c.args.users.now)
