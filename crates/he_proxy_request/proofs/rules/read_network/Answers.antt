use Rattle.std.proofs.Common.{inr}
use Rattle.he_proxy_request.proofs.Refusing.{no_network, of_none}
use Rattle.he_proxy_request.proofs.Ruled.{one_address}
use Rattle.he_proxy_request.proofs.rules.read_network.Goals as goal

pub returns-in_ok-read_ip-in-None-clause-some : goal.returns-in_ok-read_ip-in-None-clause-some
returns-in_ok-read_ip-in-None-clause-some c = inr (
  c.in_ok-read_ip-in-None.field-0,
  c.in_ok-read_ip-in-None.ensures.found,
  one_address c.in_ok-read_ip-in-None.field-0 c.mapped.result c.mapped.ensures,
)

pub returns-in_err-read_ip-in-None-clause-none : goal.returns-in_err-read_ip-in-None-clause-none
returns-in_err-read_ip-in-None-clause-none c =
    of_none c.from_residual.result (no_network c.args.text.now c.in-None.ensures.none c.in_err-read_ip-in-None.ensures.none)
