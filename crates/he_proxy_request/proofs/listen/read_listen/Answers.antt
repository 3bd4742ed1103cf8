use Rattle.std.proofs.Common.{codes}
use Rattle.he_proxy_request.proofs.Ports.{none_with}
use Rattle.he_proxy_request.proofs.listen.read_listen.Goals as goal

pub returns-in-None-read_address-clause-none : goal.returns-in-None-read_address-clause-none
returns-in-None-read_address-clause-none c = record {
  address = c.in-None-read_address.ensures.none;
  loopback = c.in-None.ensures.none;
  all = none_with c.as_slice.result.now (codes ":") c.args.text.now c.as_slice.ensures c.in-None-port_after.ensures.none;
}
