use Rattle.std.proofs.Common.{None, Some}
use Rattle.std.proofs.lemmas.Bool.Decides.{Decides-eqb}
use Rattle.std.proofs.lemmas.Slice.Eq.{strip_prefix_is}
use Rattle.he_proxy_request.proofs.Ports.{found_after, none_after}
use Rattle.he_proxy_request.proofs.listen.port_after.Goals as goal

pub returns-in-Some-clause-some : goal.returns-in-Some-clause-some
returns-in-Some-clause-some c =
    found_after c.args.front.now c.in-Some.digits.now c.args.text.now c.read_port.result
    (strip_prefix_is Decides-eqb c.args.text.now c.args.front.now (Some c.in-Some.digits) c.in-Some.ensures.cases) c.read_port.ensures.some

pub returns-in-Some-clause-none : goal.returns-in-Some-clause-none
returns-in-Some-clause-none c =
    none_after c.args.front.now c.in-Some.digits.now c.args.text.now c.read_port.result
    (strip_prefix_is Decides-eqb c.args.text.now c.args.front.now (Some c.in-Some.digits) c.in-Some.ensures.cases) c.read_port.ensures.none

pub returns-in-None-clause-none : goal.returns-in-None-clause-none
returns-in-None-clause-none c =
    λ port after. strip_prefix_is Decides-eqb c.args.text.now c.args.front.now None c.in-None.ensures.cases after.0 after.1
