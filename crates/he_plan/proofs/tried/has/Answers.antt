use Rattle.he_addr.specs.contracts.ip.IpPartialEq.TheImpl.{eq-value}
use Rattle.std.proofs.Common.{◌∙◌}
use Rattle.he_timeline.proofs.Addressed.{found_is}
use Rattle.he_timeline.proofs.ByAddress.{same_as}
use Rattle.he_plan.proofs.tried.has.Goals as goal

pub returns : goal.returns
returns g c = c.contains.ensures ∙ found_is eq-value.it same_as c.args.ip c.args.tried.now.keys
