use Rattle.std.proofs.Common.{subst}
use Rattle.he_addr.proofs.TextLaws.{one_address}
use Rattle.he_front.specs.Pages.{IsOwnIp}
use Rattle.he_front.proofs.pages.is_own_address.Goals as goal

pub returns-in-Some-clause-no : goal.returns-in-Some-clause-no
returns-in-Some-clause-no c own =
    c.is_own_ip.ensures.1 (subst (IsOwnIp c.args.own) (one_address c.args.host.now own.0 c.in-Some.ip own.1 c.in-Some.ensures.found) own.2)

pub returns-in-None-clause-no : goal.returns-in-None-clause-no
returns-in-None-clause-no c own = absurd (c.in-None.ensures.none own.0 own.1)
