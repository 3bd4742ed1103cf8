use Rattle.std.proofs.Common.{subst, sym}
use Rattle.std.proofs.lemmas.Bool.{eq-eqb}
use Rattle.he_front.specs.Pages.{IsOwnHost}
use Rattle.he_front.proofs.Authorities.{authority_once}
use Rattle.he_front.proofs.pages.is_own.Goals as goal

pub returns-then-given-port-clause-no : goal.returns-then-given-port-clause-no
returns-then-given-port-clause-no c own =
    let same = authority_once c.args.value.now own.0 c.in-Some.host.now c.args.port c.in-Some.given own.1 c.in-Some.ensures.found in
    c.is_own_host.ensures.no (subst (IsOwnHost c.args.own) same.0 own.2)

pub returns-else-given-port-clause-no : goal.returns-else-given-port-clause-no
returns-else-given-port-clause-no c own =
    let same = authority_once c.args.value.now own.0 c.in-Some.host.now c.args.port c.in-Some.given own.1 c.in-Some.ensures.found in
    eq-eqb c.in-Some.given c.args.port (sym same.1)

pub returns-in-None-clause-no : goal.returns-in-None-clause-no
returns-in-None-clause-no c own = absurd (c.in-None.ensures.none own.0 c.args.port own.1)
