use Rattle.std.proofs.Common.{subst}
use Rattle.he_race.specs.Wheel.{Jumps, Wheel}
use Rattle.he_race.proofs.Driven.{gives-script, goes-further, went-by}
use Rattle.he_race.proofs.one.advance.Goals as goal

pub returns-in-Ready-clause-given : goal.returns-in-Ready-clause-given
returns-in-Ready-clause-given g c =
    gives-script g.C.Connector c.requires.0 c.args.race.now c.poll_once.new.race c.in-Ready.given c.requires.1 c.in-Ready.ensures

pub returns-in-Pending-clause-script : goal.returns-in-Pending-clause-script
returns-in-Pending-clause-script g c =
    let went = went-by c.ticker_mut.result.now c.jump.new.self c.jump.result c.jump.ensures.never_fails c.jump.ensures.goes in
    let jumps : Jumps c.poll_once.new.race.ticker went.0 c.jump.new.self = subst (λ (w : Wheel). Jumps w went.0 c.jump.new.self) c.ticker_mut.ensures.value went.1 in
    (goes-further g.C.Connector c.requires.0 c.args.race.now c.poll_once.new.race c.jump.new.self went.0 c.requires.1 c.in-Pending.ensures jumps).1

pub returns-in-Pending-clause-further : goal.returns-in-Pending-clause-further
returns-in-Pending-clause-further g c = λ turns u.
    let went = went-by c.ticker_mut.result.now c.jump.new.self c.jump.result c.jump.ensures.never_fails c.jump.ensures.goes in
    let jumps : Jumps c.poll_once.new.race.ticker went.0 c.jump.new.self = subst (λ (w : Wheel). Jumps w went.0 c.jump.new.self) c.ticker_mut.ensures.value went.1 in
    (goes-further g.C.Connector turns c.args.race.now c.poll_once.new.race c.jump.new.self went.0 u c.in-Pending.ensures jumps).0
