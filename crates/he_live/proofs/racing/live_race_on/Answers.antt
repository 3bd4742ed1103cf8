use Rattle.std.proofs.Common.{◌≡◌, rules, subst}
use Rattle.he_turns.specs.Turns.{GivesOf}
use Rattle.he_live.specs.Dials.{at_port, goes_to}
use Rattle.he_live.proofs.Records.{gives_record, winner_at}
use Rattle.he_live.proofs.racing.live_race_on.Goals as goal

pub returns-in-Ok-clause-replays : goal.returns-in-Ok-clause-replays
returns-in-Ok-clause-replays g c =
    (gives_record (goes_to c.in_ok-race.race.connector.to) c.in_ok-race.race.live c.args.timeline.now c.in-Ok.raced c.in_ok-race.ensures.recorded
    (subst (GivesOf (goes_to c.in_ok-race.race.connector.to) c.in_ok-race.race.live) c.in-Ok.is c.in_ok-raced.ensures)).end

pub returns-in-Ok-clause-winner : goal.returns-in-Ok-clause-winner
returns-in-Ok-clause-winner g c =
    let same : c.in_ok-race.race.connector.to ≡ (at_port c.args.port) = search rules in
    winner_at c.in_ok-race.race.connector.to (at_port c.args.port) c.in-Ok.raced same
    (gives_record (goes_to c.in_ok-race.race.connector.to) c.in_ok-race.race.live c.args.timeline.now c.in-Ok.raced c.in_ok-race.ensures.recorded
    (subst (GivesOf (goes_to c.in_ok-race.race.connector.to) c.in_ok-race.race.live) c.in-Ok.is c.in_ok-raced.ensures)).winner
