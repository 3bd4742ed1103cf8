use Rattle.std.proofs.Common.{◌≡◌, rules, subst}
use Rattle.he_turns.specs.OfSource.{IsOfSource, MayGive}
use Rattle.he_timeline.specs.Building.{unrecorded}
use Rattle.he_live.specs.Dials.{goes_to}
use Rattle.he_live.proofs.Records.{gives_heard, winner_at}
use Rattle.he_live.proofs.racing.resolving_race_on.Goals as goal

pub returns-in-Ok-clause-replays : goal.returns-in-Ok-clause-replays
returns-in-Ok-clause-replays g c =
    let reaches = goes_to c.in_ok-race.race.race.connector.to in
    (gives_heard g.S.AnswerSource.hears c.in_ok-race.race.source reaches c.in_ok-race.race.race.live c.args.request.timeline.now c.in-Ok.raced c.in_ok-race.ensures.recorded
    (subst (MayGive g.S.AnswerSource.hears c.in_ok-race.race.source reaches c.in_ok-race.race.race.live) c.in-Ok.is c.in_ok-raced.ensures)).end

pub returns-in-Ok-clause-winner : goal.returns-in-Ok-clause-winner
returns-in-Ok-clause-winner g c =
    let reaches = goes_to c.in_ok-race.race.race.connector.to in
    let same : c.in_ok-race.race.race.connector.to ≡ c.args.request.to = search rules in
    winner_at c.in_ok-race.race.race.connector.to c.args.request.to c.in-Ok.raced same
    (gives_heard g.S.AnswerSource.hears c.in_ok-race.race.source reaches c.in_ok-race.race.race.live c.args.request.timeline.now c.in-Ok.raced c.in_ok-race.ensures.recorded
    (subst (MayGive g.S.AnswerSource.hears c.in_ok-race.race.source reaches c.in_ok-race.race.race.live) c.in-Ok.is c.in_ok-raced.ensures)).winner

pub returns-in-Ok-clause-source : goal.returns-in-Ok-clause-source
returns-in-Ok-clause-source g c =
    let reaches = goes_to c.in_ok-race.race.race.connector.to in
    let same : c.in_ok-race.race.source ≡ c.args.request.source = search rules in
    subst (λ s. IsOfSource g.S.AnswerSource.hears s (unrecorded c.args.request.timeline.now) c.in-Ok.raced.recorded) same
    (gives_heard g.S.AnswerSource.hears c.in_ok-race.race.source reaches c.in_ok-race.race.race.live c.args.request.timeline.now c.in-Ok.raced c.in_ok-race.ensures.recorded
    (subst (MayGive g.S.AnswerSource.hears c.in_ok-race.race.source reaches c.in_ok-race.race.race.live) c.in-Ok.is c.in_ok-raced.ensures)).source
