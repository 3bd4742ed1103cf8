use Rattle.he_turns.specs.Turns.{PolledAt, Replays}
use Rattle.he_turns.proofs.Races.{poll-again, poll-gives, poll-same, polled-ends, polled-goes, polls-as, unheard-at}
use Rattle.he_turns.proofs.Winning.{kept-of, polled-aims-on, polled-winner-goes}
use Rattle.he_turns.proofs.race.RaceFutureFuture.poll.Goals as goal

pub returns-clause-turn : goal.returns-clause-turn
returns-clause-turn g c =
    polls-as _ g.T.Ticker (PolledAt g.C.Connector g.C.Run.Trial) (λ from to live now step h. unheard-at _ g.C.Connector g.C.Run.Trial (λ s family at told left heard. heard.0) _ _ from to live now step h) c.args.self.now _ c.poll_hearing.result c.poll_hearing.ensures.turn

pub returns-clause-value : goal.returns-clause-value
returns-clause-value g c =
    poll-gives g.C.Connector g.C.Run.Trial (PolledAt g.C.Connector g.C.Run.Trial) g.T.Ticker Replays Replays (polled-ends g.C.Connector g.C.Run.Trial) (polled-goes g.C.Connector g.C.Run.Trial) (polled-winner-goes g.C.Connector g.C.Run.Trial) (polled-aims-on g.C.Connector g.C.Run.Trial) c.args.self.now _ c.poll_hearing.result c.requires (returns-clause-turn g c)

pub returns-clause-again : goal.returns-clause-again
returns-clause-again g c =
    poll-again g.C.Connector g.C.Run.Trial (PolledAt g.C.Connector g.C.Run.Trial) g.T.Ticker Replays Replays (polled-ends g.C.Connector g.C.Run.Trial) (polled-goes g.C.Connector g.C.Run.Trial) (polled-winner-goes g.C.Connector g.C.Run.Trial) (polled-aims-on g.C.Connector g.C.Run.Trial) c.args.self.now _ c.poll_hearing.result c.requires (returns-clause-turn g c)

pub returns-clause-same : goal.returns-clause-same
returns-clause-same g c =
    poll-same g.C.Connector g.C.Run.Trial (PolledAt g.C.Connector g.C.Run.Trial) g.T.Ticker Replays Replays (polled-ends g.C.Connector g.C.Run.Trial) (polled-goes g.C.Connector g.C.Run.Trial) (polled-winner-goes g.C.Connector g.C.Run.Trial) (polled-aims-on g.C.Connector g.C.Run.Trial) c.args.self.now _ c.poll_hearing.result c.requires (returns-clause-turn g c)

pub poll_hearing-requires : goal.poll_hearing-requires
poll_hearing-requires g c = kept-of g.C.Connector g.C.Run.Trial c.args.self.now.connector c.args.self.now.live c.requires
