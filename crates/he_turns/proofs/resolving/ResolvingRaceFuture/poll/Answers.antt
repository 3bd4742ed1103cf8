use Rattle.he_turns.specs.OfSource.{ReplaysHeard}
use Rattle.he_turns.specs.Resolving.{HeardAt}
use Rattle.he_turns.proofs.Races.{heard-ends, heard-goes, poll-again, poll-gives, poll-same}
use Rattle.he_turns.proofs.Winning.{heard-aims-on, heard-winner-goes, kept-of}
use Rattle.he_turns.proofs.resolving.ResolvingRaceFuture.poll.Goals as goal

pub returns-clause-value : goal.returns-clause-value
returns-clause-value g c =
    poll-gives g.C.Connector g.C.Run.Trial (λ from live now to step. HeardAt g.S.AnswerSource.hears g.C.Connector g.C.Run.Trial c.args.self.now.source from live now c.poll_hearing.new.source to step) g.T.Ticker (ReplaysHeard g.S.AnswerSource.hears c.args.self.now.source) (ReplaysHeard g.S.AnswerSource.hears c.poll_hearing.new.source) (heard-ends g.S.AnswerSource.hears g.C.Connector g.C.Run.Trial c.args.self.now.source c.poll_hearing.new.source) (heard-goes g.S.AnswerSource.hears g.C.Connector g.C.Run.Trial c.args.self.now.source c.poll_hearing.new.source) (heard-winner-goes g.S.AnswerSource.hears g.C.Connector g.C.Run.Trial c.args.self.now.source c.poll_hearing.new.source) (heard-aims-on g.S.AnswerSource.hears g.C.Connector g.C.Run.Trial c.args.self.now.source c.poll_hearing.new.source) c.args.self.now.race c.poll_hearing.new.self c.poll_hearing.result c.requires c.poll_hearing.ensures.turn

pub returns-clause-again : goal.returns-clause-again
returns-clause-again g c =
    poll-again g.C.Connector g.C.Run.Trial (λ from live now to step. HeardAt g.S.AnswerSource.hears g.C.Connector g.C.Run.Trial c.args.self.now.source from live now c.poll_hearing.new.source to step) g.T.Ticker (ReplaysHeard g.S.AnswerSource.hears c.args.self.now.source) (ReplaysHeard g.S.AnswerSource.hears c.poll_hearing.new.source) (heard-ends g.S.AnswerSource.hears g.C.Connector g.C.Run.Trial c.args.self.now.source c.poll_hearing.new.source) (heard-goes g.S.AnswerSource.hears g.C.Connector g.C.Run.Trial c.args.self.now.source c.poll_hearing.new.source) (heard-winner-goes g.S.AnswerSource.hears g.C.Connector g.C.Run.Trial c.args.self.now.source c.poll_hearing.new.source) (heard-aims-on g.S.AnswerSource.hears g.C.Connector g.C.Run.Trial c.args.self.now.source c.poll_hearing.new.source) c.args.self.now.race c.poll_hearing.new.self c.poll_hearing.result c.requires c.poll_hearing.ensures.turn

pub returns-clause-same : goal.returns-clause-same
returns-clause-same g c =
    poll-same g.C.Connector g.C.Run.Trial (λ from live now to step. HeardAt g.S.AnswerSource.hears g.C.Connector g.C.Run.Trial c.args.self.now.source from live now c.poll_hearing.new.source to step) g.T.Ticker (ReplaysHeard g.S.AnswerSource.hears c.args.self.now.source) (ReplaysHeard g.S.AnswerSource.hears c.poll_hearing.new.source) (heard-ends g.S.AnswerSource.hears g.C.Connector g.C.Run.Trial c.args.self.now.source c.poll_hearing.new.source) (heard-goes g.S.AnswerSource.hears g.C.Connector g.C.Run.Trial c.args.self.now.source c.poll_hearing.new.source) (heard-winner-goes g.S.AnswerSource.hears g.C.Connector g.C.Run.Trial c.args.self.now.source c.poll_hearing.new.source) (heard-aims-on g.S.AnswerSource.hears g.C.Connector g.C.Run.Trial c.args.self.now.source c.poll_hearing.new.source) c.args.self.now.race c.poll_hearing.new.self c.poll_hearing.result c.requires c.poll_hearing.ensures.turn

pub poll_hearing-requires : goal.poll_hearing-requires
poll_hearing-requires g c = kept-of g.C.Connector g.C.Run.Trial c.args.self.now.race.connector c.args.self.now.race.live c.requires
