use Rattle.he_plan.specs.Transcript.{Report}
use Rattle.he_turns.proofs.Ending.{Known, ended-known, ending-ok}
use Rattle.he_turns.proofs.recorder.Recorder.transcript.Goals as goal

pub transcript_at_stop-requires : goal.transcript_at_stop-requires
transcript_at_stop-requires c =
    let w = rw (c.fates-fates.ensures, c.requires.underway.fates) at c.winner.ensures in
    let k : Known c.args.self.now.recorded c.args.self.now.underway.attempts c.requires.ended.0 c.winner.result = ended-known c.args.self.now.recorded c.args.self.now.underway.attempts c.requires.ended.0 c.requires.ended.1 c.winner.result w in
    rw (c.fates-fates.ensures, c.timeline.ensures, c.attempts.ensures, c.requires.underway.fates) k.known

pub returns-clause-ending : goal.returns-clause-ending
returns-clause-ending c =
    let w = rw (c.fates-fates.ensures, c.requires.underway.fates) at c.winner.ensures in
    let e = rw (c.fates-fates.ensures, c.timeline.ensures, c.attempts.ensures, c.requires.underway.fates) at c.transcript_at_stop.ensures.ending in
    ending-ok (λ (t : Report). t.result) c.args.self.now.recorded c.args.self.now.underway.attempts c.winner.result c.transcript_at_stop.result w e
