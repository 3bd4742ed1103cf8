use Rattle.std.proofs.Common.{List, subst, sym}
use Rattle.he_plan.specs.declared.transcript.Line.{Line}
use Rattle.he_recording.specs.declared.facts.AttemptFailure.{AttemptFailure}
use Rattle.he_live.specs.Recorded.{AreFailures}
use Rattle.he_connect.proofs.RaceRecords.{texts_of}
use Rattle.he_connect.proofs.racing.write_race.Goals as goal

pub returns : goal.returns
returns c =
    let made : AreFailures c.attempts.result.now c.deref.result.now =
    subst (λ (a : List AttemptFailure). AreFailures c.attempts.result.now a) (sym c.deref.ensures.value) c.in_ok-attempts.ensures in
    let all : AreFailures c.args.raced.now.transcript.lines c.deref.result.now =
    subst (λ (lines : List Line). AreFailures lines c.deref.result.now) c.attempts.ensures made in
    texts_of c.args.notes.by_nat64 c.args.request.now c.args.raced.now.recorded c.args.raced.now.transcript c.target_of-target.result _ c.facts_for-facts.result c.in_ok-record.record
    c.write_texts-texts.result c.target_of-target.ensures.host c.target_of-target.ensures.port c.facts_for-facts.ensures.facts c.facts_for-facts.ensures.attempts all
    c.in_ok-record.ensures c.write_texts-texts.ensures.reads c.write_texts-texts.ensures.text c.write_texts-texts.ensures.story
