use Rattle.std.proofs.Common.{List, subst, sym}
use Rattle.std.specs.Borrow.{Bor}
use Rattle.he_plan.specs.declared.transcript.Line.{Line}
use Rattle.he_recording.specs.declared.facts.AttemptFailure.{AttemptFailure}
use Rattle.he_live.specs.Recorded.{AreFailures}
use Rattle.he_live.proofs.recording.own_record.Goals as goal

pub returns-clause-text : goal.returns-clause-text
returns-clause-text c =
    let made : AreFailures c.attempts.result.now c.deref.result.now =
    subst (λ (a : List AttemptFailure). AreFailures c.attempts.result.now a) (sym c.deref.ensures.value) c.in_ok-attempts.ensures in
    let all : AreFailures c.args.raced.now.transcript.lines c.deref.result.now =
    subst (λ (lines : List Line). AreFailures lines c.deref.result.now) c.attempts.ensures made in (
      c.own_facts-facts.result,
      c.own_facts-facts.ensures.own,
      record {
        attempts = subst (λ (a : Bor (List AttemptFailure)). AreFailures c.args.raced.now.transcript.lines a.now) (sym c.own_facts-facts.ensures.attempts) all;
        written = c.in_ok-text.ensures.text;
        reads = c.in_ok-text.ensures.reads;
      },
    )
