use Rattle.std.proofs.Common.{List, refl, subst, sym}
use Rattle.he_plan.specs.declared.transcript.Line.{Line}
use Rattle.he_recording.specs.declared.facts.AttemptFailure.{AttemptFailure}
use Rattle.he_live.specs.Recorded.{AreFailures}
use Rattle.he_proxy.proofs.Recorded.{record_of}
use Rattle.he_proxy.proofs.keeping.Keeping.text_of.Goals as goal

pub returns : goal.returns
returns g c =
    let made : AreFailures c.attempts.result.now c.deref-3.result.now =
    subst (λ (a : List AttemptFailure). AreFailures c.attempts.result.now a) (sym c.deref-3.ensures.value) c.in_ok-attempts.ensures in
    let all : AreFailures c.args.transcript.now.lines c.deref-3.result.now =
    subst (λ (lines : List Line). AreFailures lines c.deref-3.result.now) c.attempts.ensures made in
    record_of c.args.self.now c.args.given_up c.args.recorded.now c.args.transcript.now _ c.facts_of-facts.result c.is_by_nat64-by_nat64.result c.text_of.result
    refl c.is_by_nat64-by_nat64.ensures c.facts_of-facts.ensures all c.text_of.ensures.text c.text_of.ensures.reads
