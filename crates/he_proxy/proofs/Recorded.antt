-- The record of a session's race.
use Rattle.std.proofs.Common.{◌≡◌, ℕ, Bool, true, List, subst, sym}
use Rattle.std.specs.Borrow.{Bor}
use Rattle.std.specs.Global.{Vec}
use Rattle.std.specs.Prelude.{Option, Result, Ok, Err, IfOk}
use Rattle.he_inputs.specs.Recorded.{IsRecordedAs}
use Rattle.he_setup.specs.declared.recorded.KnownFacts.{KnownFacts}
use Rattle.he_live.specs.Recorded.{AreFailures}
use Rattle.he_plan.specs.Transcript.{Report}
use Rattle.he_recording.specs.Facts.{facts_said}
use Rattle.he_recording.specs.Recorded.{recorded_text}
use Rattle.he_recording.specs.declared.facts.AttemptFailure.{AttemptFailure}
use Rattle.he_recording.specs.declared.facts.Facts.{Facts}
use Rattle.he_timeline.specs.Race.{Race}
use Rattle.he_proxy.specs.Recorded.{IsRecordOf, IsSessionFacts}
use Rattle.he_proxy.specs.declared.keeping.Keeping.{Keeping}

pub record_of : {R E : Type 0} (session : Keeping R) (given_up : Option ℕ) (race : Race) (report : Report) (known : KnownFacts) (facts : Facts)
    (by_nat64 : Bool) (result : Result (Vec ℕ) E) → known.at ≡ session.at → (by_nat64 ≡ true → session.embeds ≡ true)
    → IsSessionFacts session by_nat64 given_up race known facts
    → AreFailures report.lines known.attempts.now
    → IfOk result (λ text. text.items ≡ recorded_text (facts_said facts) race)
    → IfOk result (λ text. IsRecordedAs text.items (facts_said facts) race)
    → IfOk result (λ text. IsRecordOf session given_up race report text.items)
record_of session given_up race report known facts by_nat64 (Ok text) at only of failures written reads = record {
  known = known;
  at = at;
  facts = facts;
  by_nat64 = by_nat64;
  only = only;
  of_session = of;
  is = record {
    attempts = subst (λ (a : Bor (List AttemptFailure)). AreFailures report.lines a.now) (sym of.attempts) failures;
    written = written;
    reads = reads;
  };
}
record_of session given_up race report known facts by_nat64 (Err fault) at only of failures written reads = tt
