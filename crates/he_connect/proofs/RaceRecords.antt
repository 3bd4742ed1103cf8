-- The record of a race that was run.
use Rattle.std.proofs.Common.{◌≡◌, ℕ, Bool, List, ◌∙◌, ap, subst, sym}
use Rattle.std.specs.Borrow.{Bor}
use Rattle.std.specs.Prelude.{Result, Ok, Err, IfOk}
use Rattle.he_inputs.specs.Recorded.{IsRecordedAs}
use Rattle.he_live.specs.Recorded.{AreFailures}
use Rattle.he_plan.specs.Transcript.{Report}
use Rattle.he_record.specs.Said.{Said}
use Rattle.he_recording.specs.Facts.{facts_said}
use Rattle.he_recording.specs.Recorded.{recorded_text}
use Rattle.he_recording.specs.declared.facts.AttemptFailure.{AttemptFailure}
use Rattle.he_recording.specs.declared.facts.Facts.{Facts}
use Rattle.he_recording.specs.declared.facts.Target.{Target}
use Rattle.he_timeline.specs.Race.{Race}
use Rattle.he_setup.specs.Recorded.{IsFactsFor}
use Rattle.he_connect.specs.Recorded.{AreTextsOf, IsExplained}
use Rattle.he_setup.specs.declared.fault.ConnectFault.{ConnectFault}
use Rattle.he_connect.specs.declared.racing.RecordTexts.{RecordTexts}
use Rattle.he_setup.specs.declared.recorded.KnownFacts.{KnownFacts}
use Rattle.he_setup.specs.declared.request.ConnectRequest.{ConnectRequest}

pub texts_of : (by_nat64 : Bool) (request : ConnectRequest) (race : Race) (report : Report) (target : Target) (known : KnownFacts) (facts : Facts) (said : List Said)
    (result : Result RecordTexts ConnectFault)
    → target.host.now ≡ request.host.now → target.port ≡ request.port → IsFactsFor by_nat64 target request.families race known facts → facts.attempts ≡ known.attempts
    → AreFailures report.lines known.attempts.now → said ≡ facts_said facts
    → IsRecordedAs (recorded_text said race) said race
    → IfOk result (λ texts. texts.text.items ≡ recorded_text said race)
    → IfOk result (λ texts. IsExplained request.explains said race texts.story.items)
    → IfOk result (λ texts. AreTextsOf by_nat64 request race report texts.text.items texts.story.items)
texts_of by_nat64 request race report target known facts said (Ok texts) host port of own failures same reads written explained =
    let text : texts.text.items ≡ recorded_text (facts_said facts) race =
    written ∙ ap (λ (s : List Said). recorded_text s race) same in
    record {
      written = record {
        target = target;
        host = host;
        port = port;
        known = known;
        facts = facts;
        of_race = of;
        is = record {
          attempts = subst (λ (a : Bor (List AttemptFailure)). AreFailures report.lines a.now) (sym own) failures;
          written = text;
          reads = subst (λ (bytes : List ℕ). IsRecordedAs bytes (facts_said facts) race) (sym text)
              (subst (λ (s : List Said). IsRecordedAs (recorded_text s race) s race) same reads);
        };
      };
      explained = subst (λ (s : List Said). IsExplained request.explains s race texts.story.items) same explained;
    }
texts_of by_nat64 request race report target known facts said (Err fault) host port of own failures same reads written explained = tt
