use Rattle.std.proofs.Common.{List, refl, ◌∙◌, ap}
use Rattle.std.proofs.lemmas.List.{take_all}
use Rattle.he_addr.specs.contracts.ip.IpPartialEq.TheImpl.{eq-value}
use Rattle.he_plan.specs.declared.attempts.Attempt.{Attempt}
use Rattle.he_plan.specs.Attempts.{is_tried}
use Rattle.he_timeline.proofs.ByAddress.{same_as}
use Rattle.he_plan.proofs.TriedSets.{tried_next}
use Rattle.he_plan.proofs.tried.tried_by.Goals as goal

pub loop-attempt-preserved : goal.loop-attempt-preserved
loop-attempt-preserved g c =
    tried_next eq-value.it same_as c.loop-attempt.tried.keys c.insert.new.self.keys c.args.done.now c.loop-attempt.attempt-index _ _ c.loop-attempt-test.true refl c.loop-attempt.invariant c.in_ok-insert.ensures.keys

pub returns : goal.returns
returns g c = λ ip. c.loop-attempt.invariant ip ∙ ap (λ (l : List Attempt). is_tried l ip) (take_all c.loop-attempt.attempt-index c.args.done.now c.loop-attempt-test.false)
