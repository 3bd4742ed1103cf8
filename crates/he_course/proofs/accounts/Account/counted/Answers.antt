use Rattle.std.proofs.Common.{◌≡◌, ◌+◌, ◌≤◌, ◌∙◌, length, take, arith, ap, sym, subst}
use Rattle.std.proofs.lemmas.List.{length-take, length-take-le}
use Rattle.he_addr.specs.declared.ip.Ip.TheVariants.{V4}
use Rattle.he_plan.specs.declared.transcript.Line.{Line}
use Rattle.he_plan.specs.declared.transcript.Mark.TheVariants as marks
use Rattle.he_course.specs.Accounts.{end_of, owner_at, stage_of, started_by}
use Rattle.he_course.specs.Amounts.{HasGained, amount_of}
use Rattle.he_course.specs.Events.{end_event}
use Rattle.he_course.specs.Owners.{IsOwner, owner_in, ticks_of}
use Rattle.he_course.proofs.AccountLaws.{account_balance, gained_more, has_at_most, owner_here, passed_more, stage_valid, started_here, started_last}
use Rattle.he_course.proofs.accounts.Account.counted.Goals as goal

-- what the list has past its end
abbrev none : Line
none = record { place = 0; tick = 0; ip = V4 0; mark = marks.Won 0 }

pub add_stage-at-requires-clause-valid : goal.add_stage-at-requires-clause-valid
add_stage-at-requires-clause-valid g c =
    let before = c.loop-line.invariant in
    let few : length c.loop-line.started.lines.now ≤ length c.loop-line.account.tried.items =
    omega (arith, ap length before.first, length-take c.loop-line.line-index c.attempts-lines.result.now, before.as_many) in
    subst (λ stage. IsOwner (length c.loop-line.account.tried.items) stage.owner) (sym {b = stage_of c.args.timeline.now c.args.transcript.now c.args.untried.now c.loop-line.started.lines.now} c.stage-stage.ensures)
    (stage_valid c.args.timeline.now c.args.transcript.now c.args.untried.now c.loop-line.started.lines.now
    (length c.loop-line.account.tried.items) few)

pub add_stage-at-requires-clause-room : goal.add_stage-at-requires-clause-room
add_stage-at-requires-clause-room g c =
    has_at_most (owner_at c.args.timeline.now c.args.transcript.now c.args.untried.now) c.loop-line.at
    (length c.attempts-lines.result.now) c.loop-line.account c.loop-line.invariant.as_many c.loop-line.invariant.each

pub loop-line-preserved : goal.loop-line-preserved
loop-line-preserved g c =
    let before = c.loop-line.invariant in
    let lines = c.attempts-lines.result.now in
    let i = c.loop-line.line-index in
    let within = c.loop-line-test.true in
    let here : length c.loop-line.started.lines.now ≡ i =
    ap length before.first ∙ length-take-le i lines (omega arith) in
    record {
      started = c.more-started.ensures.made;
      first = c.more-started.ensures.lines ∙ ap (λ n. take (n + 1) lines) here;
      within = omega arith;
      passed = λ t from until.
          passed_more lines i none t within (omega arith) (before.passed t (omega arith) until);
      as_many = c.add_stage-at.ensures.amounts.as_many ∙ before.as_many;
      each = λ who valid.
          gained_more (owner_in c.pauses.result.now c.stage-stage.result)
          (owner_at c.args.timeline.now c.args.transcript.now c.args.untried.now) c.loop-line.at c.add_stage-at.result
          c.loop-line.account c.add_stage-at.new.self who (omega arith) c.add_stage-at.ensures.amounts
          (subst (λ n. IsOwner n who) (sym before.as_many) valid)
          (λ t from until.
          let now = started_here lines i none t within (omega arith) (before.passed t from (omega arith)) in
          let all : started_by t c.args.transcript.now.lines ≡ c.loop-line.started.lines.now =
          ap (started_by t) (sym c.attempts-lines.ensures) ∙ now ∙ sym before.first in
          rw (c.stage-stage.ensures, c.pauses.ensures.value)
          (owner_here c.args.timeline.now c.args.transcript.now c.args.untried.now c.loop-line.started.lines.now t all))
          (before.each who valid);
    }

pub add_stage-requires-clause-valid : goal.add_stage-requires-clause-valid
add_stage-requires-clause-valid g c =
    let before = c.loop-line.invariant in
    let few : length c.loop-line.started.lines.now ≤ length c.loop-line.account.tried.items =
    omega (arith, ap length before.first, length-take c.loop-line.line-index c.attempts-lines.result.now, before.as_many) in
    subst (λ stage. IsOwner (length c.loop-line.account.tried.items) stage.owner) (sym {b = stage_of c.args.timeline.now c.args.transcript.now c.args.untried.now c.loop-line.started.lines.now} c.stage-stage-2.ensures)
    (stage_valid c.args.timeline.now c.args.transcript.now c.args.untried.now c.loop-line.started.lines.now
    (length c.loop-line.account.tried.items) few)

pub add_stage-requires-clause-room : goal.add_stage-requires-clause-room
add_stage-requires-clause-room g c =
    has_at_most (owner_at c.args.timeline.now c.args.transcript.now c.args.untried.now) c.loop-line.at
    (length c.attempts-lines.result.now) c.loop-line.account c.loop-line.invariant.as_many c.loop-line.invariant.each

pub returns-clause-account : goal.returns-clause-account
returns-clause-account g c =
    let before = c.loop-line.invariant in
    let lines = c.attempts-lines.result.now in
    let i = c.loop-line.line-index in
    let past : length lines ≤ i = c.loop-line-test.false in
    let owner = owner_at c.args.timeline.now c.args.transcript.now c.args.untried.now in
    let whole : c.add_stage.result ≡ c.end_tick-end.result = omega arith in
    let end : c.end_tick-end.result ≡ end_of c.args.transcript.now =
    c.end_tick-end.ensures ∙ ap (λ result. (end_event result).tick) c.result.ensures in
    let as_lines : length lines ≡ length c.args.transcript.now.lines = ap length c.attempts-lines.ensures in
    record {
      as_many = c.add_stage.ensures.amounts.as_many ∙ before.as_many ∙ as_lines;
      each = λ who valid.
          let own = subst (λ n. IsOwner n who) (sym as_lines) valid in
          let all : amount_of c.add_stage.new.self who ≡ ticks_of owner c.end_tick-end.result who = gained_more (owner_in c.pauses-2.result.now c.stage-stage-2.result) owner c.loop-line.at
          c.end_tick-end.result c.loop-line.account c.add_stage.new.self who before.within
          (subst (λ n. HasGained (owner_in c.pauses-2.result.now c.stage-stage-2.result) c.loop-line.at n
          c.loop-line.account c.add_stage.new.self) whole c.add_stage.ensures.amounts)
          (subst (λ n. IsOwner n who) (sym before.as_many) own)
          (λ t from until.
          let now = started_last lines i t past (before.passed t from until) in
          let started : started_by t c.args.transcript.now.lines ≡ c.loop-line.started.lines.now =
          ap (started_by t) (sym c.attempts-lines.ensures) ∙ now ∙ sym before.first in
          rw (c.stage-stage-2.ensures, c.pauses-2.ensures.value)
          (owner_here c.args.timeline.now c.args.transcript.now c.args.untried.now c.loop-line.started.lines.now t started))
          (before.each who own) in
          all ∙ ap (λ n. ticks_of owner n who) end;
    }

pub returns-clause-fits : goal.returns-clause-fits
returns-clause-fits g c =
    let end : c.end_tick-end.result ≡ end_of c.args.transcript.now =
    c.end_tick-end.ensures ∙ ap (λ result. (end_event result).tick) c.result.ensures in
    let whole = account_balance c.args.timeline.now c.args.transcript.now c.args.untried.now c.add_stage.new.self
    (returns-clause-account g c) in
    let range = c.end_tick-end.type_inv in
    omega arith
