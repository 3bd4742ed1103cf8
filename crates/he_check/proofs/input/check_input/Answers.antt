use Rattle.std.proofs.Common.{[], false, sym, ◌∙◌}
use Rattle.he_inputs.specs.RaceReading.{ending_of}
use Rattle.he_check.specs.declared.form.Form.TheVariants.{Lines}
use Rattle.he_check.proofs.Checks.{comes_right, comes_wrong}
use Rattle.he_check.proofs.Counts.{start_at}
use Rattle.he_check.proofs.input.check_input.Goals as goal

pub returns-in-Some-clause-wrong : goal.returns-in-Some-clause-wrong
returns-in-Some-clause-wrong g c =
    let gone = rw c.of.ensures at c.in_ok-go_on.ensures.gone in
    let stopped = rw c.of.ensures at c.in_ok-go_on.ensures.stopped in
    let start = start_at c.new-counted.result false Lines c.new-counted.ensures (ending_of c.args.is_broken) c.args.input.now in
    comes_wrong [] c.args.input.now c.go_on.new.self gone.may.sound c.args.is_broken (gone.on [] start) stopped c.in-Some.fault (sym c.fault.ensures ∙ c.in-Some.is)

pub returns-in_ok-outcome-in-None-clause-right : goal.returns-in_ok-outcome-in-None-clause-right
returns-in_ok-outcome-in-None-clause-right g c =
    let gone = rw c.of.ensures at c.in_ok-go_on.ensures.gone in
    let stopped = rw c.of.ensures at c.in_ok-go_on.ensures.stopped in
    let start = start_at c.new-counted.result false Lines c.new-counted.ensures (ending_of c.args.is_broken) c.args.input.now in
    (comes_right [] c.args.input.now c.go_on.new.self gone.may.sound c.args.is_broken (gone.on [] start) stopped (sym c.fault.ensures ∙ c.in-None.is) _ _ c.in_ok-outcome-in-None.ensures).0

pub returns-in_ok-outcome-in-None-clause-warned : goal.returns-in_ok-outcome-in-None-clause-warned
returns-in_ok-outcome-in-None-clause-warned g c =
    let gone = rw c.of.ensures at c.in_ok-go_on.ensures.gone in
    let stopped = rw c.of.ensures at c.in_ok-go_on.ensures.stopped in
    let start = start_at c.new-counted.result false Lines c.new-counted.ensures (ending_of c.args.is_broken) c.args.input.now in
    (comes_right [] c.args.input.now c.go_on.new.self gone.may.sound c.args.is_broken (gone.on [] start) stopped (sym c.fault.ensures ∙ c.in-None.is) _ _ c.in_ok-outcome-in-None.ensures).1
