use Rattle.std.proofs.Common.{◌≡◌, ◌+◌, arith, length, ap, ◌∙◌}
use Rattle.he_inputs.specs.Inputs.{IsNotOne}
use Rattle.he_inputs.specs.RaceReadingSteps.{not_one}
use Rattle.he_inputs.specs.declared.race_reader.RaceReader.{RaceReader}
use Rattle.he_inputs.proofs.RaceReadingLaws.{err_handed, fault_not_one, has_none, more_behind, none_behind}
use Rattle.he_inputs.proofs.inputs.check_behind.Goals as goal

pub returns-in_err-other-clause-fault : goal.returns-in_err-other-clause-fault
returns-in_err-other-clause-fault g c =
    let before = c.loop-other.invariant in
    let is = rw c.of-ending.ensures at c.in_err-other.ensures.fault in
    err_handed c.from_residual.result (not_one c.in_err-other.field-0.0) (IsNotOne c.args.input.now c.args.is_broken) c.from_residual.ensures
    (fault_not_one c.args.input.now c.args.is_broken before.races c.loop-other.reader c.in_err-other.field-0.0 before.passed before.within.few is)

pub loop-other-preserved : goal.loop-other-preserved
loop-other-preserved g c =
    let passes = rw c.in-Some.is at c.in_ok-other.ensures.found in
    more_behind c.args.input.now c.args.first c.loop-other.reader c.next.new.self c.in-Some.other c.loop-other.invariant c.in_ok-other.ensures.within passes

pub returns-else-reader-eq1-clause-fault : goal.returns-else-reader-eq1-clause-fault
returns-else-reader-eq1-clause-fault g c =
    let before = c.loop-other.invariant in
    let found = rw c.of-ending.ensures at c.in_ok-other.ensures.found in
    let ends = none_behind c.args.input.now c.args.is_broken c.loop-other.reader c.next.new.self c.in_ok-other.field-0 found c.in_default.not-Some in
    let counted : c.loop-other.reader.races ≡ 0 + length before.races = before.passed.counted in
    let same : c.next.new.self ≡ c.loop-other.reader = ends.0 in
    let other : length before.races ≡ 1 → ⊥ = λ one. c.if-reader-eq1.false (ap (λ (w : RaceReader). w.races) same ∙ (let h : c.loop-other.reader.races ≡ 1 = omega arith in h)) in
    (before.races, has_none c.args.input.now c.args.is_broken before.races c.loop-other.reader before.passed before.within.few ends.1, other)
