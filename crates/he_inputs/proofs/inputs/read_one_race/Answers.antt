use Rattle.std.proofs.Common.{[], arith}
use Rattle.he_inputs.specs.Inputs.{IsNotOne}
use Rattle.he_inputs.specs.RaceReadingSteps.{not_one}
use Rattle.he_inputs.proofs.RaceReadingLaws.{err_handed, fault_not_one, first_passed, none_passed}
use Rattle.he_inputs.proofs.inputs.read_one_race.Goals as goal

pub returns-in_err-race-clause-fault : goal.returns-in_err-race-clause-fault
returns-in_err-race-clause-fault g c =
    let is = rw c.of.ensures at c.in_err-race.ensures.fault in
    err_handed c.from_residual.result (not_one c.in_err-race.field-0.0) (IsNotOne c.args.input.now c.args.is_broken) c.from_residual.ensures
    (fault_not_one c.args.input.now c.args.is_broken [] _ c.in_err-race.field-0.0 (none_passed c.args.input.now 0 0) (omega arith) is)

pub check_behind-requires : goal.check_behind-requires
check_behind-requires g c =
    let passes = rw c.in-Some.is at c.in_ok-race.ensures.found in
    (first_passed c.args.input.now c.next.new.self c.in-Some.race c.in_ok-race.ensures.within passes).1
