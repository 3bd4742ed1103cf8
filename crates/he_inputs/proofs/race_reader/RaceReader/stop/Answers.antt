use Rattle.std.proofs.Common.{◌≡◌, ◌+◌, ◌≤◌, arith, length, refl}
use Rattle.he_inputs.specs.Beginnings.{MayChange}
use Rattle.he_inputs.specs.RaceReadingSteps.{IsWrong}
use Rattle.he_words.specs.declared.fault.TextKind.TheVariants as kinds
use Rattle.he_inputs.specs.declared.race_reader.Ending.TheVariants as endings
use Rattle.he_inputs.proofs.RaceReadingLaws.{fault_stops, line_small, race_goes_on}
use Rattle.he_inputs.proofs.race_reader.RaceReader.stop.Goals as goal
use Rattle.he_inputs.proofs.race_reader.RaceReader.stop.Goals.{in_default-ending-2-via-in-Open+else-may_change, in_default-ending-2-via-in_default-ending-2}

pub fault_behind-requires : goal.fault_behind-requires
fault_behind-requires g c =
    let wrong : IsWrong c.args.self.races c.args.rest.now c.in-Some.fault = rw c.in-Some.is at c.requires.wrong in
    let small = line_small c.args.rest.now c.in-Some.fault.line wrong.line in
    let room : c.args.self.lines + length c.args.rest.now ≤ 9223372036854775808 = c.requires.within.room in
    omega (arith, small, room)

pub returns-in-Open-clause-found : goal.returns-in-Open-clause-found
returns-in-Open-clause-found g c =
    let wrong : IsWrong c.args.self.races c.args.rest.now c.in-Some.fault = rw c.in-Some.is at c.requires.wrong in
    let goes_on = race_goes_on c.args.self.races c.args.rest.now c.in-Some.fault wrong (c.may_change.ensures.0 c.if-may_change.true) in
    (refl, rw c.in-Open.is goes_on)

pub returns-in_default-ending-2-clause-fault : goal.returns-in_default-ending-2-clause-fault
returns-in_default-ending-2-clause-fault g c = λ more is_broken follows.
    let wrong : IsWrong c.args.self.races c.args.rest.now c.in-Some.fault = rw c.in-Some.is at c.requires.wrong in
    let other : c.in-Some.fault.kind ≡ kinds.Memory → ⊥ = c.in_default-kind.not-Memory in
    let stays : c.args.ending ≡ endings.Open → MayChange c.args.rest.now c.in-Some.fault.line c.in-Some.fault.kind → ⊥ = λ is may.
    elim c.in_default-ending-2.branch [
      | in_default-ending-2-via-in-Open+else-may_change w ↦ let told = w.may_change.ensures.1 may in let not = w.if-may_change.false in cc
      | in_default-ending-2-via-in_default-ending-2 w ↦ w.in_default-ending-2.not-Open is
    ] in
    rw c.fault_behind.ensures (fault_stops c.faults_stand.ensures c.args.ending c.args.self.races c.args.self.lines c.args.rest.now c.in-Some.fault wrong other stays more is_broken follows)
