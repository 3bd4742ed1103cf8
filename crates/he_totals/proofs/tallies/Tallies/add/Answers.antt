use Rattle.std.proofs.Common.{ℕ, ◌++◌, List, map, take, subst}
use Rattle.std.specs.List.{zip}
use Rattle.he_plan.specs.declared.transcript.Line.{Line}
use Rattle.he_totals.specs.Tries.{AreTallies, Try, try_of}
use Rattle.he_totals.proofs.Tallied.{all_lines, line_more}
use Rattle.he_totals.proofs.tallies.Tallies.add.Goals as goal

pub loop-place-preserved : goal.loop-place-preserved
loop-place-preserved g c = λ tries are.
    let before = tries ++ map (try_of c.args.told.now c.args.race.now) (take c.loop-place.place (zip c.args.lines.now c.args.charges.now)) in
    subst (λ (t : List Try). AreTallies t c.add_try.new.self)
    (line_more c.args.told.now c.args.race.now c.args.lines.now c.args.charges.now c.loop-place.place _ _ tries c.loss_of.result c.loop-place-test.true c.requires c.loss_of.ensures)
    (c.in_ok-add_try.ensures before (c.loop-place.invariant tries are))

pub returns : goal.returns
returns g c = λ tries are.
    subst (λ (xs : List (Line × ℕ)). AreTallies (tries ++ map (try_of c.args.told.now c.args.race.now) xs) c.loop-place.self)
    (all_lines c.args.lines.now c.args.charges.now c.loop-place.place c.loop-place-test.false) (c.loop-place.invariant tries are)
