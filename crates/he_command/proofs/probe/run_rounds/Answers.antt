use Rattle.std.proofs.Common.{ℕ, ◌+◌, ◌≤◌, arith, inl, refl}
use Rattle.he_command.specs.Probes.{most_rounds}
use Rattle.he_command.proofs.Rounds.{HasRun, broken-off, went-on}
use Rattle.he_command.proofs.probe.run_rounds.Goals as goal

pub returns-in-Err : goal.returns-in-Err
returns-in-Err g c =
    let most : c.loop-done.done ≤ most_rounds c.args.probe.now.rounds = omega (arith, c.loop-done-test.true, c.most_rounds-done-end.ensures) in
    broken-off g.O.OutputStream c.args.probe.now c.args.request.now c.loop-done.done c.loop-done.status c.args.session.now.output c.loop-done.session.output c.next_round.new.session.output c.in-Err.fault c.loop-done.invariant.run most c.in-Err.ensures.err

pub returns-then-is_err : goal.returns-then-is_err
returns-then-is_err g c =
    let most : c.loop-done.done + 1 ≤ most_rounds c.args.probe.now.rounds = omega (arith, c.loop-done-test.true, c.most_rounds-done-end.ensures) in
    broken-off g.O.OutputStream c.args.probe.now c.args.request.now (c.loop-done.done + 1) c.worse-status.result c.args.session.now.output c.end_round.new.session.output c.end_round.new.session.output c.report.result
    (went-on g.O.OutputStream c.args.probe.now c.args.request.now c.loop-done.done c.loop-done.status c.args.session.now.output c.loop-done.session.output c.next_round.new.session.output c.end_round.new.session.output c.in-Ok.round c.end_round.result c.worse-status.result c.loop-done.invariant.run c.in-Ok.ensures.ok c.end_round.ensures.status c.worse-status.ensures c.end_round.ensures.output)
    most (c.report.ensures, inl refl)

pub loop-done-preserved : goal.loop-done-preserved
loop-done-preserved g c = record {
  run = went-on g.O.OutputStream c.args.probe.now c.args.request.now c.loop-done.done c.loop-done.status c.args.session.now.output c.loop-done.session.output c.next_round.new.session.output c.end_round.new.session.output c.in-Ok.round c.end_round.result c.worse-status.result c.loop-done.invariant.run c.in-Ok.ensures.ok c.end_round.ensures.status c.worse-status.ensures c.end_round.ensures.output;
}
