use Rattle.he_command.proofs.Rounds.{HasRun}
use Rattle.he_command.proofs.probe.run_rounds.Given as goal

abbrev pub invariant-loop-done : goal.invariant-loop-done
invariant-loop-done g l = record {
  run : HasRun g.O.OutputStream l.probe l.request l.done l.status l.initial.session.output l.session.output;
}
