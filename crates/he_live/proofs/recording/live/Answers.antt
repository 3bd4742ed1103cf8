use Rattle.std.proofs.Common.{refl}
use Rattle.he_live.proofs.Running.{gives_text, run_failed}
use Rattle.he_live.proofs.recording.live.Goals as goal

pub returns-in_err-run-clause-done : goal.returns-in_err-run-clause-done
returns-in_err-run-clause-done g c =
    run_failed _ _ _ _ _ c.args.changes c.in_ok-take_one_race.field-0 _ c.from_residual-in_err-run.result c.in_err-run.field-0.0 c.from_residual-in_err-run.ensures c.in_err-run.ensures.fault c.in_ok-take_one_race.ensures refl

pub returns-in-Ok-clause-done : goal.returns-in-Ok-clause-done
returns-in-Ok-clause-done g c = (
  c.as_slice.result.now,
  gives_text _ c.args.changes c.in_ok-take_one_race.field-0 c.with_changes-timeline.result c.in_ok-run.run' _ c.as_slice.ensures.value c.in_ok-take_one_race.ensures c.with_changes-timeline.ensures c.in_ok-run.ensures.run,
  c.in-Ok.ensures.ok,
)

pub returns-clause-done : goal.returns-clause-done
returns-clause-done g c = (
  c.as_slice.result.now,
  c.in_ok-run.run'.ended,
  gives_text _ c.args.changes c.in_ok-take_one_race.field-0 c.with_changes-timeline.result c.in_ok-run.run' _ c.as_slice.ensures.value c.in_ok-take_one_race.ensures c.with_changes-timeline.ensures c.in_ok-run.ensures.run,
  c.in-Err.ensures.err,
)
