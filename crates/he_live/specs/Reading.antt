-- Mirrors the code: the text, report and result of a run.
use Rattle.std.specs.Prelude.{◌≡◌, ◌++◌}
use Rattle.he_timeline.specs.Race.{Race}
use Rattle.he_plan.specs.Transcript.{Report}
use Rattle.he_write.specs.Written.{transcript_text}
use Rattle.he_live.specs.Live.{IsOwnRecord}
use Rattle.he_live.specs.Reasons.{AreFailed}
use Rattle.he_live.specs.declared.recording.LiveOutput.{LiveOutput}

pub record IsTold (report : Report) (recorded : Race) (run : LiveOutput) : Type 0 where
  pub text : run.text.items ≡ transcript_text report ++ run.report.record.items
  pub record_text : IsOwnRecord recorded report run.report.record.items
  pub failures : AreFailed report.lines run.report.failed.items
  pub ended : run.ended ≡ report.result
