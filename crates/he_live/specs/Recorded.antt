-- The record lines of a race on real sockets.
use Rattle.std.specs.Prelude.{ℕ, ◌≡◌, List, filter_map, Option, Some, None, option_map}
use Rattle.he_inputs.specs.Recorded.{IsRecordedAs}
use Rattle.he_plan.specs.Transcript.{Report}
use Rattle.he_plan.specs.declared.transcript.Line.{Line}
use Rattle.he_record.specs.declared.reasons.AttemptReason.{AttemptReason}
use Rattle.he_record.specs.declared.reasons.AttemptReason.TheVariants as words
use Rattle.he_recording.specs.Facts.{facts_said}
use Rattle.he_recording.specs.Recorded.{recorded_text}
use Rattle.he_recording.specs.declared.facts.AttemptFailure.{AttemptFailure}
use Rattle.he_recording.specs.declared.facts.Facts.{Facts}
use Rattle.he_timeline.specs.Race.{Race}
use Rattle.he_live.specs.Reasons.{AreFailed}
use Rattle.he_live.specs.declared.failures.FailedAttempt.{FailedAttempt}
use Rattle.he_live.specs.declared.reason.Reason.{Reason}
use Rattle.he_live.specs.declared.reason.Reason.TheVariants as reasons

-- the word of a record line for a reason; a fault of this machine itself is another reason, and a reason that is not
-- known has no word
abbrev pub attempt_reason : Reason → Option AttemptReason
attempt_reason reasons.Refused = Some words.Refused
attempt_reason reasons.Reset = Some words.Reset
attempt_reason reasons.Aborted = Some words.Reset
attempt_reason reasons.TimedOut = Some words.TimedOut
attempt_reason reasons.HostUnreachable = Some words.Unreachable
attempt_reason reasons.NetworkUnreachable = Some words.Unreachable
attempt_reason reasons.NetworkDown = Some words.Unreachable
attempt_reason reasons.AddressNotAvailable = Some words.NoSource
attempt_reason reasons.Prohibited = Some words.Forbidden
attempt_reason reasons.Unknown = None
attempt_reason reason = Some words.Other

-- an attempt at its own address, for its own reason, if that is known
abbrev pub failure_of : FailedAttempt → Option AttemptFailure
failure_of attempt = option_map (λ reason. record { ip = attempt.ip; reason = reason }) (attempt_reason attempt.reason)

-- these are the failed attempts of a transcript, all of them whose reason is known
abbrev pub AreFailures : List Line → List AttemptFailure → Type 0
AreFailures lines failures =
    (failed : List FailedAttempt) × AreFailed lines failed × (failures ≡ filter_map failure_of failed)

-- the text is that of the race and its record, by facts whose attempts are the failed ones of the race's transcript,
-- as far as their reasons are known; it is read as this race with this record
pub record IsRaceRecord (facts : Facts) (recorded : Race) (report : Report) (text : List ℕ) : Type 0 where
  pub attempts : AreFailures report.lines facts.attempts.now
  pub written : text ≡ recorded_text (facts_said facts) recorded
  pub reads : IsRecordedAs text (facts_said facts) recorded
