-- The rows of a round.
use Rattle.std.specs.Prelude.{Bool, true, false, not, if◌then◌else◌, List, filter_map, Option, Some, None, option_map}
use Rattle.he_addr.specs.declared.ip.Ip.{Ip}
use Rattle.he_course.specs.declared.addresses.Preferred.{Preferred}
use Rattle.he_live.specs.Recorded.{attempt_reason}
use Rattle.he_probe.specs.declared.probe.ProbeRow.{ProbeRow}
use Rattle.he_recording.specs.declared.facts.AttemptFailure.{AttemptFailure}
use Rattle.he_timeline.specs.declared.outcome.Outcome.{Outcome}
use Rattle.he_timeline.specs.declared.outcome.Outcome.TheVariants as outcomes
use Rattle.he_probing.specs.declared.rows.AddressRow.{AddressRow}

abbrev pub is_connection : Option Outcome → Bool
is_connection None = false
is_connection (Some (outcomes.Ok duration)) = true
is_connection (Some (outcomes.Fail duration)) = false

abbrev pub has_connected : AddressRow → Bool
has_connected row = is_connection row.outcome

-- the address failed, or had no answer in its time
abbrev pub has_failed : AddressRow → Bool
has_failed row = not (has_connected row)

abbrev pub ip_of : AddressRow → Ip
ip_of row = row.ip

-- the probe that the row reports
abbrev pub probe_of : AddressRow → ProbeRow
probe_of row = record { ip = row.ip; outcome = row.outcome }

abbrev pub preferred_ip : Preferred → Ip
preferred_ip one = one.attributes.ip

-- the attempt failed; one without an answer did not
abbrev pub is_failure : Option Outcome → Bool
is_failure None = false
is_failure (Some (outcomes.Ok duration)) = false
is_failure (Some (outcomes.Fail duration)) = true

abbrev pub is_failed_attempt : AddressRow → Bool
is_failed_attempt row = is_failure row.outcome

-- the attempt at the row's address, for the row's reason, if it failed and its reason is known
abbrev pub failure_of : AddressRow → Option AttemptFailure
failure_of row =
    if is_failed_attempt row
    then option_map (λ reason. record { ip = row.ip; reason = reason }) (attempt_reason row.reason)
    else None

-- the failed attempts of the rows whose reason is known, each once, and no other
abbrev pub failures_of : List AddressRow → List AttemptFailure
failures_of rows = filter_map failure_of rows
