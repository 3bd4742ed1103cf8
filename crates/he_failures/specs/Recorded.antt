-- The record lines of a look-up.
use Rattle.std.specs.Prelude.{ℕ, ◌≡◌, List, [], Option, Some, None}
use Rattle.he_record.specs.declared.moment.Moment.{Moment}
use Rattle.he_record.specs.declared.reasons.LookupReason.{LookupReason}
use Rattle.he_record.specs.Written.{record_text}
use Rattle.he_recording.specs.Facts.{facts_said}
use Rattle.he_recording.specs.declared.facts.Facts.{Facts}
use Rattle.he_recording.specs.declared.facts.ServerFailure.{ServerFailure}
use Rattle.he_settings.specs.declared.fault.NamesFault.{NamesFault}
use Rattle.he_failures.specs.Failures.{failed_servers, lookup_reason}
use Rattle.he_failures.specs.declared.recorded.HeardFaults.{HeardFaults}

abbrev pub fault_reason : Option NamesFault → Option LookupReason
fault_reason None = None
fault_reason (Some fault) = lookup_reason fault

abbrev pub said_text : Facts → List ℕ
said_text facts = record_text (facts_said facts)

-- the facts of a look-up: when it began, why a family has no address, and these servers
pub record IsOfServers (at : Option Moment) (heard : HeardFaults) (servers : List ServerFailure) (facts : Facts) : Type 0
  where
    pub time : facts.at ≡ at
    pub to : facts.to ≡ None
    pub from : facts.from ≡ None
    pub six : facts.six ≡ fault_reason heard.v6
    pub four : facts.four ≡ fault_reason heard.v4
    pub nat64 : facts.nat64.now ≡ []
    pub servers_are : facts.servers.now ≡ servers
    pub attempts : facts.attempts.now ≡ []
    pub end : facts.end ≡ None

-- the text of these facts, with the servers that gave no answer
abbrev pub IsLookupRecord : Option Moment → HeardFaults → List ℕ → Type 0
IsLookupRecord at heard text =
    (facts : Facts) × IsOfServers at heard (failed_servers heard.events.now) facts × (text ≡ said_text facts)
