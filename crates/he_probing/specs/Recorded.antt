-- The record of a round: the answers of the host, and the outcome of each address.
use Rattle.std.specs.Prelude.{ℕ, ◌≡◌, Bool, List, [], ◌∷◌, Option, Some, None, Result, Ok, Err}
use Rattle.he_setup.specs.Recorded.{IsFactsFor}
use Rattle.he_setup.specs.declared.recorded.KnownFacts.{KnownFacts}
use Rattle.he_setup.specs.declared.request.ConnectRequest.{ConnectRequest}
use Rattle.he_inputs.specs.Recorded.{IsRecordedAs}
use Rattle.he_probe.specs.declared.probe.ProbeRow.{ProbeRow}
use Rattle.he_probing.specs.Rows.{failures_of}
use Rattle.he_probing.specs.declared.rows.AddressRow.{AddressRow}
use Rattle.he_recording.specs.Facts.{facts_said}
use Rattle.he_recording.specs.Recorded.{recorded_text}
use Rattle.he_recording.specs.declared.facts.Facts.{Facts}
use Rattle.he_recording.specs.declared.facts.Target.{Target}
use Rattle.he_timeline.specs.Building.{add_outcome}
use Rattle.he_timeline.specs.Race.{Race}
use Rattle.he_timeline.specs.declared.builder.BuildFault.{BuildFault}
use Rattle.he_timeline.specs.declared.outcome.Outcome.{Outcome}

-- the race, or the given one if it can't be made
abbrev pub made_or : Race → Result Race BuildFault → Race
made_or race (Ok made) = made
made_or race (Err fault) = race

abbrev pub with_known_outcome : Race → ProbeRow → Option Outcome → Race
with_known_outcome race probe None = race
with_known_outcome race probe (Some outcome) = made_or race (add_outcome probe.ip outcome race)

-- the race with the outcome of the probe, if it has one that a timeline can have
abbrev pub with_probe : Race → ProbeRow → Race
with_probe race probe = with_known_outcome race probe probe.outcome

abbrev pub with_probes : Race → List ProbeRow → Race
with_probes race [] = race
with_probes race (probe ∷ probes) = with_probes (with_probe race probe) probes

-- the text of the race with record lines: the requested host and port, look-ups as of a connection's race, and an
-- attempt for each row that failed, for its reason, and for no other. It is read as this race with this record
pub record IsRoundRecord (by_nat64 : Bool) (request : ConnectRequest) (race : Race) (rows : List AddressRow)
    (text : List ℕ) : Type 0 where
  pub target : Target
  pub host : target.host.now ≡ request.host.now
  pub port : target.port ≡ request.port
  pub known : KnownFacts
  pub facts : Facts
  pub of_race : IsFactsFor by_nat64 target request.families race known facts
  pub attempts : facts.attempts.now ≡ failures_of rows
  pub written : text ≡ recorded_text (facts_said facts) race
  pub reads : IsRecordedAs text (facts_said facts) race
