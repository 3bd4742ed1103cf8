-- A round of probes of a host.
use Rattle.std.specs.Prelude.{◌≡◌, ◌≤◌, Bool, true, List, map}
use Rattle.he_setup.specs.Embedding.{MayEmbed}
use Rattle.he_connect.specs.Origins.{AnswersBy, ComesFor, Origins}
use Rattle.he_setup.specs.Races.{Begins}
use Rattle.he_setup.specs.declared.request.ConnectRequest.{ConnectRequest}
use Rattle.he_setup.specs.declared.request.Families.{Families}
use Rattle.he_course.specs.Course.{IsCourse}
use Rattle.he_live.specs.declared.endpoint.Endpoint.{Endpoint}
use Rattle.he_timeline.specs.Building.{unrecorded}
use Rattle.he_timeline.specs.Race.{Race}
use Rattle.he_turns.specs.Resolving.{KeepsGiven}
use Rattle.he_probing.specs.declared.request.RoundRequest.{RoundRequest}
use Rattle.he_probing.specs.declared.request.TheConstants.{MAX_PACE, MAX_TIMEOUT}
use Rattle.he_probing.specs.declared.round.Round.{Round}
use Rattle.he_probing.specs.declared.rows.AddressRow.{AddressRow}
use Rattle.he_probing.specs.Fastest.{IsFastest}
use Rattle.he_probing.specs.Recorded.{IsRoundRecord, with_probes}
use Rattle.he_probing.specs.Rows.{ip_of, preferred_ip, probe_of}
use Rattle.he_probing.specs.Verdicts.{verdict_of}

pub record IsInRange (request : RoundRequest) : Type 0 where
  pub pace : request.pace ≤ MAX_PACE
  pub timeout : request.timeout ≤ MAX_TIMEOUT
  pub limit : request.connect.settings.limit ≤ request.timeout

-- the round has these rows, and is judged by them and by the course of this record
pub record IsJudged (by_nat64 : Bool) (request : ConnectRequest) (recorded : Race) (rows : List AddressRow)
    (round : Round) : Type 0 where
  pub rows_are : round.rows.items ≡ rows
  pub course : IsCourse recorded 1 1 round.course
  pub verdict : round.verdict ≡ verdict_of rows round.course
  pub fastest : IsFastest round.course rows round.fastest
  pub written : IsRoundRecord by_nat64 request recorded rows round.text.items

-- the record is the host's answers, from this start on, with the outcomes of the rows and no pauses. It keeps the
-- start, and each new answer comes from the host's origins, with embedding or not. The rows are the addresses of the
-- record in the order of preference
pub record IsRoundFrom (embeds : Bool) (request : ConnectRequest) (start : Race) (round : Round) : Type 0 where
  pub gathered : Race
  pub recorded : Race
  pub is : recorded ≡ with_probes (unrecorded gathered) (map probe_of round.rows.items)
  pub kept : KeepsGiven start recorded
  pub origins : Origins
  pub comes : ComesFor embeds request origins
  pub answers : AnswersBy origins start recorded
  pub addresses : map ip_of round.rows.items ≡ map preferred_ip round.course.addresses.items
  pub by_nat64 : Bool
  pub only : by_nat64 ≡ true → embeds ≡ true
  pub judged : IsJudged by_nat64 request recorded round.rows.items round

-- the requested round was run: it started as the race of a connection, and its record's limit is at most the time of
-- an attempt
pub record IsRound (request : RoundRequest) (round : Round) : Type 0 where
  pub tried : Families
  pub start : Race
  pub to : Endpoint
  pub begins : Begins request.connect tried start to
  pub embeds : Bool
  pub chosen : MayEmbed embeds request.connect
  pub from : IsRoundFrom embeds (record request.connect { families = tried }) start round
  pub limit : from.recorded.settings.limit ≤ request.timeout
