-- A race run for a connection.
use Rattle.std.specs.Prelude.{ℕ, ◌≡◌, Bool, true, List, Option, IfSome, is_some}
use Rattle.he_timeline.specs.Race.{Race}
use Rattle.he_live.specs.Dials.{goes_to}
use Rattle.he_live.specs.declared.dialed.Dialed.{Dialed}
use Rattle.he_live.specs.declared.endpoint.Endpoint.{Endpoint}
use Rattle.he_plan.specs.Transcript.{IsTranscript, Report}
use Rattle.he_turns.specs.Recording.{is_won}
use Rattle.he_turns.specs.Resolving.{KeepsGiven}
use Rattle.he_turns.specs.Winner.{GoesAt}
use Rattle.he_setup.specs.declared.request.ConnectRequest.{ConnectRequest}
use Rattle.he_setup.specs.declared.request.Families.{Families}
use Rattle.he_setup.specs.Embedding.{MayEmbed}
use Rattle.he_setup.specs.Races.{Begins}
use Rattle.he_connect.specs.Origins.{AnswersBy, ComesFor, Origins}
use Rattle.he_connect.specs.Recorded.{AreTextsOf}

-- a race with this start was run for the request, with embedding or not: its record keeps the start and replays; each
-- new answer comes from the host's origins; the text is the record's, with its record lines, which have the reason
-- *nat64* only with embedding; and the story, if requested, is that of both. There is a connection exactly if the race
-- was won; it goes to the address of the winning line, at the port, and over the interface if that address is a
-- link-local one
pub record RunsFrom (embeds : Bool) (request : ConnectRequest) (start : Race) (to : Endpoint) (text story : List ℕ)
    (connection : Option Dialed) : Type 0 where
  pub recorded : Race
  pub kept : KeepsGiven start recorded
  pub origins : Origins
  pub comes : ComesFor embeds request origins
  pub answers : AnswersBy origins start recorded
  pub report : Report
  pub transcript : IsTranscript recorded report
  pub by_nat64 : Bool
  pub only : by_nat64 ≡ true → embeds ≡ true
  pub texts : AreTextsOf by_nat64 request recorded report text story
  pub won_so : is_some connection ≡ is_won report.result
  pub goes : IfSome connection (GoesAt (goes_to to) report.lines report.result)

-- the requested race was run, with embedding only if this machine's lines and IPv6 are requested
pub record IsRun (request : ConnectRequest) (text story : List ℕ) (connection : Option Dialed) : Type 0 where
  pub tried : Families
  pub start : Race
  pub to : Endpoint
  pub begins : Begins request tried start to
  pub embeds : Bool
  pub chosen : MayEmbed embeds request
  pub runs : RunsFrom embeds (record request { families = tried }) start to text story connection
