-- The result of a race that was run.
use Rattle.std.proofs.Common.{◌≡◌, ◌∙◌, Bool, true, is_some, ap, subst, sym}
use Rattle.std.specs.Prelude.{Option, Result, Ok, Err, IfOk, IfSome}
use Rattle.he_timeline.specs.Race.{Race}
use Rattle.he_live.specs.Dials.{goes_to}
use Rattle.he_live.specs.declared.dialed.Dialed.{Dialed}
use Rattle.he_live.specs.declared.endpoint.Endpoint.{Endpoint}
use Rattle.he_setup.specs.declared.fault.ConnectFault.{ConnectFault}
use Rattle.he_setup.specs.declared.request.ConnectRequest.{ConnectRequest}
use Rattle.he_setup.specs.declared.setup.Setup.{Setup}
use Rattle.he_setup.specs.Embedding.{MayEmbed}
use Rattle.he_setup.specs.Races.{IsSetUp}
use Rattle.he_turns.specs.declared.live.Raced.{Raced}
use Rattle.he_turns.specs.Resolving.{ReplaysGiven}
use Rattle.he_turns.specs.Winner.{GoesAt, WinnerGoes}
use Rattle.he_connect.specs.declared.racing.FinishedRace.{FinishedRace}
use Rattle.he_connect.specs.Origins.{AnswersBy, ComesFor, Origins}
use Rattle.he_connect.specs.Races.{IsRun, RunsFrom}
use Rattle.he_connect.specs.Recorded.{AreTextsOf}

pub ran_so : (embeds by_nat64 : Bool) (request : ConnectRequest) (start : Race) (to : Endpoint) (origins : Origins) (raced : Raced Dialed) (result : Result FinishedRace ConnectFault)
    → ReplaysGiven start raced → WinnerGoes (goes_to to) raced → ComesFor embeds request origins → AnswersBy origins start raced.recorded
    → (by_nat64 ≡ true → embeds ≡ true)
    → IfOk result (λ run. AreTextsOf by_nat64 request raced.recorded raced.transcript run.text.items run.story.items)
    → IfOk result (λ run. run.connection ≡ raced.winner)
    → IfOk result (λ run. RunsFrom embeds request start to run.text.items run.story.items run.connection)
ran_so embeds by_nat64 request start to origins raced (Ok run) replays goes comes answers only texts winner = record {
  recorded = raced.recorded;
  kept = replays.kept;
  origins = origins;
  comes = comes;
  answers = answers;
  report = raced.transcript;
  transcript = replays.transcript;
  by_nat64 = by_nat64;
  only = only;
  texts = texts;
  won_so = ap (λ (o : Option Dialed). is_some o) winner ∙ replays.winner;
  goes = subst (λ (o : Option Dialed). IfSome o (GoesAt (goes_to to) raced.transcript.lines raced.transcript.result)) (sym winner) goes;
}
ran_so embeds by_nat64 request start to origins raced (Err fault) replays goes comes answers only texts winner = tt

pub began_so : (request : ConnectRequest) (setup : Setup) (result : Result FinishedRace ConnectFault) → IsSetUp request setup
    → MayEmbed setup.embeds request
    → IfOk result (λ run. RunsFrom setup.embeds setup.request setup.start setup.to run.text.items run.story.items run.connection)
    → IfOk result (λ run. IsRun request run.text.items run.story.items run.connection)
began_so request setup (Ok run) is may runs = record {
  tried = is.tried;
  start = setup.start;
  to = setup.to;
  begins = is.begins;
  embeds = setup.embeds;
  chosen = may;
  runs = subst (λ (r : ConnectRequest). RunsFrom setup.embeds r setup.start setup.to run.text.items run.story.items run.connection) is.same runs;
}
began_so request setup (Err fault) is may runs = tt
