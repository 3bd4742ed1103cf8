-- What a session is handed out, of the race that was set up for it.
use Rattle.std.proofs.Common.{◌≡◌, ℕ, List, subst}
use Rattle.std.specs.Prelude.{Result, Ok, Err, IfOk}
use Rattle.std.specs.declared.net.socket_addr.SocketAddr.{SocketAddr}
use Rattle.he_setup.specs.Embedding.{MayEmbed}
use Rattle.he_setup.specs.Races.{IsSetUp}
use Rattle.he_setup.specs.declared.request.ConnectRequest.{ConnectRequest}
use Rattle.he_setup.specs.declared.setup.Setup.{Setup}
use Rattle.he_live.proofs.Records.{EndsHeard}
use Rattle.he_live.specs.declared.endpoint.Endpoint.{Endpoint}
use Rattle.he_turns.specs.Winner.{WinnerGoes}
use Rattle.he_turns.specs.declared.live.Raced.{Raced}
use Rattle.he_loop.specs.Dials.{GoesTo}
use Rattle.he_source.specs.Answers.{IsSourceFor, hears_session}
use Rattle.he_source.specs.declared.answering.SessionAnswers.{SessionAnswers}
use Rattle.he_proxy.specs.Races.{AsksFor, HandsOut, IsReachOf, IsWonBy, RunsFrom, Wins}
use Rattle.he_access.specs.declared.reach.Place.{Place}
use Rattle.he_loop.specs.declared.access.Reach.{Reach}
use Rattle.he_loop.specs.declared.dial.Joined.{Joined}
use Rattle.he_proxy.specs.declared.request.ProxyRequest.{ProxyRequest}

-- a connection that goes to the endpoint that is asked for, where it is reached
pub runs_so : {R : Type 0} (setup : Setup) (own : Endpoint) (its reach : Reach) (asked : List ℕ)
    (source : SessionAnswers R) (raced : Raced Joined) → own ≡ setup.to → its ≡ reach → asked ≡ setup.request.host.now
    → IsSourceFor setup source → EndsHeard hears_session source (GoesTo its asked own) setup.start raced
    → RunsFrom R setup reach raced
runs_so setup own its reach asked source raced same alike named begins ends = record {
  replays = ends.end;
  answers = record { source = source; begins = begins; answers = ends.source };
  goes = subst (λ (r : Reach). WinnerGoes (GoesTo r setup.request.host.now setup.to) raced) alike
      (subst (λ (e : Endpoint). WinnerGoes (GoesTo its setup.request.host.now e) raced) same
      (subst (λ (host : List ℕ). WinnerGoes (GoesTo its host own) raced) named ends.winner));
}

pub wins_so : {R : Type 0} (proxy : ProxyRequest) (places : List Place) (client : SocketAddr) (host : List ℕ) (port : ℕ)
    (request : ConnectRequest) (setup : Setup) (reach : Reach) (gives : Raced Joined → Type 0)
    → AsksFor proxy host port request → IsReachOf proxy places client reach → IsSetUp request setup
    → MayEmbed setup.embeds request
    → ((raced : Raced Joined) → gives raced → RunsFrom R setup reach raced)
    → Wins (IsWonBy R proxy places client host port) (λ end. HandsOut gives end)
wins_so proxy places client host port request setup reach gives asks reaches set chosen runs (Ok won) (raced, gave, handed) = record {
  request = request;
  asks = asks;
  reach = reach;
  reaches = reaches;
  winner = record {
    setup = setup;
    set_up = set;
    chosen = chosen;
    raced = raced;
    runs = runs raced gave;
    handed = handed;
  };
}
wins_so proxy places client host port request setup reach gives asks reaches set chosen runs (Err ended) out = tt

pub at_ok : {A E : Type 0} (P Q : A → Type 0) → ((a : A) → P a → Q a) → (r : Result A E) → IfOk r P → IfOk r Q
at_ok P Q f (Ok a) h = f a h
at_ok P Q f (Err e) h = tt
