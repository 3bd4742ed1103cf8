-- What a race as a future gives, of the timeline that it was made of.
use Rattle.std.proofs.Common.{◌≡◌, Option, Some, None, Ok, IsSomeAnd, subst}
use Rattle.he_timeline.specs.Race.{Race}
use Rattle.he_timeline.specs.Building.{unrecorded}
use Rattle.he_turns.specs.Heard.{Tells}
use Rattle.he_turns.specs.OfSource.{IsOfSource, MayGive, ReplaysHeard}
use Rattle.he_turns.specs.Resolving.{ReplaysGiven}
use Rattle.he_addr.specs.declared.ip.Ip.{Ip}
use Rattle.he_turns.specs.Turns.{GivesOf, Replays}
use Rattle.he_turns.specs.Winner.{EndsAt, WinnerGoes}
use Rattle.he_live.specs.Dials.{goes_to}
use Rattle.he_live.specs.declared.dialed.Dialed.{Dialed}
use Rattle.he_live.specs.declared.endpoint.Endpoint.{Endpoint}
use Rattle.he_turns.specs.declared.live.Live.{Live}
use Rattle.he_turns.specs.declared.live.Raced.{Raced}

pub gives_record : {C Conn Run : Type 0} (reaches : Ip → Conn → Type 0) (live : Option (Live C Conn Run)) (race : Race) (raced : Raced Conn)
    → IsSomeAnd live (λ x. x.recorder.recorded ≡ unrecorded race) → GivesOf reaches live (Ok raced) → EndsAt Replays reaches race raced
gives_record reaches None race raced is gives = absurd gives
gives_record {C} {Conn} {Run} reaches (Some live) race raced is gives =
    let of : Replays (unrecorded race) raced = subst (λ (r : Race). Replays {Conn = Conn} r raced) is gives.end in
    record { end = record { alike = of.alike; transcript = of.transcript; winner = of.winner }; winner = gives.winner }

-- what a race whose answers come ends with
pub record EndsHeard {S Conn : Type 0} (hears : Tells S) (s : S) (reaches : Ip → Conn → Type 0) (race : Race) (raced : Raced Conn) : Type 0 where
  pub end : ReplaysGiven race raced
  pub winner : WinnerGoes reaches raced
  pub source : IsOfSource hears s (unrecorded race) raced.recorded

pub gives_heard : {S C Conn Run : Type 0} (hears : Tells S) (s : S) (reaches : Ip → Conn → Type 0) (live : Option (Live C Conn Run)) (race : Race) (raced : Raced Conn)
    → IsSomeAnd live (λ x. x.recorder.recorded ≡ unrecorded race) → MayGive hears s reaches live (Ok raced) → EndsHeard hears s reaches race raced
gives_heard hears s reaches None race raced is gives = absurd gives
gives_heard {S} {C} {Conn} {Run} hears s reaches (Some live) race raced is gives =
    let of : ReplaysHeard hears s (unrecorded race) raced = subst (λ (r : Race). ReplaysHeard {S = S} {Conn = Conn} hears s r raced) is gives.end in
    record {
      end = record {
        kept = record {
          settings = of.replays.kept.settings;
          policy = of.replays.kept.policy;
          host = record { sources = of.replays.kept.host.sources; routes = of.replays.kept.host.routes };
          history = record { rtts = of.replays.kept.history.rtts; used = of.replays.kept.history.used };
          aaaa = of.replays.kept.aaaa;
          a = of.replays.kept.a;
        };
        transcript = of.replays.transcript;
        winner = of.replays.winner;
      };
      winner = gives.winner;
      source = of.source;
    }

-- a connection that goes to the endpoint that is asked for
pub winner_at : (own to : Endpoint) (raced : Raced Dialed) → own ≡ to → WinnerGoes (goes_to own) raced → WinnerGoes (goes_to to) raced
winner_at own to raced same h = subst (λ (e : Endpoint). WinnerGoes (goes_to e) raced) same h
