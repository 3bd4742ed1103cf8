-- The answers that a race has taken from its source by its end. The public contracts of `ResolvingRace` cite it.
use Rattle.std.specs.Prelude.{ℕ, ◌≡◌, List, [], ◌∷◌, Option, None, option_map, Result}
use Rattle.he_addr.specs.declared.ip.Family.{Family}
use Rattle.he_addr.specs.declared.ip.Ip.{Ip}
use Rattle.he_plan.specs.Agreement.{AreAlike}
use Rattle.he_timeline.specs.Race.{Race, reply_of}
use Rattle.he_turns.specs.declared.faults.RaceFault.{RaceFault}
use Rattle.he_turns.specs.declared.live.Live.{Live}
use Rattle.he_turns.specs.declared.live.Raced.{Raced}
use Rattle.he_turns.specs.Heard.{AnswerLists, Tells, with_told}
use Rattle.he_turns.specs.Resolving.{ReplaysGiven}
use Rattle.he_turns.specs.Turns.{GivesBy}
use Rattle.he_turns.specs.Winner.{EndsAt}

-- a poll of a source: the family, the tick, and the answer, if there was one
pub record SourcePoll : Type 0 where
  pub family : Family
  pub tick : ℕ
  pub told : Option AnswerLists

-- polls of a source, one after the other, from one of its states to another: each is for a family without an answer
-- by then, and its answer enters the race at that tick, with history, sources and routes
abbrev pub HearsAll : {S : Type 0} → Tells S → S → Race → List SourcePoll → S → Race → Type 0
HearsAll hears s race [] s' new = (s' ≡ s) × (new ≡ race)
HearsAll {S} hears s race (p ∷ polls) s' new =
    (between : S) × (reply_of race p.family ≡ None) × hears s p.family p.tick p.told between
    × HearsAll hears between (with_told race p.family p.tick p.told) polls s' new

-- the second race is the first with the source's answers from this state on; otherwise it differs only in the
-- outcomes of attempts and the client's pauses
pub record IsOfSource {S : Type 0} (hears : Tells S) (s : S) (given recorded : Race) : Type 0 where
  pub polls : List SourcePoll
  pub last : S
  pub heard : Race
  pub polled : HearsAll hears s given polls last heard
  pub alike : AreAlike heard recorded

-- the record replays, and consists of the given race and the source's answers
pub record ReplaysHeard {S Conn : Type 0} (hears : Tells S) (s : S) (race : Race) (raced : Raced Conn) : Type 0 where
  pub replays : ReplaysGiven race raced
  pub source : IsOfSource hears s race raced.recorded

-- the results of a race whose answers come while it runs, from its record so far and the source's state: an end that
-- replays, with a winner that goes to the address of the winning line
abbrev pub MayGiveFrom : {S Conn : Type 0} → Tells S → S → (Ip → Conn → Type 0) → Option Race
    → Result (Raced Conn) RaceFault → Type 0
MayGiveFrom {S} {Conn} hears s reaches race result =
    GivesBy (EndsAt (ReplaysHeard {S = S} {Conn = Conn} hears s) reaches) race result

abbrev pub MayGive : {S C Conn Run : Type 0} → Tells S → S → (Ip → Conn → Type 0) → Option (Live C Conn Run)
    → Result (Raced Conn) RaceFault → Type 0
MayGive {S} {C} {Conn} {Run} hears s reaches live result =
    MayGiveFrom {Conn = Conn} hears s reaches (option_map (λ (x : Live C Conn Run). x.recorder.recorded) live) result
