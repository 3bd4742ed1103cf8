-- Where the connections of a race go: each attempt in progress leads to its own address, so that the winner goes to
-- the address of the winning line. The public contracts of `RaceFuture` and `ResolvingRace` cite it.
use Rattle.std.specs.Prelude.{◌<◌, ⊤, List, [], ◌∷◌, IfSome, IsSomeAnd, slice_get}
use Rattle.std.specs.List.{All}
use Rattle.he_addr.specs.declared.ip.Ip.{Ip}
use Rattle.he_plan.specs.declared.transcript.Line.{Line}
use Rattle.he_plan.specs.declared.transcript.Outcome3.{Outcome3}
use Rattle.he_plan.specs.declared.transcript.Outcome3.TheVariants as results
use Rattle.he_timeline.specs.Race.{Race}
use Rattle.he_turns.specs.declared.connector.Connector.{Ghosts as ConnectorOf}
use Rattle.he_turns.specs.declared.live.Live.{Live}
use Rattle.he_turns.specs.declared.live.Raced.{Raced}
use Rattle.he_turns.specs.declared.live.Unfinished.{Unfinished}
use Rattle.he_turns.specs.declared.trial.Trial.{Ghosts as TrialOf}
use Rattle.he_turns.specs.Attempt.{LeadsTo}
use Rattle.he_turns.specs.Kept.{IsLive}

-- the race was won, and the connection goes to the address of the line at the winning place
abbrev pub GoesAt : {Conn : Type 0} → (Ip → Conn → Type 0) → List Line → Outcome3 → Conn → Type 0
GoesAt reaches lines (results.Won place tick) conn = IsSomeAnd (slice_get lines place) (λ line. reaches line.ip conn)
GoesAt reaches lines result conn = ⊥

-- the winner's connection, if there is one, goes to the address of the winning line
abbrev pub WinnerGoes : {Conn : Type 0} → (Ip → Conn → Type 0) → Raced Conn → Type 0
WinnerGoes reaches raced = IfSome raced.winner (GoesAt reaches raced.transcript.lines raced.transcript.result)

-- `said` holds for the end, and the winner goes to the address of the winning line
pub record EndsAt {Conn : Type 0} (said : Race → Raced Conn → Type 0) (reaches : Ip → Conn → Type 0) (race : Race)
    (raced : Raced Conn) : Type 0 where
  pub end : said race raced
  pub winner : WinnerGoes reaches raced

-- the attempt comes before the other one
abbrev pub IsAhead : {C Conn Run : Type 0} → Unfinished C Conn Run → Unfinished C Conn Run → Type 0
IsAhead o p = o.attempt.place < p.attempt.place

-- the attempts are in order of place
abbrev pub AreInOrder : {C Conn Run : Type 0} → List (Unfinished C Conn Run) → Type 0
AreInOrder [] = ⊤
AreInOrder (o ∷ os) = All (IsAhead o) os × AreInOrder os

module _ {C Conn Run : Type 0} (connector : ConnectorOf C Conn Run) (trial : TrialOf Run Conn) where
  -- each unfinished attempt leads to its own address, and they are in order of place
  pub record IsAimed (c : C) (live : Live C Conn Run) : Type 0 where
    pub leads : All (λ o. LeadsTo connector trial (connector.reaches c) o.attempt.ip o.future) live.unfinished.items
    pub order : AreInOrder live.unfinished.items

  -- the invariant between two polls, with the connector's present state
  pub record MayPoll (c : C) (live : Live C Conn Run) : Type 0 where
    pub kept : IsLive connector trial live
    pub aimed : IsAimed c live
