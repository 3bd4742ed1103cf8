-- The answers of a source, without attempts to connect. The public contracts of `Gathering` cite it.
use Rattle.std.specs.Prelude.{◌≡◌, ◌⊎◌, List, [], ◌∷◌, Option, None, Result, IfOk, IsSomeAnd}
use Rattle.he_addr.specs.declared.ip.Family.{Family}
use Rattle.he_addr.specs.declared.ip.Family.TheVariants as families
use Rattle.he_timeline.specs.declared.limits.TheConstants.{MAX_LIMIT}
use Rattle.he_timeline.specs.Race.{Race}
use Rattle.he_timeline.specs.Timeline.{IsRace}
use Rattle.he_turns.specs.declared.faults.RaceFault.{RaceFault}
use Rattle.he_turns.specs.declared.gathering.Gathered.{Gathered}
use Rattle.he_turns.specs.Heard.{Tells}
use Rattle.he_turns.specs.OfSource.{HearsAll, SourcePoll}

abbrev pub IsGathered : Gathered → Type 0
IsGathered gathered = IsRace gathered.recorded

-- one of the polls is for the family, at the tick `MAX_LIMIT`, and has no answer
abbrev pub AsksAtEnd : Family → List SourcePoll → Type 0
AsksAtEnd family [] = ⊥
AsksAtEnd family (poll ∷ polls) =
    ((poll.family ≡ family) × (poll.tick ≡ MAX_LIMIT) × (poll.told ≡ None)) ⊎ AsksAtEnd family polls

-- the race is the given one with the source's answers from this state on, for both families: one that has no answer
-- had none at the tick `MAX_LIMIT`
pub record IsGatheredFrom {S : Type 0} (hears : Tells S) (s : S) (given race : Race) : Type 0 where
  pub polls : List SourcePoll
  pub last : S
  pub polled : HearsAll hears s given polls last race
  pub six : race.aaaa ≡ None → AsksAtEnd families.V6 polls
  pub four : race.a ≡ None → AsksAtEnd families.V4 polls

-- the result from the race so far and the source's state: the race with the source's answers
abbrev pub MayGather : {S : Type 0} → Tells S → S → Option Gathered → Result Race RaceFault → Type 0
MayGather hears s gathered result =
    IfOk result (λ race. IsSomeAnd gathered (λ given. IsGatheredFrom hears s given.recorded race))
