-- A ticker that jumps from one requested tick to the next.
use Rattle.std.specs.Prelude.{ℕ, ◌≡◌, ◌+◌, ◌<◌, Bool, true, false, List, [], ◌∷◌, filter, if◌then◌else◌, max, nat_lt, Result, Ok, Err}
use Rattle.std.specs.List.{All}
use Rattle.std.specs.BTreeSet.{insert_key}
use Rattle.std.specs.Ordering.{nat_cmp}
use Rattle.he_timeline.specs.Seen.{seen}
use Rattle.he_timeline.specs.Race.{Race}
use Rattle.he_turns.specs.declared.faults.TickFault.{TickFault}
use Rattle.he_turns.specs.declared.faults.TickFault.TheVariants.{Memory}

-- the race with the pauses, the current tick, and the requested ticks in order
pub record Wheel : Type 0 where
  pub race : Race
  pub at : ℕ
  pub asked : List ℕ

-- the greatest u64
abbrev pub last_tick : ℕ
last_tick = 18446744073709551615

-- each requested tick comes after the current one, unless that is the last tick
abbrev pub AreLater : ℕ → List ℕ → Type 0
AreLater at asked = at < last_tick → All (λ t. at < t) asked

-- the tick of a request: a request for now or earlier counts as one for the next tick
abbrev pub counted : ℕ → ℕ → ℕ
counted at tick = max tick (if nat_lt at last_tick then at + 1 else at)

-- a request: it is added and nothing else changes, or an allocation fails and nothing changes
abbrev pub Asks : Wheel → ℕ → Result (Unit {0}) TickFault → Wheel → Type 0
Asks w tick (Ok done) left = left ≡ record w { asked = insert_key nat_cmp w.asked (counted w.at tick) }
Asks w tick (Err fault) left = (fault ≡ Memory) × (left ≡ w)

-- the wheel moved to `seen next`, where `next` is the least requested tick; requests up to there are dropped
abbrev pub moved : Wheel → ℕ → Wheel
moved w next = record w { at = seen w.race next; asked = filter (nat_lt (seen w.race next)) w.asked }

-- the wheel moves if there is a request, and otherwise stays
abbrev pub JumpsFrom : Wheel → List ℕ → Bool → Wheel → Type 0
JumpsFrom w [] went left = (went ≡ false) × (left ≡ w)
JumpsFrom w (next ∷ later) went left = (went ≡ true) × (left ≡ moved w next)

abbrev pub Jumps : Wheel → Bool → Wheel → Type 0
Jumps w went left = JumpsFrom w w.asked went left
