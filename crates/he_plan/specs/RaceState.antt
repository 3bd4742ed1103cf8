-- Mirrors the code: the state of a race under way, which makes its attempts one by one: the attempts made, the fate
-- of each, the number of failures and the latest one, and the untried addresses.
use Rattle.std.specs.Prelude.{ℕ, ◌≡◌, ◌+◌, ◌≤◌, ◌<◌, ◌⊎◌, ◌++◌, Bool, false, List, [], ◌∷◌, filter, find, length, map, max, slice_get, Option, Some, None, IfSome, IsTrue, nat_lt}
use Rattle.std.specs.List.{Contains, list_all, list_any}
use Rattle.std.specs.List.Sorted.{IsPermutation}
use Rattle.he_addr.specs.declared.ip.Family.{Family}
use Rattle.he_addr.specs.declared.ip.Family.TheVariants as families
use Rattle.he_addr.specs.declared.ip.Ip.{Ip}
use Rattle.he_plan.specs.declared.attempts.Attempt.{Attempt}
use Rattle.he_plan.specs.declared.finish.Fate.{Fate}
use Rattle.he_plan.specs.declared.finish.Fate.TheVariants.{Failed}
use Rattle.he_timeline.specs.declared.outcome.Outcome.{Outcome}
use Rattle.he_timeline.specs.declared.limits.TheConstants.{MAX_LIMIT}
use Rattle.he_plan.specs.Attempts.{AreNextInTurn, IsNext, MayStart, is_untried, last_of, order, order_at, received}
use Rattle.he_plan.specs.Finish.{IsWinner, fate_of}
use Rattle.he_plan.specs.Planning.{interlaced_list, is_received, parts_of}
use Rattle.he_timeline.specs.Building.{with_outcome}
use Rattle.he_timeline.specs.Race.{Race, Reply, has_outcome, usable_addresses}
use Rattle.he_timeline.specs.Timeline.{duration_of, is_of}
use Rattle.he_plan.specs.Transcript.{failures, greatest, stop_of}

-- which answers were received by the last start, the untried addresses of their interlaced list, and the usable
-- addresses of both answers in order
pub record UntriedValues : Type 0 where
  pub v6 : Bool
  pub v4 : Bool
  pub ips : List Ip
  pub sorted : List Ip

pub record Progress : Type 0 where
  pub attempts : List Attempt
  pub fates : List Fate
  pub failed : ℕ
  pub latest : ℕ
  pub queue : UntriedValues

abbrev pub nothing_received : UntriedValues
nothing_received = record { v6 = false; v4 = false; ips = []; sorted = [] }

abbrev pub not_begun : Progress
not_begun = record { attempts = []; fates = []; failed = 0; latest = 0; queue = nothing_received }

-- both answers' addresses in order, or none as long as no list has needed them
abbrev pub AreSorted : Race → List Ip → Type 0
AreSorted race sorted = (sorted ≡ []) ⊎ (sorted ≡ order race (usable_addresses race))

-- none of the attempts is of the family, unless its answer is included
abbrev pub IsOwn : Family → Bool → List Attempt → Type 0
IsOwn family included done = included ≡ false → list_any (λ x. is_of family x.ip) done ≡ false

-- these are the untried addresses of the interlaced list of the included answers
pub record IsRest (race : Race) (done : List Attempt) (queue : UntriedValues) : Type 0 where
  pub members : IsPermutation (parts_of race queue.v6 queue.v4) (order race (parts_of race queue.v6 queue.v4))
  pub own_six : IsOwn families.V6 queue.v6 done
  pub own_four : IsOwn families.V4 queue.v4 done
  pub rest : queue.ips ≡ filter (is_untried done) (interlaced_list race queue.v6 queue.v4)
  pub sorted : AreSorted race queue.sorted

-- the answer was seen by the last start
abbrev pub was_received : Race → Option Attempt → Option Reply → Bool
was_received race None reply = false
was_received race (Some last) reply = is_received race last.tick reply

-- the queue after these attempts, of the answers that were seen by the last start
pub record IsQueue (race : Race) (done : List Attempt) (queue : UntriedValues) : Type 0 where
  pub rest : IsRest race done queue
  pub six : queue.v6 ≡ was_received race (last_of done) race.aaaa
  pub four : queue.v4 ≡ was_received race (last_of done) race.a

-- the queue for a start at t, of the answers that are seen at t; its first address is the one to try
pub record IsAtNext (race : Race) (done : List Attempt) (t : ℕ) (queue : UntriedValues) : Type 0 where
  pub rest : IsRest race done queue
  pub six : queue.v6 ≡ is_received race t race.aaaa
  pub four : queue.v4 ≡ is_received race t race.a
  pub some : 0 < length queue.ips
  pub first : find (is_untried done) (order_at race t) ≡ slice_get queue.ips 0

-- the fates are the race's
abbrev pub AreFates : Race → Progress → Type 0
AreFates race underway = underway.fates ≡ map (fate_of race) underway.attempts

-- the state is that of the race: each attempt is the next one after those before it and starts by the maximum limit,
-- the fates are theirs in the race, `failed` counts their failures, `latest` is the last one's tick, and the queue is
-- theirs
pub record IsUnderway (race : Race) (underway : Progress) : Type 0 where
  pub in_turn : AreNextInTurn race underway.attempts
  pub in_range : IfSome (last_of underway.attempts) (λ last. last.tick ≤ MAX_LIMIT)
  pub fates : AreFates race underway
  pub failed : underway.failed ≡ length (failures underway.fates)
  pub latest : underway.latest ≡ greatest (failures underway.fates)
  pub queue : IsQueue race underway.attempts underway.queue

-- one more fate is counted
abbrev pub counted : Progress → Fate → Progress
counted underway (Failed finish) =
    record underway { failed = underway.failed + 1; latest = max underway.latest finish }
counted underway _ = underway

-- the second race differs from the first only in the outcome of this attempt, which ends it after the last start
pub record EndsOne (old new : Race) (attempts : List Attempt) (x : Attempt) : Type 0 where
  pub made : Contains attempts x
  pub silent : has_outcome x.ip old.outcomes ≡ false
  pub outcome : Outcome
  pub told : new ≡ with_outcome old x.ip outcome
  pub late : IsTrue (list_all (λ y. nat_lt y.tick (x.tick + duration_of outcome)) attempts)

-- by the tick both races have received the same answers, with the same order of their addresses
pub record IsReceivedAlike (old new : Race) (t : ℕ) : Type 0 where
  pub six : is_received new t new.aaaa ≡ is_received old t old.aaaa
  pub four : is_received new t new.a ≡ is_received old t old.a
  pub addresses : received new t ≡ received old t
  pub ordered : order new (received new t) ≡ order old (received old t)

-- the second race has the settings, outcomes and pauses of the first, and differs from it in nothing that these
-- attempts depend on: for example, another answer came after the last start
pub record IsAlikeSoFar (old new : Race) (attempts : List Attempt) : Type 0 where
  pub in_turn : AreNextInTurn new attempts
  pub settings : new.settings ≡ old.settings
  pub outcomes : new.outcomes ≡ old.outcomes
  pub pauses : new.pauses ≡ old.pauses
  pub last : IfSome (last_of attempts) (λ x. IsReceivedAlike old new x.tick)

-- one more attempt, the next one, at the tick
pub record MakesNext (race : Race) (done all : List Attempt) (tick : ℕ) : Type 0 where
  pub next : Attempt
  pub more : all ≡ done ++ next ∷ []
  pub is : IsNext race done next
  pub at : next.tick ≡ tick

-- no attempt may start before the stop of the attempts made: the winner's finish, or the limit
pub record IsStopped (race : Race) (underway : Progress) (winner : Option (ℕ × ℕ)) : Type 0 where
  pub kept : IsUnderway race underway
  pub wins : IsWinner underway.fates winner
  pub stops : (t : ℕ) → MayStart race underway.attempts t → stop_of race winner ≤ t
