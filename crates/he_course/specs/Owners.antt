-- Who owns a tick of a stage of a race (own), and how many ticks an owner has.
use Rattle.std.specs.Prelude.{ℕ, zero, suc, ◌+◌, ◌<◌, ◌&&◌, Bool, true, false, if◌then◌else◌, List, nat_eq, nat_le, nat_lt}
use Rattle.std.specs.List.{list_any}
use Rattle.he_course.specs.declared.owners.Owner.{Owner}
use Rattle.he_course.specs.declared.owners.Owner.TheVariants as owners
use Rattle.he_course.specs.declared.owners.Stage.{Stage}
use Rattle.he_course.specs.declared.owners.TheConstants.{LEAST_PAUSE}

-- the pause is long enough to count, and covers the tick
abbrev pub sleeps_in : ℕ → ℕ × ℕ → Bool
sleeps_in t pause = nat_le (pause.0 + LEAST_PAUSE) pause.1 && (nat_le pause.0 t && nat_lt t pause.1)

abbrev pub is_asleep : List (ℕ × ℕ) → ℕ → Bool
is_asleep pauses t = list_any (sleeps_in t) pauses

-- the wait is over, and no address that has come is left
abbrev pub is_idle : Stage → ℕ → Bool
is_idle stage t = nat_le stage.waited t && nat_lt t stage.came

-- who owns a tick of a stage that no pause holds up
abbrev pub owner_awake : Stage → ℕ → Owner
owner_awake stage t =
    if is_idle stage t then (if nat_lt t stage.answered then owners.Names else owners.Nobody) else stage.owner

-- this machine owns the ticks of a pause from when an attempt, or the end of the race, is due
abbrev pub owner_in : List (ℕ × ℕ) → Stage → ℕ → Owner
owner_in pauses stage t =
    if nat_le stage.due t && is_asleep pauses t then owners.Machine else owner_awake stage t

abbrev pub same_owner : Owner → Owner → Bool
same_owner owners.Names owners.Names = true
same_owner (owners.Tried place) (owners.Tried other) = nat_eq place other
same_owner owners.Nobody owners.Nobody = true
same_owner owners.Unknown owners.Unknown = true
same_owner owners.Machine owners.Machine = true
same_owner owners.Connecting owners.Connecting = true
same_owner _ _ = false

-- how many of the numbers below n pass the test
abbrev pub count_below : (ℕ → Bool) → ℕ → ℕ
count_below p zero = 0
count_below p (suc n) = count_below p n + (if p n then 1 else 0)

-- an owner that a race of this many attempts can have
abbrev pub IsOwner : ℕ → Owner → Type 0
IsOwner n (owners.Tried place) = place < n
IsOwner n _ = Unit {0}

-- how many ticks before `end` this owner has
abbrev pub ticks_of : (ℕ → Owner) → ℕ → Owner → ℕ
ticks_of owner end who = count_below (λ t. same_owner (owner t) who) end

-- the sum of f over the numbers below n
abbrev pub sum_below : (ℕ → ℕ) → ℕ → ℕ
sum_below f zero = 0
sum_below f (suc n) = sum_below f n + f n

-- what all owners of a race of n attempts have of its ticks before `end`
abbrev pub ticks_of_all : (ℕ → Owner) → ℕ → ℕ → ℕ
ticks_of_all owner n end =
    ticks_of owner end owners.Names + sum_below (λ place. ticks_of owner end (owners.Tried place)) n
    + ticks_of owner end owners.Nobody + ticks_of owner end owners.Unknown + ticks_of owner end owners.Machine
    + ticks_of owner end owners.Connecting
