-- Mirrors the code: the results of private functions: ticks without regard to pauses, the winner so far, and the
-- lines of attempts.
use Rattle.std.specs.Prelude.{ℕ, ◌+◌, ◌≤◌, ◌<◌, ◌&&◌, if◌then◌else◌, ◌++◌, List, [], ◌∷◌, map, min, max, Option, Some, None, option_map, IfSome, nat_le, nat_lt, Bool, false, filter}
use Rattle.std.specs.List.{list_all, list_any}
use Rattle.he_addr.specs.declared.ip.Ip.{Ip}
use Rattle.he_addr.specs.Ip.{is_usable, is_v6}
use Rattle.he_plan.specs.declared.attempts.Attempt.{Attempt}
use Rattle.he_plan.specs.declared.finish.Fate.{Fate}
use Rattle.he_plan.specs.declared.finish.Fate.TheVariants.{Succeeded, Failed}
use Rattle.he_timeline.specs.declared.limits.TheConstants.{MAX_LIMIT}
use Rattle.he_timeline.specs.Race.{Race, Reply}
use Rattle.he_plan.specs.declared.transcript.Line.{Line}
use Rattle.he_plan.specs.Finish.{fate_of}
use Rattle.he_plan.specs.Transcript.{failures, greatest, is_failed, mark_at}
use Rattle.he_plan.specs.Attempts.{is_untried, last_of, order}
use Rattle.he_timeline.specs.Seen.{seen}
use Rattle.he_plan.specs.Alternating.{interlace}

abbrev pub earlier : Option ℕ → Option ℕ → Option ℕ
earlier None y = y
earlier (Some x) None = Some x
earlier (Some x) (Some y) = Some (min x y)

-- the tick of a positive answer
abbrev pub positive_tick : Option Reply → Option ℕ
positive_tick None = None
positive_tick (Some reply) = if list_any is_usable reply.addresses then Some reply.tick else None

-- the tick from which an A answer of this tick begins a race
abbrev pub a_begin_tick : ℕ → Option Reply → ℕ → ℕ
a_begin_tick resolution None tick = tick + resolution
a_begin_tick resolution (Some aaaa) tick = min (tick + resolution) (max tick aaaa.tick)

abbrev pub begin_tick : Race → Option ℕ
begin_tick race =
    earlier (positive_tick race.aaaa)
    (option_map (a_begin_tick race.settings.resolution race.aaaa) (positive_tick race.a))

-- the tick from which an untried address of the answer may be tried, at or after `from`
abbrev pub waiting_tick : List Attempt → ℕ → Option Reply → Option ℕ
waiting_tick done from None = None
waiting_tick done from (Some reply) =
    if list_any (λ ip. is_usable ip && is_untried done ip) reply.addresses then Some (max from reply.tick) else None

-- the latest failure, if each of these fates is a failure
abbrev pub all_failed : List Fate → Option ℕ
all_failed told = if list_all is_failed told then Some (greatest (failures told)) else None

-- the end of the wait after a start at `start`; `failed` is the latest failure, if all attempts failed
abbrev pub wait_by : Option ℕ → Option ℕ → ℕ → ℕ → ℕ
wait_by (Some floor) (Some failed) start attempt = min (start + attempt) (max (start + floor) failed)
wait_by _ _ start attempt = start + attempt

-- the end of the wait after the last of these attempts
abbrev pub wait_end : Race → List Attempt → Attempt → ℕ
wait_end race done last =
    wait_by race.settings.floor (all_failed (map (fate_of race) done)) last.tick race.settings.attempt

abbrev pub follow_tick : Race → List Attempt → Attempt → Option ℕ
follow_tick race done last =
    earlier (waiting_tick done (wait_end race done last) race.aaaa)
    (waiting_tick done (wait_end race done last) race.a)

abbrev pub start_after : Race → List Attempt → Option Attempt → Option ℕ
start_after race done None = begin_tick race
start_after race done (Some last) = follow_tick race done last

-- the tick of a positive answer that is not yet included, at or after `from`
abbrev pub late_tick : Bool → ℕ → Option Reply → Option ℕ
late_tick included from reply = if included then None else option_map (λ tick. max from tick) (positive_tick reply)

-- the tick from which the next attempt may start
abbrev pub start_tick : Race → List Attempt → Option ℕ
start_tick race done = start_after race done (last_of done)

-- a start at t comes after the last of these, at or before the maximum limit
abbrev pub IsLater : List Attempt → ℕ → Type 0
IsLater done t = (t ≤ MAX_LIMIT) × IfSome (last_of done) (λ last. last.tick < t)

-- the answer is seen at t or earlier
abbrev pub is_received : Race → ℕ → Option Reply → Bool
is_received race t None = false
is_received race t (Some reply) = nat_le (seen race reply.tick) t

-- the usable addresses of an answer, if it is included
abbrev pub part_of : Bool → Option Reply → List Ip
part_of included None = []
part_of included (Some reply) = if included then filter is_usable reply.addresses else []

-- the addresses of the included answers, as received
abbrev pub parts_of : Race → Bool → Bool → List Ip
parts_of race v6 v4 = part_of v6 race.aaaa ++ part_of v4 race.a

-- the address is of the family of an included answer
abbrev pub is_of_included : Bool → Bool → Ip → Bool
is_of_included v6 v4 ip = if is_v6 ip then v6 else v4

-- the interlaced list of the included answers
abbrev pub interlaced_list : Race → Bool → Bool → List Ip
interlaced_list race v6 v4 = interlace (order race (parts_of race v6 v4)) race.settings.count

-- the end of the delay after the last attempt, or `from` if that is later, is seen below the limit
abbrev pub has_room : Race → ℕ → Option Attempt → Bool
has_room race from None = false
has_room race from (Some last) = nat_lt (seen race (max (last.tick + race.settings.attempt) from)) race.settings.limit

-- the winner so far, after one more success, at this place
abbrev pub better : Option (ℕ × ℕ) → ℕ → ℕ → Option (ℕ × ℕ)
better None finish place = Some (finish, place)
better (Some w) finish place = if nat_le w.0 finish then Some w else Some (finish, place)

abbrev pub next_winner : Option (ℕ × ℕ) → ℕ → Fate → Option (ℕ × ℕ)
next_winner best place (Succeeded finish) = better best finish place
next_winner best place _ = best

-- the winner so far finishes at or before the tick
abbrev pub is_beaten : Option (ℕ × ℕ) → ℕ → Bool
is_beaten None tick = false
is_beaten (Some w) tick = nat_le w.0 tick

-- the line of an attempt with this fate
abbrev pub told_line : ℕ → Option (ℕ × ℕ) → Attempt → Fate → Line
told_line stop winner x fate =
    record { place = x.place; tick = x.tick; ip = x.ip; mark = mark_at stop winner x.place fate }

-- that line, if the attempt starts before the stop
abbrev pub told_one : ℕ → Option (ℕ × ℕ) → Attempt → Fate → List Line
told_one stop winner x fate = if nat_lt x.tick stop then told_line stop winner x fate ∷ [] else []

-- the lines of the attempts with these fates
abbrev pub told_lines : ℕ → Option (ℕ × ℕ) → List Attempt → List Fate → List Line
told_lines stop winner [] told = []
told_lines stop winner (x ∷ attempts) [] = []
told_lines stop winner (x ∷ attempts) (fate ∷ told) =
    told_one stop winner x fate ++ told_lines stop winner attempts told

-- the latest of the failures and `tick`
abbrev pub last_failure : ℕ → List Fate → ℕ
last_failure tick [] = tick
last_failure tick (Failed finish ∷ told) = last_failure (max tick finish) told
last_failure tick (_ ∷ told) = last_failure tick told
