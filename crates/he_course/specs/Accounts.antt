-- Who owns each tick of a race, by its transcript (RFC 8305 sections 3 to 5), and how many ticks each owner has (own).
-- All ticks here are those at which things happen, not those at which a client that sleeps sees them. A tick at or
-- after the race's end, and one that never comes, are both written as the end.
use Rattle.std.specs.Prelude.{ℕ, IsTrue, ◌≡◌, ◌+◌, ◌-◌, ◌&&◌, Bool, not, if◌then◌else◌, List, [], ◌∷◌, length, map, max, min, Option, Some, None, nat_le, nat_lt, slice_get}
use Rattle.std.specs.List.{list_any}
use Rattle.he_addr.specs.declared.ip.Ip.{Ip}
use Rattle.he_addr.specs.Ip.{is_usable, same_ip}
use Rattle.he_plan.specs.declared.transcript.Line.{Line}
use Rattle.he_timeline.specs.declared.outcome.Outcome.{Outcome}
use Rattle.he_timeline.specs.declared.outcome.Outcome.TheVariants as outcomes
use Rattle.he_timeline.specs.Race.{Race, Reply, has_ip, outcome_of}
use Rattle.he_plan.specs.Transcript.{Report}
use Rattle.he_course.specs.declared.accounts.Account.{Account}
use Rattle.he_course.specs.declared.accounts.Times.{Times}
use Rattle.he_course.specs.declared.owners.Owner.{Owner}
use Rattle.he_course.specs.declared.owners.Owner.TheVariants as owners
use Rattle.he_course.specs.declared.owners.Stage.{Stage}
use Rattle.he_course.specs.Amounts.{amount_of}
use Rattle.he_course.specs.Causes.{last_failure}
use Rattle.he_course.specs.Events.{attempt_of, end_event}
use Rattle.he_course.specs.LeastFloor.{winner_of}
use Rattle.he_course.specs.Owners.{IsOwner, owner_in, same_owner, sum_below, ticks_of, ticks_of_all}

-- the tick at which a race with this transcript ends
abbrev pub end_of : Report → ℕ
end_of report = (end_event report.result).tick

-- the attempts that have started by t
abbrev pub started_by : ℕ → List Line → List Line
started_by t [] = []
started_by t (line ∷ more) = if nat_le line.tick t then line ∷ started_by t more else []

-- the last one of them
abbrev pub last_line : List Line → Option Line
last_line started = slice_get started (length started - 1)

-- one of the attempts is to the address
abbrev pub is_started : List Line → Ip → Bool
is_started started ip = list_any (λ line. same_ip line.ip ip) started

-- the address may be tried, and none of the attempts is to it
abbrev pub is_left : List Line → Ip → Bool
is_left started ip = is_usable ip && not (is_started started ip)

-- the tick of the answer, if one of its addresses is left
abbrev pub left_from : ℕ → List Line → Option Reply → ℕ
left_from end started None = end
left_from end started (Some reply) = if list_any (is_left started) reply.addresses then min reply.tick end else end

-- the tick from which on an address that has come is left
abbrev pub came_of : Race → ℕ → List Line → ℕ
came_of race end started = min (left_from end started race.aaaa) (left_from end started race.a)

abbrev pub answer_tick : ℕ → Option Reply → ℕ
answer_tick end None = end
answer_tick end (Some reply) = min reply.tick end

-- the tick from which on no answer is to come
abbrev pub answered_of : Race → ℕ → ℕ
answered_of race end = max (answer_tick end race.aaaa) (answer_tick end race.a)

-- the tick at which the floor after the last attempt is over and all attempts have failed, if there is a floor and all
-- fail
abbrev pub floor_end : ℕ → Line → Option ℕ → Option ℕ → ℕ
floor_end end last None failed = end
floor_end end last (Some floor) None = end
floor_end end last (Some floor) (Some tick) = max (last.tick + floor) tick

-- the tick at which the wait after the last attempt is over: the Connection Attempt Delay, or that
abbrev pub waited_of : Race → ℕ → Line → Option ℕ → ℕ
waited_of race end last failed =
    min end (min (last.tick + race.settings.attempt) (floor_end end last race.settings.floor failed))

-- the tick from which on no answer is to come and all attempts have failed, if all fail
abbrev pub exhausted_of : ℕ → Option ℕ → ℕ → ℕ
exhausted_of end None answered = end
exhausted_of end (Some tick) answered = min end (max tick answered)

-- the tick at which an attempt is due: an address is left and the wait is over; or at which the race is over, since
-- none is left
abbrev pub due_of : ℕ → Option ℕ → ℕ → ℕ → ℕ → ℕ
due_of end failed waited came answered =
    if nat_lt came end then max waited came else exhausted_of end failed answered

-- the attempt at this place owns what follows its start; if its address was not tried by the client, it is not known
-- who does
abbrev pub owner_of : List Ip → ℕ → Ip → Owner
owner_of untried place ip = if has_ip ip untried then owners.Unknown else owners.Tried place

-- after the start of the last one of these attempts, none of which wins
abbrev pub stage_after : Race → ℕ → List Ip → List Line → Line → Stage
stage_after race end untried started last =
    let failed = last_failure race (map attempt_of started) in
    let waited = waited_of race end last failed in
    let came = came_of race end started in
    let answered = answered_of race end in
    record {
      owner = owner_of untried (length started - 1) last.ip;
      waited = waited;
      came = came;
      answered = answered;
      due = due_of end failed waited came answered;
    }

-- the tick at which a race may begin (section 3): on an AAAA answer with a usable address; on such an A answer, once
-- there is an AAAA answer, or at the end of the Resolution Delay
abbrev pub a_begins : ℕ → ℕ → ℕ → ℕ
a_begins a resolution aaaa = max a (min (a + resolution) aaaa)

abbrev pub usable_from : ℕ → Option Reply → ℕ
usable_from end None = end
usable_from end (Some reply) = if list_any is_usable reply.addresses then min reply.tick end else end

abbrev pub begins : Race → ℕ → ℕ
begins race end =
    min end
    (min (usable_from end race.aaaa)
    (a_begins (usable_from end race.a) race.settings.resolution (answer_tick end race.aaaa)))

-- a stage in which one owner has all but what this machine has
abbrev pub stage_of_one : Owner → ℕ → Stage
stage_of_one owner due = record { owner = owner; waited = 0; came = 0; answered = 0; due = due }

-- before the first start; without usable addresses the race is over with the later answer
abbrev pub first_due : ℕ → ℕ → ℕ → ℕ
first_due end begin answered = if nat_lt begin end then begin else answered

abbrev pub first_stage : Race → ℕ → Stage
first_stage race end = stage_of_one owners.Names (first_due end (begins race end) (answered_of race end))

-- the tick at which an attempt connects
abbrev pub connected_at : ℕ → ℕ → Option Outcome → ℕ
connected_at end start (Some (outcomes.Ok duration)) = min end (start + duration)
connected_at end start _ = end

-- after the winner's start
abbrev pub winner_stage : Race → ℕ → Line → Stage
winner_stage race end line = stage_of_one owners.Connecting (connected_at end line.tick (outcome_of race line.ip))

abbrev pub stage_without_winner : Race → ℕ → List Ip → List Line → Option Line → Stage
stage_without_winner race end untried started None = first_stage race end
stage_without_winner race end untried started (Some last) = stage_after race end untried started last

abbrev pub stage_by : Race → ℕ → List Ip → List Line → Option Line → Stage
stage_by race end untried started (Some winner) = winner_stage race end winner
stage_by race end untried started None = stage_without_winner race end untried started (last_line started)

-- the race once these attempts, the first ones of its transcript, have started
unfoldable pub stage_of : Race → Report → List Ip → List Line → Stage
stage_of race report untried started =
    stage_by race (end_of report) untried started (winner_of started report.result)

-- who owns the tick of a race whose client did not try these addresses
abbrev pub owner_at : Race → Report → List Ip → ℕ → Owner
owner_at race report untried t =
    owner_in race.pauses (stage_of race report untried (started_by t report.lines)) t

-- how many ticks of a race this owner has
abbrev pub owned : Race → Report → List Ip → Owner → ℕ
owned race report untried who = ticks_of (owner_at race report untried) (end_of report) who

-- the value is the account of the race with this transcript, whose client did not try these addresses
pub record IsAccount {A : Type 0} (race : Race) (report : Report) (untried : List Ip) (account : Account A) : Type 0 where
  pub as_many : length account.tried.items ≡ length report.lines
  pub each : (who : Owner) → IsOwner (length report.lines) who → amount_of account who ≡ owned race report untried who

-- the times of the race with this transcript
abbrev pub race_times : Race → Report → List Ip → Times
race_times race report untried =
    record {
      all = end_of report;
      names = owned race report untried owners.Names;
      lost =
          sum_below (λ place. owned race report untried (owners.Tried place)) (length report.lines)
          + owned race report untried owners.Nobody;
      unknown = owned race report untried owners.Unknown;
      machine = owned race report untried owners.Machine;
      connecting = owned race report untried owners.Connecting;
    }

-- each tick of a race has exactly one owner
abbrev pub EachTickHasAnOwner : Type 0
EachTickHasAnOwner =
    (race : Race) (report : Report) (untried : List Ip) (t : ℕ)
    → (who : Owner) × IsOwner (length report.lines) who × IsTrue (same_owner (owner_at race report untried t) who)
    × ((other : Owner) → IsTrue (same_owner (owner_at race report untried t) other) → other ≡ who)

-- what the owners of a race have is together the tick at which it ended
abbrev pub OwnersBalance : Type 0
OwnersBalance =
    (race : Race) (report : Report) (untried : List Ip)
    → ticks_of_all (owner_at race report untried) (length report.lines) (end_of report) ≡ end_of report

-- and so are its times
abbrev pub TimesAddUp : Type 0
TimesAddUp =
    (race : Race) (report : Report) (untried : List Ip)
    → let times = race_times race report untried in
    times.names + times.lost + times.unknown + times.machine + times.connecting ≡ times.all
