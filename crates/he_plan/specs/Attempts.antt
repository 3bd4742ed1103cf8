-- The attempts that a race makes, and when (RFC 8305 sections 3 to 5): its plan, in which no success stops it.
use Rattle.std.specs.Prelude.{ℕ, ◌≡◌, ◌+◌, ◌-◌, ◌<◌, ◌≤◌, ◌⊎◌, ◌++◌, Bool, false, not, if◌then◌else◌, List, [], length, filter, find, take, Option, Some, None, MatchOption, IsSomeAnd, slice_get, IsTrue, nat_le}
use Rattle.std.specs.List.{list_all, list_any}
use Rattle.he_addr.specs.declared.ip.Ip.{Ip}
use Rattle.he_addr.specs.Ip.{is_usable, same_ip}
use Rattle.he_plan.specs.declared.attempts.Attempt.{Attempt}
use Rattle.he_timeline.specs.declared.outcome.Outcome.{Outcome}
use Rattle.he_timeline.specs.declared.outcome.Outcome.TheVariants as outcomes
use Rattle.he_plan.specs.Alternating.{interlace}
use Rattle.he_timeline.specs.Race.{Race, Reply, outcome_of, race_input}
use Rattle.he_timeline.specs.Seen.{IsFree, IsLeast, seen}
use Rattle.he_select.specs.Preference.{order_of}

-- the usable addresses of an answer that is seen at t or earlier
abbrev pub received_of : Race → ℕ → Option Reply → List Ip
received_of race t None = []
received_of race t (Some reply) = if nat_le (seen race reply.tick) t then filter is_usable reply.addresses else []

abbrev pub received : Race → ℕ → List Ip
received race t = received_of race t race.aaaa ++ received_of race t race.a

-- the answer is seen at t or earlier
abbrev pub IsAnswered : Race → ℕ → Option Reply → Type 0
IsAnswered race t reply = IsSomeAnd reply (λ r. seen race r.tick ≤ t)

-- and it is positive: it has a usable address
abbrev pub IsPositive : Race → ℕ → Option Reply → Type 0
IsPositive race t reply = IsSomeAnd reply (λ r. IsTrue (list_any is_usable r.addresses) × (seen race r.tick ≤ t))

-- the Resolution Delay after the A answer's own tick is over at t
abbrev pub IsDelayOver : Race → ℕ → Type 0
IsDelayOver race t = IsSomeAnd race.a (λ r. seen race (r.tick + race.settings.resolution) ≤ t)

-- the race may begin (RFC 8305 section 3): at once on a positive AAAA answer; on a positive A answer once the AAAA
-- answer, positive or not, has come or the Resolution Delay is over
abbrev pub MayBegin : Race → ℕ → Type 0
MayBegin race t =
    IsFree race t
    × (IsPositive race t race.aaaa ⊎ (IsPositive race t race.a × (IsAnswered race t race.aaaa ⊎ IsDelayOver race t)))

-- the received addresses by preference (RFC 8305 section 4, RFC 6724 section 6)
abbrev pub order : Race → List Ip → List Ip
order race ips = order_of (race_input race) ips

-- the list from which an attempt at t takes its address: all received addresses, including those already tried
abbrev pub order_at : Race → ℕ → List Ip
order_at race t = interlace (order race (received race t)) race.settings.count

abbrev pub is_tried : List Attempt → Ip → Bool
is_tried done ip = list_any (λ x. same_ip x.ip ip) done

abbrev pub is_untried : List Attempt → Ip → Bool
is_untried done ip = not (is_tried done ip)

abbrev pub last_of : List Attempt → Option Attempt
last_of done = slice_get done (length done - 1)

-- an attempt finishes when its duration is over, at a free tick
abbrev pub finish_of : Race → ℕ → ℕ → ℕ
finish_of race start duration = seen race (start + duration)

-- the attempt has failed by t: its address's outcome is a failure, and it finishes at or before t
abbrev pub has_failed_by : Race → ℕ → ℕ → Option Outcome → Bool
has_failed_by race t start None = false
has_failed_by race t start (Some (outcomes.Ok duration)) = false
has_failed_by race t start (Some (outcomes.Fail duration)) = nat_le (finish_of race start duration) t

abbrev pub has_failed : Race → ℕ → Attempt → Bool
has_failed race t x = has_failed_by race t x.tick (outcome_of race x.ip)

-- every attempt so far has failed by t; one that succeeds never fails
abbrev pub HaveFailed : Race → List Attempt → ℕ → Type 0
HaveFailed race done t = IsTrue (list_all (has_failed race t) done)

-- the wait after the last attempt is over (RFC 8305 section 5): the Connection Attempt Delay has passed since its
-- start; or there is a floor, which has passed since, and every attempt so far has failed (own)
abbrev pub HasWaited : Race → List Attempt → ℕ → Attempt → Type 0
HasWaited race done t last =
    (last.tick + race.settings.attempt ≤ t)
    ⊎ IsSomeAnd race.settings.floor (λ floor. (last.tick + floor ≤ t) × HaveFailed race done t)

-- an attempt may start after the last one: the wait for that one is over, and a received address is untried
pub record MayFollow (race : Race) (done : List Attempt) (t : ℕ) (last : Attempt) : Type 0 where
  pub free : IsFree race t
  pub waited : HasWaited race done t last
  pub some : IsTrue (list_any (is_untried done) (received race t))

-- an attempt may start at t, after these attempts
abbrev pub MayStart : Race → List Attempt → ℕ → Type 0
MayStart race done t = (t < race.settings.limit) × MatchOption (last_of done) (MayBegin race t) (MayFollow race done t)

-- the attempt that comes after these: at the least tick at which one may start, to the first untried address
pub record IsNext (race : Race) (done : List Attempt) (next : Attempt) : Type 0 where
  pub place : next.place ≡ length done
  pub tick : IsLeast (MayStart race done) next.tick
  pub ip : find (is_untried done) (order_at race next.tick) ≡ Some next.ip

-- each of these attempts is the one that comes after those before it
abbrev pub AreNextInTurn : Race → List Attempt → Type 0
AreNextInTurn race attempts =
    (n : ℕ) (next : Attempt) → slice_get attempts n ≡ Some next → IsNext race (take n attempts) next

-- the attempts of the race, in order; none may start after them
pub record AreAttempts (race : Race) (attempts : List Attempt) : Type 0 where
  pub in_turn : AreNextInTurn race attempts
  pub no_more : (t : ℕ) → ¬ MayStart race attempts t
