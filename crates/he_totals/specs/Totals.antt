-- The counts and the sums of races.
use Rattle.std.specs.Prelude.{ℕ, ◌≡◌, ◌==◌, Bool, true, false, List, length, count_by, map, nat_lt, Option, Some, None}
use Rattle.std.specs.List.{filter_map}
use Rattle.he_addr.specs.Ip.{family_of}
use Rattle.he_addr.specs.declared.ip.Family.{Family}
use Rattle.he_addr.specs.declared.ip.Family.TheVariants as families
use Rattle.he_course.specs.declared.accounts.Times.{Times}
use Rattle.he_record.specs.declared.reasons.ClientEnd.{ClientEnd}
use Rattle.he_record.specs.declared.reasons.ClientEnd.TheVariants as ends
use Rattle.he_record.specs.declared.reasons.LookupReason.{LookupReason}
use Rattle.he_record.specs.declared.reasons.LookupReason.TheVariants as reasons
use Rattle.he_totals.specs.Times.{IsSpread, total}
use Rattle.he_totals.specs.declared.kept.Ending.{Ending}
use Rattle.he_totals.specs.declared.kept.Ending.TheVariants as endings
use Rattle.he_totals.specs.declared.kept.Kept.{Kept}
use Rattle.he_totals.specs.declared.totals.Counts.{Counts}
use Rattle.he_totals.specs.declared.totals.Kind.{Kind}
use Rattle.he_totals.specs.declared.totals.Kind.TheVariants as kinds
use Rattle.he_totals.specs.declared.totals.Share.{Share}
use Rattle.he_totals.specs.declared.totals.Share.TheVariants as shares
use Rattle.he_totals.specs.declared.totals.Totals.{Totals}
use Rattle.he_totals.specs.declared.totals.Value.{Value}
use Rattle.he_totals.specs.declared.totals.Value.TheVariants as values

abbrev pub same_family : Family → Family → Bool
same_family families.V4 families.V4 = true
same_family families.V6 families.V6 = true
same_family _ _ = false

-- a race that ended so, after this number of attempts, waited for the AAAA answer or not
abbrev pub is_so : Kind → Ending → ℕ → Bool → Bool
is_so kinds.Won (endings.Won ip time) attempts waited = true
is_so (kinds.WonBy family) (endings.Won (Some ip) time) attempts waited = same_family (family_of ip) family
is_so kinds.TimedOut (endings.Limit time) attempts waited = true
is_so kinds.AllFailed (endings.Exhausted time) attempts waited = nat_lt 0 attempts
is_so kinds.NoAddress (endings.Exhausted time) attempts waited = attempts == 0
is_so kinds.Waited ending attempts waited = waited
is_so _ _ _ _ = false

-- the recorded client connected, gave up or failed
abbrev pub client_is : Kind → Option ClientEnd → Bool
client_is kinds.Connected (Some (ends.Connected ticks)) = true
client_is kinds.GaveUp (Some (ends.GaveUp ticks)) = true
client_is kinds.Failed (Some (ends.Failed ticks)) = true
client_is _ _ = false

-- the place of a reason in the report
abbrev pub reason_place : LookupReason → ℕ
reason_place reasons.NoSuchName = 0
reason_place reasons.NoAddress = 1
reason_place reasons.NoAnswer = 2
reason_place reasons.Refused = 3
reason_place reasons.Failed = 4
reason_place reasons.Malformed = 5
reason_place reasons.NotAsked = 6
reason_place reasons.Nat64 = 7

abbrev pub has_reason : LookupReason → Option LookupReason → Bool
has_reason reason None = false
has_reason reason (Some other) = reason_place other == reason_place reason

abbrev pub lookup_of : Family → Kept → Option LookupReason
lookup_of families.V6 race = race.aaaa
lookup_of families.V4 race = race.a

abbrev pub is_kind : Kind → Kept → Bool
is_kind (kinds.Lookup family reason) race = has_reason reason (lookup_of family race)
is_kind kinds.Connected race = client_is kinds.Connected race.client
is_kind kinds.GaveUp race = client_is kinds.GaveUp race.client
is_kind kinds.Failed race = client_is kinds.Failed race.client
is_kind kind race = is_so kind race.ending race.attempts race.has_waited

-- what went into this, of a race
abbrev pub share_of : Share → Times → ℕ
share_of shares.All times = times.all
share_of shares.Names times = times.names
share_of shares.Lost times = times.lost
share_of shares.Unknown times = times.unknown
share_of shares.Machine times = times.machine
share_of shares.Connecting times = times.connecting

-- the time, if the race was won; or if it was not
abbrev pub if_won : Ending → ℕ → Option ℕ
if_won (endings.Won ip time) share = Some share
if_won _ share = None

abbrev pub if_not_won : Ending → Option ℕ
if_not_won (endings.Won ip time) = None
if_not_won (endings.Exhausted time) = Some time
if_not_won (endings.Limit time) = Some time

abbrev pub time_of : Ending → Option ℕ
time_of (endings.Won ip time) = Some time
time_of _ = None

abbrev pub connected_at : Option ClientEnd → Option ℕ
connected_at (Some (ends.Connected ticks)) = Some ticks
connected_at _ = None

-- the time to connect, if the recorded client connected
abbrev pub time_beside : Option ClientEnd → Option ℕ → Option ℕ
time_beside (Some (ends.Connected ticks)) time = time
time_beside _ time = None

abbrev pub value_of : Value → Kept → Option ℕ
value_of values.Time race = time_of race.ending
value_of (values.OfIt share) race = if_won race.ending (share_of share race.times)
value_of values.GivenUp race = if_not_won race.ending
value_of values.Attempts race = Some race.attempts
value_of values.Client race = connected_at race.client
value_of values.ByRules race = time_beside race.client (time_of race.ending)

abbrev pub counts_of : List Kept → Counts
counts_of kept =
    record {
      races = length kept;
      won = count_by (is_kind kinds.Won) kept;
      by_v6 = count_by (is_kind (kinds.WonBy families.V6)) kept;
      by_v4 = count_by (is_kind (kinds.WonBy families.V4)) kept;
      timed_out = count_by (is_kind kinds.TimedOut) kept;
      all_failed = count_by (is_kind kinds.AllFailed) kept;
      no_address = count_by (is_kind kinds.NoAddress) kept;
      waited = count_by (is_kind kinds.Waited) kept;
    }

-- what went into this, of all races
abbrev pub sum_of : Share → List Kept → ℕ
sum_of share kept = total (map (λ race. share_of share race.times) kept)

abbrev pub sums_of : List Kept → Times
sums_of kept =
    record {
      all = sum_of shares.All kept;
      names = sum_of shares.Names kept;
      lost = sum_of shares.Lost kept;
      unknown = sum_of shares.Unknown kept;
      machine = sum_of shares.Machine kept;
      connecting = sum_of shares.Connecting kept;
    }

pub record AreTotals (kept : List Kept) (totals : Totals) : Type 0 where
  pub counts : totals.counts ≡ counts_of kept
  pub sums : totals.sums ≡ sums_of kept
  pub times : IsSpread (filter_map (value_of values.Time) kept) totals.times
  pub names : IsSpread (filter_map (value_of (values.OfIt shares.Names)) kept) totals.names
  pub lost : IsSpread (filter_map (value_of (values.OfIt shares.Lost)) kept) totals.lost
  pub given_up : IsSpread (filter_map (value_of values.GivenUp) kept) totals.given_up
  pub attempts : IsSpread (filter_map (value_of values.Attempts) kept) totals.attempts
  pub clients : IsSpread (filter_map (value_of values.Client) kept) totals.clients
  pub by_rules : IsSpread (filter_map (value_of values.ByRules) kept) totals.by_rules
