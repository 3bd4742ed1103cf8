-- The attempts of races by their addresses: the number of them, of those that failed or gave no answer, and the time
-- that they own; and the name servers that did not answer.
use Rattle.std.specs.Prelude.{ℕ, ◌≡◌, ◌+◌, ◌-◌, ◌^◌, ◌&&◌, ◌||◌, Bool, if◌then◌else◌, List, [], ◌∷◌, map, filter, min, take, count_by, nat_lt, IsPermutation, Option, Some, None}
use Rattle.std.specs.List.{IsDistinct, flat_map, sum_by, zip}
use Rattle.std.specs.List.Sorted.{IsSortedByKey}
use Rattle.std.specs.Map.{keys_of, lookup}
use Rattle.std.specs.Option.{unwrap_or}
use Rattle.std.specs.Ordering.{nat_cmp, ordering_then}
use Rattle.std.specs.declared.cmp.Ordering.{Ordering}
use Rattle.he_addr.specs.Ip.{mapped_of, same_ip}
use Rattle.he_addr.specs.declared.ip.Ip.{Ip}
use Rattle.he_timeline.specs.Race.{Race}
use Rattle.he_record.specs.Said.{Said, ServerSaid}
use Rattle.he_record.specs.declared.reasons.ServerReason.{ServerReason}
use Rattle.he_record.specs.declared.reasons.ServerReason.TheVariants as reasons
use Rattle.he_plan.specs.declared.transcript.Line.{Line}
use Rattle.he_totals.specs.Kept.{Run, is_loss, loss_of}
use Rattle.he_totals.specs.declared.kept.Loss.{Loss}
use Rattle.he_totals.specs.declared.kept.Loss.TheVariants as losses
use Rattle.he_totals.specs.declared.tallies.Tally.{Tally}

-- an attempt to an address, whether it failed or gave no answer, and the milliseconds that it owns
pub record Try : Type 0 where
  pub ip : Ip
  pub loss : Option Loss
  pub lost : ℕ

-- the attempt of a line, with what it owns
abbrev pub try_of : List Said → Race → Line × ℕ → Try
try_of said race charged =
    record { ip = charged.0.ip; loss = loss_of said race charged.0; lost = charged.1 }

abbrev pub tries_on : List Said → Race → List Line → List ℕ → List Try
tries_on said race lines charges = map (try_of said race) (zip lines charges)

abbrev pub tries_of : Run → List Try
tries_of run = tries_on run.said run.race run.report.lines run.charges

-- a name server that was given up gave no answer, or it failed
abbrev pub server_loss : ServerReason → Loss
server_loss reasons.Silent = losses.NoAnswer
server_loss reasons.Refused = losses.Failed
server_loss reasons.Failed = losses.Failed
server_loss reasons.Unreachable = losses.Failed

abbrev pub dead_server : Said → Option (Ip × Loss)
dead_server (ServerSaid ip reason ticks) = Some (ip, server_loss reason)
dead_server said = None

-- it owns no time of its race: the names do
abbrev pub try_at : Option (Ip × Loss) → List Try
try_at None = []
try_at (Some server) = record { ip = server.0; loss = Some server.1; lost = 0 } ∷ []

abbrev pub server_tries : Said → List Try
server_tries said = try_at (dead_server said)

abbrev pub servers_of : Run → List Try
servers_of run = flat_map server_tries run.said

-- a number, up to the greatest that is counted
abbrev pub saturated : ℕ → ℕ
saturated n = min n (2 ^ 64 - 1)

-- a tally with one attempt more
abbrev pub tried : Tally → Option Loss → ℕ → Tally
tried tally loss lost =
    record {
      attempts = saturated (tally.attempts + 1);
      failed = saturated (tally.failed + (if is_loss losses.Failed loss then 1 else 0));
      no_answer = saturated (tally.no_answer + (if is_loss losses.NoAnswer loss then 1 else 0));
      lost = saturated (tally.lost + lost);
    }

-- the milliseconds that the attempts to this address own
abbrev pub lost_on : List Try → Ip → ℕ
lost_on tries ip = sum_by (λ x. if same_ip ip x.ip then x.lost else 0) tries

-- the attempts to this address: all, the failed ones, those without an answer, and what they own
abbrev pub tally_of : List Try → Ip → Tally
tally_of tries ip =
    record {
      attempts = saturated (count_by (λ x. same_ip ip x.ip) tries);
      failed = saturated (count_by (λ x. same_ip ip x.ip && is_loss losses.Failed x.loss) tries);
      no_answer = saturated (count_by (λ x. same_ip ip x.ip && is_loss losses.NoAnswer x.loss) tries);
      lost = saturated (lost_on tries ip);
    }

-- the tally of this address
abbrev pub tally_at : List (Ip × Tally) → Ip → Tally
tally_at tallies ip =
    unwrap_or (lookup (same_ip ip) tallies) (record { attempts = 0; failed = 0; no_answer = 0; lost = 0 })

-- the tallies of the addresses of these attempts, no address twice
pub record AreTallies (tries : List Try) (tallies : List (Ip × Tally)) : Type 0 where
  pub once : IsDistinct same_ip (keys_of tallies)
  pub each : (ip : Ip) → tally_at tallies ip ≡ tally_of tries ip

-- the attempts that failed or gave no answer
abbrev pub dead_of : Tally → ℕ
dead_of tally = tally.failed + tally.no_answer

-- there are such attempts, or time was lost
abbrev pub has_lost : Ip × Tally → Bool
has_lost tallied = nat_lt 0 tallied.1.lost || nat_lt 0 (dead_of tallied.1)

-- the order: most lost time first, equal ones by the number of attempts that failed or gave no answer, then by the
-- number of the address, an IPv4 address by its mapped IPv6 number
abbrev pub rank_of : Ip × Tally → ℕ × (ℕ × ℕ)
rank_of tallied = (tallied.1.lost, (dead_of tallied.1, mapped_of tallied.0))

abbrev pub most_first : ℕ × (ℕ × ℕ) → ℕ × (ℕ × ℕ) → Ordering
most_first x y = ordering_then (nat_cmp y.0 x.0) (ordering_then (nat_cmp y.1.0 x.1.0) (nat_cmp x.1.1 y.1.1))

-- the first ten tallies that have such attempts or lost time, in that order
abbrev pub AreRanked : List (Ip × Tally) → List (Ip × Tally) → Type 0
AreRanked tallies told =
    (ranked : List (Ip × Tally)) × IsPermutation (filter has_lost tallies) ranked
    × IsSortedByKey rank_of most_first ranked × (told ≡ take 10 ranked)

-- the addresses that are reported
abbrev pub AreFailing : List Try → List (Ip × Tally) → Type 0
AreFailing tries told = (tallies : List (Ip × Tally)) × AreTallies tries tallies × AreRanked tallies told
