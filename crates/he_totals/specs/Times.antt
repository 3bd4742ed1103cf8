-- Percentiles of numbers of races, such as times to connect.
use Rattle.std.specs.Prelude.{ℕ, ◌≡◌, ◌≤◌, ◌*◌, List, [], length, count_by, nat_le, Option, Some, None}
use Rattle.std.specs.List.{sum_by}
use Rattle.he_timeline.specs.Seen.{IsLeast}
use Rattle.he_totals.specs.Tries.{saturated}
use Rattle.he_totals.specs.declared.times.Spread.{Spread}

-- the least number within which at least `percent` of 100 of them lie
abbrev pub IsPercentile : List ℕ → ℕ → ℕ → Type 0
IsPercentile numbers percent =
    IsLeast (λ n. length numbers * percent ≤ 100 * count_by (λ other. nat_le other n) numbers)

abbrev pub total : List ℕ → ℕ
total numbers = saturated (sum_by (λ n. n) numbers)

pub record AreWithin (numbers : List ℕ) (spread : Spread) : Type 0 where
  pub count : spread.count ≡ length numbers
  pub total : spread.total ≡ total numbers
  pub median : IsPercentile numbers 50 spread.median
  pub p90 : IsPercentile numbers 90 spread.p90
  pub p99 : IsPercentile numbers 99 spread.p99
  pub greatest : IsPercentile numbers 100 spread.greatest

-- the summary of some numbers; None if there are none
abbrev pub IsSpread : List ℕ → Option Spread → Type 0
IsSpread numbers None = numbers ≡ []
IsSpread numbers (Some spread) = AreWithin numbers spread
