-- Histograms of times in milliseconds (OpenMetrics 1.0, "Histogram": buckets are cumulative).
use Rattle.std.specs.Prelude.{ℕ, ◌≡◌, ◌+◌, ◌-◌, ◌^◌, List, count_by, if◌then◌else◌, length, min, nat_le, sum}
use Rattle.he_metrics.specs.declared.histogram.Histogram.{Histogram}

-- a number, up to the greatest that is counted
abbrev pub saturated : ℕ → ℕ
saturated n = min n (2 ^ 64 - 1)

-- how many of the times are at most this bound
abbrev pub up_to : ℕ → List ℕ → ℕ
up_to bound times = saturated (count_by (λ millis. nat_le millis bound) times)

-- the histogram is that of these times: the number of those that are at most each bound, of all, and their sum
pub record Shows (times : List ℕ) (histogram : Histogram) : Type 0 where
  pub ms_5 : histogram.ms_5 ≡ up_to 5 times
  pub ms_10 : histogram.ms_10 ≡ up_to 10 times
  pub ms_25 : histogram.ms_25 ≡ up_to 25 times
  pub ms_50 : histogram.ms_50 ≡ up_to 50 times
  pub ms_100 : histogram.ms_100 ≡ up_to 100 times
  pub ms_250 : histogram.ms_250 ≡ up_to 250 times
  pub ms_500 : histogram.ms_500 ≡ up_to 500 times
  pub ms_1000 : histogram.ms_1000 ≡ up_to 1000 times
  pub ms_2500 : histogram.ms_2500 ≡ up_to 2500 times
  pub ms_5000 : histogram.ms_5000 ≡ up_to 5000 times
  pub ms_10000 : histogram.ms_10000 ≡ up_to 10000 times
  pub count : histogram.count ≡ saturated (length times)
  pub sum : histogram.sum ≡ saturated (sum times)

-- the count of a bucket, with another time
abbrev pub more_up_to : ℕ → ℕ → ℕ → ℕ
more_up_to count millis bound = if nat_le millis bound then saturated (count + 1) else count
