-- The rows of the table of a comparison.
use Rattle.std.specs.Prelude.{ℕ, zero, suc, ◌≡◌, ◌==◌, ◌+◌, ◌*◌, ◌/◌, ◌%◌, ◌++◌, List, [], ◌∷◌, filter, Option, Some, None}
use Rattle.std.specs.Option.{option_map_or}
use Rattle.he_print.specs.declared.part.Fact.{Fact}
use Rattle.he_print.specs.declared.part.Fact.TheVariants as facts
use Rattle.he_summary.specs.Figures.{share, total_of}
use Rattle.he_totals.specs.Totals.{AreTotals}
use Rattle.he_totals.specs.Tries.{saturated}
use Rattle.he_totals.specs.declared.kept.Kept.{Kept}
use Rattle.he_totals.specs.declared.times.Spread.{Spread}
use Rattle.he_compare.specs.Verdicts.{counts_of, verdicts_on}
use Rattle.he_compare.specs.declared.row.Row.{Row}
use Rattle.he_compare.specs.declared.row.Said.{Said}
use Rattle.he_compare.specs.declared.row.Said.TheVariants.{NoTime}
use Rattle.he_compare.specs.declared.verdict.Finish.TheVariants.{NotWon}
use Rattle.he_compare.specs.declared.verdict.Verdicts.{Verdicts}

-- the counts of the races that are kept with the settings of a row
pub record IsRow (place : ℕ) (kept : List Kept) (row : Row) : Type 0 where
  pub totals : AreTotals (filter (λ race. race.row == place) kept) row.totals
  pub verdicts : row.verdicts ≡ counts_of (verdicts_on place NotWon kept)

abbrev pub times_facts : Option Spread → List (Fact Said)
times_facts None = facts.Said NoTime ∷ []
times_facts (Some times) = facts.Number times.median ∷ facts.Number times.p90 ∷ facts.Number times.p99 ∷ []

-- the mean of `count` numbers with this total, in hundredths, rounded to the nearest
abbrev pub mean : ℕ → ℕ → ℕ
mean total count = saturated ((200 * total + count) / (2 * count))

abbrev pub mean_by : ℕ → ℕ → ℕ
mean_by total zero = 0
mean_by total (suc count) = mean total (suc count)

abbrev pub hundredths : ℕ → List (Fact Said)
hundredths n = facts.Number (n / 100) ∷ facts.Number (n / 10 % 10) ∷ facts.Number (n % 10) ∷ []

abbrev pub mean_facts : Option Spread → List (Fact Said)
mean_facts attempts = hundredths (option_map_or (λ a. mean_by a.total a.count) attempts 0)

-- the share, in whole percents and tenths; none of 0
abbrev pub share_cell : ℕ → ℕ → List (Fact Said)
share_cell number zero = facts.Said NoTime ∷ []
share_cell number (suc of) =
    facts.Number (share number (suc of) / 10) ∷ facts.Number (share number (suc of) % 10) ∷ []

abbrev pub verdict_facts : Verdicts → List (Fact Said)
verdict_facts verdicts =
    facts.Number verdicts.sooner ∷ facts.Number verdicts.later ∷ facts.Number verdicts.same
    ∷ facts.Number verdicts.only_with ∷ facts.Number verdicts.only_without ∷ facts.Number verdicts.unknown ∷ []

abbrev pub row_facts : Row → List (Fact Said)
row_facts row =
    times_facts row.totals.times
    ++ (mean_facts row.totals.attempts
    ++ (share_cell row.totals.counts.by_v6 row.totals.counts.won ++ verdict_facts row.verdicts))

-- an object: the races, the number of them that were won, and by IPv6, the times, all attempts and the verdicts
abbrev pub object_facts : Row → List (Fact Said)
object_facts row =
    (facts.Number row.totals.counts.races ∷ facts.Number row.totals.counts.won
    ∷ facts.Number row.totals.counts.by_v6 ∷ [])
    ++ (times_facts row.totals.times
    ++ (facts.Number (total_of row.totals.attempts) ∷ verdict_facts row.verdicts))
