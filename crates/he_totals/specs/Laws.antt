-- Laws of the sums over races.
use Rattle.std.specs.Prelude.{◌≡◌, ◌+◌, All, List, map}
use Rattle.std.specs.List.{sum_by}
use Rattle.he_addr.specs.declared.ip.Ip.{Ip}
use Rattle.he_totals.specs.Kept.{IsCharged, Run, kept_of, nobody_of}
use Rattle.he_totals.specs.Summed.{all_tries}
use Rattle.he_totals.specs.Tries.{AreTallies, Try, lost_on}
use Rattle.he_totals.specs.declared.kept.Kept.{Kept}
use Rattle.he_totals.specs.declared.tallies.Tally.{Tally}

-- what the attempts to each address own is, over all addresses, what all attempts own
abbrev pub AddressesAddUp : Type 0
AddressesAddUp =
    (tries : List Try) (tallies : List (Ip × Tally)) → AreTallies tries tallies
    → sum_by (λ (tallied : Ip × Tally). lost_on tries tallied.0) tallies ≡ sum_by (λ (x : Try). x.lost) tries

-- what the attempts of races own, and what is lost with nothing left to try, is what the races lost
abbrev pub LossesAddUp : Type 0
LossesAddUp =
    (runs : List Run) → All IsCharged runs
    → sum_by (λ (x : Try). x.lost) (all_tries runs) + sum_by nobody_of runs
    ≡ sum_by (λ (race : Kept). race.times.lost) (map kept_of runs)

-- what the milliseconds of races went into is together what the races took
abbrev pub SumsAddUp : Type 0
SumsAddUp =
    (runs : List Run) → All IsCharged runs
    → let kept = map kept_of runs in
    sum_by (λ (race : Kept). race.times.names) kept + sum_by (λ (race : Kept). race.times.lost) kept
    + sum_by (λ (race : Kept). race.times.unknown) kept + sum_by (λ (race : Kept). race.times.machine) kept
    + sum_by (λ (race : Kept). race.times.connecting) kept
    ≡ sum_by (λ (race : Kept). race.times.all) kept
