-- The effect of other settings on races.
use Rattle.std.specs.Prelude.{ℕ, ◌==◌, ◌++◌, if◌then◌else◌, Bool, true, false, List, [], ◌∷◌, count_by, nat_lt, Option, Some, None}
use Rattle.he_totals.specs.Totals.{value_of}
use Rattle.he_totals.specs.declared.kept.Kept.{Kept}
use Rattle.he_totals.specs.declared.totals.Value.TheVariants.{Time}
use Rattle.he_compare.specs.declared.verdict.Finish.{Finish}
use Rattle.he_compare.specs.declared.verdict.Finish.TheVariants as finishes
use Rattle.he_compare.specs.declared.verdict.Verdict.{Verdict}
use Rattle.he_compare.specs.declared.verdict.Verdict.TheVariants.{Sooner, Later, Same, OnlyWith, OnlyWithout, Neither, Unknown}
use Rattle.he_compare.specs.declared.verdict.Verdicts.{Verdicts}

-- a race is won at a tick, or not won
abbrev pub finish_by : Option ℕ → Finish
finish_by (Some tick) = finishes.Won tick
finish_by None = finishes.NotWon

-- the result of a race with an attempt at an untried address is not known
abbrev pub finish_of : Kept → Finish
finish_of race = if race.has_untried then finishes.Unknown else finish_by (value_of Time race)

-- by the results of the race with its own settings, and with the other ones
abbrev pub verdict_of : Finish → Finish → Verdict
verdict_of (finishes.Won own) (finishes.Won other) =
    if nat_lt other own then Sooner else if nat_lt own other then Later else Same
verdict_of (finishes.Won own) finishes.NotWon = OnlyWithout
verdict_of finishes.NotWon (finishes.Won other) = OnlyWith
verdict_of finishes.NotWon finishes.NotWon = Neither
verdict_of _ _ = Unknown

-- the result of the last race with its own settings: in the first row
abbrev pub own_after : Finish → Kept → Finish
own_after own race = if race.row == 0 then finish_of race else own

-- races with the settings of a row, each against the race with its own settings, the last of the first row before it
abbrev pub verdicts_on : ℕ → Finish → List Kept → List Verdict
verdicts_on row own [] = []
verdicts_on row own (race ∷ kept) =
    (if race.row == row then verdict_of (own_after own race) (finish_of race) ∷ [] else [])
    ++ verdicts_on row (own_after own race) kept

abbrev pub is_like : Verdict → Verdict → Bool
is_like Sooner Sooner = true
is_like Later Later = true
is_like Same Same = true
is_like OnlyWith OnlyWith = true
is_like OnlyWithout OnlyWithout = true
is_like Neither Neither = true
is_like Unknown Unknown = true
is_like _ _ = false

abbrev pub counts_of : List Verdict → Verdicts
counts_of verdicts =
    record {
      sooner = count_by (is_like Sooner) verdicts;
      later = count_by (is_like Later) verdicts;
      same = count_by (is_like Same) verdicts;
      only_with = count_by (is_like OnlyWith) verdicts;
      only_without = count_by (is_like OnlyWithout) verdicts;
      neither = count_by (is_like Neither) verdicts;
      unknown = count_by (is_like Unknown) verdicts;
    }
