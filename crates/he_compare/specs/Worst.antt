-- The worst of the groups of races.
use Rattle.std.specs.Prelude.{ℕ, ◌≡◌, ◌==◌, ◌-◌, ◌++◌, ◌&&◌, ◌||◌, if◌then◌else◌, Bool, List, [], ◌∷◌, length, nat_lt, Option, Some, None}
use Rattle.std.specs.List.{fold}
use Rattle.he_print.specs.declared.part.Fact.{Fact}
use Rattle.he_print.specs.declared.part.Fact.TheVariants as facts
use Rattle.he_summary.specs.Written.{Tells}
use Rattle.he_totals.specs.declared.kept.Kept.{Kept}
use Rattle.he_totals.specs.declared.totals.Totals.{Totals}
use Rattle.he_compare.specs.Groups.{AreGroups, Division, label_of}
use Rattle.he_compare.specs.declared.groups.Group.{Group}
use Rattle.he_compare.specs.declared.row.Said.{Said}

-- the races that did not connect
abbrev pub not_won : Totals → ℕ
not_won totals = totals.counts.races - totals.counts.won

-- there are such races, or time was lost
abbrev pub is_bad : Totals → Bool
is_bad totals = nat_lt 0 (not_won totals) || nat_lt 0 totals.sums.lost

-- more races did not connect; or equally many, and more time was lost
abbrev pub is_worse : Totals → Totals → Bool
is_worse totals other =
    nat_lt (not_won other) (not_won totals)
    || (not_won totals == not_won other && nat_lt other.sums.lost totals.sums.lost)

-- the worst so far, after one group more
abbrev pub worse : Option Group → Group → Option Group
worse None group = if is_bad group.totals then Some group else None
worse (Some worst) group = if is_worse group.totals worst.totals then Some group else Some worst

-- the first one than which none is worse, if it is bad
abbrev pub worst_of : List Group → Option Group
worst_of groups = fold worse None groups

-- of one group alone nothing is said
abbrev pub told_of : List Group → Option Group
told_of groups = if nat_lt 1 (length groups) then worst_of groups else None

-- how many of its races did not connect, and what they lost
abbrev pub cost_facts : Totals → List (Fact Said)
cost_facts totals =
    facts.Number (not_won totals) ∷ facts.Number totals.counts.races ∷ facts.Number totals.sums.lost ∷ []

-- words, the label of the group, and what it cost
abbrev pub IsWorstLine : List ℕ → Division → Option Group → List ℕ → List ℕ → Type 0
IsWorstLine words division None old new = new ≡ old
IsWorstLine words division (Some group) old new =
    Tells (cost_facts group.totals) (old ++ (words ++ label_of division group.key)) new

-- the line on the worst group of these races has been appended, if there is one
abbrev pub IsWorst : List ℕ → Division → List Kept → List ℕ → List ℕ → Type 0
IsWorst words division kept old new =
    (groups : List Group) × AreGroups division kept groups × IsWorstLine words division (told_of groups) old new
