-- The races of a comparison, line by line.
use Rattle.std.specs.Prelude.{ℕ, ◌==◌, ◌++◌, if◌then◌else◌, List, [], ◌∷◌, Some, None}
use Rattle.he_print.specs.declared.part.Fact.{Fact}
use Rattle.he_print.specs.declared.part.Fact.TheVariants as facts
use Rattle.he_summary.specs.Written.{TellsEach, place_facts}
use Rattle.he_summary.specs.declared.figures.Form.{Form}
use Rattle.he_totals.specs.declared.kept.Ending.{Ending}
use Rattle.he_totals.specs.declared.kept.Ending.TheVariants as endings
use Rattle.he_totals.specs.declared.kept.Kept.{Kept}
use Rattle.he_compare.specs.Verdicts.{finish_of, own_after, verdict_of}
use Rattle.he_compare.specs.declared.lines.Told.{Told}
use Rattle.he_compare.specs.declared.lines.Told.TheVariants as told
use Rattle.he_compare.specs.declared.verdict.Finish.{Finish}

-- all addresses failed, or there was none to try
abbrev pub exhausted_said : ℕ → Told
exhausted_said attempts = if attempts == 0 then told.NoAddress else told.Exhausted

-- how a race with this number of attempts ended
abbrev pub ending_facts : ℕ → Ending → List (Fact Told)
ending_facts attempts (endings.Won (Some ip) tick) = facts.Said told.Won ∷ facts.Ip ip ∷ facts.Number tick ∷ []
ending_facts attempts (endings.Won None tick) = facts.Said told.Won ∷ facts.Number tick ∷ []
ending_facts attempts (endings.Exhausted tick) = facts.Said (exhausted_said attempts) ∷ facts.Number tick ∷ []
ending_facts attempts (endings.Limit tick) = facts.Said told.Limit ∷ facts.Number tick ∷ []

-- the place of a race, how it ends, and the verdict, against the race with its own settings
abbrev pub line_facts : Form → Finish → Kept → List (Fact Told)
line_facts form own race =
    place_facts form race.place
    ++ (ending_facts race.attempts race.ending ++ facts.Said (told.Is (verdict_of own (finish_of race))) ∷ [])

-- the facts of each of these; `own` is the result of the last race with its own settings
abbrev pub lines_facts : Form → Finish → List Kept → List (List (Fact Told))
lines_facts form own [] = []
lines_facts form own (race ∷ kept) =
    line_facts form (own_after own race) race ∷ lines_facts form (own_after own race) kept

abbrev pub AreLines : Form → Finish → List Kept → List ℕ → List ℕ → Type 0
AreLines form own kept = TellsEach (lines_facts form own kept)
