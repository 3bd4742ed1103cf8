use Rattle.std.proofs.Common.{rules}
use Rattle.std.proofs.lemmas.List.Sorted.{answers_always}
use Rattle.std.specs.Option.{unwrap_or}
use Rattle.he_totals.specs.Totals.{time_of}
use Rattle.he_totals.specs.declared.kept.Kept.{Kept}
use Rattle.he_summary.proofs.writing.sort_slowest.Goals as goal

pub returns-clause-sorted : goal.returns-clause-sorted
returns-clause-sorted g c =
    c.sort_unstable_by_key.ensures.sorted (λ (race : Kept). (record { 0 = unwrap_or (time_of race.ending) 0 }, (race.place.file, race.place.number))) (answers_always _ _ _ (λ f a r next called. search rules))
