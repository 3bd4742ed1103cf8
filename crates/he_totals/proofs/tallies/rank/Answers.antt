use Rattle.std.proofs.Common.{rules}
use Rattle.std.proofs.lemmas.List.Sorted.{answers_always}
use Rattle.he_addr.specs.Ip.{mapped_of}
use Rattle.he_addr.specs.declared.ip.Ip.{Ip}
use Rattle.he_totals.specs.Tries.{dead_of}
use Rattle.he_totals.specs.declared.tallies.Tally.{Tally}
use Rattle.he_totals.proofs.tallies.rank.Goals as goal

pub returns-clause-sorted : goal.returns-clause-sorted
returns-clause-sorted g c =
    c.sort_unstable_by_key.ensures.sorted (λ (tallied : Ip × Tally). (record { 0 = tallied.1.lost }, (record { 0 = dead_of tallied.1 }, mapped_of tallied.0))) (answers_always _ _ _ (λ f a r next called. search rules))
