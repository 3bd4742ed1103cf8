use Rattle.std.proofs.Common.{IsPermutation, List, subst}
use Rattle.he_addr.specs.declared.ip.Ip.{Ip}
use Rattle.he_totals.specs.declared.tallies.Tally.{Tally}
use Rattle.he_totals.proofs.tallies.Tallies.ranked.Goals as goal

pub returns : goal.returns
returns g c =
    let moved = subst (λ (failing : List (Ip × Tally)). IsPermutation failing c.rank.new.tallies.items) c.in_ok-ranked.ensures c.rank.ensures.permutation in
    (c.rank.new.tallies.items, moved, c.rank.ensures.sorted, c.truncate.ensures.items)
