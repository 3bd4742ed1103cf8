use Rattle.he_select.proofs.sorting.sort.Goals as goal

pub returns-clause-permutation : goal.returns-clause-permutation
returns-clause-permutation c = c.sort_unstable.ensures.permutation
