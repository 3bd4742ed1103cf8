use Rattle.std.proofs.Common.{leb, rules}
use Rattle.std.proofs.lemmas.Bool.{leb-false, leb-true}
use Rattle.std.proofs.lemmas.List.Sorted.{IsPartitionPoint-from_clause, IsPartitionedBy-leb}
use Rattle.he_compare.specs.Groups.{division_of, key_of}
use Rattle.he_compare.proofs.groups.end_of.Goals as goal

pub returns-clause-point : goal.returns-clause-point
returns-clause-point c =
    let parted = IsPartitionedBy-leb (key_of (division_of c.args.grouping)) _ c.args.key c.requires in
    let point = IsPartitionPoint-from_clause (λ race. leb (key_of (division_of c.args.grouping) race) c.args.key) _ _ c.partition_point.ensures.partitioned parted (λ a r q k. search rules) in (
      λ k d low high. leb-true _ _ (point.0 k d low high),
      λ k d low high. leb-false _ _ (point.1 k d low high),
    )
