use Rattle.std.proofs.Common.{ℕ, leb, leb-true, leb-false, rules, arith}
use Rattle.std.proofs.lemmas.List.Sorted.{IsPartitionPoint-from_clause, IsPartitionedBy-leb}
use Rattle.he_timeline.proofs.Seen.{seen_drop, ahead_drop, ends_rise}
use Rattle.he_timeline.proofs.timeline.ended_by.Goals as goal

pub returns : goal.returns
returns c =
    let parted = IsPartitionedBy-leb (λ (p : ℕ × ℕ). p.1) _ c.args.tick (λ i j d up below. ends_rise c.args.pauses.now 0 i j d c.requires up below) in
    let point = IsPartitionPoint-from_clause (λ (p : ℕ × ℕ). leb p.1 c.args.tick) _ _ c.partition_point.ensures.partitioned parted (λ a r q k. search rules) in
    record {
      few = c.partition_point.ensures.bound;
      same = seen_drop c.args.pauses.now c.partition_point.result c.args.tick (λ k d h. leb-true _ _ (point.0 k d (omega arith) h));
      ahead = ahead_drop c.args.pauses.now 0 c.partition_point.result c.args.tick c.requires (λ d h. leb-false _ _ (point.1 c.partition_point.result d (omega arith) h));
    }
