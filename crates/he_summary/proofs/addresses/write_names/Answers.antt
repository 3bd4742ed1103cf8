use Rattle.std.proofs.lemmas.Result.{on_ok_weaker}
use Rattle.he_summary.proofs.Listed.{hosts_written}
use Rattle.he_summary.proofs.addresses.write_names.Goals as goal

pub returns : goal.returns
returns g c =
    let (words, gap) = c.in_ok-write_gap.ensures in
    on_ok_weaker c.write_others.result
    (λ done. (
      words,
      hosts_written c.in-Some.first.now c.in-Some.more.now c.args.names.now c.min.result c.split_at.result.0.now c.split_at.result.1.now c.args.text.now.items words c.write_gap.new.text.items c.extend_from_slice.new.self.items
          c.write_each.new.text.items c.write_others.new.text.items c.in-Some.ensures.cases.0 c.min.ensures c.split_at.ensures.front c.split_at.ensures.back gap c.in_ok-extend_from_slice.ensures.items c.in_ok-write_each.ensures done,
    ))
    c.write_others.ensures
