use Rattle.std.proofs.Common.{◌+◌, ◌<◌, ◌^◌, sym, subst, arith}
use Rattle.he_addr.proofs.Between.{last_fits}
use Rattle.he_addr.proofs.prefix.Prefix.new.Goals as goal

pub overflow_add-result : goal.overflow_add-result
overflow_add-result c =
    let below : c.args.bits + c.free_ones.result < 2 ^ 128 = subst (λ n. c.args.bits + n < 2 ^ 128) (sym c.free_ones.ensures) (last_fits c.args.bits c.args.len c.requires) in
    omega arith
