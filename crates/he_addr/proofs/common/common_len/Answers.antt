use Rattle.std.proofs.Common.{◌≤◌, sym, ◌∙◌, subst}
use Rattle.he_addr.specs.declared.ip.Ip.{Ip}
use Rattle.he_addr.specs.Prefix.{width_of}
use Rattle.he_addr.proofs.Common_bits.{greatest_is}
use Rattle.he_addr.proofs.common.common_len.Goals as goal

pub returns-in-V4-V4 : goal.returns-in-V4-V4
returns-in-V4-V4 c =
    let most : c.args.prefix_len ≤ 32 = subst (λ (ip : Ip). c.args.prefix_len ≤ width_of ip) c.in-V4-V4.is-0 c.requires.length in
    rw (c.in-V4-V4.is-0, c.in-V4-V4.is-1) (c.min.ensures ∙ sym (greatest_is 32 _ _ _ _ c.common_v4.ensures most))

pub returns-in-V6-V6 : goal.returns-in-V6-V6
returns-in-V6-V6 c =
    let most : c.args.prefix_len ≤ 128 = subst (λ (ip : Ip). c.args.prefix_len ≤ width_of ip) c.in-V6-V6.is-0 c.requires.length in
    rw (c.in-V6-V6.is-0, c.in-V6-V6.is-1) (c.min-in-V6-V6.ensures ∙ sym (greatest_is 128 _ _ _ _ c.common_v6.ensures most))
