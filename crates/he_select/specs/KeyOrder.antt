-- Mirrors the code: the order of keys, `key_cmp` of `DestinationKeys`, built from the standard library's parts; and a
-- proof that it is total.
use Rattle.std.specs.declared.cmp.Ordering.{Ordering}
use Rattle.std.specs.Cmp.{IsTotalOrder, bool_cmp_total, nat_cmp_total, on_total, back_total, then_total}
use Rattle.std.specs.Ordering.{nat_cmp, bool_cmp, on, flip_args, then_cmp}
use Rattle.he_select.specs.declared.ranking.Key.{Key}

-- the rules from 6 on
abbrev pub late_key_order : Key → Key → Ordering
late_key_order =
    then_cmp (flip_args (on (λ k. k.precedence.0) nat_cmp))
    (then_cmp (on (λ k. k.tunnel) bool_cmp)
    (then_cmp (on (λ k. k.scope) nat_cmp)
    (then_cmp (on (λ k. k.rtt) nat_cmp)
    (then_cmp (on (λ k. k.unused) bool_cmp)
    (then_cmp (flip_args (on (λ k. k.common.0) nat_cmp)) (on (λ k. k.place) nat_cmp))))))

abbrev pub key_order : Key → Key → Ordering
key_order =
    then_cmp (on (λ k. k.unreachable) bool_cmp)
    (then_cmp (on (λ k. k.other_scope) bool_cmp)
    (then_cmp (on (λ k. k.deprecated) bool_cmp)
    (then_cmp (on (λ k. k.other_label) bool_cmp) late_key_order)))

-- `late_key_order`, for the code
unfoldable pub late_key_cmp : Key → Key → Ordering
late_key_cmp a b = late_key_order a b

pub key_order_total : IsTotalOrder key_order
key_order_total =
    then_total (on_total (λ (k : Key). k.unreachable) bool_cmp_total)
    (then_total (on_total (λ (k : Key). k.other_scope) bool_cmp_total)
    (then_total (on_total (λ (k : Key). k.deprecated) bool_cmp_total)
    (then_total (on_total (λ (k : Key). k.other_label) bool_cmp_total)
    (then_total (back_total (on_total (λ (k : Key). k.precedence.0) nat_cmp_total))
    (then_total (on_total (λ (k : Key). k.tunnel) bool_cmp_total)
    (then_total (on_total (λ (k : Key). k.scope) nat_cmp_total)
    (then_total (on_total (λ (k : Key). k.rtt) nat_cmp_total)
    (then_total (on_total (λ (k : Key). k.unused) bool_cmp_total)
    (then_total (back_total (on_total (λ (k : Key). k.common.0) nat_cmp_total))
    (on_total (λ (k : Key). k.place) nat_cmp_total))))))))))
