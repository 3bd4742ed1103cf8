-- The destination rules by keys, and that keys are in a total order.
use Rattle.std.proofs.Common.{◌≡◌, ℕ, Bool, true, false, cond, refl, sym, ◌∙◌, ap, List}
use Rattle.std.specs.Prelude.{Option, option_map, ◌==◌}
use Rattle.std.specs.Bool.{beq}
use Rattle.std.specs.Option.{option_map_or}
use Rattle.std.specs.Cmp.{IsTotalOrder}
use Rattle.std.specs.declared.cmp.Ordering.{Ordering}
use Rattle.std.specs.declared.cmp.Ordering.TheVariants.{Less, Equal, Greater}
use Rattle.std.specs.Ordering.{nat_cmp, bool_cmp, ordering_then}
use Rattle.he_addr.specs.declared.ip.Ip.{Ip}
use Rattle.he_addr.specs.Ip.{is_v6, scope_of, IsUsable}
use Rattle.he_addr.specs.Prefix.{common_of}
use Rattle.he_select.specs.declared.host.Source.{Source}
use Rattle.he_select.specs.declared.policy.Row.{Row}
use Rattle.he_select.specs.declared.ranking.Key.{Key}
use Rattle.he_select.specs.declared.selection.LabelledSource.{LabelledSource}
use Rattle.he_select.specs.DestinationKeys.{destination_key, key_cmp}
use Rattle.he_select.specs.KeyOrder.{key_order_total}
use Rattle.he_select.specs.LabelledRules.{labelled_of}
use Rattle.he_select.specs.Preference.{Member, destination_rules}
use Rattle.he_select.specs.Rules.{first_of}
use Rattle.he_select.specs.Selection.{SelectionInput, known_rtt, known_used, route_of, rtt_or_unknown, source_of}
use Rattle.he_select.specs.Tables.{label_of, precedence_of}
use Rattle.he_select.proofs.Orders.{step, then_equal, tied_numbers, yes_as_less}
use Rattle.he_select.proofs.DecidedRules.{avoided, closer, matching, native, reached}

pub keys_total : IsTotalOrder key_cmp
unfolding key_cmp
keys_total = key_order_total

last : (o p : Ordering) → ordering_then o p ≡ Equal → p ≡ Equal
last Less p e = cc
last Equal p e = e
last Greater p e = cc

-- equal keys have one place, so the order is strict
pub same_place : (a b : Key) → key_cmp a b ≡ Equal → a.place ≡ b.place
unfolding key_cmp
same_place a b e =
    tied_numbers a.place b.place
    (last (nat_cmp b.common.0 a.common.0) _
    (last (bool_cmp a.unused b.unused) _
    (last (nat_cmp a.rtt b.rtt) _
    (last (nat_cmp a.scope b.scope) _
    (last (bool_cmp a.tunnel b.tunnel) _
    (last (nat_cmp b.precedence.0 a.precedence.0) _
    (last (bool_cmp a.other_label b.other_label) _
    (last (bool_cmp a.deprecated b.deprecated) _
    (last (bool_cmp a.other_scope b.other_scope) _
    (last (bool_cmp a.unreachable b.unreachable) _ e))))))))))

-- addresses that may be tried have one precedence only within one family
abbrev pub PartsFamilies : List Row → Type 0
PartsFamilies rows = (x y : Ip) → IsUsable x → IsUsable y → precedence_of rows x ≡ precedence_of rows y → is_v6 x ≡ is_v6 y

same_family : (x y : Bool) → x ≡ y → beq x y ≡ true
same_family true true e = refl
same_family true false e = cc
same_family false true e = cc
same_family false false e = refl

pub by_keys : (input : SelectionInput) → PartsFamilies input.rows → (a b : Member) → IsUsable a.ip → IsUsable b.ip
    → first_of (destination_rules input) a b ≡ key_cmp (destination_key input a) (destination_key input b)
unfolding destination_rules destination_key key_cmp
by_keys input parts a b ua ub =
    let x : Option Source = source_of input a.ip in
    let y : Option Source = source_of input b.ip in
    let f : Source → LabelledSource = labelled_of input.rows in
    step (reached x y f) (λ tied.
    step (matching x y f (λ l. l.scope == scope_of a.ip) (λ l. l.scope == scope_of b.ip) tied) (λ _.
    step (avoided x y f (λ l. l.source.deprecated) tied) (λ _.
    step (matching x y f (λ l. l.label == label_of input.rows a.ip) (λ l. l.label == label_of input.rows b.ip) tied) (λ _.
    step {o = nat_cmp (precedence_of input.rows b.ip) (precedence_of input.rows a.ip)} refl (λ even.
    step (native (route_of input a.ip) (route_of input b.ip)) (λ _.
    step {o = nat_cmp (scope_of a.ip) (scope_of b.ip)} refl (λ _.
    step {o = nat_cmp (rtt_or_unknown (known_rtt input.known a.ip)) (rtt_or_unknown (known_rtt input.known b.ip))} refl (λ _.
    step (yes_as_less (known_used input.known a.ip) (known_used input.known b.ip)) (λ _.
    let near : LabelledSource → ℕ = λ l. common_of l.source.ip l.source.plen a.ip in
    let far : LabelledSource → ℕ = λ l. common_of l.source.ip l.source.plen b.ip in
    step (closer x y f (beq (is_v6 a.ip) (is_v6 b.ip)) near far tied
    ∙ ap (λ family. cond family (nat_cmp (option_map_or far (option_map f y) 0) (option_map_or near (option_map f x) 0)) Equal)
    (same_family (is_v6 a.ip) (is_v6 b.ip) (parts a.ip b.ip ua ub (sym (tied_numbers _ _ even))))) (λ _.
    then_equal (nat_cmp a.place b.place)))))))))))
