-- The destination rules look at the all_attributes of two addresses: rule by rule, and the one that decides.
use Rattle.std.proofs.Common.{◌≡◌, ℕ, Bool, true, false, not, cond, refl, ◌∙◌, ap}
use Rattle.std.specs.Prelude.{Option, None, Some, is_none, is_some, option_map, ◌==◌, ◌&&◌}
use Rattle.std.specs.Bool.{beq}
use Rattle.std.specs.Option.{option_map_or}
use Rattle.std.specs.declared.cmp.Ordering.{Ordering}
use Rattle.std.specs.declared.cmp.Ordering.TheVariants.{Less, Equal, Greater}
use Rattle.std.specs.Ordering.{nat_cmp, bool_cmp, is_eq}
use Rattle.he_addr.specs.declared.ip.Ip.{Ip}
use Rattle.he_addr.specs.Ip.{is_v6, scope_of}
use Rattle.he_addr.specs.Prefix.{common_of}
use Rattle.he_select.specs.declared.deciding.DestinationRule.{DestinationRule}
use Rattle.he_select.specs.declared.deciding.DestinationRule.TheVariants as rules
use Rattle.he_select.specs.declared.host.Route.{Route}
use Rattle.he_select.specs.declared.host.Source.{Source}
use Rattle.he_select.specs.declared.selection.LabelledSource.{LabelledSource}
use Rattle.he_select.specs.Deciding.{deciding_rule}
use Rattle.he_select.specs.LabelledRules.{labelled_of}
use Rattle.he_select.specs.Preference.{destination_rules}
use Rattle.he_select.specs.Selection.{SelectionInput, known_rtt, known_used, route_of, rtt_or_unknown, source_of}
use Rattle.he_select.specs.Attributes.{rule_between, attributes_of}
use Rattle.he_select.specs.Tables.{label_of, precedence_of}
use Rattle.he_select.proofs.Orders.{no_as_less, yes_as_less}

pub reached : (x y : Option Source) (f : Source → LabelledSource) → bool_cmp (is_some y) (is_some x) ≡ bool_cmp (is_none (option_map f x)) (is_none (option_map f y))
reached None None f = refl
reached None (Some t) f = refl
reached (Some s) None f = refl
reached (Some s) (Some t) f = refl

-- a rule about the sources, where both addresses have one or neither has
pub matching : (x y : Option Source) (f : Source → LabelledSource) (p q : LabelledSource → Bool) → bool_cmp (is_some y) (is_some x) ≡ Equal
    → cond (is_some x && is_some y) (bool_cmp (option_map_or (λ s. q (f s)) y false) (option_map_or (λ s. p (f s)) x false)) Equal
    ≡ bool_cmp (option_map_or (λ t. not (p t)) (option_map f x) false) (option_map_or (λ t. not (q t)) (option_map f y) false)
matching None None f p q e = refl
matching None (Some t) f p q e = cc
matching (Some s) None f p q e = cc
matching (Some s) (Some t) f p q e = yes_as_less (p (f s)) (q (f t))

-- the same of what is avoided
pub avoided : (x y : Option Source) (f : Source → LabelledSource) (p : LabelledSource → Bool) → bool_cmp (is_some y) (is_some x) ≡ Equal
    → cond (is_some x && is_some y) (bool_cmp (option_map_or (λ s. not (p (f s))) y false) (option_map_or (λ s. not (p (f s))) x false)) Equal
    ≡ bool_cmp (option_map_or p (option_map f x) false) (option_map_or p (option_map f y) false)
avoided None None f p e = refl
avoided None (Some t) f p e = cc
avoided (Some s) None f p e = cc
avoided (Some s) (Some t) f p e = no_as_less (p (f s)) (p (f t))

pub native : (a b : Option Route) → bool_cmp (option_map_or (λ r. not r.tunnel) b true) (option_map_or (λ r. not r.tunnel) a true)
    ≡ bool_cmp (option_map_or (λ r. r.tunnel) a false) (option_map_or (λ r. r.tunnel) b false)
native None None = refl
native None (Some t) = no_as_less false t.tunnel
native (Some s) None = no_as_less s.tunnel false
native (Some s) (Some t) = no_as_less s.tunnel t.tunnel

pub closer : (x y : Option Source) (f : Source → LabelledSource) (family : Bool) (m n : LabelledSource → ℕ) → bool_cmp (is_some y) (is_some x) ≡ Equal
    → cond family (cond (is_some x && is_some y) (nat_cmp (option_map_or (λ s. n (f s)) y 0) (option_map_or (λ s. m (f s)) x 0)) Equal) Equal
    ≡ cond family (nat_cmp (option_map_or n (option_map f y) 0) (option_map_or m (option_map f x) 0)) Equal
closer x y f false m n e = refl
closer None None f true m n e = refl
closer None (Some t) f true m n e = cc
closer (Some s) None f true m n e = cc
closer (Some s) (Some t) f true m n e = refl

-- one rule after another
decided : (name : DestinationRule) {o p : Ordering} {x y : DestinationRule} → o ≡ p → (o ≡ Equal → x ≡ y) → cond (is_eq o) x name ≡ cond (is_eq p) y name
decided name {o} {p} {x} {y} e more = ap (λ t. cond (is_eq t) x name) e ∙ later p (λ tied. more (e ∙ tied))
  where
    later : (p : Ordering) → (p ≡ Equal → x ≡ y) → cond (is_eq p) x name ≡ cond (is_eq p) y name
    later Less h = refl
    later Equal h = h refl
    later Greater h = refl

pub deciding_is : (input : SelectionInput) (a b : Ip) → deciding_rule input a b ≡ rule_between (attributes_of input a) (attributes_of input b)
unfolding deciding_rule destination_rules
deciding_is input a b =
    let x : Option Source = source_of input a in
    let y : Option Source = source_of input b in
    let f : Source → LabelledSource = labelled_of input.rows in
    decided rules.AvoidUnusable (reached x y f) (λ tied.
    decided rules.MatchingScope (matching x y f (λ l. l.scope == scope_of a) (λ l. l.scope == scope_of b) tied) (λ _.
    decided rules.AvoidDeprecated (avoided x y f (λ l. l.source.deprecated) tied) (λ _.
    decided rules.MatchingLabel (matching x y f (λ l. l.label == label_of input.rows a) (λ l. l.label == label_of input.rows b) tied) (λ _.
    decided rules.HigherPrecedence {o = nat_cmp (precedence_of input.rows b) (precedence_of input.rows a)} refl (λ _.
    decided rules.NativeTransport (native (route_of input a) (route_of input b)) (λ _.
    decided rules.SmallerScope {o = nat_cmp (scope_of a) (scope_of b)} refl (λ _.
    decided rules.LowerRoundTripTime {o = nat_cmp (rtt_or_unknown (known_rtt input.known a)) (rtt_or_unknown (known_rtt input.known b))} refl (λ _.
    decided rules.UsedBefore {o = bool_cmp (known_used input.known b) (known_used input.known a)} refl (λ _.
    decided rules.LongestPrefix (closer x y f (beq (is_v6 a) (is_v6 b)) (λ l. common_of l.source.ip l.source.plen a) (λ l. common_of l.source.ip l.source.plen b) tied) (λ _. refl))))))))))
