-- The attributes of an address that the rules compare: `attributes_of`. The rest mirrors the code: the attributes
-- that it computes, and the rule that it finds between two addresses.
use Rattle.std.specs.Prelude.{ℕ, ◌==◌, ◌&&◌, ◌||◌, Bool, false, not, cond, List, [], ◌∷◌, None, Option, is_none, is_some, option_and_then, option_map}
use Rattle.std.specs.Bool.{beq}
use Rattle.std.specs.List.{list_any}
use Rattle.std.specs.Option.{option_map_or}
use Rattle.std.specs.declared.cmp.Ordering.TheVariants.{Equal}
use Rattle.std.specs.Ordering.{bool_cmp, nat_cmp}
use Rattle.he_addr.specs.declared.ip.Ip.{Ip}
use Rattle.he_addr.specs.Bits.{agrees}
use Rattle.he_addr.specs.Ip.{is_v6, scope_of}
use Rattle.he_addr.specs.Prefix.{common_of, is_inside_mapped}
use Rattle.he_select.specs.declared.deciding.DestinationRule.{DestinationRule}
use Rattle.he_select.specs.declared.host.Route.{Route}
use Rattle.he_select.specs.declared.known.Known.{Known}
use Rattle.he_select.specs.declared.policy.Row.{Row}
use Rattle.he_select.specs.declared.selection.LabelledSource.{LabelledSource}
use Rattle.he_select.specs.declared.attributes.Sourced.{Sourced}
use Rattle.he_select.specs.declared.attributes.DestinationAttributes.{DestinationAttributes}
use Rattle.he_select.specs.Deciding.{first_deciding, late_rules_in_order, rules_in_order}
use Rattle.he_select.specs.LabelledRules.{admits, destination_of, is_better_labelled, labelled_of}
use Rattle.he_select.specs.Rules.{Rule, higher_first, lower_first, yes_first}
use Rattle.he_select.specs.Selection.{SelectionInput, known_rtt, known_used, longest_route, route_of, rtt_or_unknown, source_of}
use Rattle.he_select.specs.Tables.{label_of, precedence_of}
use Rattle.he_select.specs.Walking.{walk_fitting}

-- the attributes of an address that has this route and this source, with this knowledge
abbrev pub attributes_with : List Row → Option Route → Option LabelledSource → List Known → Ip → DestinationAttributes
attributes_with rows route source known ip = record {
  ip = ip;
  source = source;
  scope = scope_of ip;
  label = label_of rows ip;
  precedence = precedence_of rows ip;
  tunnel = option_map_or (λ route. route.tunnel) route false;
  common = option_map_or (λ labelled. common_of labelled.source.ip labelled.source.plen ip) source 0;
  rtt = known_rtt known ip;
  used = known_used known ip;
}

-- the attributes of an address
abbrev pub attributes_of : SelectionInput → Ip → DestinationAttributes
attributes_of input ip =
    attributes_with input.rows (route_of input ip)
    (option_map (labelled_of input.rows) (source_of input ip)) input.known ip

-- a route serves the address with this mapped number, of this family
abbrev pub serves_number : ℕ → Bool → Route → Bool
serves_number number v4 route =
    agrees 128 number route.prefix.bits route.prefix.len && beq (is_inside_mapped route.prefix) v4

-- the source that the code's loop finds
unfoldable pub chosen_over : Option Route → List LabelledSource → Ip → ℕ → Option LabelledSource
chosen_over route labelled ip label =
    option_and_then
    (λ route. walk_fitting (admits (destination_of ip label route))
    (is_better_labelled (destination_of ip label route)) None labelled) route

abbrev pub attributes_from : List Row → List Route → List LabelledSource → List Known → Ip → DestinationAttributes
attributes_from rows routes labelled known ip =
    attributes_with rows (longest_route routes ip)
    (chosen_over (longest_route routes ip) labelled ip (label_of rows ip)) known ip

abbrev pub tells : Known → Bool
tells one = is_some one.rtt || one.used

-- the list, or an empty one if no entry holds any knowledge
abbrev pub told_of : List Known → List Known
told_of known = cond (list_any tells known) known []

abbrev pub sourced_from : DestinationAttributes → Sourced
sourced_from s = record { ip = s.ip; source = option_map (λ labelled. labelled.source.ip) s.source }

abbrev pub has_other_scope : DestinationAttributes → Bool
has_other_scope s = option_map_or (λ labelled. not (labelled.scope == s.scope)) s.source false

abbrev pub has_deprecated : DestinationAttributes → Bool
has_deprecated s = option_map_or (λ labelled. labelled.source.deprecated) s.source false

abbrev pub has_other_label : DestinationAttributes → Bool
has_other_label s = option_map_or (λ labelled. not (labelled.label == s.label)) s.source false

-- prefers the one for which the test fails
abbrev pub no_first : (DestinationAttributes → Bool) → Rule DestinationAttributes
no_first is a b = bool_cmp (is a) (is b)

-- the rules from 6 on, but for the last
abbrev pub late_attribute_rules : List (Rule DestinationAttributes)
late_attribute_rules =
    higher_first (λ s. s.precedence)
    ∷ no_first (λ s. s.tunnel)
    ∷ lower_first (λ s. s.scope)
    ∷ lower_first (λ s. rtt_or_unknown s.rtt)
    ∷ yes_first (λ s. s.used)
    ∷ (λ a b. cond (beq (is_v6 a.ip) (is_v6 b.ip)) (nat_cmp b.common a.common) Equal)
    ∷ []

abbrev pub attribute_rules : List (Rule DestinationAttributes)
attribute_rules =
    no_first (λ s. is_none s.source) ∷ no_first has_other_scope ∷ no_first has_deprecated ∷ no_first has_other_label
    ∷ late_attribute_rules

unfoldable pub late_rule_between : DestinationAttributes → DestinationAttributes → DestinationRule
late_rule_between a b = first_deciding late_attribute_rules late_rules_in_order a b

abbrev pub rule_between : DestinationAttributes → DestinationAttributes → DestinationRule
rule_between a b = first_deciding attribute_rules rules_in_order a b
