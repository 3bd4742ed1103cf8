-- The rule that decides between two addresses (RFC 6724 section 6, RFC 8305 section 4).
use Rattle.std.specs.Prelude.{ℕ, ◌≡◌, cond, List, [], ◌∷◌}
use Rattle.std.specs.declared.cmp.Ordering.TheVariants.{Equal}
use Rattle.std.specs.Ordering.{is_eq}
use Rattle.he_addr.specs.declared.ip.Ip.{Ip}
use Rattle.he_select.specs.declared.deciding.DestinationRule.{DestinationRule}
use Rattle.he_select.specs.declared.deciding.DestinationRule.TheVariants as rules
use Rattle.he_select.specs.Places.{FailsFirst}
use Rattle.he_select.specs.Preference.{Member, destination_rules}
use Rattle.he_select.specs.Rules.{Rule}
use Rattle.he_select.specs.Selection.{SelectionInput}

-- the rules from 6 on, in the order of `destination_rules`
abbrev pub late_rules_in_order : List DestinationRule
late_rules_in_order =
    rules.HigherPrecedence ∷ rules.NativeTransport ∷ rules.SmallerScope ∷ rules.LowerRoundTripTime ∷ rules.UsedBefore
    ∷ rules.LongestPrefix ∷ rules.Unchanged ∷ []

-- all the rules, in the order of `destination_rules`
abbrev pub rules_in_order : List DestinationRule
rules_in_order =
    rules.AvoidUnusable ∷ rules.MatchingScope ∷ rules.AvoidDeprecated ∷ rules.MatchingLabel ∷ late_rules_in_order

-- the rule at this place of `destination_rules` distinguishes the two members, and none before it does
abbrev pub DecidesAt : SelectionInput → Member → Member → ℕ → Type 0
DecidesAt input a b place = FailsFirst (λ rule. rule a b ≡ Equal) (destination_rules input) place

-- the name of the first rule that distinguishes the two
abbrev pub first_deciding : {X : Type 0} → List (Rule X) → List DestinationRule → X → X → DestinationRule
first_deciding [] names a b = rules.Unchanged
first_deciding (rule ∷ more) [] a b = rules.Unchanged
first_deciding (rule ∷ more) (name ∷ names) a b = cond (is_eq (rule a b)) (first_deciding more names a b) name

-- the rule that puts `later` after `earlier`; if no other rule distinguishes them, the place in the given list does
unfoldable pub deciding_rule : SelectionInput → Ip → Ip → DestinationRule
deciding_rule input earlier later =
    first_deciding (destination_rules input) rules_in_order (record { ip = earlier; place = 0 })
    (record { ip = later; place = 1 })
