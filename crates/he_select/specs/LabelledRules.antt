-- Mirrors the code: the source rules on what the code keeps of a destination and of a source. A law in proofs/
-- relates them to those of `Selection`.
use Rattle.std.specs.Prelude.{ℕ, ◌==◌, ◌&&◌, ◌||◌, Bool, not, List, [], ◌∷◌}
use Rattle.std.specs.Bool.{beq}
use Rattle.std.specs.Ordering.{is_lt}
use Rattle.he_addr.specs.declared.ip.Ip.{Ip}
use Rattle.he_addr.specs.Ip.{scope_of, is_v6, same_ip}
use Rattle.he_addr.specs.Prefix.{common_of}
use Rattle.he_select.specs.declared.selection.Destination.{Destination}
use Rattle.he_select.specs.declared.selection.LabelledSource.{LabelledSource}
use Rattle.he_select.specs.declared.host.Route.{Route}
use Rattle.he_select.specs.declared.host.Source.{Source}
use Rattle.he_select.specs.declared.policy.Row.{Row}
use Rattle.he_select.specs.Rules.{Rule, first_of, higher_first, yes_first}
use Rattle.he_select.specs.Selection.{by_appropriate_scope, link_scope}
use Rattle.he_select.specs.Tables.{label_of}

abbrev pub labelled_of : List Row → Source → LabelledSource
labelled_of rows source = record { source = source; scope = scope_of source.ip; label = label_of rows source.ip }

-- the attributes of a destination with this label and route that the source rules compare
abbrev pub destination_of : Ip → ℕ → Route → Destination
destination_of ip label route = record { ip = ip; scope = scope_of ip; label = label; interface = route.interface }

-- a source that may be used for the destination: `is_candidate` over its route
abbrev pub admits : Destination → LabelledSource → Bool
admits destination labelled =
    beq (is_v6 labelled.source.ip) (is_v6 destination.ip)
    && (not (destination.scope == link_scope) || labelled.source.interface == destination.interface)

-- the rules from 5 on
unfoldable pub late_rules : Destination → List (Rule LabelledSource)
late_rules destination =
    yes_first (λ labelled. labelled.source.interface == destination.interface)
    ∷ yes_first (λ labelled. labelled.label == destination.label)
    ∷ yes_first (λ labelled. labelled.source.temporary)
    ∷ higher_first (λ labelled. common_of labelled.source.ip labelled.source.plen destination.ip)
    ∷ []

unfoldable pub labelled_rules : Destination → List (Rule LabelledSource)
labelled_rules destination =
    yes_first (λ labelled. same_ip labelled.source.ip destination.ip)
    ∷ (λ a b. by_appropriate_scope destination.scope a.scope b.scope)
    ∷ yes_first (λ labelled. not labelled.source.deprecated)
    ∷ late_rules destination

abbrev pub is_better_labelled : Destination → LabelledSource → LabelledSource → Bool
is_better_labelled destination a b = is_lt (first_of (labelled_rules destination) a b)
