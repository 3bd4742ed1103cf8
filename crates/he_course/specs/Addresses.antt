-- A race's addresses in the order in which they are preferred (RFC 6724 section 6, with rules 8a and 8b of RFC 8305
-- section 4).
use Rattle.std.specs.Prelude.{Bool, List, [], ◌∷◌, map, option_map, Option, Some, None}
use Rattle.std.specs.List.{list_any}
use Rattle.he_addr.specs.declared.ip.Ip.{Ip}
use Rattle.he_plan.specs.Attempts.{order}
use Rattle.he_timeline.specs.Race.{Race, race_input, usable_addresses}
use Rattle.he_select.specs.declared.attributes.DestinationAttributes.{DestinationAttributes}
use Rattle.he_select.specs.declared.deciding.DestinationRule.{DestinationRule}
use Rattle.he_select.specs.declared.host.Route.{Route}
use Rattle.he_select.specs.Attributes.{attributes_of, rule_between}
use Rattle.he_select.specs.Selection.{serves}
use Rattle.he_course.specs.declared.addresses.Preferred.{Preferred}

-- the attributes that the rules compare, of the usable addresses of both answers, sorted and not interlaced
unfoldable pub all_attributes_of : Race → List DestinationAttributes
all_attributes_of race = map (attributes_of (race_input race)) (order race (usable_addresses race))

-- a route leads to the address
abbrev pub is_routed : List Route → Ip → Bool
is_routed routes ip = list_any (serves ip) routes

-- the first rule that sorts an address after the one before it, if there is one
abbrev pub rule_after : Option DestinationAttributes → DestinationAttributes → Option DestinationRule
rule_after earlier later = option_map (λ before. rule_between before later) earlier

-- the addresses, given the one before them
abbrev pub preferred_after : List Route → Option DestinationAttributes → List DestinationAttributes → List Preferred
preferred_after routes earlier [] = []
preferred_after routes earlier (first ∷ more) =
    record { attributes = first; rule = rule_after earlier first; is_routed = is_routed routes first.ip }
    ∷ preferred_after routes (Some first) more

abbrev pub preferred : Race → List Preferred
preferred race = preferred_after race.host.routes None (all_attributes_of race)
