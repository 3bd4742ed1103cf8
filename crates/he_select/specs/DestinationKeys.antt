-- The keys by which destinations are sorted: one number for each rule. The least key is preferred.
use Rattle.std.specs.Prelude.{ℕ, ◌+◌, List, [], ◌∷◌, is_none, not}
use Rattle.std.specs.declared.cmp.Ordering.{Ordering}
use Rattle.std.specs.Ordering.{nat_cmp, bool_cmp, ordering_then}
use Rattle.he_addr.specs.declared.ip.Ip.{Ip}
use Rattle.he_select.specs.declared.ranking.Key.{Key}
use Rattle.he_select.specs.declared.attributes.DestinationAttributes.{DestinationAttributes}
use Rattle.he_select.specs.Preference.{Member}
use Rattle.he_select.specs.Selection.{SelectionInput, rtt_or_unknown}
use Rattle.he_select.specs.Attributes.{has_deprecated, has_other_label, has_other_scope, attributes_of}

-- the destination rules as numbers; 0 for those about the source, if there is none
abbrev pub key_of : DestinationAttributes → ℕ → Key
key_of s place = record {
  unreachable = is_none s.source;
  other_scope = has_other_scope s;
  deprecated = has_deprecated s;
  other_label = has_other_label s;
  precedence = record { 0 = s.precedence };
  tunnel = s.tunnel;
  scope = s.scope;
  rtt = rtt_or_unknown s.rtt;
  unused = not s.used;
  common = record { 0 = s.common };
  place = place;
}

unfoldable pub destination_key : SelectionInput → Member → Key
destination_key input m = key_of (attributes_of input m.ip) m.place

-- the keys of a list, counted from `place`
abbrev pub keys_of : ℕ → List DestinationAttributes → List Key
keys_of place [] = []
keys_of place (s ∷ more) = key_of s place ∷ keys_of (place + 1) more

-- a destination with its key
pub record Keyed : Type 0 where
  pub key : Key
  pub ip : Ip

abbrev pub keyed_of : SelectionInput → Member → Keyed
keyed_of input m = record { key = destination_key input m; ip = m.ip }

unfoldable pub key_cmp : Key → Key → Ordering
key_cmp a b =
    ordering_then (bool_cmp a.unreachable b.unreachable)
    (ordering_then (bool_cmp a.other_scope b.other_scope)
    (ordering_then (bool_cmp a.deprecated b.deprecated)
    (ordering_then (bool_cmp a.other_label b.other_label)
    (ordering_then (nat_cmp b.precedence.0 a.precedence.0)
    (ordering_then (bool_cmp a.tunnel b.tunnel)
    (ordering_then (nat_cmp a.scope b.scope)
    (ordering_then (nat_cmp a.rtt b.rtt)
    (ordering_then (bool_cmp a.unused b.unused)
    (ordering_then (nat_cmp b.common.0 a.common.0)
    (nat_cmp a.place b.place))))))))))
