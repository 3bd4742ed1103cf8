-- Special-use domain names, for which no name server is queried.
use Rattle.std.specs.Prelude.{ℕ, ◌-◌, ◌==◌, ◌&&◌, ◌||◌, Bool, List, [], Option, Some, None, codes, length, nat_le, slice_index, if◌then◌else◌}
use Rattle.std.specs.List.{ends_with}
use Rattle.std.specs.Str.{bytes_eq, str_eq_ignore_ascii_case}
use Rattle.he_names.specs.declared.special.SpecialUse.{SpecialUse}
use Rattle.he_names.specs.declared.special.SpecialUse.TheVariants.{Localhost, Local, Onion, Invalid}
use Rattle.he_names.specs.Conf.{last_of}
use Rattle.he_names.specs.Numeric.{body_of, labels_of}
use Rattle.he_names.specs.Order.{dots}

-- whether the name is the domain or in it
abbrev pub is_within : List ℕ → List ℕ → Bool
is_within name domain =
    ends_with (λ byte other. byte == other) name domain
    && (length name == length domain || slice_index name (length name - length domain - 1) == 46)

-- the name of this machine, with or without a final dot
abbrev pub is_localhost : List ℕ → Bool
is_localhost name = bytes_eq (body_of name) (codes "localhost")

-- local, and a name with one label in it (RFC 6762 section 3): names with more labels belong to a name server's own
-- zone
abbrev pub is_multicast : List ℕ → Bool
is_multicast name = is_within name (codes "local") && nat_le (dots name) 1

-- localhost and invalid (RFC 6761 sections 6.3, 6.4), local (RFC 6762 section 3), onion (RFC 7686), and names in
-- them, with or without a final dot
unfoldable pub special_use : List ℕ → Option SpecialUse
special_use name =
    let body = body_of name in
    if is_within body (codes "localhost") then Some Localhost
    else if is_multicast body then Some Local
    else if is_within body (codes "onion") then Some Onion
    else if is_within body (codes "invalid") then Some Invalid
    else None

-- whether the domain is local or in it, compared case-insensitively
abbrev pub is_of_local : List ℕ → Bool
is_of_local domain = str_eq_ignore_ascii_case (last_of [] (labels_of domain)) (codes "local")
