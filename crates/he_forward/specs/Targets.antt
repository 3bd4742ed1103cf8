-- A target in absolute form (RFC 9112 section 3.2.2).
use Rattle.std.specs.Prelude.{◌⊎◌, ℕ, ◌&&◌, ◌||◌, ◌==◌, not, Bool, List, ◌++◌, codes, drop, length, position, take, unwrap_or}
use Rattle.std.specs.Char.{is_ascii_graphic}
use Rattle.std.specs.List.{list_all}
use Rattle.he_front.specs.Authority.{IsAuthority}
use Rattle.he_front.specs.Http.{is_forwarded}

-- a printable octet, but for that of a fragment, which no target has
abbrev pub is_target_octet : ℕ → Bool
is_target_octet octet = is_ascii_graphic octet && not (octet == 35)

-- the scheme http, and printable octets
abbrev pub is_absolute : List ℕ → Bool
is_absolute target = is_forwarded target && list_all is_target_octet target

-- a path or a query begins
abbrev pub is_mark : ℕ → Bool
is_mark octet = octet == 47 || octet == 63

-- what follows the scheme and its slashes
abbrev pub hier_part : List ℕ → List ℕ
hier_part target = drop 7 target

-- where the authority ends: at the first slash or question mark (RFC 3986 section 3.2)
abbrev pub end_in : List ℕ → ℕ
end_in rest = unwrap_or (position is_mark rest) (length rest)

abbrev pub authority_in : List ℕ → List ℕ
authority_in target = take (end_in (hier_part target)) (hier_part target)

-- the path and the query
abbrev pub path_in : List ℕ → List ℕ
path_in target = drop (end_in (hier_part target)) (hier_part target)

-- it names this host and this port, which is 80 if none is given (RFC 9110 section 4.2.1)
abbrev pub Names : List ℕ → List ℕ → ℕ → Type 0
Names authority host port = IsAuthority authority host port ⊎ IsAuthority (authority ++ codes ":80") host port

abbrev pub NamesNone : List ℕ → Type 0
NamesNone authority = (host : List ℕ) (port : ℕ) → Names authority host port → ⊥
