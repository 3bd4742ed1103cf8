-- The credentials of HTTP clients for a proxy (RFC 9110 section 11.7.2).
use Rattle.std.specs.Prelude.{◌≡◌, ◌⊎◌, ℕ, List, Option, Some, None, codes, drop, map}
use Rattle.std.specs.Option.{option_map}
use Rattle.httparse.specs.Grammar.{HasNoRequest, ReadsRequest, RequestHead}
use Rattle.httparse.specs.declared.spans.Span.{Span}
use Rattle.httparse.specs.Spans.{RequestOverflows, name_and_value, span_bytes}
use Rattle.he_front.specs.Http.{value_of}

-- the value of the first field Proxy-Authorization
abbrev pub authorization_of : RequestHead → Option (List ℕ)
authorization_of request = value_of (codes "proxy-authorization") (map name_and_value request.fields)

-- the octets begin with a head that ends here, and this is the value of that field, or there is none
abbrev pub HasAuthorization : List ℕ → ℕ → Option Span → Type 0
HasAuthorization octets len value =
    (request : RequestHead) × ReadsRequest octets request (drop len octets)
    × (option_map (span_bytes octets) value ≡ authorization_of request)

-- the octets begin with a head whose credentials are these
abbrev pub IsAuthorizedBy : List ℕ → List ℕ → Type 0
IsAuthorizedBy octets value =
    (request : RequestHead) × ((len : ℕ) × ReadsRequest octets request (drop len octets)) × (authorization_of request ≡ Some value)

abbrev pub Authorizes : List ℕ → Span → Type 0
Authorizes octets span = IsAuthorizedBy octets (span_bytes octets span)

-- the octets begin with no head, with none of at most 64 fields, or with one without credentials
abbrev pub LacksAuthorization : List ℕ → Type 0
LacksAuthorization octets =
    HasNoRequest octets ⊎ RequestOverflows 64 octets
    ⊎ ((request : RequestHead) × ((len : ℕ) × ReadsRequest octets request (drop len octets)) × (authorization_of request ≡ None))
