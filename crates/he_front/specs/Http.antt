-- The requests of HTTP clients: the head of a request (RFC 9112 section 3).
use Rattle.std.specs.Prelude.{◌≡◌, ◌≢◌, ◌≤◌, ◌&&◌, IfSome, ℕ, Bool, true, false, List, Option, codes, count_by, drop, find, length, map, nat_le, take}
use Rattle.std.specs.Char.{to_ascii_lowercase}
use Rattle.std.specs.Option.{option_map}
use Rattle.std.specs.Str.{bytes_eq}
use Rattle.httparse.specs.Grammar.{HasNoRequest, MayBecomeRequest, ReadsRequest, RequestHead}
use Rattle.httparse.specs.declared.spans.HeaderSpan.{HeaderSpan}
use Rattle.httparse.specs.declared.spans.Span.{Span}
use Rattle.httparse.specs.Spans.{IsWithin, RequestOverflows, name_and_value, span_bytes}
use Rattle.he_front.specs.declared.http.Head.{Head}
use Rattle.he_front.specs.declared.http.Head.TheVariants as heads
use Rattle.he_front.specs.declared.http.Method.{Method}
use Rattle.he_front.specs.declared.http.Method.TheVariants as methods
use Rattle.he_front.specs.declared.http.ReadHead.{ReadHead}
use Rattle.he_front.specs.declared.http.ReadHead.TheVariants as reads

-- methods besides CONNECT, in capital letters (RFC 9110 section 9.1)
abbrev pub IsMethod : List ℕ → Method → Type 0
IsMethod method methods.Get = method ≡ codes "GET"
IsMethod method methods.Head = method ≡ codes "HEAD"
IsMethod method methods.Other = (method ≢ codes "GET") × (method ≢ codes "HEAD")

-- field names are compared case-insensitively (RFC 9110 section 5.1)
abbrev pub is_named : List ℕ → List ℕ → Bool
is_named name other = bytes_eq (map to_ascii_lowercase other) (map to_ascii_lowercase name)

-- the value of the first field with this name
abbrev pub value_of : List ℕ → List (List ℕ × List ℕ) → Option (List ℕ)
value_of name fields = option_map (λ field. field.1) (find (λ field. is_named name field.0) fields)

-- the first field with this name, by its span
abbrev pub field_named : List ℕ → List ℕ → List HeaderSpan → Option HeaderSpan
field_named octets name fields = find (λ field. is_named name (span_bytes octets field.name)) fields

-- the number of fields with this name
abbrev pub count_of : List ℕ → List (List ℕ × List ℕ) → ℕ
count_of name fields = count_by (λ field. is_named name field.0) fields

abbrev pub count_named : List ℕ → List ℕ → List HeaderSpan → ℕ
count_named octets name fields = count_by (λ field. is_named name (span_bytes octets field.name)) fields

-- more than one field Host, so that the request is invalid (RFC 9112 section 3.2)
abbrev pub has_two_hosts : RequestHead → Bool
has_two_hosts request = nat_le 2 (count_of (codes "host") (map name_and_value request.fields))

-- a target in absolute form with the scheme http, in any case of letters (RFC 9112 section 3.2.2)
abbrev pub is_forwarded : List ℕ → Bool
is_forwarded target = nat_le 7 (length target) && is_named (codes "http://") (take 7 target)

-- a request of the proxy itself, or one that names its target in another way
abbrev pub IsOfProxy : RequestHead → Type 0
IsOfProxy request = (has_two_hosts request ≡ false) × (is_forwarded request.target ≡ false)

-- these are the spans of the target and of the value of the field Host
abbrev pub HasTarget : List ℕ → RequestHead → Span → Option Span → Type 0
HasTarget octets request target host =
    (span_bytes octets target ≡ request.target)
    × (option_map (span_bytes octets) host ≡ value_of (codes "host") (map name_and_value request.fields))

-- the request: a tunnel to this target; this target of this host, with or without the body; one to forward; or
-- something else
abbrev pub AsksFor : List ℕ → RequestHead → Head → Type 0
AsksFor octets request (heads.Tunnel target) =
    (has_two_hosts request ≡ false) × (request.method ≡ codes "CONNECT") × (span_bytes octets target ≡ request.target)
AsksFor octets request (heads.Get target host) =
    IsOfProxy request × IsMethod request.method methods.Get × HasTarget octets request target host
AsksFor octets request (heads.Head target host) =
    IsOfProxy request × IsMethod request.method methods.Head × HasTarget octets request target host
AsksFor octets request heads.Forward =
    (has_two_hosts request ≡ false) × (request.method ≢ codes "CONNECT") × (is_forwarded request.target ≡ true)
AsksFor octets request heads.TwoHosts = has_two_hosts request ≡ true
AsksFor octets request heads.Other =
    IsOfProxy request × (request.method ≢ codes "CONNECT") × IsMethod request.method methods.Other

-- the octets begin with this head, which ends here
abbrev pub HasHead : List ℕ → Head → ℕ → Type 0
HasHead octets head len =
    (request : RequestHead) × ReadsRequest octets request (drop len octets) × AsksFor octets request head

-- the spans of the head are inside the first n octets
abbrev pub LiesWithin : ℕ → Head → Type 0
LiesWithin n (heads.Tunnel target) = IsWithin n target
LiesWithin n (heads.Get target host) = IsWithin n target × IfSome host (IsWithin n)
LiesWithin n (heads.Head target host) = IsWithin n target × IfSome host (IsWithin n)
LiesWithin n heads.Forward = Unit {0}
LiesWithin n heads.TwoHosts = Unit {0}
LiesWithin n heads.Other = Unit {0}

abbrev pub IsReadWithin : ℕ → ReadHead → Type 0
IsReadWithin n (reads.Whole head len) = LiesWithin n head × (len ≤ n)
IsReadWithin n reads.Partial = Unit {0}
IsReadWithin n reads.Refused = Unit {0}

-- the octets begin with this head, of this length; or with none yet, and more can complete one; or with none that has
-- at most 64 fields, whatever follows
abbrev pub ReadsHead : List ℕ → ReadHead → Type 0
ReadsHead octets (reads.Whole head len) = HasHead octets head len
ReadsHead octets reads.Partial = HasNoRequest octets × MayBecomeRequest octets
ReadsHead octets reads.Refused = RequestOverflows 64 octets
