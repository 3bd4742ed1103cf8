-- What goes to the server in place of the head of a request.
use Rattle.std.specs.Prelude.{ℕ, ◌+◌, ◌&&◌, ◌==◌, Bool, false, List, [], ◌∷◌, ◌++◌, codes, filter, length, map, if◌then◌else◌}
use Rattle.std.specs.Str.{bytes_eq}
use Rattle.httparse.specs.Grammar.{Field, RequestHead, crlf}
use Rattle.httparse.specs.Spans.{span_bytes}
use Rattle.httparse.specs.declared.spans.HeaderSpan.{HeaderSpan}
use Rattle.he_forward.specs.Fields.{stays}

abbrev pub first_is : ℕ → List ℕ → Bool
first_is mark [] = false
first_is mark (x ∷ more) = x == mark

-- a field with this name and this value
abbrev pub line : List ℕ → List ℕ → Field
line name value = record { name = name; raw = 32 ∷ value; end = crlf }

-- a field as it goes on
abbrev pub kept : List ℕ → HeaderSpan → Field
kept octets field = line (span_bytes octets field.name) (span_bytes octets field.value)

-- an empty path is written as a slash (RFC 9112 section 3.2.1), and as an asterisk if OPTIONS has it and no query
-- (section 3.2.4)
abbrev pub origin : List ℕ → List ℕ → List ℕ
origin method path =
    if first_is 47 path then path
    else (if length path == 0 && bytes_eq method (codes "OPTIONS") then codes "*" else 47 ∷ path)

-- the end of the request line
abbrev pub version_text : ℕ → List ℕ
version_text version = codes " HTTP/1." ++ (48 + version) ∷ 13 ∷ 10 ∷ []

-- Via: the version that was received, and a name for this proxy (RFC 9110 section 7.6.3)
abbrev pub via : ℕ → List ℕ
via version = codes "1." ++ (48 + version) ∷ codes " he"

-- The request that the server gets, of the client's version, since the response goes to the client unchanged: Host
-- first, which is the authority of the target; the fields that stay, in their order; and two of the proxy's own.
abbrev pub forwarded : List ℕ → List HeaderSpan → List ℕ → List ℕ → List ℕ → ℕ → RequestHead
forwarded octets fields method authority path version = record {
  blank = [];
  method = method;
  target = path;
  minor = version;
  line_end = crlf;
  fields = line (codes "Host") authority
      ∷ (map (kept octets) (filter (stays octets fields) fields)
      ++ line (codes "Via") (via version) ∷ line (codes "Connection") (codes "close") ∷ []);
  last = crlf;
}
