-- The fields of a request: which frame its body, and which are for the server.
use Rattle.std.specs.Prelude.{ℕ, ◌&&◌, ◌||◌, not, Bool, true, false, List, [], ◌∷◌, codes, drop, length, nat_le, take}
use Rattle.std.specs.List.{list_any}
use Rattle.httparse.specs.Grammar.{is_token_byte}
use Rattle.httparse.specs.Spans.{span_bytes}
use Rattle.httparse.specs.declared.spans.HeaderSpan.{HeaderSpan}
use Rattle.he_front.specs.Http.{is_named}

abbrev pub is_field : List ℕ → List ℕ → HeaderSpan → Bool
is_field octets name field = is_named name (span_bytes octets field.name)

-- no token goes on here
abbrev pub begins : List ℕ → Bool
begins [] = true
begins (x ∷ more) = not (is_token_byte x)

-- the text begins with this token
abbrev pub begins_with : List ℕ → List ℕ → Bool
begins_with name text = is_named name (take (length name) text) && begins (drop (length name) text)

-- one of the tokens of the value is this one, where a token begins at its start or not
abbrev pub lists : List ℕ → Bool → List ℕ → Bool
lists name starts [] = false
lists name starts (x ∷ more) = (starts && begins_with name (x ∷ more)) || lists name (not (is_token_byte x)) more

-- a field Connection names this one (RFC 9110 section 7.6.1)
abbrev pub is_option : List ℕ → List HeaderSpan → List ℕ → Bool
is_option octets fields name =
    list_any (λ field. is_field octets (codes "connection") field && lists name true (span_bytes octets field.value)) fields

-- a field for a proxy: its name begins with Proxy-
abbrev pub has_prefix : List ℕ → Bool
has_prefix name = nat_le 6 (length name) && is_named (codes "proxy-") (take 6 name)

-- fields for this connection alone (RFC 9110 section 7.6.1) or for a proxy, and Host, which is written anew
abbrev pub is_own : List ℕ → Bool
is_own name =
    is_named (codes "host") name || (is_named (codes "connection") name || (is_named (codes "keep-alive") name
    || (is_named (codes "te") name || (is_named (codes "upgrade") name || has_prefix name))))

-- fields that frame the body go on, whatever Connection says
abbrev pub is_framing : List ℕ → Bool
is_framing name = is_named (codes "content-length") name || is_named (codes "transfer-encoding") name

abbrev pub stays : List ℕ → List HeaderSpan → HeaderSpan → Bool
stays octets fields field =
    let name = span_bytes octets field.name in
    is_framing name || not (is_own name || is_option octets fields name)
