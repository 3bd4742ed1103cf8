-- The fields of a response: which of them go on to the client.
use Rattle.std.specs.Prelude.{ℕ, ◌||◌, not, Bool, List, codes}
use Rattle.httparse.specs.Spans.{span_bytes}
use Rattle.httparse.specs.declared.spans.HeaderSpan.{HeaderSpan}
use Rattle.he_forward.specs.Fields.{is_framing, is_option}
use Rattle.he_front.specs.Http.{is_named}

-- fields for this connection alone (RFC 9110 section 7.6.1), and those of a proxy for its own client (section 11.7)
abbrev pub is_own : List ℕ → Bool
is_own name =
    is_named (codes "connection") name || (is_named (codes "keep-alive") name || (is_named (codes "te") name
    || (is_named (codes "upgrade") name || (is_named (codes "proxy-connection") name
    || (is_named (codes "proxy-authenticate") name || is_named (codes "proxy-authentication-info") name)))))

-- fields that frame the body go on, whatever Connection says; of the others all but those, and those that it names
abbrev pub stays : List ℕ → List HeaderSpan → HeaderSpan → Bool
stays octets fields field =
    let name = span_bytes octets field.name in
    is_framing name || not (is_own name || is_option octets fields name)
