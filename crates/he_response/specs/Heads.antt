-- The head that the client gets in place of that of a response.
use Rattle.std.specs.Prelude.{ℕ, ◌+◌, ◌/◌, ◌%◌, Bool, List, [], ◌∷◌, ◌++◌, Some, codes, filter, map, nat_le, if◌then◌else◌}
use Rattle.httparse.specs.Grammar.{Field, ResponseHead, crlf}
use Rattle.httparse.specs.Spans.{span_bytes}
use Rattle.httparse.specs.declared.spans.HeaderSpan.{HeaderSpan}
use Rattle.httparse.specs.declared.spans.ResponseSpans.{ResponseSpans}
use Rattle.he_forward.specs.Forwards.{kept, line, via}
use Rattle.he_response.specs.Fields.{stays}

-- the three digits of a status code
abbrev pub digits_of : ℕ → List ℕ
digits_of code = (48 + code / 100) ∷ (48 + code / 10 % 10) ∷ (48 + code % 10) ∷ []

-- no other response follows one of at least 200 (RFC 9110 section 15.2)
abbrev pub is_final : ℕ → Bool
is_final code = nat_le 200 code

-- the final response is the connection's last (RFC 9112 section 9.6)
abbrev pub closing : ℕ → List Field
closing code = if is_final code then line (codes "Connection") (codes "close") ∷ [] else []

-- The response that the client gets, of this proxy's own version of HTTP (RFC 9112 section 2.3): the server's code and
-- reason; the fields that stay, in their order; and those of the proxy.
abbrev pub returned : List ℕ → List HeaderSpan → ResponseSpans → ResponseHead
returned octets fields spans = record {
  blank = [];
  minor = 1;
  digits = digits_of spans.code;
  reason = Some (span_bytes octets spans.reason);
  line_end = crlf;
  fields = map (kept octets) (filter (stays octets fields) fields)
      ++ line (codes "Via") (via spans.version) ∷ closing spans.code;
  last = crlf;
}
