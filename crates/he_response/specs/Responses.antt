-- Responses, and what the client gets of them.
use Rattle.std.specs.Prelude.{◌≡◌, ◌⊎◌, ℕ, ◌&&◌, ◌==◌, not, Bool, true, List, nat_le, take}
use Rattle.httparse.specs.Grammar.{HasNoResponse, IsResponseHead, MayBecomeResponse, ResponseHead, print_response, status_code}
use Rattle.httparse.specs.Spans.{IsResponseAt, ResponseOverflows}
use Rattle.httparse.specs.declared.spans.HeaderSpan.{HeaderSpan}
use Rattle.httparse.specs.declared.spans.ResponseSpans.{ResponseSpans}
use Rattle.he_response.specs.Framings.{IsFramed}
use Rattle.he_response.specs.Heads.{is_final, returned}
use Rattle.he_response.specs.declared.response.ReadResponse.{ReadResponse}
use Rattle.he_response.specs.declared.response.ReadResponse.TheVariants as reads
use Rattle.he_response.specs.declared.response.Response.{Response}

-- A status code (RFC 9110 section 15), and not 101: no Upgrade went to the server, so it may switch to no other
-- protocol (section 7.8).
abbrev pub may_return : ℕ → Bool
may_return code = nat_le 100 code && not (code == 101)

-- The client gets a head by the grammar, with the server's status code; its body ends as the server's does.
pub record IsReturnOf (to_head : Bool) (octets : List ℕ) (fields : List HeaderSpan) (spans : ResponseSpans) (response : Response) : Type 0 where
  pub head : response.head.items ≡ print_response (returned octets fields spans)
  pub grammar : IsResponseHead (returned octets fields spans)
  pub code : status_code (returned octets fields spans) ≡ spans.code
  pub framing : IsFramed to_head octets fields spans response.framing
  pub len : response.len ≡ spans.len
  pub final : response.is_final ≡ is_final spans.code
  pub goes_on : may_return spans.code ≡ true

-- none is returned for this head
abbrev pub IsRefused : Bool → List ℕ → List HeaderSpan → ResponseSpans → Type 0
IsRefused to_head octets fields spans = (response : Response) → IsReturnOf to_head octets fields spans response → ⊥

-- The octets begin with a response head by the grammar, of which this is what the client gets; or with none yet, and
-- more can complete one; or with one for which none is returned, or which has more than 128 fields, or with none.
abbrev pub Reads : Bool → List ℕ → ReadResponse → Type 0
Reads to_head octets (reads.Whole response) =
    (room : List HeaderSpan) × (spans : ResponseSpans) × (head : ResponseHead) × IsResponseAt octets room spans head
    × IsReturnOf to_head octets (take spans.headers room) spans response
Reads to_head octets reads.Partial = HasNoResponse octets × MayBecomeResponse octets
Reads to_head octets reads.Refused =
    ResponseOverflows 128 octets
    ⊎ ((room : List HeaderSpan) × (spans : ResponseSpans) × (head : ResponseHead) × IsResponseAt octets room spans head
    × IsRefused to_head octets (take spans.headers room) spans)
