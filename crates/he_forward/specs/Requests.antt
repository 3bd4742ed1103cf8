-- Requests in absolute form, and what is forwarded of them.
use Rattle.std.specs.Prelude.{◌≡◌, ◌⊎◌, ℕ, ◌&&◌, ◌||◌, ◌==◌, not, Bool, false, true, List, [], ◌∷◌, codes, if◌then◌else◌, nat_le, string_bytes, take}
use Rattle.std.specs.declared.alloc.Global.{Global}
use Rattle.std.specs.Str.{bytes_eq}
use Rattle.httparse.specs.Grammar.{HasNoRequest, IsRequestHead, MayBecomeRequest, RequestHead, print_request}
use Rattle.httparse.specs.Spans.{IsRequestAt, RequestOverflows, span_bytes}
use Rattle.httparse.specs.declared.spans.HeaderSpan.{HeaderSpan}
use Rattle.httparse.specs.declared.spans.RequestSpans.{RequestSpans}
use Rattle.he_forward.specs.declared.forward.Fault.{Fault}
use Rattle.he_forward.specs.declared.forward.Fault.TheVariants as faults
use Rattle.he_forward.specs.declared.forward.Forward.{Forward}
use Rattle.he_forward.specs.declared.forward.ReadForward.{ReadForward}
use Rattle.he_forward.specs.declared.forward.ReadForward.TheVariants as reads
use Rattle.he_front.specs.Http.{count_named}
use Rattle.he_forward.specs.Forwards.{forwarded, origin}
use Rattle.he_forward.specs.Lengths.{IsFramed, has_other_coding}
use Rattle.he_forward.specs.Targets.{Names, authority_in, is_absolute, path_in}

-- a line feed stands without a carriage return before it
abbrev pub has_line_feed_alone : Bool → List ℕ → Bool
has_line_feed_alone after_return [] = false
has_line_feed_alone after_return (x ∷ more) =
    (x == 10 && not after_return) || has_line_feed_alone (x == 13) more

-- one field Host, which a request of HTTP/1.0 may lack (RFC 9112 section 3.2)
abbrev pub has_host : List ℕ → List HeaderSpan → ℕ → Bool
has_host octets fields version =
    let count = count_named octets (codes "host") fields in
    count == 1 || (count == 0 && version == 0)

-- Max-Forwards counts the proxies of a TRACE or OPTIONS (RFC 9110 section 7.6.2), which this one does not
abbrev pub is_counted : List ℕ → List HeaderSpan → List ℕ → Bool
is_counted octets fields method =
    (bytes_eq method (codes "TRACE") || bytes_eq method (codes "OPTIONS"))
    && nat_le 1 (count_named octets (codes "max-forwards") fields)

-- the head that the server gets in place of the one with these spans
abbrev pub forwarded_by : List ℕ → List HeaderSpan → RequestSpans → RequestHead
forwarded_by octets fields spans =
    let method = span_bytes octets spans.method in
    let target = span_bytes octets spans.path in
    forwarded octets fields method (authority_in target) (origin method (path_in target)) spans.version

-- it has a field Host, no line feed alone, and no count of proxies
abbrev pub may_go_on : List ℕ → List HeaderSpan → RequestSpans → Bool
may_go_on octets fields spans =
    has_host octets fields spans.version && (not (has_line_feed_alone false (take spans.len octets))
    && not (is_counted octets fields (span_bytes octets spans.method)))

-- What the server gets is a head by the grammar, for the host and the port that the target names, with that authority
-- as its Host; the body is framed as the fields say, in one way.
pub record IsForwardOf {A : Type 0} (octets : List ℕ) (fields : List HeaderSpan) (spans : RequestSpans) (forward : Forward A) : Type 0 where
  pub absolute : is_absolute (span_bytes octets spans.path) ≡ true
  pub names : Names (authority_in (span_bytes octets spans.path)) (string_bytes forward.asked.host) forward.asked.port
  pub head : forward.head.items ≡ print_request (forwarded_by octets fields spans)
  pub grammar : IsRequestHead (forwarded_by octets fields spans)
  pub framing : IsFramed octets fields spans.version forward.framing
  pub len : forward.len ≡ spans.len
  pub goes_on : may_go_on octets fields spans ≡ true

-- no request is forwarded for this head
abbrev pub IsRefused : List ℕ → List HeaderSpan → RequestSpans → Type 0
IsRefused octets fields spans = (forward : Forward Global) → IsForwardOf octets fields spans forward → ⊥

-- why not: its body has a transfer coding that the proxy does not understand, or anything else
abbrev pub fault_of : List ℕ → List HeaderSpan → ℕ → Fault
fault_of octets fields version = if has_other_coding octets fields version then faults.Coding else faults.Malformed

-- The octets begin with a request head by the grammar, of which this is what is forwarded; or with none yet, and more
-- can complete one; or with one for which none is forwarded, and why; or with one that has more than 64 fields, or
-- with none.
abbrev pub Reads : {A : Type 0} → List ℕ → ReadForward A → Type 0
Reads octets (reads.Whole forward) =
    (room : List HeaderSpan) × (spans : RequestSpans) × (request : RequestHead) × IsRequestAt octets room spans request
    × IsForwardOf octets (take spans.headers room) spans forward
Reads octets reads.Partial = HasNoRequest octets × MayBecomeRequest octets
Reads octets (reads.Refused fault) =
    ((fault ≡ faults.Malformed) × RequestOverflows 64 octets)
    ⊎ ((room : List HeaderSpan) × (spans : RequestSpans) × (request : RequestHead) × IsRequestAt octets room spans request
    × IsRefused octets (take spans.headers room) spans
    × (fault ≡ fault_of octets (take spans.headers room) spans.version))
