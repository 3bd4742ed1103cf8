-- Where the body of a response ends (RFC 9112 section 6.3).
use Rattle.std.specs.Prelude.{◌≡◌, ◌⊎◌, ℕ, ◌&&◌, ◌||◌, ◌==◌, Bool, true, false, List, Option, Some, None, nat_lt}
use Rattle.httparse.specs.declared.spans.HeaderSpan.{HeaderSpan}
use Rattle.httparse.specs.declared.spans.ResponseSpans.{ResponseSpans}
use Rattle.he_body.specs.declared.body.Framing.{Framing}
use Rattle.he_body.specs.declared.body.Framing.TheVariants.{Length}
use Rattle.he_forward.specs.Lengths.{coding_count, length_count}
use Rattle.he_forward.specs.Lengths as Messages

-- responses to HEAD, interim ones, and 204 and 304 have no body, whatever their fields say
abbrev pub is_bodiless : Bool → ℕ → Bool
is_bodiless to_head code = to_head || (nat_lt code 200 || (code == 204 || code == 304))

-- no field says where the body ends
abbrev pub is_open_ended : List ℕ → List HeaderSpan → Bool
is_open_ended octets fields = coding_count octets fields == 0 && length_count octets fields == 0

-- it ends with the connection; or it has a length or chunks, by the fields if there may be a body
abbrev pub IsFramed : Bool → List ℕ → List HeaderSpan → ResponseSpans → Option Framing → Type 0
IsFramed to_head octets fields spans None =
    (is_bodiless to_head spans.code ≡ false) × (is_open_ended octets fields ≡ true)
IsFramed to_head octets fields spans (Some framing) =
    ((is_bodiless to_head spans.code ≡ true) × (framing ≡ Length 0))
    ⊎ ((is_bodiless to_head spans.code ≡ false) × (is_open_ended octets fields ≡ false)
    × Messages.IsFramed octets fields spans.version framing)

-- the fields frame it in no such way
abbrev pub IsUnframed : Bool → List ℕ → List HeaderSpan → ResponseSpans → Type 0
IsUnframed to_head octets fields spans =
    (framing : Option Framing) → IsFramed to_head octets fields spans framing → ⊥
