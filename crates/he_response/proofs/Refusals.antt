-- Why none is returned for a head.
use Rattle.std.proofs.Common.{◌≡◌, ℕ, Bool, false, List, sym, ◌∙◌}
use Rattle.std.proofs.lemmas.Bool.{false≢true}
use Rattle.httparse.specs.declared.spans.HeaderSpan.{HeaderSpan}
use Rattle.httparse.specs.declared.spans.ResponseSpans.{ResponseSpans}
use Rattle.he_response.specs.Framings.{IsUnframed}
use Rattle.he_response.specs.Responses.{IsRefused, may_return}

module _ (to_head : Bool) (octets : List ℕ) (fields : List HeaderSpan) (spans : ResponseSpans) where
  pub refused_code : may_return spans.code ≡ false → IsRefused to_head octets fields spans
  refused_code not response is = false≢true (sym not ∙ is.goes_on)

  pub refused_framing : IsUnframed to_head octets fields spans → IsRefused to_head octets fields spans
  refused_framing never response is = never response.framing is.framing
