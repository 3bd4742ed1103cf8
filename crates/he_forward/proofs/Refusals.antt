-- Why none is forwarded for a head.
use Rattle.std.proofs.Common.{◌≡◌, ℕ, false, List, subst, sym, ◌∙◌}
use Rattle.std.specs.Prelude.{string_bytes}
use Rattle.std.proofs.lemmas.Bool.{false≢true}
use Rattle.httparse.specs.Spans.{span_bytes}
use Rattle.httparse.specs.declared.spans.HeaderSpan.{HeaderSpan}
use Rattle.httparse.specs.declared.spans.RequestSpans.{RequestSpans}
use Rattle.he_forward.specs.Lengths.{IsUnframed}
use Rattle.he_forward.specs.Requests.{IsRefused, may_go_on}
use Rattle.he_forward.specs.Targets.{Names, NamesNone, authority_in, is_absolute}

module _ (octets : List ℕ) (fields : List HeaderSpan) (spans : RequestSpans) where
  pub refused_target : is_absolute (span_bytes octets spans.path) ≡ false → IsRefused octets fields spans
  refused_target not forward is = false≢true (sym not ∙ is.absolute)

  pub refused_framing : IsUnframed octets fields spans.version → IsRefused octets fields spans
  refused_framing never forward is = never forward.framing is.framing

  pub refused_head : may_go_on octets fields spans ≡ false → IsRefused octets fields spans
  refused_head not forward is = false≢true (sym not ∙ is.goes_on)

  pub refused_names : (authority : List ℕ) → authority ≡ authority_in (span_bytes octets spans.path) → NamesNone authority
      → IsRefused octets fields spans
  refused_names authority same none forward is =
      none (string_bytes forward.asked.host) forward.asked.port
      (subst (λ text. Names text (string_bytes forward.asked.host) forward.asked.port) (sym same) is.names)
