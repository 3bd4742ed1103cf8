-- Where the body of a response ends.
use Rattle.std.proofs.Common.{◌≡◌, inl, inr, ℕ, Bool, true, false, List, None, Some, refl, sym, ◌∙◌}
use Rattle.std.proofs.lemmas.Bool.{false≢true}
use Rattle.httparse.specs.declared.spans.HeaderSpan.{HeaderSpan}
use Rattle.httparse.specs.declared.spans.ResponseSpans.{ResponseSpans}
use Rattle.he_body.specs.declared.body.Framing.{Framing}
use Rattle.he_body.specs.declared.body.Framing.TheVariants.{Length}
use Rattle.he_forward.specs.Lengths as Messages
use Rattle.he_response.specs.Framings.{IsFramed, IsUnframed, is_bodiless, is_open_ended}

module _ (to_head : Bool) (octets : List ℕ) (fields : List HeaderSpan) (spans : ResponseSpans) where
  pub no_body : is_bodiless to_head spans.code ≡ true → IsFramed to_head octets fields spans (Some (Length 0))
  no_body none = inl (none, refl)

  pub no_end : is_bodiless to_head spans.code ≡ false → is_open_ended octets fields ≡ true
      → IsFramed to_head octets fields spans None
  no_end some ends = (some, ends)

  pub by_fields : (framing : Framing) → is_bodiless to_head spans.code ≡ false → is_open_ended octets fields ≡ false
      → Messages.IsFramed octets fields spans.version framing → IsFramed to_head octets fields spans (Some framing)
  by_fields framing some shut is = inr (some, shut, is)

  pub unframed : is_bodiless to_head spans.code ≡ false → is_open_ended octets fields ≡ false
      → Messages.IsUnframed octets fields spans.version → IsUnframed to_head octets fields spans
  unframed some shut never None is = false≢true (sym shut ∙ is.1)
  unframed some shut never (Some framing) (inl is) = false≢true (sym some ∙ is.0)
  unframed some shut never (Some framing) (inr is) = never framing is.2
