-- The octets of a head that is returned.
use Rattle.std.proofs.Common.{◌≡◌, ℕ, Bool, true, false, cond, List, [], ◌∷◌, ◌++◌, codes, filter, map, refl, sym, ◌∙◌, ap, append_assoc}
use Rattle.std.specs.List.{flat_map}
use Rattle.std.proofs.lemmas.Grind.{flat_map-append}
use Rattle.std.proofs.lemmas.List.{append-nil}
use Rattle.httparse.specs.Grammar.{Field, print_field, print_response}
use Rattle.httparse.specs.Spans.{span_bytes}
use Rattle.httparse.specs.declared.spans.HeaderSpan.{HeaderSpan}
use Rattle.httparse.specs.declared.spans.ResponseSpans.{ResponseSpans}
use Rattle.he_forward.proofs.Lines.{kept_lines}
use Rattle.he_forward.specs.Forwards.{kept, line, via}
use Rattle.he_response.specs.Fields.{stays}
use Rattle.he_response.specs.Heads.{closing, is_final, returned}
use Rattle.he_response.specs.Written.{closing_text, kept_text, status_text}

closing_line : (b : Bool) (f : Field) → cond b (print_field f) [] ≡ flat_map print_field (cond b (f ∷ []) [])
closing_line true f = sym (append-nil (print_field f))
closing_line false f = refl

layout : (s k v c e : List ℕ) → s ++ k ++ v ++ c ++ e ≡ s ++ ((k ++ (v ++ c)) ++ e)
layout s k v c e = simp (append_assoc)

ends : (a : List ℕ) (reason e rest : List ℕ) → (reason ++ e) ++ rest ≡ reason ++ (e ++ rest)
ends a reason e rest = append_assoc reason e rest

-- the lines in their order are the head of the response
pub printed : (octets : List ℕ) (fields : List HeaderSpan) (spans : ResponseSpans)
    → status_text spans.code (span_bytes octets spans.reason) ++ kept_text octets fields fields
    ++ print_field (line (codes "Via") (via spans.version)) ++ closing_text spans.code ++ (13 ∷ 10 ∷ [])
    ≡ print_response (returned octets fields spans)
unfolding print_response
printed octets fields spans =
    let by : List ℕ = print_field (line (codes "Via") (via spans.version)) in
    let status : List ℕ = status_text spans.code (span_bytes octets spans.reason) in
    let kept_fields : List Field = map (kept octets) (filter (stays octets fields) fields) in
    let last : Field = line (codes "Connection") (codes "close") in
    let lines : kept_text octets fields fields ++ (by ++ closing_text spans.code) ≡ flat_map print_field (kept_fields ++ line (codes "Via") (via spans.version) ∷ closing spans.code) =
    ap (λ t. t ++ (by ++ closing_text spans.code)) (kept_lines (stays octets fields) (kept octets) fields)
    ∙ ap (λ t. flat_map print_field kept_fields ++ (by ++ t)) (closing_line (is_final spans.code) last)
    ∙ sym (flat_map-append print_field kept_fields (line (codes "Via") (via spans.version) ∷ closing spans.code)) in
    layout status (kept_text octets fields fields) by (closing_text spans.code) (13 ∷ 10 ∷ [])
    ∙ ap (λ t. status ++ (t ++ (13 ∷ 10 ∷ []))) lines
