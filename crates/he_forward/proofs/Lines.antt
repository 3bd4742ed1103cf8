-- The octets of a head that is forwarded.
use Rattle.std.proofs.Common.{◌≡◌, ℕ, ◌+◌, Bool, true, false, cond, List, [], ◌∷◌, ◌++◌, codes, filter, map, refl, sym, ◌∙◌, ap, append_assoc}
use Rattle.std.specs.List.{flat_map}
use Rattle.std.proofs.lemmas.Grind.{flat_map-append}
use Rattle.std.proofs.lemmas.List.{append-nil}
use Rattle.httparse.specs.Grammar.{Field, print_field, print_request}
use Rattle.httparse.specs.declared.spans.HeaderSpan.{HeaderSpan}
use Rattle.he_forward.specs.Fields.{stays}
use Rattle.he_forward.specs.Forwards.{forwarded, kept, line, version_text, via}
use Rattle.he_forward.specs.Written.{kept_text}

filtered : (p : HeaderSpan → Bool) (f : HeaderSpan → Field) (b : Bool) (x : HeaderSpan) (fields : List HeaderSpan)
    → flat_map (λ x. cond (p x) (print_field (f x)) []) fields ≡ flat_map print_field (map f (filter p fields))
    → cond b (print_field (f x)) [] ++ flat_map (λ x. cond (p x) (print_field (f x)) []) fields
    ≡ flat_map print_field (map f (cond b (x ∷ filter p fields) (filter p fields)))
filtered p f true x fields rest = ap (λ t. print_field (f x) ++ t) rest
filtered p f false x fields rest = rest

pub kept_lines : (p : HeaderSpan → Bool) (f : HeaderSpan → Field) (fields : List HeaderSpan)
    → flat_map (λ x. cond (p x) (print_field (f x)) []) fields ≡ flat_map print_field (map f (filter p fields))
kept_lines p f [] = refl
kept_lines p f (x ∷ fields) = filtered p f (p x) x fields (kept_lines p f fields)

-- one text more
pub add : (more : List ℕ) {new mid old : List ℕ} → new ≡ mid ++ more → mid ≡ old → new ≡ old ++ more
add more e f = e ∙ ap (λ t. t ++ more) f

pub add_as : (more other : List ℕ) {new mid old : List ℕ} → more ≡ other → new ≡ mid ++ more → mid ≡ old → new ≡ old ++ other
add_as more other {new} {mid} {old} same e f = e ∙ ap (λ t. mid ++ t) same ∙ ap (λ t. t ++ other) f

layout : (out m s p w z h k v c e : List ℕ)
    → out ++ m ++ s ++ p ++ (w ++ z) ++ h ++ k ++ v ++ c ++ e
    ≡ out ++ (m ++ (s ++ p) ++ w ++ z ++ ((h ++ (k ++ (v ++ (c ++ [])))) ++ e))
layout out m s p w z h k v c e = simp (append_assoc, append-nil)

-- the lines in their order are the head of the request
pub printed : (octets : List ℕ) (fields : List HeaderSpan) (method authority path : List ℕ) (version : ℕ) (out : List ℕ)
    → out ++ method ++ codes " " ++ path ++ version_text version ++ print_field (line (codes "Host") authority)
    ++ kept_text octets fields fields ++ print_field (line (codes "Via") (via version))
    ++ print_field (line (codes "Connection") (codes "close")) ++ (13 ∷ 10 ∷ [])
    ≡ out ++ print_request (forwarded octets fields method authority path version)
unfolding print_request
printed octets fields method authority path version out =
    let host : List ℕ = print_field (line (codes "Host") authority) in
    let by : List ℕ = print_field (line (codes "Via") (via version)) in
    let close : List ℕ = print_field (line (codes "Connection") (codes "close")) in
    let kept_fields : List Field = map (kept octets) (filter (stays octets fields) fields) in
    let lines : kept_text octets fields fields ++ (by ++ (close ++ [])) ≡ flat_map print_field (kept_fields ++ line (codes "Via") (via version) ∷ line (codes "Connection") (codes "close") ∷ []) =
    ap (λ t. t ++ (by ++ (close ++ []))) (kept_lines (stays octets fields) (kept octets) fields)
    ∙ sym (flat_map-append print_field kept_fields (line (codes "Via") (via version) ∷ line (codes "Connection") (codes "close") ∷ [])) in
    layout out method (codes " ") path (codes " HTTP/1." ++ (48 + version) ∷ []) (13 ∷ 10 ∷ []) host (kept_text octets fields fields) by close (13 ∷ 10 ∷ [])
    ∙ ap (λ t. out ++ (method ++ (32 ∷ path) ++ (codes " HTTP/1." ++ (48 + version) ∷ []) ++ (13 ∷ 10 ∷ []) ++ ((host ++ t) ++ (13 ∷ 10 ∷ [])))) lines
