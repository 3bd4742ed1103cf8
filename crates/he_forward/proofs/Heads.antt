-- The head that goes out is a head by the grammar.
use Rattle.std.proofs.Common.{◌≡◌, ℕ, ◌+◌, ◌<◌, ◌≤◌, Bool, true, false, cond, List, [], ◌∷◌, codes, filter, length, map, take, refl, sym, subst, arith}
use Rattle.std.specs.Prelude.{All, IsTrue, ◌&&◌, ◌==◌}
use Rattle.std.specs.List.{list_all}
use Rattle.std.specs.Str.{bytes_eq}
use Rattle.std.proofs.lemmas.Bool.{and_parts}
use Rattle.std.proofs.lemmas.Bool.Decides.{nat_tests}
use Rattle.std.proofs.lemmas.List.Elements.{All-append, All-cons, All-drop, All-filter, All-from_recursion, All-head, All-map, All-nil, All-tail, All-take, All-weaker}
use Rattle.std.proofs.lemmas.List.Sums.{AllPass-from_list_all}
use Rattle.std.proofs.lemmas.Str.{IsUtf8-from_ascii}
use Rattle.std.proofs.lemmas.Str.Ascii.{IsAscii-from_all}
use Rattle.httparse.proofs.TrimLemmas.{AllPass-trim_ows}
use Rattle.httparse.specs.Grammar.{AllPass, Field, IsField, IsRequestHead, IsToken, RequestHead, is_token_byte, is_uri_byte, is_value_byte}
use Rattle.httparse.specs.Spans.{IsRequestAt, header_bytes, name_and_value, span_bytes}
use Rattle.httparse.specs.declared.spans.HeaderSpan.{HeaderSpan}
use Rattle.httparse.specs.declared.spans.RequestSpans.{RequestSpans}
use Rattle.he_front.specs.Http.{is_forwarded}
use Rattle.he_forward.specs.Fields.{stays}
use Rattle.he_forward.specs.Forwards.{first_is, kept, line, origin, via}
use Rattle.he_forward.specs.Requests.{forwarded_by}
use Rattle.he_forward.specs.Targets.{authority_in, end_in, hier_part, is_absolute, is_target_octet, path_in}

abbrev IsOctet : ℕ → Type 0
IsOctet octet = is_target_octet octet ≡ true

abbrev IsUri : ℕ → Type 0
IsUri octet = IsTrue (is_uri_byte octet)

abbrev pub IsText : ℕ → Type 0
IsText octet = IsTrue (is_value_byte octet)

abbrev IsLow : ℕ → Type 0
IsLow octet = octet < 128

uri : (octet : ℕ) → IsOctet octet → IsUri octet
uri octet is = grind (arith, nat_tests)

low : (octet : ℕ) → IsOctet octet → IsLow octet
low octet is = grind (arith, nat_tests)

text : (octet : ℕ) → IsOctet octet → IsText octet
text octet is = grind (arith, nat_tests)

-- a path as it goes out
on_path : (a b : Bool) (path : List ℕ) → All IsOctet path → All IsOctet (cond a path (cond b (42 ∷ []) (47 ∷ path)))
on_path true b path all = all
on_path false true path all = All-cons IsOctet 42 [] refl (All-nil IsOctet)
on_path false false path all = All-cons IsOctet 47 path refl all

some_of : (a b : Bool) (path : List ℕ) → (a ≡ true → 0 < length path) → 0 < length (cond a path (cond b (42 ∷ []) (47 ∷ path)))
some_of true b path some = some refl
some_of false true path some = omega arith
some_of false false path some = omega arith

some_if : (path : List ℕ) → first_is 47 path ≡ true → 0 < length path
some_if [] is = cc
some_if (x ∷ path) is = omega arith

module _ (target : List ℕ) (absolute : is_absolute target ≡ true) where
  hier : All IsOctet (hier_part target)
  hier =
      All-drop IsOctet 7 target
      (AllPass-from_list_all is_target_octet target (and_parts (is_forwarded target) (list_all is_target_octet target) absolute).1)

  pub in_authority : All IsText (authority_in target)
  in_authority =
      All-weaker IsOctet IsText text (authority_in target) (All-take IsOctet (end_in (hier_part target)) (hier_part target) hier)

  pub in_origin : (method : List ℕ) → All IsOctet (origin method (path_in target))
  in_origin method =
      on_path (first_is 47 (path_in target)) (length (path_in target) == 0 && bytes_eq method (codes "OPTIONS")) (path_in target)
      (All-drop IsOctet (end_in (hier_part target)) (hier_part target) hier)

  pub some_origin : (method : List ℕ) → 0 < length (origin method (path_in target))
  some_origin method =
      some_of (first_is 47 (path_in target)) (length (path_in target) == 0 && bytes_eq method (codes "OPTIONS")) (path_in target)
      (some_if (path_in target))

-- a name is a token, and a value has no control code
abbrev pub IsNamed : List ℕ × List ℕ → Type 0
IsNamed parts = IsToken parts.0 × AllPass is_value_byte parts.1

pub named : (fields : List Field) → All IsField fields → All IsNamed (map name_and_value fields)
named fields all =
    All-map IsNamed name_and_value fields
    (All-weaker IsField (λ field. IsNamed (name_and_value field)) (λ field is. (is.name, AllPass-trim_ows is_value_byte field.raw is.raw)) fields all)

pub spans_named : (octets : List ℕ) (spans : List HeaderSpan) → All IsNamed (map (header_bytes octets) spans)
    → All (λ span. IsField (kept octets span)) spans
spans_named octets [] all = All-nil (λ span. IsField (kept octets span))
spans_named octets (span ∷ spans) all =
    let first = All-head IsNamed (header_bytes octets span) (map (header_bytes octets) spans) all in
    let rest = All-tail IsNamed (header_bytes octets span) (map (header_bytes octets) spans) all in
    All-cons (λ span. IsField (kept octets span)) span spans
    (record { name = first.0; raw = All-cons IsText 32 (span_bytes octets span.value) refl first.1 })
    (spans_named octets spans rest)

abbrev IsTokenOctet : ℕ → Type 0
IsTokenOctet octet = IsTrue (is_token_byte octet)

host_name : IsToken (codes "Host")
unfolding is_token_byte
host_name = (omega arith, All-from_recursion IsTokenOctet (codes "Host") (refl, (refl, (refl, (refl, tt)))))

pub via_name : IsToken (codes "Via")
unfolding is_token_byte
via_name = (omega arith, All-from_recursion IsTokenOctet (codes "Via") (refl, (refl, (refl, tt))))

pub connection_name : IsToken (codes "Connection")
unfolding is_token_byte
connection_name = (
  omega arith,
  All-from_recursion IsTokenOctet (codes "Connection")
      (refl, (refl, (refl, (refl, (refl, (refl, (refl, (refl, (refl, (refl, tt)))))))))),
)

digit_text : (version : ℕ) → version ≤ 1 → IsText (48 + version)
digit_text version known = grind (arith, nat_tests)

pub via_text : (version : ℕ) → version ≤ 1 → All IsText (32 ∷ via version)
via_text version known =
    All-from_recursion IsText (32 ∷ via version)
    (refl, (refl, (refl, (digit_text version known, (refl, (refl, (refl, tt)))))))

pub close_text : All IsText (32 ∷ codes "close")
close_text = All-from_recursion IsText (32 ∷ codes "close") (refl, (refl, (refl, (refl, (refl, (refl, tt))))))

own_fields : (version : ℕ) → version ≤ 1
    → All IsField (line (codes "Via") (via version) ∷ line (codes "Connection") (codes "close") ∷ [])
own_fields version known =
    All-cons IsField (line (codes "Via") (via version)) (line (codes "Connection") (codes "close") ∷ [])
    (record { name = via_name; raw = via_text version known })
    (All-cons IsField (line (codes "Connection") (codes "close")) []
    (record { name = connection_name; raw = close_text }) (All-nil IsField))

pub is_head : (octets : List ℕ) (room : List HeaderSpan) (spans : RequestSpans) (request : RequestHead)
    → IsRequestAt octets room spans request → is_absolute (span_bytes octets spans.path) ≡ true
    → IsRequestHead (forwarded_by octets (take spans.headers room) spans)
is_head octets room spans request at absolute =
    let method : List ℕ = span_bytes octets spans.method in
    let target : List ℕ = span_bytes octets spans.path in
    let fields : List HeaderSpan = take spans.headers room in
    let head = at.reads.0 in
    let known : spans.version ≤ 1 = subst (λ n. n ≤ 1) (sym at.version) head.minor in
    let all : All (λ span. IsField (kept octets span)) fields =
    spans_named octets fields (subst (All IsNamed) (sym at.fields) (named request.fields head.fields)) in
    let stay : All IsField (map (kept octets) (filter (stays octets fields) fields)) =
    All-map IsField (kept octets) (filter (stays octets fields) fields)
    (All-filter (stays octets fields) (λ span. IsField (kept octets span)) fields all) in
    let out : All IsOctet (origin method (path_in target)) = in_origin target absolute method in
    record {
      method = subst IsToken (sym at.method) head.method;
      target = (some_origin target absolute method, All-weaker IsOctet IsUri uri (origin method (path_in target)) out);
      target_text = IsUtf8-from_ascii _ (IsAscii-from_all _ (All-weaker IsOctet IsLow low (origin method (path_in target)) out));
      minor = known;
      fields = All-cons IsField (line (codes "Host") (authority_in target)) _
          (record { name = host_name; raw = All-cons IsText 32 (authority_in target) refl (in_authority target absolute) })
          (All-append IsField _ _ stay (own_fields spans.version known));
    }
