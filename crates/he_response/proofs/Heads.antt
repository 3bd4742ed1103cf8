-- The head that goes out is a head by the grammar.
use Rattle.std.proofs.Common.{◌≡◌, ℕ, ◌+◌, ◌*◌, ◌/◌, ◌%◌, ◌<◌, ◌≤◌, Bool, true, false, cond, List, [], ◌∷◌, codes, filter, map, take, refl, sym, subst, arith}
use Rattle.std.specs.Prelude.{All, IsTrue}
use Rattle.std.specs.Char.{digit_value, is_ascii_digit}
use Rattle.std.specs.Str.Parse.{digits_value}
use Rattle.std.proofs.lemmas.Bool.Decides.{nat_tests}
use Rattle.std.proofs.lemmas.Str.{digit_value_digit}
use Rattle.std.proofs.lemmas.List.Elements.{All-append, All-cons, All-filter, All-from_recursion, All-map, All-nil}
use Rattle.he_forward.proofs.Heads.{IsNamed, IsText, close_text, connection_name, named, spans_named, via_name, via_text}
use Rattle.he_forward.specs.Forwards.{kept, line, via}
use Rattle.httparse.specs.Grammar.{IsField, IsResponseHead, ResponseHead, status_code}
use Rattle.httparse.specs.Spans.{IsResponseAt}
use Rattle.httparse.specs.declared.spans.HeaderSpan.{HeaderSpan}
use Rattle.httparse.specs.declared.spans.ResponseSpans.{ResponseSpans}
use Rattle.he_response.specs.Fields.{stays}
use Rattle.he_response.specs.Heads.{closing, digits_of, is_final, returned}

abbrev IsDigit : ℕ → Type 0
IsDigit octet = IsTrue (is_ascii_digit octet)

digit : (n : ℕ) → n < 10 → IsDigit (48 + n)
digit n low = grind (arith, nat_tests)

are_digits : (code : ℕ) → code < 1000 → All IsDigit (digits_of code)
are_digits code low =
    All-from_recursion IsDigit (digits_of code)
    (digit (code / 100) (omega arith), (digit (code / 10 % 10) (omega arith), (digit (code % 10) (omega arith), tt)))

close_field : IsField (line (codes "Connection") (codes "close"))
close_field = record { name = connection_name; raw = close_text }

closing_field : (b : Bool) → All IsField (cond b (line (codes "Connection") (codes "close") ∷ []) [])
closing_field true = All-cons IsField (line (codes "Connection") (codes "close")) [] close_field (All-nil IsField)
closing_field false = All-nil IsField

own_fields : (version code : ℕ) → version ≤ 1 → All IsField (line (codes "Via") (via version) ∷ closing code)
own_fields version code known =
    All-cons IsField (line (codes "Via") (via version)) (closing code)
    (record { name = via_name; raw = via_text version known }) (closing_field (is_final code))

pub is_head : (octets : List ℕ) (room : List HeaderSpan) (spans : ResponseSpans) (head : ResponseHead)
    → IsResponseAt octets room spans head → spans.code < 1000
    → IsResponseHead (returned octets (take spans.headers room) spans)
is_head octets room spans head at low =
    let fields : List HeaderSpan = take spans.headers room in
    let old = at.reads.0 in
    let known : spans.version ≤ 1 = subst (λ n. n ≤ 1) (sym at.version) old.minor in
    let all : All (λ span. IsField (kept octets span)) fields =
    spans_named octets fields (subst (All IsNamed) (sym at.fields) (named head.fields old.fields)) in
    let stay : All IsField (map (kept octets) (filter (stays octets fields) fields)) =
    All-map IsField (kept octets) (filter (stays octets fields) fields)
    (All-filter (stays octets fields) (λ span. IsField (kept octets span)) fields all) in
    record {
      minor = omega arith;
      digits = (refl, are_digits spans.code low);
      reason = subst (All IsText) (sym at.reason) old.reason;
      fields = All-append IsField _ _ stay (own_fields spans.version spans.code known);
    }

value : (n : ℕ) → n < 10 → digit_value (48 + n) ≡ n
value n low = let is = digit_value_digit (48 + n) (omega arith, omega arith) in omega arith

three : (a b c : ℕ) → a < 10 → b < 10 → c < 10 → digits_value 10 ((48 + a) ∷ (48 + b) ∷ (48 + c) ∷ []) ≡ a * 100 + b * 10 + c
three a b c la lb lc = omega (arith, value a la, value b lb, value c lc)

pub is_code : (octets : List ℕ) (fields : List HeaderSpan) (spans : ResponseSpans) → spans.code < 1000
    → status_code (returned octets fields spans) ≡ spans.code
is_code octets fields spans low =
    let is = three (spans.code / 100) (spans.code / 10 % 10) (spans.code % 10) (omega arith) (omega arith) (omega arith) in
    omega arith
