-- The field that is found among spans is the one that the grammar has.
use Rattle.std.proofs.Common.{◌≡◌, ◌+◌, ℕ, Bool, true, false, cond, List, [], ◌∷◌, Option, Some, find, fold, map, refl}
use Rattle.std.specs.Option.{option_map}
use Rattle.httparse.specs.declared.spans.HeaderSpan.{HeaderSpan}
use Rattle.httparse.specs.declared.spans.Span.{Span}
use Rattle.httparse.specs.Spans.{header_bytes, span_bytes}
use Rattle.he_front.specs.Http.{count_named, count_of, field_named, is_named, value_of}

abbrev value_span : HeaderSpan → Span
value_span field = field.value

-- one step of both searches
step : (octets : List ℕ) (first : HeaderSpan) (is : Bool) (found : Option HeaderSpan) (given : Option (List ℕ × List ℕ)) → option_map (span_bytes octets) (option_map value_span found) ≡ option_map (λ (field : List ℕ × List ℕ). field.1) given → option_map (span_bytes octets) (option_map value_span (cond is (Some first) found)) ≡ option_map (λ (field : List ℕ × List ℕ). field.1) (cond is (Some (header_bytes octets first)) given)
step octets first true found given same = refl
step octets first false found given same = same

pub value_of_named : (octets name : List ℕ) (fields : List HeaderSpan) → option_map (span_bytes octets) (option_map value_span (field_named octets name fields)) ≡ value_of name (map (header_bytes octets) fields)
value_of_named octets name [] = refl
value_of_named octets name (first ∷ more) =
    step octets first (is_named name (span_bytes octets first.name)) (field_named octets name more) (find (λ (field : List ℕ × List ℕ). is_named name field.0) (map (header_bytes octets) more)) (value_of_named octets name more)

-- the count goes on alike from any number
count_from : (octets name : List ℕ) (fields : List HeaderSpan) (count : ℕ) → fold (λ n (field : HeaderSpan). n + cond (is_named name (span_bytes octets field.name)) 1 0) count fields ≡ fold (λ n (field : List ℕ × List ℕ). n + cond (is_named name field.0) 1 0) count (map (header_bytes octets) fields)
count_from octets name [] count = refl
count_from octets name (first ∷ more) count =
    count_from octets name more (count + cond (is_named name (span_bytes octets first.name)) 1 0)

pub count_of_named : (octets name : List ℕ) (fields : List HeaderSpan) → count_named octets name fields ≡ count_of name (map (header_bytes octets) fields)
count_of_named octets name fields = count_from octets name fields 0
