-- How the body of a request is framed (RFC 9112 section 6.3).
use Rattle.std.specs.Prelude.{◌≡◌, ◌⊎◌, ◌<◌, ◌-◌, ◌^◌, ◌&&◌, ◌||◌, ◌==◌, not, ℕ, Bool, true, false, List, [], ◌∷◌, Option, Some, None, codes, drop, length, nat_le, take}
use Rattle.std.specs.Char.{is_ascii_digit}
use Rattle.std.specs.List.{list_all}
use Rattle.std.specs.Option.{option_map}
use Rattle.std.specs.Str.Parse.{digits_value}
use Rattle.httparse.specs.Spans.{span_bytes}
use Rattle.httparse.specs.declared.spans.HeaderSpan.{HeaderSpan}
use Rattle.he_body.specs.declared.body.Framing.{Framing}
use Rattle.he_body.specs.declared.body.Framing.TheVariants.{Chunked, Length}
use Rattle.he_forward.specs.Fields.{begins, lists}
use Rattle.he_front.specs.Http.{count_named, field_named, is_named}

-- Content-Length = 1*DIGIT (RFC 9110 section 8.6), of a number below 2^64
pub record IsLength (text : List ℕ) (count : ℕ) : Type 0 where
  pub some : 0 < length text
  pub decimal : list_all is_ascii_digit text ≡ true
  pub is : digits_value 10 text ≡ count
  pub fits : count < 2 ^ 64

-- the value of the first field with this name
abbrev pub value_in : List ℕ → List HeaderSpan → List ℕ → Option (List ℕ)
value_in octets fields name = option_map (λ field. span_bytes octets field.value) (field_named octets name fields)

abbrev pub length_count : List ℕ → List HeaderSpan → ℕ
length_count octets fields = count_named octets (codes "content-length") fields

abbrev pub coding_count : List ℕ → List HeaderSpan → ℕ
coding_count octets fields = count_named octets (codes "transfer-encoding") fields

-- no field Content-Length, and no body; or one, with this length
abbrev pub HasLength : List ℕ → List HeaderSpan → ℕ → Type 0
HasLength octets fields count =
    ((length_count octets fields ≡ 0) × (count ≡ 0))
    ⊎ ((length_count octets fields ≡ 1)
    × ((value : List ℕ) × (value_in octets fields (codes "content-length") ≡ Some value) × IsLength value count))

abbrev pub is_chunked : Option (List ℕ) → Bool
is_chunked None = false
is_chunked (Some value) = is_named (codes "chunked") value

-- the text ends in a comma that only spaces and tabs follow, or none has come since such a comma
abbrev pub ends_in_comma : Bool → List ℕ → Bool
ends_in_comma follows [] = follows
ends_in_comma follows (x ∷ more) = ends_in_comma (x == 44 || (follows && (x == 32 || x == 9))) more

-- the transfer codings before the last one: there is one, and none of them is chunked, which a body has once at most
-- (RFC 9112 section 7.1)
abbrev pub are_other : List ℕ → Bool
are_other codings = not (begins codings) && (ends_in_comma false codings && not (lists (codes "chunked") true codings))

-- the last transfer coding is chunked, so that the body's length is known (RFC 9112 section 6.3), and there are others
-- before it, none of which this proxy understands (section 6.1)
abbrev pub is_other_coding : Option (List ℕ) → Bool
is_other_coding None = false
is_other_coding (Some value) =
    nat_le 7 (length value) && (is_named (codes "chunked") (drop (length value - 7) value)
    && are_other (take (length value - 7) value))

-- one field says so, of HTTP/1.1, and none says a length
abbrev pub has_other_coding : List ℕ → List HeaderSpan → ℕ → Bool
has_other_coding octets fields version =
    length_count octets fields == 0 && (coding_count octets fields == 1
    && (version == 1 && is_other_coding (value_in octets fields (codes "transfer-encoding"))))

-- the one transfer coding chunked, which only HTTP/1.1 has, and no length
abbrev pub by_chunks : List ℕ → List HeaderSpan → ℕ → Bool
by_chunks octets fields version =
    coding_count octets fields == 1 && (length_count octets fields == 0
    && (version == 1 && is_chunked (value_in octets fields (codes "transfer-encoding"))))

-- the fields frame the body so, and in no other way
abbrev pub IsFramed : List ℕ → List HeaderSpan → ℕ → Framing → Type 0
IsFramed octets fields version (Length count) = (coding_count octets fields ≡ 0) × HasLength octets fields count
IsFramed octets fields version Chunked = by_chunks octets fields version ≡ true

-- they frame none
abbrev pub IsUnframed : List ℕ → List HeaderSpan → ℕ → Type 0
IsUnframed octets fields version = (framing : Framing) → IsFramed octets fields version framing → ⊥
