-- What ends at its end is a body.
use Rattle.std.proofs.Common.{◌≡◌, ◌⊎◌, inl, inr, ℕ, ◌+◌, ◌-◌, ◌*◌, ◌<◌, ◌≤◌, ◌^◌, Bool, true, false, cond, leb, ltb, eqb, List, [], ◌∷◌, ◌++◌, length, refl, sym, ◌∙◌, ◌&&◌, ap, arith}
use Rattle.std.specs.Char.{digit_value}
use Rattle.std.specs.List.{list_all}
use Rattle.std.specs.Str.Parse.{digits_value, digits_value_after}
use Rattle.std.proofs.lemmas.Bool.{eqb-true, eqb-false, leb-false, leb-true, ltb-true}
use Rattle.httparse.specs.Grammar.{is_token_byte, is_value_byte}
use Rattle.he_body.specs.declared.body.Body.{Body}
use Rattle.he_body.specs.declared.body.Body.TheVariants.{Left, Size, Digits, Extension, SizeEnd, Data, DataEnd, DataLineEnd, Trailer, Name, Value, ValueEnd, LastEnd, Over, Broken}
use Rattle.he_body.specs.declared.body.Framing.{Framing}
use Rattle.he_body.specs.declared.body.Framing.TheVariants.{Length, Chunked}
use Rattle.he_body.specs.declared.body.TheConstants.{MOST_BEFORE}
use Rattle.he_body.specs.Bodies.{IsBody, IsChunked, IsExtension, IsTrailers, chunk, field, is_hexadecimal, last, none}
use Rattle.he_body.specs.Steps.{after, begun, next}

both_true : {a b : Bool} → a ≡ true → b ≡ true → (a && b) ≡ true
both_true h k = cc (h, k)

below : (n m : ℕ) → n ≡ m → n < 2 ^ 64 → m < 2 ^ 64
below n m is h = omega arith

above : (n m : ℕ) → n ≡ m → 0 < n → 0 < m
above n m is h = omega arith

above_zero : (n : ℕ) → (n ≡ 0 → ⊥) → 0 < n
above_zero n h = omega arith

-- What follows at each place of a body, up to its end.

record RestName (octets : List ℕ) : Type 0 where
  name : List ℕ
  value : List ℕ
  rest : List ℕ
  is_name : list_all is_token_byte name ≡ true
  is_value : list_all is_value_byte value ≡ true
  trailers : IsTrailers rest
  parts : octets ≡ name ++ (58 ∷ (value ++ (13 ∷ 10 ∷ rest)))

record RestValue (octets : List ℕ) : Type 0 where
  value : List ℕ
  rest : List ℕ
  is_value : list_all is_value_byte value ≡ true
  trailers : IsTrailers rest
  parts : octets ≡ value ++ (13 ∷ 10 ∷ rest)

record RestValueEnd (octets : List ℕ) : Type 0 where
  rest : List ℕ
  trailers : IsTrailers rest
  parts : octets ≡ 10 ∷ rest

record RestData (left : ℕ) (octets : List ℕ) : Type 0 where
  content : List ℕ
  rest : List ℕ
  len : length content ≡ left
  chunks : IsChunked rest
  parts : octets ≡ content ++ (13 ∷ 10 ∷ rest)

record RestDataEnd (octets : List ℕ) : Type 0 where
  rest : List ℕ
  chunks : IsChunked rest
  parts : octets ≡ 13 ∷ 10 ∷ rest

record RestDataLineEnd (octets : List ℕ) : Type 0 where
  rest : List ℕ
  chunks : IsChunked rest
  parts : octets ≡ 10 ∷ rest

-- what follows the line of a chunk of this size
abbrev AfterSize : ℕ → List ℕ → Type 0
AfterSize size octets = ((size ≡ 0) × IsTrailers octets) ⊎ ((0 < size) × RestData size octets)

record RestSizeEnd (size : ℕ) (octets : List ℕ) : Type 0 where
  rest : List ℕ
  follows : AfterSize size rest
  parts : octets ≡ 10 ∷ rest

record RestExtension (size : ℕ) (octets : List ℕ) : Type 0 where
  text : List ℕ
  rest : List ℕ
  is_text : list_all is_value_byte text ≡ true
  follows : AfterSize size rest
  parts : octets ≡ text ++ (13 ∷ 10 ∷ rest)

record RestDigits (size : ℕ) (octets : List ℕ) : Type 0 where
  digits : List ℕ
  extension : List ℕ
  rest : List ℕ
  hexadecimal : list_all is_hexadecimal digits ≡ true
  is_extension : IsExtension extension
  fits : digits_value_after 16 size digits < 2 ^ 64
  follows : AfterSize (digits_value_after 16 size digits) rest
  parts : octets ≡ digits ++ (extension ++ (13 ∷ 10 ∷ rest))

abbrev Rest : Body → List ℕ → Type 0
Rest (Left left) octets = 0 < left → length octets ≡ left
Rest Size octets = IsChunked octets
Rest (Digits size) octets = size < 2 ^ 64 → RestDigits size octets
Rest (Extension size) octets = RestExtension size octets
Rest (SizeEnd size) octets = RestSizeEnd size octets
Rest (Data left) octets = 0 < left → RestData left octets
Rest DataEnd octets = RestDataEnd octets
Rest DataLineEnd octets = RestDataLineEnd octets
Rest Trailer octets = IsTrailers octets
Rest Name octets = RestName octets
Rest Value octets = RestValue octets
Rest ValueEnd octets = RestValueEnd octets
Rest LastEnd octets = octets ≡ 10 ∷ []
Rest Over octets = octets ≡ []
Rest Broken octets = ⊥

-- The same with one octet before it.

left_step : (b : Bool) (left x : ℕ) (xs : List ℕ) → leb left 1 ≡ b → Rest (cond b Over (Left (left - 1))) xs → 0 < left → length (x ∷ xs) ≡ left
left_step true left x xs test r pos =
    let e : length xs ≡ 0 = ap length r in
    let few : left ≤ 1 = leb-true left 1 test in
    omega arith
left_step false left x xs test r pos =
    let more : 1 < left = leb-false left 1 test in
    let e : length xs ≡ left - 1 = r (omega arith) in
    omega arith

size_step : (b : Bool) (x : ℕ) (xs : List ℕ) → is_hexadecimal x ≡ b → Rest (cond b (Digits (digit_value x)) Broken) xs → IsChunked (x ∷ xs)
size_step true x xs test r =
    let small : digit_value x < 16 = ltb-true (digit_value x) 16 test in
    let d : RestDigits (digit_value x) xs = r (omega arith) in
    let start : 0 * 16 + digit_value x ≡ digit_value x = omega arith in
    let value : digits_value 16 (x ∷ d.digits) ≡ digits_value_after 16 (digit_value x) d.digits = ap (λ n. digits_value_after 16 n d.digits) start in
    let hex : list_all is_hexadecimal (x ∷ d.digits) ≡ true = both_true test d.hexadecimal in
    let some : 0 < length (x ∷ d.digits) = omega arith in
    elim d.follows [
      | inl zero ↦ last (x ∷ xs) (x ∷ d.digits) d.extension d.rest
          (record { some = some; hexadecimal = hex; is = value ∙ zero.0; fits = below (digits_value_after 16 (digit_value x) d.digits) 0 zero.0 d.fits })
          d.is_extension zero.1 (ap (λ t. x ∷ t) d.parts)
      | inr some_more ↦ let c : RestData (digits_value_after 16 (digit_value x) d.digits) d.rest = some_more.1 in
          chunk (x ∷ xs) (x ∷ d.digits) d.extension c.content c.rest
          (record { some = some; hexadecimal = hex; is = value ∙ sym c.len; fits = below (digits_value_after 16 (digit_value x) d.digits) (length c.content) (sym c.len) d.fits })
          (above (digits_value_after 16 (digit_value x) d.digits) (length c.content) (sym c.len) some_more.0) d.is_extension c.chunks
          (ap (λ t. x ∷ t) (d.parts ∙ ap (λ t. d.digits ++ (d.extension ++ (13 ∷ 10 ∷ t))) c.parts))
    ]
size_step false x xs test r = absurd r

digits_step : (h m s e : Bool) (size x : ℕ) (xs : List ℕ) → is_hexadecimal x ≡ h → leb size MOST_BEFORE ≡ m → eqb x 59 ≡ s → eqb x 13 ≡ e
    → Rest (cond h (cond m (Digits (size * 16 + digit_value x)) Broken) (cond s (Extension size) (cond e (SizeEnd size) Broken))) xs
    → size < 2 ^ 64 → RestDigits size (x ∷ xs)
digits_step true true s e size x xs is_hex below _ _ r fits =
    let small : digit_value x < 16 = ltb-true (digit_value x) 16 is_hex in
    let few : size ≤ MOST_BEFORE = leb-true size MOST_BEFORE below in
    let d : RestDigits (size * 16 + digit_value x) xs = r (omega arith) in
    record {
      digits = x ∷ d.digits;
      extension = d.extension;
      rest = d.rest;
      hexadecimal = both_true is_hex d.hexadecimal;
      is_extension = d.is_extension;
      fits = d.fits;
      follows = d.follows;
      parts = ap (λ t. x ∷ t) d.parts;
    }
digits_step true false s e size x xs _ _ _ _ r fits = absurd r
digits_step false m true e size x xs _ _ semicolon _ r fits =
    let is : x ≡ 59 = eqb-true x 59 semicolon in
    let d : RestExtension size xs = r in
    record {
      digits = [];
      extension = 59 ∷ d.text;
      rest = d.rest;
      hexadecimal = refl;
      is_extension = inr (d.text, refl, d.is_text);
      fits = fits;
      follows = d.follows;
      parts = ap (λ t. x ∷ t) d.parts ∙ ap (λ n. n ∷ (d.text ++ (13 ∷ 10 ∷ d.rest))) is;
    }
digits_step false m false true size x xs _ _ _ return r fits =
    let is : x ≡ 13 = eqb-true x 13 return in
    let d : RestSizeEnd size xs = r in
    record {
      digits = [];
      extension = [];
      rest = d.rest;
      hexadecimal = refl;
      is_extension = inl refl;
      fits = fits;
      follows = d.follows;
      parts = ap (λ t. x ∷ t) d.parts ∙ ap (λ n. n ∷ 10 ∷ d.rest) is;
    }
digits_step false m false false size x xs _ _ _ _ r fits = absurd r

extension_step : (e t : Bool) (size x : ℕ) (xs : List ℕ) → eqb x 13 ≡ e → is_value_byte x ≡ t
    → Rest (cond e (SizeEnd size) (cond t (Extension size) Broken)) xs → RestExtension size (x ∷ xs)
extension_step true t size x xs return _ r =
    let is : x ≡ 13 = eqb-true x 13 return in
    let d : RestSizeEnd size xs = r in
    record { text = []; rest = d.rest; is_text = refl; follows = d.follows; parts = ap (λ t. x ∷ t) d.parts ∙ ap (λ n. n ∷ 10 ∷ d.rest) is }
extension_step false true size x xs _ is_text r =
    let d : RestExtension size xs = r in
    record { text = x ∷ d.text; rest = d.rest; is_text = both_true is_text d.is_text; follows = d.follows; parts = ap (λ t. x ∷ t) d.parts }
extension_step false false size x xs _ _ r = absurd r

size_end_step : (b z : Bool) (size x : ℕ) (xs : List ℕ) → eqb x 10 ≡ b → eqb size 0 ≡ z
    → Rest (cond b (cond z Trailer (Data size)) Broken) xs → RestSizeEnd size (x ∷ xs)
size_end_step true true size x xs feed zero r =
    record { rest = xs; follows = inl (eqb-true size 0 zero, r); parts = ap (λ n. n ∷ xs) (eqb-true x 10 feed) }
size_end_step true false size x xs feed not_zero r =
    let some : 0 < size = above_zero size (eqb-false size 0 not_zero) in
    record { rest = xs; follows = inr (some, r some); parts = ap (λ n. n ∷ xs) (eqb-true x 10 feed) }
size_end_step false z size x xs _ _ r = absurd r

data_step : (b : Bool) (left x : ℕ) (xs : List ℕ) → leb left 1 ≡ b → Rest (cond b DataEnd (Data (left - 1))) xs → 0 < left → RestData left (x ∷ xs)
data_step true left x xs test r pos =
    let few : left ≤ 1 = leb-true left 1 test in
    let d : RestDataEnd xs = r in
    let len : length (x ∷ []) ≡ left = omega arith in
    record { content = x ∷ []; rest = d.rest; len = len; chunks = d.chunks; parts = ap (λ t. x ∷ t) d.parts }
data_step false left x xs test r pos =
    let more : 1 < left = leb-false left 1 test in
    let d : RestData (left - 1) xs = r (omega arith) in
    let shorter : length d.content ≡ left - 1 = d.len in
    let len : length (x ∷ d.content) ≡ left = omega arith in
    record { content = x ∷ d.content; rest = d.rest; len = len; chunks = d.chunks; parts = ap (λ t. x ∷ t) d.parts }

data_end_step : (b : Bool) (x : ℕ) (xs : List ℕ) → eqb x 13 ≡ b → Rest (cond b DataLineEnd Broken) xs → RestDataEnd (x ∷ xs)
data_end_step true x xs return r =
    let d : RestDataLineEnd xs = r in
    record { rest = d.rest; chunks = d.chunks; parts = ap (λ t. x ∷ t) d.parts ∙ ap (λ n. n ∷ 10 ∷ d.rest) (eqb-true x 13 return) }
data_end_step false x xs _ r = absurd r

data_line_end_step : (b : Bool) (x : ℕ) (xs : List ℕ) → eqb x 10 ≡ b → Rest (cond b Size Broken) xs → RestDataLineEnd (x ∷ xs)
data_line_end_step true x xs feed r = record { rest = xs; chunks = r; parts = ap (λ n. n ∷ xs) (eqb-true x 10 feed) }
data_line_end_step false x xs _ r = absurd r

trailer_step : (e t : Bool) (x : ℕ) (xs : List ℕ) → eqb x 13 ≡ e → is_token_byte x ≡ t → Rest (cond e LastEnd (cond t Name Broken)) xs → IsTrailers (x ∷ xs)
trailer_step true t x xs return _ r = none (x ∷ xs) (ap (λ t. x ∷ t) r ∙ ap (λ n. n ∷ 10 ∷ []) (eqb-true x 13 return))
trailer_step false true x xs _ is_token r =
    let d : RestName xs = r in
    let some : 0 < length (x ∷ d.name) = omega arith in
    field (x ∷ xs) (x ∷ d.name) d.value d.rest some (both_true is_token d.is_name) d.is_value d.trailers (ap (λ t. x ∷ t) d.parts)
trailer_step false false x xs _ _ r = absurd r

name_step : (e t : Bool) (x : ℕ) (xs : List ℕ) → eqb x 58 ≡ e → is_token_byte x ≡ t → Rest (cond e Value (cond t Name Broken)) xs → RestName (x ∷ xs)
name_step true t x xs colon _ r =
    let d : RestValue xs = r in
    record {
      name = [];
      value = d.value;
      rest = d.rest;
      is_name = refl;
      is_value = d.is_value;
      trailers = d.trailers;
      parts = ap (λ t. x ∷ t) d.parts ∙ ap (λ n. n ∷ (d.value ++ (13 ∷ 10 ∷ d.rest))) (eqb-true x 58 colon);
    }
name_step false true x xs _ is_token r =
    let d : RestName xs = r in
    record {
      name = x ∷ d.name;
      value = d.value;
      rest = d.rest;
      is_name = both_true is_token d.is_name;
      is_value = d.is_value;
      trailers = d.trailers;
      parts = ap (λ t. x ∷ t) d.parts;
    }
name_step false false x xs _ _ r = absurd r

value_step : (e t : Bool) (x : ℕ) (xs : List ℕ) → eqb x 13 ≡ e → is_value_byte x ≡ t → Rest (cond e ValueEnd (cond t Value Broken)) xs → RestValue (x ∷ xs)
value_step true t x xs return _ r =
    let d : RestValueEnd xs = r in
    record { value = []; rest = d.rest; is_value = refl; trailers = d.trailers; parts = ap (λ t. x ∷ t) d.parts ∙ ap (λ n. n ∷ 10 ∷ d.rest) (eqb-true x 13 return) }
value_step false true x xs _ is_text r =
    let d : RestValue xs = r in
    record { value = x ∷ d.value; rest = d.rest; is_value = both_true is_text d.is_value; trailers = d.trailers; parts = ap (λ t. x ∷ t) d.parts }
value_step false false x xs _ _ r = absurd r

value_end_step : (b : Bool) (x : ℕ) (xs : List ℕ) → eqb x 10 ≡ b → Rest (cond b Trailer Broken) xs → RestValueEnd (x ∷ xs)
value_end_step true x xs feed r = record { rest = xs; trailers = r; parts = ap (λ n. n ∷ xs) (eqb-true x 10 feed) }
value_end_step false x xs _ r = absurd r

last_end_step : (b : Bool) (x : ℕ) (xs : List ℕ) → eqb x 10 ≡ b → Rest (cond b Over Broken) xs → x ∷ xs ≡ 10 ∷ []
last_end_step true x xs feed r = ap (λ t. x ∷ t) r ∙ ap (λ n. n ∷ []) (eqb-true x 10 feed)
last_end_step false x xs _ r = absurd r

step : (body : Body) (x : ℕ) (xs : List ℕ) → Rest (next body x) xs → Rest body (x ∷ xs)
step (Left left) x xs r = left_step (leb left 1) left x xs refl r
step Size x xs r = size_step (is_hexadecimal x) x xs refl r
step (Digits size) x xs r = digits_step (is_hexadecimal x) (leb size MOST_BEFORE) (eqb x 59) (eqb x 13) size x xs refl refl refl refl r
step (Extension size) x xs r = extension_step (eqb x 13) (is_value_byte x) size x xs refl refl r
step (SizeEnd size) x xs r = size_end_step (eqb x 10) (eqb size 0) size x xs refl refl r
step (Data left) x xs r = data_step (leb left 1) left x xs refl r
step DataEnd x xs r = data_end_step (eqb x 13) x xs refl r
step DataLineEnd x xs r = data_line_end_step (eqb x 10) x xs refl r
step Trailer x xs r = trailer_step (eqb x 13) (is_token_byte x) x xs refl refl r
step Name x xs r = name_step (eqb x 58) (is_token_byte x) x xs refl refl r
step Value x xs r = value_step (eqb x 13) (is_value_byte x) x xs refl refl r
step ValueEnd x xs r = value_end_step (eqb x 10) x xs refl r
step LastEnd x xs r = last_end_step (eqb x 10) x xs refl r
step Over x xs r = absurd r
step Broken x xs r = absurd r

at_end : (body : Body) → body ≡ Over → Rest body []
at_end Over h = refl
at_end (Left left) h = cc
at_end Size h = cc
at_end (Digits size) h = cc
at_end (Extension size) h = cc
at_end (SizeEnd size) h = cc
at_end (Data left) h = cc
at_end DataEnd h = cc
at_end DataLineEnd h = cc
at_end Trailer h = cc
at_end Name h = cc
at_end Value h = cc
at_end ValueEnd h = cc
at_end LastEnd h = cc
at_end Broken h = cc

follows : (body : Body) (octets : List ℕ) → after body octets ≡ Over → Rest body octets
follows body [] h = at_end body h
follows body (x ∷ xs) h = step body x xs (follows (next body x) xs h)

length_body : (b : Bool) (count : ℕ) (octets : List ℕ) → eqb count 0 ≡ b → Rest (cond b Over (Left count)) octets → length octets ≡ count
length_body true count octets zero r = ap length r ∙ sym (eqb-true count 0 zero)
length_body false count octets not_zero r = r (above_zero count (eqb-false count 0 not_zero))

pub is_body : (framing : Framing) (octets : List ℕ) → after (begun framing) octets ≡ Over → IsBody framing octets
is_body (Length count) octets h = length_body (eqb count 0) count octets refl (follows (cond (eqb count 0) Over (Left count)) octets h)
is_body Chunked octets h = follows Size octets h
