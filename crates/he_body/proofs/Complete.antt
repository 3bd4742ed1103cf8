-- A body is over at its end, and nowhere before.
use Rattle.std.proofs.Common.{◌≡◌, inl, inr, ℕ, ◌+◌, ◌-◌, ◌*◌, ◌<◌, ◌≤◌, ◌^◌, Bool, true, false, cond, leb, eqb, List, [], ◌∷◌, ◌++◌, length, refl, sym, ◌∙◌, ◌&&◌, ap, arith}
use Rattle.std.specs.Char.{digit_value}
use Rattle.std.specs.List.{list_all}
use Rattle.std.specs.Str.Parse.{digits_value_after}
use Rattle.std.proofs.lemmas.Bool.{eqb-true, lt-leb, le-leb}
use Rattle.httparse.specs.Grammar.{is_token_byte, is_value_byte}
use Rattle.he_body.specs.declared.body.Body.{Body}
use Rattle.he_body.specs.declared.body.Body.TheVariants.{Left, Size, Digits, Extension, SizeEnd, Data, DataEnd, Trailer, Name, Value, ValueEnd, LastEnd, Over, Broken}
use Rattle.he_body.specs.declared.body.Framing.{Framing}
use Rattle.he_body.specs.declared.body.Framing.TheVariants.{Length, Chunked}
use Rattle.he_body.specs.declared.body.TheConstants.{MOST_BEFORE}
use Rattle.he_body.specs.Bodies.{IsBody, IsChunked, IsExtension, IsSize, IsTrailers, chunk, field, is_hexadecimal, last, none}
use Rattle.he_body.specs.Steps.{after, begun}

first_of : (a b : Bool) → (a && b) ≡ true → a ≡ true
first_of true b h = refl
first_of false b h = cc

second_of : (a b : Bool) → (a && b) ≡ true → b ≡ true
second_of true b h = h
second_of false b h = cc

first_true : (p : ℕ → Bool) (x : ℕ) (xs : List ℕ) → list_all p (x ∷ xs) ≡ true → p x ≡ true
first_true p x xs all = first_of (p x) (list_all p xs) all

second_true : (p : ℕ → Bool) (x : ℕ) (xs : List ℕ) → list_all p (x ∷ xs) ≡ true → list_all p xs ≡ true
second_true p x xs all = second_of (p x) (list_all p xs) all

differs_by : (p : ℕ → Bool) (x m : ℕ) (b : Bool) → eqb x m ≡ b → p m ≡ false → p x ≡ true → b ≡ false
differs_by p x m false test fails passes = refl
differs_by p x m true test fails passes = let e = ap p (eqb-true x m test) in cc

-- what passes a test that the mark fails isn't the mark
differs : (p : ℕ → Bool) (x m : ℕ) → p m ≡ false → p x ≡ true → eqb x m ≡ false
differs p x m fails passes = differs_by p x m (eqb x m) refl fails passes

cr_no_token : is_token_byte 13 ≡ false
unfolding is_token_byte
cr_no_token = refl

colon_no_token : is_token_byte 58 ≡ false
unfolding is_token_byte
colon_no_token = refl

positive_by : (n : ℕ) (b : Bool) → eqb n 0 ≡ b → 0 < n → b ≡ false
positive_by n false test some = refl
positive_by n true test some = let e : n ≡ 0 = eqb-true n 0 test in absurd (omega arith)

positive : (n : ℕ) → 0 < n → eqb n 0 ≡ false
positive n some = positive_by n (eqb n 0) refl some

-- what a test gives, put into what follows
taken : (b : Bool) (one other : Body) (xs : List ℕ) → b ≡ true → after (cond b one other) xs ≡ after one xs
taken b one other xs h = ap (λ b. after (cond b one other) xs) h

passed : (b : Bool) (one other : Body) (xs : List ℕ) → b ≡ false → after (cond b one other) xs ≡ after other xs
passed b one other xs h = ap (λ b. after (cond b one other) xs) h

names : (name rest : List ℕ) → list_all is_token_byte name ≡ true → after Name (name ++ (58 ∷ rest)) ≡ after Value rest
names [] rest all = refl
names (x ∷ name) rest all =
    passed (eqb x 58) Value (cond (is_token_byte x) Name Broken) (name ++ (58 ∷ rest)) (differs is_token_byte x 58 colon_no_token (first_true is_token_byte x name all))
    ∙ taken (is_token_byte x) Name Broken (name ++ (58 ∷ rest)) (first_true is_token_byte x name all)
    ∙ names name rest (second_true is_token_byte x name all)

values : (value rest : List ℕ) → list_all is_value_byte value ≡ true → after Value (value ++ (13 ∷ 10 ∷ rest)) ≡ after Trailer rest
values [] rest all = refl
values (x ∷ value) rest all =
    passed (eqb x 13) ValueEnd (cond (is_value_byte x) Value Broken) (value ++ (13 ∷ 10 ∷ rest)) (differs is_value_byte x 13 refl (first_true is_value_byte x value all))
    ∙ taken (is_value_byte x) Value Broken (value ++ (13 ∷ 10 ∷ rest)) (first_true is_value_byte x value all)
    ∙ values value rest (second_true is_value_byte x value all)

field_begins : (name rest : List ℕ) → 0 < length name → list_all is_token_byte name ≡ true → after Trailer (name ++ (58 ∷ rest)) ≡ after Value rest
field_begins [] rest some all = absurd (omega arith)
field_begins (x ∷ name) rest some all =
    passed (eqb x 13) LastEnd (cond (is_token_byte x) Name Broken) (name ++ (58 ∷ rest)) (differs is_token_byte x 13 cr_no_token (first_true is_token_byte x name all))
    ∙ taken (is_token_byte x) Name Broken (name ++ (58 ∷ rest)) (first_true is_token_byte x name all)
    ∙ names name rest (second_true is_token_byte x name all)

trailers : (octets : List ℕ) → IsTrailers octets → after Trailer octets ≡ Over
trailers octets (none _ is) = ap (after Trailer) is
trailers octets (field _ name value rest some is_name is_value more is) =
    ap (after Trailer) is ∙ field_begins name (value ++ (13 ∷ 10 ∷ rest)) some is_name ∙ values value rest is_value ∙ trailers rest more

grows : (n : ℕ) (digits : List ℕ) → n ≤ digits_value_after 16 n digits
grows n [] = omega arith
grows n (x ∷ digits) = let more = grows (n * 16 + digit_value x) digits in omega arith

more_digits : (n : ℕ) (digits rest : List ℕ) → list_all is_hexadecimal digits ≡ true → digits_value_after 16 n digits < 2 ^ 64
    → after (Digits n) (digits ++ rest) ≡ after (Digits (digits_value_after 16 n digits)) rest
more_digits n [] rest all fits = refl
more_digits n (x ∷ digits) rest all fits =
    let more = grows (n * 16 + digit_value x) digits in
    let few : n ≤ MOST_BEFORE = omega arith in
    taken (is_hexadecimal x) (cond (leb n MOST_BEFORE) (Digits (n * 16 + digit_value x)) Broken)
    (cond (eqb x 59) (Extension n) (cond (eqb x 13) (SizeEnd n) Broken)) (digits ++ rest) (first_true is_hexadecimal x digits all)
    ∙ taken (leb n MOST_BEFORE) (Digits (n * 16 + digit_value x)) Broken (digits ++ rest) (le-leb n MOST_BEFORE few)
    ∙ more_digits (n * 16 + digit_value x) digits rest (second_true is_hexadecimal x digits all) fits

sizes : (digits rest : List ℕ) (size : ℕ) → IsSize digits size → after Size (digits ++ rest) ≡ after (Digits size) rest
sizes [] rest size is = let some = is.some in absurd (omega arith)
sizes (x ∷ digits) rest size is =
    let start : 0 * 16 + digit_value x ≡ digit_value x = omega arith in
    let value : digits_value_after 16 (digit_value x) digits ≡ size = sym (ap (λ n. digits_value_after 16 n digits) start) ∙ is.is in
    let small = is.fits in
    let fits : digits_value_after 16 (digit_value x) digits < 2 ^ 64 = omega arith in
    taken (is_hexadecimal x) (Digits (digit_value x)) Broken (digits ++ rest) (first_true is_hexadecimal x digits is.hexadecimal)
    ∙ more_digits (digit_value x) digits rest (second_true is_hexadecimal x digits is.hexadecimal) fits
    ∙ ap (λ n. after (Digits n) rest) value

texts : (size : ℕ) (text rest : List ℕ) → list_all is_value_byte text ≡ true
    → after (Extension size) (text ++ (13 ∷ 10 ∷ rest)) ≡ after (cond (eqb size 0) Trailer (Data size)) rest
texts size [] rest all = refl
texts size (x ∷ text) rest all =
    passed (eqb x 13) (SizeEnd size) (cond (is_value_byte x) (Extension size) Broken) (text ++ (13 ∷ 10 ∷ rest)) (differs is_value_byte x 13 refl (first_true is_value_byte x text all))
    ∙ taken (is_value_byte x) (Extension size) Broken (text ++ (13 ∷ 10 ∷ rest)) (first_true is_value_byte x text all)
    ∙ texts size text rest (second_true is_value_byte x text all)

extensions : (size : ℕ) (extension rest : List ℕ) → IsExtension extension
    → after (Digits size) (extension ++ (13 ∷ 10 ∷ rest)) ≡ after (cond (eqb size 0) Trailer (Data size)) rest
extensions size extension rest (inl is) = ap (λ e. after (Digits size) (e ++ (13 ∷ 10 ∷ rest))) is
extensions size extension rest (inr is) =
    ap (λ e. after (Digits size) (e ++ (13 ∷ 10 ∷ rest))) is.1 ∙ texts size is.0 rest is.2

contents : (content rest : List ℕ) (size : ℕ) → length content ≡ size → 0 < size → after (Data size) (content ++ (13 ∷ 10 ∷ rest)) ≡ after Size rest
contents [] rest size len some = absurd (omega arith)
contents (x ∷ []) rest size len some =
    taken (leb size 1) DataEnd (Data (size - 1)) (13 ∷ 10 ∷ rest) (le-leb size 1 (omega arith))
contents (x ∷ y ∷ content) rest size len some =
    passed (leb size 1) DataEnd (Data (size - 1)) ((y ∷ content) ++ (13 ∷ 10 ∷ rest)) (lt-leb size 1 (omega arith))
    ∙ contents (y ∷ content) rest (size - 1) (omega arith) (omega arith)

chunks : (octets : List ℕ) → IsChunked octets → after Size octets ≡ Over
chunks octets (last _ digits extension rest size is_extension more is) =
    ap (after Size) is ∙ sizes digits (extension ++ (13 ∷ 10 ∷ rest)) 0 size ∙ extensions 0 extension rest is_extension ∙ trailers rest more
chunks octets (chunk _ digits extension content rest size some is_extension more is) =
    ap (after Size) is
    ∙ sizes digits (extension ++ (13 ∷ 10 ∷ (content ++ (13 ∷ 10 ∷ rest)))) (length content) size
    ∙ extensions (length content) extension (content ++ (13 ∷ 10 ∷ rest)) is_extension
    ∙ passed (eqb (length content) 0) Trailer (Data (length content)) (content ++ (13 ∷ 10 ∷ rest)) (positive (length content) some)
    ∙ contents content rest (length content) refl some
    ∙ chunks rest more

lefts : (octets : List ℕ) (count : ℕ) → length octets ≡ count → 0 < count → after (Left count) octets ≡ Over
lefts [] count len some = absurd (omega arith)
lefts (x ∷ []) count len some = taken (leb count 1) Over (Left (count - 1)) [] (le-leb count 1 (omega arith))
lefts (x ∷ y ∷ octets) count len some =
    passed (leb count 1) Over (Left (count - 1)) (y ∷ octets) (lt-leb count 1 (omega arith))
    ∙ lefts (y ∷ octets) (count - 1) (omega arith) (omega arith)

lengths : (octets : List ℕ) (count : ℕ) → length octets ≡ count → after (cond (eqb count 0) Over (Left count)) octets ≡ Over
lengths [] count len = ap (λ n. cond (eqb n 0) Over (Left n)) (sym len)
lengths (x ∷ octets) count len =
    passed (eqb count 0) Over (Left count) (x ∷ octets) (positive count (omega arith)) ∙ lefts (x ∷ octets) count len (omega arith)

pub is_over : (framing : Framing) (body : List ℕ) → IsBody framing body → after (begun framing) body ≡ Over
is_over (Length count) body is = lengths body count is
is_over Chunked body is = chunks body is
