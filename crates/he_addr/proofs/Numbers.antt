-- Decimal numbers: what is read is spelled, and what is spelled is read.
use Rattle.std.proofs.Common.{◌≡◌, ◌⊎◌, ℕ, ◌+◌, ◌*◌, ◌^◌, ◌<◌, ◌≤◌, false, ltb, leb, eqb, List, [], ◌∷◌, Some, None, length, get_or, decimal, refl, sym, ◌∙◌, ap, ◌&&◌, ⊎_elim, arith}
use Rattle.std.specs.Char.{digit_value}
use Rattle.std.specs.Str.Parse.{AllDigits, digits_value, digits_value_after}
use Rattle.std.proofs.Math.Nat.{pow-le-pow_right}
use Rattle.std.proofs.lemmas.Bool.{lt-ltb, le-leb, ltb-true, leb-true, ne_eqb, and_parts, and_from, and_cases, and_left, and_right, eqb-false, ltb-false, cond-true, cond-false, cases_eq, le-ltb}
use Rattle.std.proofs.lemmas.Str.Parse.{digit_from_value}
use Rattle.std.proofs.lemmas.Fmt.{decimal_is_IsNumeral, length-decimal-le, first_decimal, decimal_digit}
use Rattle.he_addr.specs.Reading.{digits_after, digits_in, numeral_in}
use Rattle.he_addr.specs.Text.{SpellsDecimal, Lacks}
use Rattle.he_addr.proofs.Options.{allowed, not_refused}

-- digits are read
pub digits_after-digits : (value : ℕ) (text : List ℕ) → AllDigits 10 text → digits_after value text ≡ Some (digits_value_after 10 value text)
digits_after-digits value [] all = refl
digits_after-digits value (c ∷ cs) all = cond-true (ltb (digit_value c) 10) _ None (lt-ltb (digit_value c) 10 all.0) ∙ digits_after-digits (value * 10 + digit_value c) cs all.1

-- nothing else is
pub digits_after_some : (value : ℕ) (text : List ℕ) (n : ℕ) → digits_after value text ≡ Some n → AllDigits 10 text × (n ≡ digits_value_after 10 value text)
digits_after_some value [] n h = (tt, cc)
digits_after_some value (c ∷ cs) n h =
    let step = allowed (ltb (digit_value c) 10) (digits_after (value * 10 + digit_value c) cs) n h in
    let rest = digits_after_some (value * 10 + digit_value c) cs n step.1 in
    ((ltb-true (digit_value c) 10 step.0, rest.0), rest.1)

-- one to `most` digits
pub record AreDigits (most : ℕ) (text : List ℕ) (number : ℕ) : Type 0 where
  pub some : 0 < length text
  pub few : length text ≤ most
  pub digits : AllDigits 10 text
  pub value : number ≡ digits_value 10 text

pub digits_in_some : (most : ℕ) (text : List ℕ) (n : ℕ) → digits_in most text ≡ Some n → AreDigits most text n
unfolding digits_in
digits_in_some most text n h =
    let within = allowed (ltb 0 (length text) && leb (length text) most) (digits_after 0 text) n h in
    let sizes = and_parts (ltb 0 (length text)) (leb (length text) most) within.0 in
    let read = digits_after_some 0 text n within.1 in
    record { some = ltb-true 0 (length text) sizes.0; few = leb-true (length text) most sizes.1; digits = read.0; value = read.1 }

pub digits_in-digits : (most : ℕ) (text : List ℕ) (n : ℕ) → AreDigits most text n → digits_in most text ≡ Some n
unfolding digits_in
digits_in-digits most text n h =
    cond-true (ltb 0 (length text) && leb (length text) most) (digits_after 0 text) None (and_from _ _ (lt-ltb 0 (length text) h.some) (le-leb (length text) most h.few))
    ∙ digits_after-digits 0 text h.digits ∙ ap Some (sym h.value)

pub numeral_in_some : (most : ℕ) (text : List ℕ) (n : ℕ) → numeral_in most text ≡ Some n → SpellsDecimal most text n
unfolding numeral_in
numeral_in_some most text n h =
    let plain = not_refused (eqb (get_or text 0 0) 48 && ltb 1 (length text)) (digits_in most text) n h in
    let read = digits_in_some most text n plain.1 in
    record {
      numeral = (read.some, read.digits);
      few = read.few;
      plain = λ zero_first. alone text zero_first read.some plain.0;
      value = read.value;
    }
  where
    alone : (text : List ℕ) → get_or text 0 0 ≡ 48 → 0 < length text → (eqb (get_or text 0 0) 48 && ltb 1 (length text)) ≡ false → length text ≡ 1
    alone text zero_first some refused =
        ⊎_elim
        (λ (e : eqb (get_or text 0 0) 48 ≡ false). absurd (eqb-false (get_or text 0 0) 48 e zero_first))
        (λ (e : ltb 1 (length text) ≡ false). omega (arith, ltb-false 1 (length text) e))
        (and_cases (eqb (get_or text 0 0) 48) (ltb 1 (length text)) refused)

pub numeral_in-spelled : (most : ℕ) (text : List ℕ) (n : ℕ) → SpellsDecimal most text n → numeral_in most text ≡ Some n
unfolding numeral_in
numeral_in-spelled most text n h =
    cond-false (eqb (get_or text 0 0) 48 && ltb 1 (length text)) None (digits_in most text) (⊎_elim
    (λ (e : get_or text 0 0 ≡ 48). and_right _ (ltb 1 (length text)) (le-ltb 1 (length text) (omega (arith, h.plain e))))
    (λ (e : get_or text 0 0 ≡ 48 → ⊥). and_left (eqb (get_or text 0 0) 48) _ (ne_eqb (get_or text 0 0) 48 e))
    (cases_eq (get_or text 0 0) 48))
    ∙ digits_in-digits most text n (record { some = h.numeral.0; few = h.few; digits = h.numeral.1; value = h.value })

-- no number of the texts is too large for the program
pub below_ten_digits : (most n : ℕ) → most ≤ 10 → n < 10 ^ most → n < 2 ^ 64
below_ten_digits most n short small =
    let within : 10 ^ most ≤ 10 ^ 10 = pow-le-pow_right {n = 10} (omega arith) {i = most} {j = 10} short in
    omega arith

pub decimal_spells : (most n : ℕ) → 0 < most → most ≤ 10 → n < 10 ^ most → SpellsDecimal most (decimal n) n
decimal_spells most n some short small =
    let fits = below_ten_digits most n short small in
    let numeral = decimal_is_IsNumeral n fits in
    record {
      numeral = numeral.0;
      few = length-decimal-le most n some small fits;
      plain = λ zero_first. ⊎_elim
          (λ (zero : n ≡ 0). ap (λ m. length (decimal m)) zero ∙ ap length (decimal_digit 0 (omega arith)))
          (λ (other : n ≡ 0 → ⊥). absurd (omega (arith, zero_first, first_decimal n (omega (arith, other)) fits)))
          (cases_eq n 0);
      value = sym numeral.1;
    }

-- decimal digits are no other bytes
digits_lack : (mark : ℕ) (text : List ℕ) → mark < 48 ⊎ 57 < mark → AllDigits 10 text → Lacks mark text
digits_lack mark [] apart all = tt
digits_lack mark (c ∷ cs) apart all =
    let digit = digit_from_value c all.0 in
    (ne_eqb c mark (λ e. omega (arith, digit, e)), digits_lack mark cs apart all.1)

pub decimal_lacks : (mark n : ℕ) → mark < 48 ⊎ 57 < mark → n < 2 ^ 64 → Lacks mark (decimal n)
decimal_lacks mark n apart small = digits_lack mark (decimal n) apart (decimal_is_IsNumeral n small).0.1
