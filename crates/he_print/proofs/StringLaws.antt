-- What stands in a string of a JSON text.
use Rattle.std.proofs.Common.{◌≡◌, ℕ, ◌+◌, ◌<◌, ◌/◌, ◌%◌, Bool, true, false, List, [], ◌∷◌, ◌++◌, refl, ◌∙◌, ap, arith, append_assoc}
use Rattle.std.specs.Prelude.{◌==◌, ◌&&◌, ◌||◌, if◌then◌else◌, not, codes, nat_le, nat_lt, Some}
use Rattle.std.specs.Cmp.Derive.{both_true}
use Rattle.std.specs.List.{flat_map, list_all}
use Rattle.std.proofs.lemmas.Bool.{and_parts}
use Rattle.std.proofs.lemmas.Bool.Decides.{nat_tests}
use Rattle.std.proofs.lemmas.List.Folds.{list_all-append}
use Rattle.he_print.specs.Escaping.{after_string, digit, escaped, is_control, is_plain, string_text}

-- a digit is no quotation mark and no backslash
past_digit : (n : ℕ) (rest : List ℕ) → after_string false (digit n ∷ rest) ≡ after_string false rest
past_digit n rest = grind (arith, nat_tests)

past_plain : (b : ℕ) (rest : List ℕ) → is_plain b ≡ true → after_string false (b ∷ rest) ≡ after_string false rest
past_plain b rest plain = grind (arith, nat_tests)

past_number : (high low : ℕ) (rest : List ℕ) → after_string false ((codes "\\u00" ++ (digit high ∷ digit low ∷ [])) ++ rest) ≡ after_string false rest
past_number high low rest = past_digit high (digit low ∷ rest) ∙ past_digit low rest

-- the reader is in the string after a byte of it
past : (b : ℕ) (rest : List ℕ) → after_string false (escaped b ++ rest) ≡ after_string false rest
past b rest =
    elim (is_plain b) as (λ p. (is_plain b ≡ p) → after_string false ((if p then b ∷ [] else if b == 34 || b == 92 then 92 ∷ b ∷ [] else codes "\\u00" ++ (digit (b / 16) ∷ digit (b % 16) ∷ [])) ++ rest) ≡ after_string false rest) [
      | true ↦ λ plain. past_plain b rest plain
      | false ↦ λ _. elim (b == 34 || b == 92) as (λ q. after_string false ((if q then 92 ∷ b ∷ [] else codes "\\u00" ++ (digit (b / 16) ∷ digit (b % 16) ∷ [])) ++ rest) ≡ after_string false rest)
          [ true ↦ refl | false ↦ past_number (b / 16) (b % 16) rest ]
    ] refl

pub string_ends : (bytes more : List ℕ) → after_string false (flat_map escaped bytes ++ 34 ∷ more) ≡ Some more
string_ends [] more = refl
string_ends (b ∷ bytes) more =
    ap (after_string false) (append_assoc (escaped b) (flat_map escaped bytes) (34 ∷ more))
    ∙ past b (flat_map escaped bytes ++ 34 ∷ more) ∙ string_ends bytes more

abbrev stands : ℕ → Bool
stands b = not (is_control b)

digit_stands : (n : ℕ) → n < 16 → stands (digit n) ≡ true
digit_stands n few = grind (arith, nat_tests)

-- what is neither is a control character
rest_below : (b : ℕ) → is_plain b ≡ false → (b == 34 || b == 92) ≡ false → b < 128
rest_below b other unnamed = grind (arith, nat_tests)

plain_stands_out : (b : ℕ) → is_plain b ≡ true → list_all stands (b ∷ []) ≡ true
plain_stands_out b plain = grind (arith, nat_tests)

named_stands : (b : ℕ) → (b == 34 || b == 92) ≡ true → list_all stands (92 ∷ b ∷ []) ≡ true
named_stands b named = grind (arith, nat_tests)

escaped_stands : (b : ℕ) → list_all stands (escaped b) ≡ true
escaped_stands b =
    elim (is_plain b) as (λ p. (is_plain b ≡ p) → list_all stands (if p then b ∷ [] else if b == 34 || b == 92 then 92 ∷ b ∷ [] else codes "\\u00" ++ (digit (b / 16) ∷ digit (b % 16) ∷ [])) ≡ true) [
      | true ↦ λ plain. plain_stands_out b plain
      | false ↦ λ other. elim (b == 34 || b == 92) as (λ q. (b == 34 || b == 92) ≡ q → list_all stands (if q then 92 ∷ b ∷ [] else codes "\\u00" ++ (digit (b / 16) ∷ digit (b % 16) ∷ [])) ≡ true) [
        | true ↦ λ named. named_stands b named
        | false ↦ λ unnamed.
            let below : b < 128 = rest_below b other unnamed in
            both_true (digit_stands (b / 16) (omega arith)) (both_true (digit_stands (b % 16) (omega arith)) refl)
      ] refl
    ] refl

pub string_stands : (bytes : List ℕ) → list_all (λ b. not (is_control b)) (flat_map escaped bytes ++ 34 ∷ []) ≡ true
string_stands [] = refl
string_stands (b ∷ bytes) =
    ap (list_all stands) (append_assoc (escaped b) (flat_map escaped bytes) (34 ∷ []))
    ∙ list_all-append stands (escaped b) (flat_map escaped bytes ++ 34 ∷ []) ∙ both_true (escaped_stands b) (string_stands bytes)

-- what needs no escape stands as it is
pub plain_stands : (bytes : List ℕ) → list_all is_plain bytes ≡ true → flat_map escaped bytes ≡ bytes
plain_stands [] h = refl
plain_stands (b ∷ bytes) h =
    let both : (is_plain b ≡ true) × (list_all is_plain bytes ≡ true) = and_parts (is_plain b) (list_all is_plain bytes) h in
    ap (λ p. (if p then b ∷ [] else if b == 34 || b == 92 then 92 ∷ b ∷ [] else codes "\\u00" ++ (digit (b / 16) ∷ digit (b % 16) ∷ [])) ++ flat_map escaped bytes) both.0
    ∙ ap (λ (l : List ℕ). b ∷ l) (plain_stands bytes both.1)
