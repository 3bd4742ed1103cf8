-- The characters of numbers and addresses: digits, dots and colons.
use Rattle.std.proofs.Common.{◌≡◌, ℕ, zero, suc, ◌+◌, ◌/◌, ◌%◌, ◌<◌, ◌≤◌, Bool, true, false, List, [], ◌∷◌, ◌++◌, take, drop, map, decimal, refl, ◌∙◌, arith, nat_eq}
use Rattle.std.specs.Prelude.{if◌then◌else◌, nat_le, not}
use Rattle.std.specs.Cmp.Derive.{both_true}
use Rattle.std.specs.Fmt.{digit_glyph, digits, digits_onto}
use Rattle.std.specs.Int.{w32, to_be_bytes}
use Rattle.std.specs.List.{join_with_byte, list_all}
use Rattle.std.proofs.Math.Nat.{mod-lt}
use Rattle.std.proofs.lemmas.Bool.Decides.{nat_tests}
use Rattle.std.proofs.lemmas.List.Folds.{list_all-append}
use Rattle.he_addr.specs.declared.ip.Ip.{Ip}
use Rattle.he_addr.specs.declared.ip.Ip.TheVariants.{V4, V6}
use Rattle.he_addr.specs.Printed.{groups_of, hex, joined, shortened}
use Rattle.he_addr.specs.Printing.{longest, printed, printed_v6}
use Rattle.he_print.specs.Escaping.{is_control, is_plain}

-- of a test that holds of these
module _ (holds : ℕ → Bool) (digit : (d : ℕ) → d < 16 → holds (digit_glyph false d) ≡ true) (dot : holds 46 ≡ true) (colon : holds 58 ≡ true) where
  append_holds : (xs ys : List ℕ) → list_all holds xs ≡ true → list_all holds ys ≡ true → list_all holds (xs ++ ys) ≡ true
  append_holds xs ys hx hy = list_all-append holds xs ys ∙ both_true hx hy

  digits_hold : (k base n : ℕ) (acc : List ℕ) → 0 < base → base ≤ 16 → list_all holds acc ≡ true → list_all holds (digits_onto k base false n acc) ≡ true
  digits_hold zero base n acc some few h = h
  digits_hold (suc k) base n acc some few h =
      let one : n % base < 16 = omega (arith, mod-lt n some) in
      let more : list_all holds (digit_glyph false (n % base) ∷ acc) ≡ true = both_true (digit (n % base) one) h in
      elim (nat_eq (n / base) 0) as (λ b. list_all holds (if b then digit_glyph false (n % base) ∷ acc else digits_onto k base false (n / base) (digit_glyph false (n % base) ∷ acc)) ≡ true)
      [ true ↦ more | false ↦ digits_hold k base (n / base) (digit_glyph false (n % base) ∷ acc) some few more ]

  decimal_holds : (n : ℕ) → list_all holds (decimal n) ≡ true
  unfolding digits
  decimal_holds n = digits_hold 64 10 n [] (omega arith) (omega arith) refl

  hex_holds : (n : ℕ) → list_all holds (hex n) ≡ true
  unfolding digits
  hex_holds n = digits_hold 64 16 n [] (omega arith) (omega arith) refl

  mapped_hold : (f : ℕ → List ℕ) (c : ℕ) → holds c ≡ true → ((n : ℕ) → list_all holds (f n) ≡ true) → (ns : List ℕ) → list_all holds (join_with_byte c (map f ns)) ≡ true
  mapped_hold f c between each [] = refl
  mapped_hold f c between each (n ∷ []) = each n
  mapped_hold f c between each (n ∷ next ∷ ns) =
      append_holds (f n) (c ∷ join_with_byte c (map f (next ∷ ns))) (each n) (both_true between (mapped_hold f c between each (next ∷ ns)))

  joined_holds : (groups : List ℕ) → list_all holds (joined groups) ≡ true
  joined_holds groups = mapped_hold hex 58 colon hex_holds groups

  shortened_holds : (groups : List ℕ) (start len : ℕ) → list_all holds (shortened groups start len) ≡ true
  shortened_holds groups start len =
      append_holds (joined (take start groups)) (58 ∷ 58 ∷ joined (drop (start + len) groups)) (joined_holds (take start groups))
      (both_true colon (both_true colon (joined_holds (drop (start + len) groups))))

  groups_hold : (groups : List ℕ) (start len : ℕ) → list_all holds (if nat_le 2 len then shortened groups start len else joined groups) ≡ true
  groups_hold groups start len =
      elim (nat_le 2 len) as (λ b. list_all holds (if b then shortened groups start len else joined groups) ≡ true)
      [ true ↦ shortened_holds groups start len | false ↦ joined_holds groups ]

  printed_holds : (ip : Ip) → list_all holds (printed ip) ≡ true
  unfolding printed_v6
  printed_holds (V4 n) = mapped_hold decimal 46 dot decimal_holds (to_be_bytes w32 n)
  printed_holds (V6 n) = groups_hold (groups_of n) (longest (groups_of n)).start (longest (groups_of n)).len

plain_digit : (d : ℕ) → d < 16 → is_plain (digit_glyph false d) ≡ true
plain_digit d h = grind (arith, nat_tests)

pub printed_plain : (ip : Ip) → list_all is_plain (printed ip) ≡ true
printed_plain ip = printed_holds is_plain plain_digit refl refl ip

-- no control character
abbrev pub stands : ℕ → Bool
stands c = not (is_control c)

standing_digit : (d : ℕ) → d < 16 → stands (digit_glyph false d) ≡ true
standing_digit d h = grind (arith, nat_tests)

pub decimal_stands : (n : ℕ) → list_all stands (decimal n) ≡ true
decimal_stands n = decimal_holds stands standing_digit refl refl n

pub printed_stands : (ip : Ip) → list_all stands (printed ip) ≡ true
printed_stands ip = printed_holds stands standing_digit refl refl ip
