-- An IPv4 address that an address has once is embedded by a prefix of at most one length.
use Rattle.std.proofs.Common.{◌≡◌, ℕ, ◌+◌, ◌/◌, ◌%◌, ◌^◌, ◌≤◌, Bool, true, false, ◌&&◌, if◌then◌else◌, Option, None, Some, nat_eq, subst, arith}
use Rattle.he_nat64.specs.declared.length.Length.{Length}
use Rattle.he_nat64.specs.declared.length.Length.TheVariants.{Bits32, Bits40, Bits48, Bits56, Bits64, Bits96}
use Rattle.he_nat64.specs.Discovery.{counted, ends_in, instances, length_before, is_embedded}

three_of : (x0 x1 x2 x3 x4 x5 x6 x7 x8 x9 x10 x11 x12 : ℕ) →
    x8 + x3 + x0 ≤ 0 + x0 + x1 + x2 + x3 + x4 + x5 + x6 + x7 + x8 + x9 + x10 + x11 + x12
three_of x0 x1 x2 x3 x4 x5 x6 x7 x8 x9 x10 x11 x12 = omega arith

whole : (a : ℕ) → a / 1 ≡ a
whole a = omega arith

-- those of octets one after another are counted where they end
rows_counted : (v4 a : ℕ) →
    counted (nat_eq (a / 2 ^ 64 % 2 ^ 32) v4) + counted (nat_eq (a / 2 ^ 24 % 2 ^ 32) v4)
    + counted (nat_eq (a % 2 ^ 32) v4) ≤ ends_in v4 a 13
unfolding ends_in
rows_counted v4 a =
    subst (λ (w : ℕ). counted (nat_eq (a / 2 ^ 64 % 2 ^ 32) v4) + counted (nat_eq (a / 2 ^ 24 % 2 ^ 32) v4)
    + counted (nat_eq (w % 2 ^ 32) v4) ≤ ends_in v4 a 13) (whole a)
    (three_of _ _ _ _ _ _ _ _ _ _ _ _ _)

and_le : (x y : Bool) → counted (x && y) ≤ counted y
and_le true true = omega arith
and_le true false = omega arith
and_le false true = omega arith
and_le false false = omega arith

sum_le : (n32 n40 n48 n56 n64 n96 r32 r64 rows : ℕ) → n32 ≤ r32 → n64 ≤ r64 → r32 + r64 + n96 ≤ rows
    → n32 + n40 + n48 + n56 + n64 + n96 ≤ rows + n40 + n48 + n56
sum_le n32 n40 n48 n56 n64 n96 r32 r64 rows h32 h64 h = omega arith

all_counted : (v4 a : ℕ) →
    counted (is_embedded v4 a Bits32) + counted (is_embedded v4 a Bits40) + counted (is_embedded v4 a Bits48)
    + counted (is_embedded v4 a Bits56) + counted (is_embedded v4 a Bits64) + counted (is_embedded v4 a Bits96) ≤ instances v4 a
all_counted v4 a = sum_le _ _ _ _ _ _ _ _ _ (and_le _ _) (and_le _ _) (rows_counted v4 a)

abbrev first : Bool → Bool → Bool → Bool → Bool → Bool → Option Length
first b32 b40 b48 b56 b64 b96 =
    if b32 then Some Bits32 else if b40 then Some Bits40 else if b48 then Some Bits48 else if b56 then Some Bits56
    else if b64 then Some Bits64 else if b96 then Some Bits96 else None

first32 : (b32 b40 b48 b56 b64 b96 : Bool) →
    counted b32 + counted b40 + counted b48 + counted b56 + counted b64 + counted b96 ≤ 1 → b32 ≡ true
    → first b32 b40 b48 b56 b64 b96 ≡ Some Bits32
first32 b32 b40 b48 b56 b64 b96 few here = grind arith

first40 : (b32 b40 b48 b56 b64 b96 : Bool) →
    counted b32 + counted b40 + counted b48 + counted b56 + counted b64 + counted b96 ≤ 1 → b40 ≡ true
    → first b32 b40 b48 b56 b64 b96 ≡ Some Bits40
first40 b32 b40 b48 b56 b64 b96 few here = grind arith

first48 : (b32 b40 b48 b56 b64 b96 : Bool) →
    counted b32 + counted b40 + counted b48 + counted b56 + counted b64 + counted b96 ≤ 1 → b48 ≡ true
    → first b32 b40 b48 b56 b64 b96 ≡ Some Bits48
first48 b32 b40 b48 b56 b64 b96 few here = grind arith

first56 : (b32 b40 b48 b56 b64 b96 : Bool) →
    counted b32 + counted b40 + counted b48 + counted b56 + counted b64 + counted b96 ≤ 1 → b56 ≡ true
    → first b32 b40 b48 b56 b64 b96 ≡ Some Bits56
first56 b32 b40 b48 b56 b64 b96 few here = grind arith

first64 : (b32 b40 b48 b56 b64 b96 : Bool) →
    counted b32 + counted b40 + counted b48 + counted b56 + counted b64 + counted b96 ≤ 1 → b64 ≡ true
    → first b32 b40 b48 b56 b64 b96 ≡ Some Bits64
first64 b32 b40 b48 b56 b64 b96 few here = grind arith

first96 : (b32 b40 b48 b56 b64 b96 : Bool) →
    counted b32 + counted b40 + counted b48 + counted b56 + counted b64 + counted b96 ≤ 1 → b96 ≡ true
    → first b32 b40 b48 b56 b64 b96 ≡ Some Bits96
first96 b32 b40 b48 b56 b64 b96 few here = grind arith

pub only_one : (v4 a : ℕ) (length : Length) → instances v4 a ≡ 1 → is_embedded v4 a length ≡ true
    → length_before v4 a ≡ Some length
only_one v4 a Bits32 once here = let all = all_counted v4 a in first32 _ _ _ _ _ _ (omega arith) here
only_one v4 a Bits40 once here = let all = all_counted v4 a in first40 _ _ _ _ _ _ (omega arith) here
only_one v4 a Bits48 once here = let all = all_counted v4 a in first48 _ _ _ _ _ _ (omega arith) here
only_one v4 a Bits56 once here = let all = all_counted v4 a in first56 _ _ _ _ _ _ (omega arith) here
only_one v4 a Bits64 once here = let all = all_counted v4 a in first64 _ _ _ _ _ _ (omega arith) here
only_one v4 a Bits96 once here = let all = all_counted v4 a in first96 _ _ _ _ _ _ (omega arith) here
