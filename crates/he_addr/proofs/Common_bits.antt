-- How many leading bits two numbers have in common: as many as their difference has leading zeros.
use Rattle.std.proofs.Common.{ℕ, zero, suc, ◌+◌, ◌-◌, ◌*◌, ◌/◌, ◌^◌, ◌<◌, ◌≤◌, ◌≡◌, Bool, true, false, IsFalse, nat_le, sym, ◌∙◌, ap, subst, arith, min, eq-eqb, nat_eq, inl, inr}
use Rattle.std.specs.Int.Bits.{bit_xor, xor_self, xor_assoc, xor_zero_l, xor_zero_r}
use Rattle.std.specs.Int.Count.{count_leading_zeros}
use Rattle.std.proofs.lemmas.Nat.{xor_shr, xor_lt, leading_length}
use Rattle.std.proofs.Math.Nat.{pow-le-pow_right, div-eq_of_lt, lt-div-mul-add, two-pow-succ, one-le-pow}
use Rattle.std.proofs.lemmas.Bool.{cases_lt, cases_Bool, true≢false}
use Rattle.std.proofs.lemmas.Bool.Decides.{eqb_tells, nat_tests}
use Rattle.he_addr.specs.Bits.{agrees, greatest, IsCommon, IsGreatest, GreatestIsGreatest}

-- numbers whose difference is nothing are equal
pub same : (x y : ℕ) → bit_xor x y ≡ 0 → x ≡ y
same x y e = sym (xor_zero_r x) ∙ ap (bit_xor x) (sym (xor_self y)) ∙ sym (xor_assoc x y y) ∙ ap (λ (d : ℕ). bit_xor d y) e ∙ xor_zero_l y

-- no more bits differ than the difference has
low_agree : (a b k m : ℕ) → bit_xor a b < 2 ^ m → m ≤ k → a / 2 ^ k ≡ b / 2 ^ k
low_agree a b k m below le =
    let grows : 2 ^ m ≤ 2 ^ k = pow-le-pow_right (omega arith) le in
    let small : bit_xor a b < 2 ^ k = omega arith in
    same (a / 2 ^ k) (b / 2 ^ k) (sym (xor_shr a b k) ∙ div-eq_of_lt small)

differ_test : (x y : ℕ) → (x ≡ y → ⊥) → nat_eq x y ≡ false
differ_test x y h = elim (eqb_tells x y) [ inl same ↦ absurd (h same.1) | inr other ↦ other.0 ]

high_differ : (a b k m : ℕ) → 2 ^ m ≤ 2 * bit_xor a b + 1 → k < m → a / 2 ^ k ≡ b / 2 ^ k → ⊥
high_differ a b k m above less e =
    let none : bit_xor a b / 2 ^ k ≡ 0 = xor_shr a b k ∙ ap (λ (x : ℕ). bit_xor x (b / 2 ^ k)) e ∙ xor_self (b / 2 ^ k) in
    let positive : 0 < 2 ^ k = one-le-pow k 2 (omega arith) in
    let small : bit_xor a b < bit_xor a b / 2 ^ k * 2 ^ k + 2 ^ k = lt-div-mul-add positive in
    let below : bit_xor a b < 0 * 2 ^ k + 2 ^ k = subst (λ (q : ℕ). bit_xor a b < q * 2 ^ k + 2 ^ k) none small in
    let twice : 2 ^ suc k ≡ 2 ^ k + 2 ^ k = two-pow-succ k in
    let grows : 2 ^ suc k ≤ 2 ^ m = pow-le-pow_right (omega arith) less in
    omega arith

pub is_common : (width a b : ℕ) → a < 2 ^ width → b < 2 ^ width → IsCommon width a b (count_leading_zeros width (bit_xor a b))
is_common width a b ha hb =
    let top = leading_length width (bit_xor a b) (xor_lt width a b ha hb) in
    let sum : count_leading_zeros width (bit_xor a b) + top.0 ≡ width = top.1 in
    record {
      within = omega arith;
      agree = λ m le. eq-eqb _ _ (low_agree a b (width - m) top.0 top.2 (omega arith));
      differ = λ m less le. differ_test _ _ (high_differ a b (width - m) top.0 top.3 (omega arith));
    }

pub greatest_is : (width a b n most : ℕ) → IsCommon width a b n → most ≤ width → greatest (agrees width a b) most ≡ min n most
greatest_is width a b n zero is le = omega arith
greatest_is width a b n (suc most) is le =
    elim (cases_lt n (suc most)) [
      | inl past ↦ rw (is.differ (suc most) past le) (greatest_is width a b n most is (omega arith) ∙ omega arith)
      | inr here ↦ rw (is.agree (suc most) here) (omega arith)
    ]

more : (p : ℕ → Bool) (most n : ℕ) → IsFalse (p (suc most)) → IsGreatest p most n → IsGreatest p (suc most) n
more p most n not_here is = record {
  within = let h = is.within in omega arith;
  holds = is.holds;
  greatest = λ m le here. elim (cases_lt m (suc most)) [
    | inl below ↦ is.greatest m (omega arith) here
    | inr above ↦ let same : m ≡ suc most = omega arith in
        absurd (true≢false (sym here ∙ ap p same ∙ not_here))
  ];
}

pub greatest_law : GreatestIsGreatest
greatest_law p zero first = record { within = omega arith; holds = first; greatest = λ m le here. le }
greatest_law p (suc most) first =
    elim (cases_Bool (p (suc most))) [
      | inl here ↦ let P : ℕ → Type 0 = λ n. IsGreatest p (suc most) n in
          subst P (sym (simp here)) (record { within = omega arith; holds = here; greatest = λ m le holds. le })
      | inr none ↦ let P : ℕ → Type 0 = λ n. IsGreatest p (suc most) n in
          subst P (sym (simp none)) (more p most (greatest p most) none (greatest_law p most first))
    ]

-- just so many leading bits agree as are common
pub agrees_within : (width a b n len : ℕ) → IsCommon width a b n → len ≤ width → nat_le len n ≡ agrees width a b len
agrees_within width a b n len is le =
    elim (cases_lt n len) [
      | inl past ↦ above len n past ∙ sym (is.differ len past le)
      | inr here ↦ upto len n here ∙ sym (is.agree len here)
    ]
  where
    above : (m k : ℕ) → k < m → nat_le m k ≡ false
    above m k lt = grind (arith, nat_tests)

    upto : (m k : ℕ) → m ≤ k → nat_le m k ≡ true
    upto m k below = grind (arith, nat_tests)
