-- An address begins with a prefix exactly where it lies between the prefix's first and its last.
use Rattle.std.proofs.Common.{◌≡◌, ℕ, ◌+◌, ◌-◌, ◌*◌, ◌/◌, ◌%◌, ◌^◌, ◌<◌, ◌≤◌, Bool, true, false, ◌&&◌, nat_le, nat_eq, sym, ◌∙◌, ap, subst, arith, inl, inr, eq-eqb, ne_eqb}
use Rattle.std.proofs.lemmas.Bool.{cases_lt}
use Rattle.std.proofs.lemmas.Bool.Decides.{nat_tests}
use Rattle.std.proofs.lemmas.Nat.{div-add-mod', le-div, pow-add}
use Rattle.std.proofs.Math.Nat.{div-lt_iff_lt-mul, lt_of_mul-lt-mul_right, mul-le-mul_right, one-le-pow}
use Rattle.he_addr.specs.Bits.{agrees}
use Rattle.he_addr.specs.Prefix.{IsPrefix, last_of}

above : (m k : ℕ) → k < m → nat_le m k ≡ false
above m k lt = grind (arith, nat_tests)

upto : (m k : ℕ) → m ≤ k → nat_le m k ≡ true
upto m k below = grind (arith, nat_tests)

-- of numbers in steps of w, where one of them is the first of its step
module _ (w bits n : ℕ) (positive : 0 < w) (first : bits / w * w ≡ bits) where
  before : n < bits → (nat_le bits n && nat_le n (bits + (w - 1))) ≡ nat_eq (n / w) (bits / w)
  before less =
      let below : n < bits / w * w = subst (λ (b : ℕ). n < b) (sym first) less in
      let lower : n / w < bits / w = (div-lt_iff_lt-mul positive).1 below in
      rw (above bits n less, ne_eqb (n / w) (bits / w) (omega arith))

  behind : bits + (w - 1) < n → (nat_le bits n && nat_le n (bits + (w - 1))) ≡ nat_eq (n / w) (bits / w)
  behind past =
      let next : (bits / w + 1) * w ≤ n = omega (arith, first) in
      let higher : bits / w + 1 ≤ n / w = le-div (bits / w + 1) n w positive next in
      rw (above n (bits + (w - 1)) past, upto bits n (omega arith), ne_eqb (n / w) (bits / w) (omega arith))

  inside : bits ≤ n → n ≤ bits + (w - 1) → (nat_le bits n && nat_le n (bits + (w - 1))) ≡ nat_eq (n / w) (bits / w)
  inside from to =
      let at_least : bits / w * w ≤ n = omega (arith, first) in
      let low : bits / w ≤ n / w = le-div (bits / w) n w positive at_least in
      let below : n < (bits / w + 1) * w = omega (arith, first) in
      let high : n / w < bits / w + 1 = (div-lt_iff_lt-mul positive).1 below in
      rw (upto bits n from, upto n (bits + (w - 1)) to, eq-eqb (n / w) (bits / w) (omega arith))

  between : (nat_le bits n && nat_le n (bits + (w - 1))) ≡ nat_eq (n / w) (bits / w)
  between =
      elim (cases_lt n bits) [
        | inl less ↦ before less
        | inr from ↦ elim (cases_lt (bits + (w - 1)) n) [ inl past ↦ behind past | inr to ↦ inside from to ]
      ]

pub begins_between : (bits last len n : ℕ) → IsPrefix bits len → last ≡ last_of bits len → (nat_le bits n && nat_le n last) ≡ agrees 128 n bits len
begins_between bits last len n prefix is =
    let w : ℕ = 2 ^ (128 - len) in
    let positive : 0 < w = one-le-pow (128 - len) 2 (omega arith) in
    let parts : bits / w * w + bits % w ≡ bits = div-add-mod' bits w in
    let clear : bits % w ≡ 0 = prefix.clear in
    ap (λ (l : ℕ). nat_le bits n && nat_le n l) is ∙ between w bits n positive (omega arith)

-- the test of one that is not before the first
pub from_first : (bits last len n : ℕ) → IsPrefix bits len → last ≡ last_of bits len → bits ≤ n → nat_le n last ≡ agrees 128 n bits len
from_first bits last len n prefix is from = ap (λ (b : Bool). b && nat_le n last) (sym (upto bits n from)) ∙ begins_between bits last len n prefix is

pub before_first : (bits last len n : ℕ) → IsPrefix bits len → last ≡ last_of bits len → n < bits → agrees 128 n bits len ≡ false
before_first bits last len n prefix is less = sym (begins_between bits last len n prefix is) ∙ ap (λ (b : Bool). b && nat_le n last) (above bits n less)

-- the last one is a number of 128 bits too
pub last_fits : (bits len : ℕ) → IsPrefix bits len → last_of bits len < 2 ^ 128
last_fits bits len prefix =
    let w : ℕ = 2 ^ (128 - len) in
    let positive : 0 < w = one-le-pow (128 - len) 2 (omega arith) in
    let parts : bits / w * w + bits % w ≡ bits = div-add-mod' bits w in
    let clear : bits % w ≡ 0 = prefix.clear in
    let short : len + (128 - len) ≡ 128 = let h = prefix.short in omega arith in
    let whole : 2 ^ len * w ≡ 2 ^ 128 = sym (pow-add 2 len (128 - len)) ∙ ap (λ (k : ℕ). 2 ^ k) short in
    let below : bits / w * w < 2 ^ len * w = let h = prefix.fits in omega arith in
    let less : bits / w < 2 ^ len = lt_of_mul-lt-mul_right w below in
    let steps : bits / w + 1 ≤ 2 ^ len = omega arith in
    let grown : (bits / w + 1) * w ≤ 2 ^ len * w = mul-le-mul_right w steps in
    omega arith
