-- What a run of ticks with one owner adds to a count.
use Rattle.std.proofs.Common.{◌≡◌, ◌+◌, ◌-◌, ◌<◌, ◌≤◌, ℕ, zero, suc, Bool, true, false, if◌then◌else◌, refl, arith, inl, inr, ap}
use Rattle.std.proofs.lemmas.Bool.{cases_lt}
use Rattle.he_course.specs.declared.owners.Owner.{Owner}
use Rattle.he_course.specs.Owners.{count_below, same_owner, ticks_of}
use Rattle.he_course.proofs.Balance.{bit}

if_none : (b : Bool) (n : ℕ) → n ≡ 0 → (if b then n else 0) ≡ 0
if_none true n e = e
if_none false n e = refl

one_more : (b c : Bool) (from to : ℕ) → from ≤ to → c ≡ b
    → (if b then to - from else 0) + (if c then 1 else 0) ≡ (if b then suc to - from else 0)
one_more true c from to h e = rw e (omega arith)
one_more false c from to h e = rw e refl

-- a test that is the same from a number on adds that many or none
pub count_run : (p : ℕ → Bool) (b : Bool) (from to : ℕ) → from ≤ to → ((t : ℕ) → from ≤ t → t < to → p t ≡ b)
    → count_below p to ≡ count_below p from + (if b then to - from else 0)
count_run p b zero zero h same = let e = if_none b (0 - 0) refl in omega arith
count_run p b (suc from) zero h same = absurd (omega arith)
count_run p b from (suc to) h same =
    elim (cases_lt to from) [
      | inl less ↦
          let e : suc to ≡ from = omega arith in
          let none = if_none b (suc to - from) (omega arith) in
          let parts : count_below p (suc to) ≡ count_below p from = ap (count_below p) e in
          omega arith
      | inr more ↦
          let ih = count_run p b from to more (λ t a z. same t a (omega arith)) in
          let last : p to ≡ b = same to more (omega arith) in
          let one = one_more b (p to) from to more last in
          omega arith
    ]

pub bit_few : (b : Bool) → bit b ≤ 1
bit_few true = omega arith
bit_few false = omega arith

pub count_few : (p : ℕ → Bool) (n : ℕ) → count_below p n ≤ n
count_few p zero = omega arith
count_few p (suc n) = let ih = count_few p n in let one = bit_few (p n) in omega arith

-- a run of ticks that one owner has
pub ticks_run : (owner : ℕ → Owner) (now : Owner) (from to : ℕ) (who : Owner) → from ≤ to
    → ((t : ℕ) → from ≤ t → t < to → owner t ≡ now)
    → ticks_of owner to who ≡ ticks_of owner from who + (if same_owner now who then to - from else 0)
ticks_run owner now from to who h same =
    count_run (λ t. same_owner (owner t) who) (same_owner now who) from to h (λ t a z. ap (λ o. same_owner o who) (same t a z))

pub ticks_few : (owner : ℕ → Owner) (end : ℕ) (who : Owner) → ticks_of owner end who ≤ end
ticks_few owner end who = count_few (λ t. same_owner (owner t) who) end

bit_more : (a b c d : Bool) → a ≡ b → c ≡ d → bit a + bit c ≡ bit b + bit d
bit_more a b c d e f = rw (e, f) refl

-- two tests that are alike from a number on add alike
pub count_alike : (p q : ℕ → Bool) (from to : ℕ) → from ≤ to → ((t : ℕ) → from ≤ t → t < to → p t ≡ q t)
    → count_below p to + count_below q from ≡ count_below p from + count_below q to
count_alike p q zero zero h same = refl
count_alike p q (suc from) zero h same = absurd (omega arith)
count_alike p q from (suc to) h same =
    elim (cases_lt to from) [
      | inl less ↦
          let e : suc to ≡ from = omega arith in
          let one : count_below p (suc to) ≡ count_below p from = ap (count_below p) e in
          let two : count_below q (suc to) ≡ count_below q from = ap (count_below q) e in
          omega arith
      | inr more ↦
          let ih = count_alike p q from to more (λ t a z. same t a (omega arith)) in
          let last : bit (p to) ≡ bit (q to) = ap bit (same to more (omega arith)) in
          omega arith
    ]

pub ticks_alike : (one two : ℕ → Owner) (from to : ℕ) (who : Owner) → from ≤ to
    → ((t : ℕ) → from ≤ t → t < to → one t ≡ two t)
    → ticks_of one to who + ticks_of two from who ≡ ticks_of one from who + ticks_of two to who
ticks_alike one two from to who h same =
    count_alike (λ t. same_owner (one t) who) (λ t. same_owner (two t) who) from to h
    (λ t a z. ap (λ o. same_owner o who) (same t a z))

pub some_ticks : (b : Bool) (n : ℕ) → (if b then n else 0) ≤ n
some_ticks true n = omega arith
some_ticks false n = omega arith
