-- Sums over keys are sums over all.
use Rattle.std.proofs.Common.{◌≡◌, ◌+◌, ℕ, Bool, true, false, if◌then◌else◌, List, [], ◌∷◌, nat_eq, refl, arith}
use Rattle.std.specs.List.{sum_by}
use Rattle.std.proofs.lemmas.List.Sums.{sum_by-cons}
use Rattle.he_course.specs.Amounts.{AreKeys, ChargesAddUp, charged_to}

sum_both : {X : Type 0} (f g : X → ℕ) (xs : List X) → sum_by (λ x. f x + g x) xs ≡ sum_by f xs + sum_by g xs
sum_both f g [] = refl
sum_both {X = X} f g (x ∷ xs) =
    let more = sum_both f g xs in
    let all = sum_by-cons {X = X} (λ y. f y + g y) x xs in
    let one = sum_by-cons {X = X} f x xs in
    let two = sum_by-cons {X = X} g x xs in
    omega arith

sum_none : {X : Type 0} (xs : List X) → sum_by (λ x. 0) xs ≡ 0
sum_none [] = refl
sum_none {X = X} (x ∷ xs) =
    let more = sum_none xs in
    let all = sum_by-cons {X = X} (λ y. 0) x xs in
    omega arith

-- a key that is none of these is charged nothing
none_step : (b : Bool) (ms ones charged : ℕ) → (if b then 1 else 0) + ones ≡ 0 → (ones ≡ 0 → charged ≡ 0)
    → (if b then ms else 0) + charged ≡ 0
none_step true ms ones charged h more = absurd (omega arith)
none_step false ms ones charged h more = let e = more (omega arith) in omega arith

charge_none : (key ms : ℕ) (keys : List ℕ) → sum_by (λ k. if nat_eq k key then 1 else 0) keys ≡ 0
    → sum_by (λ k. if nat_eq k key then ms else 0) keys ≡ 0
charge_none key ms [] h = refl
charge_none key ms (k ∷ keys) h =
    let ones = sum_by-cons (λ j. if nat_eq j key then 1 else 0) k keys in
    let all = sum_by-cons (λ j. if nat_eq j key then ms else 0) k keys in
    let step = none_step (nat_eq k key) ms (sum_by (λ j. if nat_eq j key then 1 else 0) keys)
    (sum_by (λ j. if nat_eq j key then ms else 0) keys) (omega arith) (charge_none key ms keys) in
    omega arith

-- one that is one of these is charged all
once_step : (b : Bool) (ms ones charged : ℕ) → (if b then 1 else 0) + ones ≡ 1 → (ones ≡ 0 → charged ≡ 0)
    → (ones ≡ 1 → charged ≡ ms) → (if b then ms else 0) + charged ≡ ms
once_step true ms ones charged h none more = let e = none (omega arith) in omega arith
once_step false ms ones charged h none more = let e = more (omega arith) in omega arith

charge_once : (key ms : ℕ) (keys : List ℕ) → sum_by (λ k. if nat_eq k key then 1 else 0) keys ≡ 1
    → sum_by (λ k. if nat_eq k key then ms else 0) keys ≡ ms
charge_once key ms [] h = absurd (omega arith)
charge_once key ms (k ∷ keys) h =
    let ones = sum_by-cons (λ j. if nat_eq j key then 1 else 0) k keys in
    let all = sum_by-cons (λ j. if nat_eq j key then ms else 0) k keys in
    let step = once_step (nat_eq k key) ms (sum_by (λ j. if nat_eq j key then 1 else 0) keys)
    (sum_by (λ j. if nat_eq j key then ms else 0) keys) (omega arith) (charge_none key ms keys)
    (charge_once key ms keys) in
    omega arith

charged_cons : (charge : ℕ × ℕ) (more : List (ℕ × ℕ)) (key : ℕ)
    → charged_to (charge ∷ more) key ≡ (if nat_eq key charge.0 then charge.1 else 0) + charged_to more key
charged_cons charge more key = sum_by-cons (λ some. if nat_eq key some.0 then some.1 else 0) charge more

sum_alike : {X : Type 0} (f g : X → ℕ) (xs : List X) → ((x : X) → f x ≡ g x) → sum_by f xs ≡ sum_by g xs
sum_alike f g [] same = refl
sum_alike {X = X} f g (x ∷ xs) same =
    let here = same x in
    let more = sum_alike f g xs same in
    let one = sum_by-cons {X = X} f x xs in
    let two = sum_by-cons {X = X} g x xs in
    omega arith

one_account : (charges : List (ℕ × ℕ)) (keys : List ℕ) → AreKeys keys charges
    → sum_by (λ key. charged_to charges key) keys ≡ sum_by (λ charge. charge.1) charges
one_account [] keys are = sum_none keys
one_account (charge ∷ more) keys are =
    let here = charge_once charge.0 charge.1 keys are.0 in
    let rest = one_account more keys are.1 in
    let split = sum_alike (λ key. charged_to (charge ∷ more) key)
    (λ key. (if nat_eq key charge.0 then charge.1 else 0) + charged_to more key) keys (charged_cons charge more) in
    let parts = sum_both (λ key. if nat_eq key charge.0 then charge.1 else 0) (λ key. charged_to more key) keys in
    let all = sum_by-cons (λ (some : ℕ × ℕ). some.1) charge more in
    omega arith

pub charges_add_up : ChargesAddUp
charges_add_up [] keys are = sum_none keys
charges_add_up (charges ∷ more) keys are =
    let here = one_account charges keys are.0 in
    let rest = charges_add_up more keys are.1 in
    let split = sum_alike (λ key. sum_by (λ some. charged_to some key) (charges ∷ more))
    (λ key. charged_to charges key + sum_by (λ some. charged_to some key) more) keys
    (λ key. sum_by-cons (λ some. charged_to some key) charges more) in
    let parts = sum_both (λ key. charged_to charges key) (λ key. sum_by (λ some. charged_to some key) more) keys in
    let all = sum_by-cons (λ (some : List (ℕ × ℕ)). sum_by (λ charge. charge.1) some) charges more in
    omega arith
