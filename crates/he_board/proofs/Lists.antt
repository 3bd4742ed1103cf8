-- Laws of the words on one pass's notes.
use Rattle.std.proofs.Common.{◌≡◌, ◌≢◌, ℕ, ◌+◌, ◌<◌, ◌≤◌, Bool, true, false, cond, nat_eq, eq-eqb, ne_eqb, min, List, [], ◌∷◌, ◌++◌, refl, ap, ◌∙◌, arith}
use Rattle.std.specs.Prelude.{◌&&◌, nat_lt}
use Rattle.std.proofs.lemmas.Bool.Decides.{nat_tests}
use borrow.Author.Tests.{ltb-true}
use Rattle.he_board.specs.declared.limits.TheConstants.{NO_OFFER}
use Rattle.he_board.specs.declared.view.View.{View}
use Rattle.he_board.specs.Notes.{times, least_of, count_of, are_keys, taking, knowing}

pub times-append : (n : ℕ) (xs ys : List ℕ) → times n (xs ++ ys) ≡ times n xs + times n ys
times-append n [] ys = omega arith
times-append n (x ∷ xs) ys = let e : times n (xs ++ ys) ≡ times n xs + times n ys = times-append n xs ys in omega arith

pub times-one_same : (n : ℕ) → times n (n ∷ []) ≡ 1
times-one_same n = let e : nat_eq n n ≡ true = eq-eqb n n refl in let F : Bool → ℕ = λ b. cond b 1 0 + 0 in ap F e

pub times-one_other : (n x : ℕ) → x ≢ n → times n (x ∷ []) ≡ 0
times-one_other n x ne = let e : nat_eq x n ≡ false = ne_eqb x n ne in let F : Bool → ℕ = λ b. cond b 1 0 + 0 in ap F e

pub least_of-le_top : (r : ℕ) (xs : List (ℕ × ℕ)) → least_of r xs ≤ NO_OFFER
least_of-le_top r [] = omega arith
least_of-le_top r (x ∷ xs) = let i : least_of r xs ≤ NO_OFFER = least_of-le_top r xs in
    elim (nat_eq x.0 r) as (λ b. cond b (min x.1 (least_of r xs)) (least_of r xs) ≤ NO_OFFER) [ true ↦ omega arith | false ↦ i ]

pub least_of-append : (r : ℕ) (xs ys : List (ℕ × ℕ)) → least_of r (xs ++ ys) ≡ min (least_of r xs) (least_of r ys)
least_of-append r [] ys = let i : least_of r ys ≤ NO_OFFER = least_of-le_top r ys in omega arith
least_of-append r (x ∷ xs) ys = let i : least_of r (xs ++ ys) ≡ min (least_of r xs) (least_of r ys) = least_of-append r xs ys in
    elim (nat_eq x.0 r) as (λ b. cond b (min x.1 (least_of r (xs ++ ys))) (least_of r (xs ++ ys)) ≡ min (cond b (min x.1 (least_of r xs)) (least_of r xs)) (least_of r ys)) [ true ↦ omega arith | false ↦ i ]

pub least_of-one_same : (r n : ℕ) → n ≤ NO_OFFER → least_of r ((r, n) ∷ []) ≡ n
least_of-one_same r n le = let e : nat_eq r r ≡ true = eq-eqb r r refl in let F : Bool → ℕ = λ b. cond b (min n NO_OFFER) NO_OFFER in ap F e ∙ omega arith

pub least_of-one_other : (r q n : ℕ) → q ≢ r → least_of r ((q, n) ∷ []) ≡ NO_OFFER
least_of-one_other r q n ne = let e : nat_eq q r ≡ false = ne_eqb q r ne in let F : Bool → ℕ = λ b. cond b (min n NO_OFFER) NO_OFFER in ap F e

pub are_keys-append : (xs ys : List (ℕ × ℕ)) → are_keys xs ≡ true → are_keys ys ≡ true → are_keys (xs ++ ys) ≡ true
are_keys-append [] ys p q = q
are_keys-append (x ∷ xs) ys p q = are_keys-cons x xs ys p q (are_keys-append xs ys)
  where
    are_keys-cons : (x : ℕ × ℕ) (xs ys : List (ℕ × ℕ)) → (nat_lt x.1 NO_OFFER && are_keys xs) ≡ true → are_keys ys ≡ true → (are_keys xs ≡ true → are_keys ys ≡ true → are_keys (xs ++ ys) ≡ true) → (nat_lt x.1 NO_OFFER && are_keys (xs ++ ys)) ≡ true
    are_keys-cons x xs ys p q more = let P : Bool → Type 0 = λ b. (b && are_keys xs) ≡ true → (b && are_keys (xs ++ ys)) ≡ true in
        let go : (b : Bool) → P b = λ b. elim b as P [ true ↦ λ h. more h q | false ↦ λ h. absurd (cc) ] in go (nat_lt x.1 NO_OFFER) p

pub one_key : (race key : ℕ) → key < NO_OFFER → are_keys ((race, key) ∷ []) ≡ true
one_key race key below = grind (arith, nat_tests)

-- whether a job was taken or not, the parts and the offers stay
pub cond-parts : (b : Bool) (job : ℕ) (v : View) → (cond b (taking job v) (knowing job v)).parts ≡ v.parts
cond-parts true job v = refl
cond-parts false job v = refl

pub cond-taken : (b : Bool) (job : ℕ) (v : View) → (cond b (taking job v) (knowing job v)).taken ≡ cond b (v.taken ++ job ∷ []) v.taken
cond-taken true job v = refl
cond-taken false job v = refl

pub cond-offers : (b : Bool) (job : ℕ) (v : View) → (cond b (taking job v) (knowing job v)).offers ≡ v.offers
cond-offers true job v = refl
cond-offers false job v = refl

-- no value of the race is noted
pub least_of-none : (r : ℕ) (xs : List (ℕ × ℕ)) → count_of r xs ≡ 0 → least_of r xs ≡ NO_OFFER
least_of-none r [] none = refl
least_of-none r (x ∷ xs) none = let more : count_of r xs ≡ 0 → least_of r xs ≡ NO_OFFER = least_of-none r xs in
    let P : Bool → Type 0 = λ b. cond b 1 0 + count_of r xs ≡ 0 → cond b (min x.1 (least_of r xs)) (least_of r xs) ≡ NO_OFFER in
    let go : (b : Bool) → P b = λ b. elim b as P [ true ↦ λ h. absurd (omega arith) | false ↦ λ h. more (omega arith) ] in go (nat_eq x.0 r) none

pub count_of-none : (r : ℕ) (xs : List (ℕ × ℕ)) → are_keys xs ≡ true → least_of r xs ≡ NO_OFFER → count_of r xs ≡ 0
count_of-none r [] keys top = refl
count_of-none r (x ∷ xs) keys top = let more : are_keys xs ≡ true → least_of r xs ≡ NO_OFFER → count_of r xs ≡ 0 = count_of-none r xs in
    let rest : are_keys xs ≡ true = are_keys-rest (nat_lt x.1 NO_OFFER) (are_keys xs) keys in
    let first : x.1 < NO_OFFER = ltb-true x.1 NO_OFFER (are_keys-first (nat_lt x.1 NO_OFFER) (are_keys xs) keys) in
    let P : Bool → Type 0 = λ b. cond b (min x.1 (least_of r xs)) (least_of r xs) ≡ NO_OFFER → cond b 1 0 + count_of r xs ≡ 0 in
    let go : (b : Bool) → P b = λ b. elim b as P [ true ↦ λ h. absurd (omega arith) | false ↦ λ h. let m : count_of r xs ≡ 0 = more rest h in omega arith ] in go (nat_eq x.0 r) top
  where
    are_keys-first : (a b : Bool) → (a && b) ≡ true → a ≡ true
    are_keys-first true b h = refl
    are_keys-first false b h = absurd (cc)

    are_keys-rest : (a b : Bool) → (a && b) ≡ true → b ≡ true
    are_keys-rest true b h = h
    are_keys-rest false b h = absurd (cc)
