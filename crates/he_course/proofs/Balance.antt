-- Each tick has one owner, so the owners' ticks add up.
use Rattle.std.proofs.Common.{◌≡◌, ◌+◌, ◌<◌, ◌≤◌, ℕ, zero, suc, Bool, true, if◌then◌else◌, IsTrue, List, ap, get_or, length, nat_eq, refl, rules, add-one, slice_index, sum, sym, take, arith, inl, inr}
use Rattle.std.proofs.lemmas.List.{take_all}
use Rattle.std.proofs.lemmas.List.Sums.{sum_by_more}
use Rattle.std.proofs.lemmas.Bool.Decides.{nat_tests}
use Rattle.std.proofs.lemmas.Bool.{cases_lt}
use Rattle.he_course.specs.declared.owners.Owner.{Owner}
use Rattle.he_course.specs.declared.owners.Owner.TheVariants as owners
use Rattle.he_course.specs.declared.accounts.Account.{Account}
use Rattle.he_course.specs.Amounts.{amount_of, total_of}
use Rattle.he_course.specs.Owners.{IsOwner, same_owner, sum_below, ticks_of, ticks_of_all}

abbrev pub bit : Bool → ℕ
bit b = if b then 1 else 0

pub sum_below-add : (f g : ℕ → ℕ) (n : ℕ) → sum_below (λ k. f k + g k) n ≡ sum_below f n + sum_below g n
sum_below-add f g zero = refl
sum_below-add f g (suc n) = let e = sum_below-add f g n in omega arith

pub sum_below-zero : (n : ℕ) → sum_below (λ k. 0) n ≡ 0
sum_below-zero zero = refl
sum_below-zero (suc n) = let e = sum_below-zero n in omega arith

-- one of the numbers below n is the place, if it is below n
one_place_above : (place n : ℕ) → n ≤ place → sum_below (λ k. bit (nat_eq place k)) n ≡ 0
one_place_above place zero h = refl
one_place_above place (suc n) h =
    let few : n ≤ place = omega arith in
    let e = one_place_above place n few in
    let other : bit (nat_eq place n) ≡ 0 = grind (arith, nat_tests) in
    omega arith

bit_same : (a b : ℕ) → a ≡ b → bit (nat_eq a b) ≡ 1
bit_same a b e = grind (arith, nat_tests)

bit_other : (a b : ℕ) → a < b → bit (nat_eq a b) ≡ 0
bit_other a b e = grind (arith, nat_tests)

one_place : (place n : ℕ) → place < n → sum_below (λ k. bit (nat_eq place k)) n ≡ 1
one_place place zero h = absurd (omega arith)
one_place place (suc n) h =
    elim (cases_lt place n) [
      | inl less ↦ let e = one_place place n less in let other = bit_other place n less in omega arith
      | inr more ↦ let e = one_place_above place n more in
          let same : place ≡ n = omega arith in
          let here = bit_same place n same in omega arith
    ]

-- just one owner is the owner
one_owner : (n : ℕ) (owner : Owner) → IsOwner n owner
    → bit (same_owner owner owners.Names) + sum_below (λ k. bit (same_owner owner (owners.Tried k))) n
    + bit (same_owner owner owners.Nobody) + bit (same_owner owner owners.Unknown)
    + bit (same_owner owner owners.Machine) + bit (same_owner owner owners.Connecting) ≡ 1
one_owner n owners.Names o = let e = sum_below-zero n in omega arith
one_owner n (owners.Tried place) o = let e = one_place place n o in omega arith
one_owner n owners.Nobody o = let e = sum_below-zero n in omega arith
one_owner n owners.Unknown o = let e = sum_below-zero n in omega arith
one_owner n owners.Machine o = let e = sum_below-zero n in omega arith
one_owner n owners.Connecting o = let e = sum_below-zero n in omega arith

pub ticks_balance : (owner : ℕ → Owner) (n : ℕ) → ((t : ℕ) → IsOwner n (owner t)) → (end : ℕ)
    → ticks_of_all owner n end ≡ end
ticks_balance owner n valid zero = let e = sum_below-zero n in omega arith
ticks_balance owner n valid (suc t) =
    let e = ticks_balance owner n valid t in
    let one = one_owner n (owner t) (valid t) in
    let parts = sum_below-add (λ place. ticks_of owner t (owners.Tried place))
    (λ place. bit (same_owner (owner t) (owners.Tried place))) n in
    omega arith

pub sum_below-alike : (f g : ℕ → ℕ) (n : ℕ) → ((k : ℕ) → k < n → f k ≡ g k) → sum_below f n ≡ sum_below g n
sum_below-alike f g zero same = refl
sum_below-alike f g (suc n) same =
    let e = sum_below-alike f g n (λ k h. same k (omega arith)) in
    let last = same n (omega arith) in
    omega arith

sum_front : (xs : List ℕ) (n : ℕ) → n ≤ length xs → sum (take n xs) ≡ sum_below (λ k. slice_index xs k) n
sum_front xs zero h = search rules
sum_front xs (suc n) h =
    let e = sum_front xs n (omega arith) in
    let more : sum (take (suc n) xs) ≡ sum (take n xs) + get_or xs n 0 = rw (sym (add-one n)) (sum_by_more (λ x. x) xs n 0 (omega arith)) in
    omega arith

pub sum_tried : {A : Type 0} (owner : ℕ → Owner) (end n : ℕ) (account : Account A) → length account.tried.items ≡ n
    → ((who : Owner) → IsOwner n who → amount_of account who ≡ ticks_of owner end who)
    → sum account.tried.items ≡ sum_below (λ place. ticks_of owner end (owners.Tried place)) n
sum_tried owner end n account as_many each =
    let items = account.tried.items in
    let whole : sum items ≡ sum (take n items) = ap sum (sym (take_all n items (omega arith))) in
    let front = sum_front items n (omega arith) in
    let same = sum_below-alike (λ k. slice_index items k) (λ k. ticks_of owner end (owners.Tried k)) n
    (λ k h. each (owners.Tried k) h) in
    omega arith

-- the owners' amounts are together the end
pub total_balance : {A : Type 0} (owner : ℕ → Owner) (end n : ℕ) (account : Account A) → ((t : ℕ) → IsOwner n (owner t))
    → length account.tried.items ≡ n → ((who : Owner) → IsOwner n who → amount_of account who ≡ ticks_of owner end who)
    → total_of account ≡ end
total_balance owner end n account valid as_many each =
    let tried = sum_tried owner end n account as_many each in
    let names = each owners.Names tt in
    let nobody = each owners.Nobody tt in
    let unknown = each owners.Unknown tt in
    let machine = each owners.Machine tt in
    let connecting = each owners.Connecting tt in
    let balance = ticks_balance owner n valid end in
    omega arith

same_self : (owner : Owner) → same_owner owner owner ≡ true
same_self owners.Names = refl
same_self (owners.Tried place) = grind (arith, nat_tests)
same_self owners.Nobody = refl
same_self owners.Unknown = refl
same_self owners.Machine = refl
same_self owners.Connecting = refl

same_only : (owner other : Owner) → same_owner owner other ≡ true → other ≡ owner
same_only owners.Names owners.Names h = refl
same_only (owners.Tried place) (owners.Tried other) h =
    let e : other ≡ place = grind (arith, nat_tests) in
    ap owners.Tried e
same_only owners.Nobody owners.Nobody h = refl
same_only owners.Unknown owners.Unknown h = refl
same_only owners.Machine owners.Machine h = refl
same_only owners.Connecting owners.Connecting h = refl
same_only _ _ h = cc

-- one owner has the tick, and no other
pub one_has : (n : ℕ) (owner : Owner) → IsOwner n owner
    → (who : Owner) × IsOwner n who × IsTrue (same_owner owner who)
    × ((other : Owner) → IsTrue (same_owner owner other) → other ≡ who)
one_has n owner valid = (owner, valid, same_self owner, same_only owner)
