-- Races that stand in the order of their groups, and these groups.
use Rattle.std.proofs.Common.{ℕ, ◌≡◌, ◌==◌, ◌+◌, ◌≤◌, ◌<◌, ◌++◌, ◌&&◌, not, Bool, true, false, cond, All, IsPermutation, List, [], ◌∷◌, length, map, Some, None, take, drop, get_or, refl, sym, ◌∙◌, ap, subst, arith, inl, inr}
use Rattle.std.specs.List.{Contains, filter, slice_get}
use Rattle.std.specs.List.Sorted.{IsNonDecreasingBy, IsPartitionPoint, IsStableByKey, ties}
use Rattle.std.specs.Option.{unwrap_or}
use Rattle.std.specs.Ordering.{is_lt, nat_cmp}
use Rattle.std.proofs.lemmas.Bool.{cases_eq, eq-eqb, eqb-true, ne_eqb}
use Rattle.std.proofs.lemmas.Bool.Decides.{nat_tests}
use Rattle.std.proofs.lemmas.List.{append-nil, get_or-drop, get_or-take, length-drop, length-take-le, take-append-drop}
use Rattle.std.proofs.lemmas.List.Elements.{All-append, All-cons, All-filter, All-head, All-tail, All-weaker, Contains-append_right, filter-append, filter_agree, filter_passes}
use Rattle.std.proofs.lemmas.List.Sorted.{All-permutation, IsPermutation-sym}
use Rattle.he_totals.specs.Totals.{AreTotals}
use Rattle.he_totals.specs.declared.kept.Kept.{Kept}
use Rattle.he_compare.specs.Groups.{AreGroups, Division, IsCounted, key_of, members}
use Rattle.he_compare.specs.declared.groups.Group.{Group}

-- all of a list pass, or none does
filter_all : (p : Kept → Bool) (xs : List Kept) → All (λ x. p x ≡ true) xs → filter p xs ≡ xs
filter_all p [] all = refl
filter_all p (x ∷ xs) all =
    λ i. cond (All-head (λ x. p x ≡ true) x xs all i) (x ∷ filter_all p xs (All-tail (λ x. p x ≡ true) x xs all) i) (filter p xs)

filter_none : (p : Kept → Bool) (xs : List Kept) → All (λ x. p x ≡ false) xs → filter p xs ≡ []
filter_none p [] none = refl
filter_none p (x ∷ xs) none =
    λ i. cond (All-head (λ x. p x ≡ false) x xs none i) (x ∷ filter p xs) (filter_none p xs (All-tail (λ x. p x ≡ false) x xs none) i)

-- what follows from one of a list
from_one : (P : Kept → Type 0) (Q : Type 0) (xs : List Kept) → 0 < length xs → All P xs → ((x : Kept) → P x → Q) → Q
from_one P Q [] some all follows = absurd (omega arith)
from_one P Q (x ∷ xs) some all follows = follows x (All-head P x xs all)

-- one group more, whose races stand in front of those of the others
one_more : (division : Division) (own later : List Kept) (group : Group) (groups : List Group) → 0 < length own → All (λ race. key_of division race ≡ group.key) own
    → All (λ race. group.key < key_of division race) later → AreTotals own group.totals → AreGroups division later groups → AreGroups division (own ++ later) (group ∷ groups)
one_more division own later group groups some are above totals is = record {
  ascend = (beyond, is.ascend);
  counted = All-cons (IsCounted division (own ++ later)) group groups (told group here (some, totals))
      (λ k d lt. told (get_or groups k d) (there (get_or groups k d).key (beyond k d lt)) (is.counted k d lt));
  each = All-append (Stands (group ∷ groups)) own later
      (All-weaker (λ race. key_of division race ≡ group.key) (Stands (group ∷ groups)) (λ race own_key. (0, omega arith, sym own_key)) own are)
      (All-weaker (Stands groups) (Stands (group ∷ groups)) (λ race stands. Contains-append_right (group.key ∷ []) (map (λ g. g.key) groups) (key_of division race) stands) later is.each);
}
  where
    Stands : List Group → Kept → Type 0
    Stands groups race = Contains (map (λ (g : Group). g.key) groups) (key_of division race)

    told : {l : List Kept} (other : Group) → members division other.key (own ++ later) ≡ l → (0 < length l) × AreTotals l other.totals → IsCounted division (own ++ later) other
    told other same is = subst (λ l. (0 < length l) × AreTotals l other.totals) (sym same) is

    here : members division group.key (own ++ later) ≡ own
    here =
        filter-append (λ race. key_of division race == group.key) own later
        ∙ (λ i. filter_all (λ race. key_of division race == group.key) own (λ k d lt. eq-eqb _ _ (are k d lt)) i ++ filter_none (λ race. key_of division race == group.key) later (λ k d lt. ne_eqb _ _ (λ e. let far = above k d lt in absurd (omega arith))) i)
        ∙ append-nil own

    there : (key : ℕ) → group.key < key → members division key (own ++ later) ≡ members division key later
    there key lt =
        filter-append (λ race. key_of division race == key) own later
        ∙ (λ i. filter_none (λ race. key_of division race == key) own (λ k d below. ne_eqb _ _ (λ e. let is = are k d below in absurd (omega arith))) i ++ members division key later)

    beyond : All (λ other. group.key < other.key) groups
    beyond k d lt =
        let key = (get_or groups k d).key in
        from_one (λ race. (group.key < key_of division race) × (key_of division race ≡ key)) (group.key < key) (members division key later) (is.counted k d lt).0
        (λ j e within. (All-filter (λ race. key_of division race == key) (λ race. group.key < key_of division race) later above j e within, eqb-true _ _ (filter_passes (λ race. key_of division race == key) later j e within)))
        (λ race (far, own_key). omega arith)

at_front : (rest : List Kept) (first : Kept) → Some first ≡ slice_get rest 0 → (0 < length rest) × ((d : Kept) → get_or rest 0 d ≡ first)
at_front [] first got = cc
at_front (race ∷ rest) first got = (omega arith, λ d. sym (ap (λ o. unwrap_or o first) got))

-- where there is no first one there is none
pub none_left : (division : Division) (rest : List Kept) → None ≡ slice_get rest 0 → AreGroups division rest []
none_left division [] none = record { ascend = tt; counted = λ k d lt. absurd (omega arith); each = λ k d lt. absurd (omega arith) }
none_left division (race ∷ rest) none = cc

-- the first races of a list that is in order: those of the group of the first one, and those above it
pub cut_off : (division : Division) (rest own later : List Kept) (group : Group) (groups : List Group) (first : Kept) (n : ℕ) → IsNonDecreasingBy (key_of division) rest
    → Some first ≡ slice_get rest 0 → group.key ≡ key_of division first → n ≤ length rest
    → IsPartitionPoint (λ race. key_of division race ≤ group.key) (λ race. group.key < key_of division race) rest n → own ≡ take n rest → later ≡ drop n rest
    → AreTotals own group.totals → AreGroups division later groups → AreGroups division rest (group ∷ groups)
cut_off division rest own later group groups first n up got is_key most point is_own is_later totals is =
    subst (λ l. AreGroups division l (group ∷ groups)) (take-append-drop n rest)
    (one_more division (take n rest) (drop n rest) group groups (subst (λ m. 0 < m) (sym long) some) front_is back_is (subst (λ l. AreTotals l group.totals) is_own totals) (subst (λ l. AreGroups division l groups) is_later is))
  where
    front : (0 < length rest) × ((d : Kept) → get_or rest 0 d ≡ first)
    front = at_front rest first got

    long : length (take n rest) ≡ n
    long = length-take-le n rest most

    first_key : (d : Kept) → key_of division (get_or rest 0 d) ≡ group.key
    first_key d = ap (key_of division) (front.1 d) ∙ sym is_key

    some : 0 < n
    some = elim (cases_eq n 0) [
      | inl none ↦ let far = point.1 0 first (omega arith) front.0 in let same = first_key first in absurd (omega arith)
      | inr ne ↦ omega arith
    ]

    front_is : All (λ race. key_of division race ≡ group.key) (take n rest)
    front_is k d lt =
        let below : k < n = omega (arith, long) in
        let least : key_of division (get_or rest 0 d) ≤ key_of division (get_or rest k d) = up 0 k d (omega arith) (omega arith) in
        let greatest = point.0 k d (omega arith) below in
        let same = first_key d in
        ap (key_of division) (get_or-take n rest k d below) ∙ omega arith

    back_is : All (λ race. group.key < key_of division race) (drop n rest)
    back_is k d lt =
        subst (λ race. group.key < key_of division race) (sym (get_or-drop n rest k d)) (point.1 (n + k) d (omega arith) (omega (arith, length-drop n rest)))

tied : (a b : ℕ) → (b == a) ≡ (not (is_lt (nat_cmp a b)) && not (is_lt (nat_cmp b a)))
tied a b = grind (arith, nat_tests)

-- the groups of races that stand in another order, but for those of one group
pub moved : (division : Division) (kept sorted : List Kept) (groups : List Group) → IsPermutation kept sorted → IsStableByKey (key_of division) nat_cmp kept sorted
    → AreGroups division sorted groups → AreGroups division kept groups
moved division kept sorted groups permutation stable is = record {
  ascend = is.ascend;
  counted = λ k d lt. subst (λ l. (0 < length l) × AreTotals l (get_or groups k d).totals) (same (get_or groups k d).key (is.counted k d lt).0) (is.counted k d lt);
  each = All-permutation (λ race. Contains (map (λ (g : Group). g.key) groups) (key_of division race)) sorted kept (IsPermutation-sym kept sorted permutation) is.each;
}
  where
    tie : Kept → Kept → Bool
    tie = ties (λ x y. is_lt (nat_cmp (key_of division x) (key_of division y)))

    same : (key : ℕ) → 0 < length (members division key sorted) → members division key sorted ≡ members division key kept
    same key some =
        from_one (λ race. (key_of division race == key) ≡ true) (members division key sorted ≡ members division key kept) (members division key sorted) some (filter_passes (λ race. key_of division race == key) sorted)
        (λ race is.
        let agree : (other : Kept) → (key_of division other == key) ≡ tie race other =
        λ other. ap (λ k. key_of division other == k) (sym (eqb-true _ _ is)) ∙ tied (key_of division race) (key_of division other) in
        filter_agree (λ other. key_of division other == key) (tie race) agree sorted ∙ stable race ∙ sym (filter_agree (λ other. key_of division other == key) (tie race) agree kept))
