-- Sums over groups are sums over all races.
use Rattle.std.proofs.Common.{ℕ, ◌≡◌, ◌==◌, ◌+◌, ◌<◌, All, Bool, true, false, cond, List, [], ◌∷◌, length, map, zero, suc, refl, sym, ap, arith}
use Rattle.std.specs.List.{Contains, filter, slice_index_or, sum_by}
use Rattle.std.proofs.lemmas.Bool.{eq-eqb, ne_eqb}
use Rattle.std.proofs.lemmas.List.Elements.{All-head, All-tail}
use Rattle.std.proofs.lemmas.List.Sums.{sum_by-cons}
use Rattle.he_totals.proofs.Sums.{sum_alike, sum_both, sum_none}
use Rattle.he_totals.specs.declared.kept.Kept.{Kept}
use Rattle.he_compare.specs.Groups.{Ascend, Division, GroupsAddUp, key_of, members}
use Rattle.he_compare.specs.declared.groups.Group.{Group}

-- what is charged to the groups of a key
abbrev charged : ℕ → ℕ → List Group → ℕ
charged key ms groups = sum_by (λ (group : Group). cond (key == group.key) ms 0) groups

-- groups of greater keys are charged nothing
above : (key ms : ℕ) (groups : List Group) → All (λ (other : Group). key < other.key) groups → charged key ms groups ≡ 0
above key ms [] far = refl
above key ms (group ∷ groups) far =
    let more : key < group.key = All-head (λ (other : Group). key < other.key) group groups far in
    let apart : (key == group.key) ≡ false = ne_eqb key group.key (λ e. absurd (omega arith)) in
    let here : cond (key == group.key) ms 0 ≡ 0 = ap (λ b. cond b ms 0) apart in
    let rest = above key ms groups (All-tail (λ (other : Group). key < other.key) group groups far) in
    let all = sum_by-cons (λ (other : Group). cond (key == other.key) ms 0) group groups in
    omega arith

-- one of them is charged all
once : (key ms : ℕ) (groups : List Group) → Ascend groups → Contains (map (λ (g : Group). g.key) groups) key → charged key ms groups ≡ ms
once key ms [] ascend (k, lt, at) = absurd (omega arith)
once key ms (group ∷ groups) ascend (zero, lt, at) =
    let same : (key == group.key) ≡ true = eq-eqb key group.key (sym at) in
    let here : cond (key == group.key) ms 0 ≡ ms = ap (λ b. cond b ms 0) same in
    let none = above key ms groups (λ i d less. let far = ascend.0 i d less in omega arith) in
    let all = sum_by-cons (λ (other : Group). cond (key == other.key) ms 0) group groups in
    omega arith
once key ms (group ∷ groups) ascend (suc k, lt, at) =
    let less = greater groups k ascend.0 (omega arith) at in
    let apart : (key == group.key) ≡ false = ne_eqb key group.key (λ e. absurd (omega arith)) in
    let here : cond (key == group.key) ms 0 ≡ 0 = ap (λ b. cond b ms 0) apart in
    let rest = once key ms groups ascend.1 (k, omega arith, at) in
    let all = sum_by-cons (λ (other : Group). cond (key == other.key) ms 0) group groups in
    omega arith
  where
    greater : (groups : List Group) (k : ℕ) → All (λ (other : Group). group.key < other.key) groups → k < length (map (λ (g : Group). g.key) groups) → slice_index_or (map (λ (g : Group). g.key) groups) k key ≡ key
        → group.key < key
    greater [] k far lt at = absurd (omega arith)
    greater (other ∷ more) zero far lt at = let less : group.key < other.key = All-head (λ (o : Group). group.key < o.key) other more far in omega arith
    greater (other ∷ more) (suc k) far lt at = greater more k (All-tail (λ (o : Group). group.key < o.key) other more far) (omega arith) at

filter_cons : (ms : Kept → ℕ) (p : Kept → Bool) (race : Kept) (kept : List Kept) → sum_by ms (filter p (race ∷ kept)) ≡ cond (p race) (ms race) 0 + sum_by ms (filter p kept)
filter_cons ms p race kept = by (p race)
  where
    by : (b : Bool) → sum_by ms (cond b (race ∷ filter p kept) (filter p kept)) ≡ cond b (ms race) 0 + sum_by ms (filter p kept)
    by true = sum_by-cons ms race (filter p kept)
    by false = omega arith

over_groups : (division : Division) (ms : Kept → ℕ) (groups : List Group) → Ascend groups → (kept : List Kept) → All (λ race. Contains (map (λ (g : Group). g.key) groups) (key_of division race)) kept
    → sum_by (λ (group : Group). sum_by ms (members division group.key kept)) groups ≡ sum_by ms kept
over_groups division ms groups ascend [] all = sum_none groups
over_groups division ms groups ascend (race ∷ kept) all =
    let Has : Kept → Type 0 = λ r. Contains (map (λ (g : Group). g.key) groups) (key_of division r) in
    let here = once (key_of division race) (ms race) groups ascend (All-head Has race kept all) in
    let rest = over_groups division ms groups ascend kept (All-tail Has race kept all) in
    let split = sum_alike (λ (group : Group). sum_by ms (members division group.key (race ∷ kept)))
    (λ (group : Group). cond (key_of division race == group.key) (ms race) 0 + sum_by ms (members division group.key kept)) groups
    (λ group. filter_cons ms (λ r. key_of division r == group.key) race kept) in
    let parts = sum_both (λ (group : Group). cond (key_of division race == group.key) (ms race) 0) (λ (group : Group). sum_by ms (members division group.key kept)) groups in
    let all_races = sum_by-cons ms race kept in
    omega arith

pub groups_add_up : GroupsAddUp
groups_add_up division kept groups are ms = over_groups division ms groups are.ascend kept are.each
