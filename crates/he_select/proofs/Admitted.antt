-- Rows are a table exactly where the search finds no fault, and the fault that it finds is the first one.
use Rattle.std.proofs.Common.{◌≡◌, ℕ, ◌+◌, ◌<◌, ◌≤◌, ◌==◌, ◌||◌, ◌⊎◌, Bool, true, false, not, nat_lt, List, [], ◌∷◌, length, refl, sym, ◌∙◌, ap, subst, inl, inr, arith, get_or, IsTrue}
use Rattle.std.specs.Prelude.{Option, None, Some, option_map, is_none}
use Rattle.std.specs.Bool.{beq}
use Rattle.std.specs.List.{position_from}
use Rattle.std.specs.Option.{option_or}
use Rattle.std.proofs.lemmas.List.{get_or_default}
use Rattle.std.proofs.lemmas.Bool.{false≢true, both_ways}
use Rattle.std.proofs.lemmas.Bool.Decides.{Decides-eqb, nat_tests}
use Rattle.std.proofs.lemmas.List.Folds.{Any-from_list_any, list_any-from_Any}
use Rattle.he_addr.specs.Prefix.{PrefixBits, is_inside_mapped}
use Rattle.he_select.specs.declared.limits.TheConstants.{ROWS}
use Rattle.he_select.specs.declared.policy.PolicyFault.{PolicyFault}
use Rattle.he_select.specs.declared.policy.PolicyFault.TheVariants as faults
use Rattle.he_select.specs.declared.policy.Row.{Row}
use Rattle.he_select.specs.Faults.{IsTableFault}
use Rattle.he_select.specs.Places.{IsFirstPair, both_at, passes_at}
use Rattle.he_select.specs.Ranges.{most_rows}
use Rattle.he_select.specs.Refusals.{cause_if, first_repeat}
use Rattle.he_select.specs.TableFaults.{has_row, shared_from, table_causes, table_fault}
use Rattle.he_select.specs.Tables.{HasPrefix, HasTableSize, IsAdmitted, PrecedencesApart, PrecedencesDiffer, PrefixesDiffer, any_address, any_v4_address, same_prefix, same_row, shares_precedence}
use Rattle.he_select.proofs.Causes.{cause_none, cause_some, first_of_five, map_none, map_some, none_is, none_of_five, none_stands, not_caused, unmapped}
use Rattle.he_select.proofs.Equality.{and_both, and_left, and_right, prefix_from, prefix_self}
use Rattle.he_select.proofs.Apart.{apart, never_repeats}
use Rattle.he_select.proofs.Least.{first_repeat_least, no_repeat, pair_from, pair_none, pair_some, passes_inside, passes_is}

row_equal : (a b : Row) → same_row a b ≡ true → a.prefix ≡ b.prefix
row_equal a b h = prefix_from a.prefix b.prefix h

row_itself : (a b : Row) → a.prefix ≡ b.prefix → same_row a b ≡ true
row_itself a b e = subst (λ p. same_prefix a.prefix p ≡ true) e (prefix_self a.prefix)

size_fits : (n : ℕ) → (n == 0 || nat_lt ROWS n) ≡ false → (1 ≤ n) × (n ≤ most_rows)
size_fits n h = (grind (arith, nat_tests), grind (arith, nat_tests))

size_tells : (n : ℕ) → (1 ≤ n) × (n ≤ most_rows) → (n == 0 || nat_lt ROWS n) ≡ false
size_tells n h = let some : 1 ≤ n = h.0 in let most : n ≤ 64 = h.1 in grind (arith, nat_tests)

not_no : (b : Bool) → not b ≡ false → b ≡ true
not_no true h = refl
not_no false h = absurd (false≢true (sym h))

has_from : (rows : List Row) (prefix : PrefixBits) → has_row rows prefix ≡ true → HasPrefix rows prefix
has_from rows prefix h =
    let found = Any-from_list_any (λ (row : Row). same_prefix row.prefix prefix) rows h in
    (found.0, found.1, found.2, found.3, prefix_from found.1.prefix prefix found.4)

has_row_from : (rows : List Row) (prefix : PrefixBits) → HasPrefix rows prefix → has_row rows prefix ≡ true
has_row_from rows prefix h =
    list_any-from_Any (λ (row : Row). same_prefix row.prefix prefix) rows (h.0, h.1, h.2, h.3, subst (λ p. same_prefix h.1.prefix p ≡ true) h.4 (prefix_self h.1.prefix))

shared_is : (place : ℕ) (rows : List Row) → shared_from place rows ≡ pair_from shares_precedence place rows
shared_is place [] = refl
shared_is place (row ∷ rows) = ap (option_or (option_map (λ later. (place, later)) (position_from (shares_precedence row) (place + 1) rows))) (shared_is (place + 1) rows)

differ : (x y : Bool) → x ≡ true → y ≡ false → not (beq x y) ≡ true
differ true false h k = refl
differ false y h k = absurd (false≢true h)
differ true true h k = absurd (false≢true (sym k))

differ_back : (x y : Bool) → x ≡ false → y ≡ true → not (beq x y) ≡ true
differ_back false true h k = refl
differ_back true y h k = absurd (false≢true (sym h))
differ_back false false h k = absurd (false≢true k)

both_is : {X : Type 0} (test : X → X → Bool) (xs : List X) (i j : ℕ) (d e : X) → i < length xs → j < length xs → both_at test xs i j ≡ test (get_or xs i d) (get_or xs j e)
both_is test xs i j d e li lj = passes_is (λ x. passes_at (test x) xs j) xs i d li ∙ passes_is (test (get_or xs i d)) xs j e lj

in_order : (i j : ℕ) → (i < j) ⊎ ((i ≡ j) ⊎ (j < i))
in_order i j = grind arith

none_shared : (rows : List Row) → shared_from 0 rows ≡ None → PrecedencesDiffer rows
none_shared rows none i d li j e lj a b same =
    elim (in_order i j) [
      | inl before ↦ pair_none shares_precedence rows 0 (sym (shared_is 0 rows) ∙ none) i j before
          (both_is shares_precedence rows i j d e li lj ∙ and_both _ _ ((Decides-eqb _ _).1 same) (differ _ _ a b))
      | inr other ↦ elim other [
        | inl tied ↦ both_ways (is_inside_mapped (get_or rows j e).prefix) b
            (ap (λ (row : Row). is_inside_mapped row.prefix) (get_or_default rows j e d lj ∙ ap (λ n. get_or rows n d) (sym tied)) ∙ a)
        | inr after ↦ pair_none shares_precedence rows 0 (sym (shared_is 0 rows) ∙ none) j i after
            (both_is shares_precedence rows j i e d lj li ∙ and_both _ _ ((Decides-eqb _ _).1 (sym same)) (differ_back _ _ b a))
      ]
    ]

pub admitted_from : (rows : List Row) → IsTrue (is_none (table_fault rows)) → IsAdmitted rows
unfolding table_fault
admitted_from rows h =
    let n = none_stands (table_causes rows) h in
    record {
      size = size_fits (length rows) (not_caused (length rows == 0 || nat_lt ROWS (length rows)) faults.Size n.0);
      different = apart (λ (row : Row). row.prefix) same_row row_equal row_itself rows (no_repeat same_row rows (none_is _ (unmapped faults.Repeated (first_repeat same_row rows) n.1.0)));
      default = has_from rows any_address (not_no _ (not_caused (not (has_row rows any_address)) faults.NoDefault n.1.1.0));
      mapped = has_from rows any_v4_address (not_no _ (not_caused (not (has_row rows any_v4_address)) faults.NoMapped n.1.1.1.0));
      parted = none_shared rows (none_is _ (unmapped (λ (pair : ℕ × ℕ). faults.SharedPrecedence pair.0 pair.1) (shared_from 0 rows) n.1.1.1.1.0));
    }

no_repeat_from : (rows : List Row) → PrefixesDiffer rows → first_repeat same_row rows ≡ None
no_repeat_from rows pairs = never_repeats (λ (row : Row). row.prefix) same_row row_equal row_itself rows pairs

sides : (a b : Row) → PrecedencesApart a b → PrecedencesApart b a → shares_precedence a b ≡ true → ⊥
sides a b one other h = by_sides (is_inside_mapped a.prefix) (is_inside_mapped b.prefix) refl refl (and_right _ _ h)
  where
    same : a.precedence ≡ b.precedence
    same = (Decides-eqb _ _).0 (and_left _ _ h)

    by_sides : (x y : Bool) → is_inside_mapped a.prefix ≡ x → is_inside_mapped b.prefix ≡ y → not (beq (is_inside_mapped a.prefix) (is_inside_mapped b.prefix)) ≡ true → ⊥
    by_sides true false p q k = one p q same
    by_sides false true p q k = other q p (sym same)
    by_sides true true p q k = false≢true (rw p at (rw q at k))
    by_sides false false p q k = false≢true (rw p at (rw q at k))

inside_both : {X : Type 0} (test : X → X → Bool) (xs : List X) (i j : ℕ) → both_at test xs i j ≡ true → (i < length xs) × (j < length xs)
inside_both {X = X} test xs i j h =
    let first : i < length xs = passes_inside (λ x. passes_at (test x) xs j) xs i h in
    (first, second xs first h)
  where
    second : (ys : List X) → i < length ys → passes_at (λ x. passes_at (test x) xs j) ys i ≡ true → j < length xs
    second [] lt k = absurd (omega arith)
    second (y ∷ ys) lt k = passes_inside (test (get_or (y ∷ ys) i y)) xs j (sym (passes_is (λ x. passes_at (test x) xs j) (y ∷ ys) i y lt) ∙ k)

no_shared_from : (rows : List Row) → PrecedencesDiffer rows → shared_from 0 rows ≡ None
no_shared_from rows parted = by_found (shared_from 0 rows) refl
  where
    at_pair : (ys : List Row) → rows ≡ ys → (i j : ℕ) → both_at shares_precedence rows i j ≡ true → ⊥
    at_pair [] e i j h = false≢true (rw e at h)
    at_pair (y ∷ ys) e i j h =
        let inside = inside_both shares_precedence rows i j h in
        sides (get_or rows i y) (get_or rows j y) (parted i y inside.0 j y inside.1) (parted j y inside.1 i y inside.0) (sym (both_is shares_precedence rows i j y y inside.0 inside.1) ∙ h)

    by_found : (o : Option (ℕ × ℕ)) → shared_from 0 rows ≡ o → shared_from 0 rows ≡ None
    by_found None e = e
    by_found (Some p) e =
        let pair = pair_some shares_precedence rows 0 p.0 p.1 (sym (shared_is 0 rows) ∙ e) in
        absurd (at_pair rows refl pair.m pair.n pair.is.holds)

abbrev size_cause : List Row → Option PolicyFault
size_cause rows = cause_if (length rows == 0 || nat_lt ROWS (length rows)) faults.Size

abbrev repeat_cause : List Row → Option PolicyFault
repeat_cause rows = option_map faults.Repeated (first_repeat same_row rows)

abbrev prefix_cause : List Row → PrefixBits → PolicyFault → Option PolicyFault
prefix_cause rows prefix fault = cause_if (not (has_row rows prefix)) fault

abbrev shared : ℕ × ℕ → PolicyFault
shared pair = faults.SharedPrecedence pair.0 pair.1

abbrev shared_cause : List Row → Option PolicyFault
shared_cause rows = option_map shared (shared_from 0 rows)

pub no_fault_from : (rows : List Row) → IsAdmitted rows → table_fault rows ≡ None
unfolding table_fault
no_fault_from rows h =
    none_of_five (size_cause rows) (repeat_cause rows) (prefix_cause rows any_address faults.NoDefault) (prefix_cause rows any_v4_address faults.NoMapped) (shared_cause rows)
    (ap (λ b. cause_if b faults.Size) (size_tells (length rows) h.size))
    (ap (option_map faults.Repeated) (no_repeat_from rows h.different))
    (ap (λ b. cause_if (not b) faults.NoDefault) (has_row_from rows any_address h.default))
    (ap (λ b. cause_if (not b) faults.NoMapped) (has_row_from rows any_v4_address h.mapped))
    (ap (option_map shared) (no_shared_from rows h.parted))

sized : (rows : List Row) → size_cause rows ≡ None → HasTableSize rows
sized rows e = size_fits (length rows) (cause_none (length rows == 0 || nat_lt ROWS (length rows)) faults.Size e)

different : (rows : List Row) → repeat_cause rows ≡ None → PrefixesDiffer rows
different rows e = apart (λ (row : Row). row.prefix) same_row row_equal row_itself rows (no_repeat same_row rows (map_none faults.Repeated (first_repeat same_row rows) e))

has_prefix : (rows : List Row) (prefix : PrefixBits) (fault : PolicyFault) → prefix_cause rows prefix fault ≡ None → HasPrefix rows prefix
has_prefix rows prefix fault e = has_from rows prefix (not_no (has_row rows prefix) (cause_none (not (has_row rows prefix)) fault e))

lacks : (rows : List Row) (prefix : PrefixBits) → not (has_row rows prefix) ≡ true → HasPrefix rows prefix → ⊥
lacks rows prefix h has = false≢true (ap not (sym (has_row_from rows prefix has)) ∙ h)

pub first_table_fault : (rows : List Row) (fault : PolicyFault) → table_fault rows ≡ Some fault → IsTableFault rows fault
unfolding table_fault
first_table_fault rows fault e =
    let P : PolicyFault → Type 0 = IsTableFault rows in
    first_of_five (size_cause rows) (repeat_cause rows) (prefix_cause rows any_address faults.NoDefault) (prefix_cause rows any_v4_address faults.NoMapped) (shared_cause rows)
    fault (P fault) e
    (λ here. let is = cause_some (length rows == 0 || nat_lt ROWS (length rows)) faults.Size fault here in
    subst P is.1 (λ (size : HasTableSize rows). both_ways (length rows == 0 || nat_lt ROWS (length rows)) (size_tells (length rows) size) is.0))
    (λ a here. let is = map_some faults.Repeated (first_repeat same_row rows) fault here in
    subst P is.2 (sized rows a, first_repeat_least same_row rows is.0 is.1))
    (λ a b here. let is = cause_some (not (has_row rows any_address)) faults.NoDefault fault here in
    subst P is.1 (sized rows a, different rows b, lacks rows any_address is.0))
    (λ a b c here. let is = cause_some (not (has_row rows any_v4_address)) faults.NoMapped fault here in
    subst P is.1 (sized rows a, different rows b, has_prefix rows any_address faults.NoDefault c, lacks rows any_v4_address is.0))
    (λ a b c d here. let is = map_some shared (shared_from 0 rows) fault here in
    subst P is.2 (sized rows a, different rows b, has_prefix rows any_address faults.NoDefault c, has_prefix rows any_v4_address faults.NoMapped d, first_shared rows is.0 is.1))
  where
    first_shared : (rows : List Row) (p : ℕ × ℕ) → shared_from 0 rows ≡ Some p → IsFirstPair shares_precedence rows p.0 p.1
    first_shared rows p e =
        let pair = pair_some shares_precedence rows 0 p.0 p.1 (sym (shared_is 0 rows) ∙ e) in
        let Q : ℕ → ℕ → Type 0 = IsFirstPair shares_precedence rows in
        let first : pair.m ≡ p.0 = omega (arith, pair.first) in
        let second : pair.n ≡ p.1 = omega (arith, pair.second) in
        subst (λ i. Q i p.1) first (subst (λ j. Q pair.m j) second pair.is)

pub no_fault : (rows : List Row) → IsAdmitted rows → IsTrue (is_none (table_fault rows))
no_fault rows h = ap is_none (no_fault_from rows h)

-- what the search answers, as a table is made of it
pub admitted_by : (rows : List Row) (answer : Option PolicyFault) → answer ≡ table_fault rows → answer ≡ None → IsAdmitted rows
admitted_by rows answer is none = admitted_from rows (ap is_none (sym is ∙ none))
