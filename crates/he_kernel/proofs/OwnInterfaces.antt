-- A source on the interface of the route alone is the destination's, where no early rule prefers another.
use Rattle.std.proofs.Common.{◌≡◌, ◌⊎◌, ℕ, ◌==◌, ◌||◌, Bool, true, false, not, cond, nat_lt, List, [], ◌∷◌, refl, sym, ◌∙◌, ap, subst, inl, inr, arith}
use Rattle.std.specs.Prelude.{Option, Some, filter, find}
use Rattle.std.specs.Bool.{beq}
use Rattle.std.specs.List.{list_any}
use Rattle.std.specs.Option.{option_map_or}
use Rattle.std.specs.declared.cmp.Ordering.{Ordering}
use Rattle.std.specs.declared.cmp.Ordering.TheVariants.{Less, Equal, Greater}
use Rattle.std.specs.Ordering.{bool_cmp, is_lt, nat_cmp, ordering_reverse, ordering_then}
use Rattle.std.proofs.lemmas.Bool.{cases_Bool, false≢true}
use Rattle.std.proofs.lemmas.Bool.Decides.{nat_tests}
use Rattle.std.proofs.lemmas.Cmp.{nat_cmp_total, tied_itself}
use Rattle.he_addr.specs.declared.ip.Ip.{Ip}
use Rattle.he_addr.specs.Ip.{is_v6, scope_of}
use Rattle.he_addr.specs.Prefix.{common_of}
use Rattle.he_select.specs.declared.host.Route.{Route}
use Rattle.he_select.specs.declared.host.Source.{Source}
use Rattle.he_select.specs.Rules.{best_by, first_of}
use Rattle.he_select.specs.Selection.{SelectionInput, avoids_deprecated, by_appropriate_scope, candidates, is_better, is_candidate, link_scope, prefers_appropriate_scope, prefers_longest_match, prefers_matching_label, prefers_same_address, prefers_temporary, route_of, source_of, source_rules}
use Rattle.he_select.specs.Tables.{label_of}
use Rattle.he_kernel.specs.OwnInterfaces.{Among, IsAloneOnWay, OwnInterfaceDecides}

-- lists

any_here : {X : Type 0} (test : X → Bool) (xs : List X) (x : X) → Among x xs → test x ≡ true → list_any test xs ≡ true
any_here test [] x none passes = absurd none
any_here test (y ∷ ys) x (inl same) passes = ap (λ z. test z || list_any test ys) (sym same) ∙ ap (λ b. b || list_any test ys) passes
any_here test (y ∷ ys) x (inr later) passes =
    elim (cases_Bool (test y)) [
      | inl here ↦ ap (λ b. b || list_any test ys) here
      | inr other ↦ ap (λ b. b || list_any test ys) other ∙ any_here test ys x later passes
    ]

any_nowhere : {X : Type 0} (test : X → Bool) (xs : List X) → ((x : X) → Among x xs → test x ≡ false) → list_any test xs ≡ false
any_nowhere test [] fails = refl
any_nowhere test (y ∷ ys) fails = ap (λ b. b || list_any test ys) (fails y (inl refl)) ∙ any_nowhere test ys (λ x among. fails x (inr among))

find_one : {X : Type 0} (test : X → Bool) (xs : List X) (x : X) → Among x xs → test x ≡ true
    → ((y : X) → Among y xs → test y ≡ true → y ≡ x) → find test xs ≡ Some x
find_one test [] x none passes only = absurd none
find_one test (y ∷ ys) x among passes only =
    elim (cases_Bool (test y)) [
      | inl here ↦ rw here (ap Some (only y (inl refl) here))
      | inr other ↦ rw other (elim among [
        | inl same ↦ absurd (false≢true (sym other ∙ ap test (sym same) ∙ passes))
        | inr later ↦ find_one test ys x later passes (λ z amongst. only z (inr amongst))
      ])
    ]

-- of a list the one that each other one is worse than is the best
best_one : {X : Type 0} (better : X → X → Bool) (xs : List X) (x : X) → Among x xs
    → ((y : X) → Among y xs → better y x ≡ false) → ((y : X) → Among y xs → (y ≡ x) ⊎ (better x y ≡ true)) → best_by better xs ≡ Some x
best_one better xs x among none others =
    find_one (λ z. not (list_any (λ y. better y z) xs)) xs x among (ap not (any_nowhere (λ y. better y x) xs none))
    (λ y amongst unbeaten. elim (others y amongst) [
      | inl same ↦ same
      | inr beaten ↦ absurd (false≢true (sym (ap not (any_here (λ z. better z y) xs x among beaten)) ∙ unbeaten))
    ])

in_filter : {X : Type 0} (test : X → Bool) (xs : List X) (x : X) → Among x xs → test x ≡ true → Among x (filter test xs)
in_filter test [] x none passes = absurd none
in_filter test (y ∷ ys) x among passes =
    elim (cases_Bool (test y)) [
      | inl here ↦ rw here (elim among [ inl same ↦ inl same | inr later ↦ inr (in_filter test ys x later passes) ])
      | inr other ↦ rw other (elim among [
        | inl same ↦ absurd (false≢true (sym other ∙ ap test (sym same) ∙ passes))
        | inr later ↦ in_filter test ys x later passes
      ])
    ]

of_filter : {X : Type 0} (test : X → Bool) (xs : List X) (x : X) → Among x (filter test xs) → Among x xs
of_filter test [] x none = absurd none
of_filter test (y ∷ ys) x among =
    elim (cases_Bool (test y)) [
      | inl here ↦ elim (subst (λ (b : Bool). Among x (cond b (y ∷ filter test ys) (filter test ys))) here among) [
        | inl same ↦ inl same
        | inr later ↦ inr (of_filter test ys x later)
      ]
      | inr other ↦ inr (of_filter test ys x (subst (λ (b : Bool). Among x (cond b (y ∷ filter test ys) (filter test ys))) other among))
    ]

-- orderings

bool_turns : (a b : Bool) → bool_cmp b a ≡ ordering_reverse (bool_cmp a b)
bool_turns true true = refl
bool_turns true false = refl
bool_turns false true = refl
bool_turns false false = refl

bool_itself : (b : Bool) → bool_cmp b b ≡ Equal
bool_itself true = refl
bool_itself false = refl

not_both : (m n : ℕ) → nat_lt m n ≡ true → nat_lt n m ≡ false
not_both m n below = grind (arith, nat_tests, below)

scopes_turn : (ab ba under over : Bool) → (ab ≡ true → ba ≡ false)
    → cond ba (cond over Greater Less) (cond ab (cond under Less Greater) Equal) ≡ ordering_reverse (cond ab (cond under Greater Less) (cond ba (cond over Less Greater) Equal))
scopes_turn true true under over apart = absurd (false≢true (sym (apart refl)))
scopes_turn true false true over apart = refl
scopes_turn true false false over apart = refl
scopes_turn false true under true apart = refl
scopes_turn false true under false apart = refl
scopes_turn false false under over apart = refl

scope_turns : (scope a b : ℕ) → by_appropriate_scope scope b a ≡ ordering_reverse (by_appropriate_scope scope a b)
scope_turns scope a b = scopes_turn (nat_lt a b) (nat_lt b a) (nat_lt a scope) (nat_lt b scope) (not_both a b)

-- what is not decided for the other one early is decided later
later_decides : (x y z w : Ordering) → is_lt (ordering_then x (ordering_then y (ordering_then z Equal))) ≡ false → is_lt w ≡ false
    → is_lt (ordering_then x (ordering_then y (ordering_then z w))) ≡ false
later_decides Less y z w early late = early
later_decides Greater y z w early late = refl
later_decides Equal Less z w early late = early
later_decides Equal Greater z w early late = refl
later_decides Equal Equal Less w early late = early
later_decides Equal Equal Greater w early late = refl
later_decides Equal Equal Equal w early late = late

turned_decides : (x y z w : Ordering) → is_lt (ordering_then x (ordering_then y (ordering_then z Equal))) ≡ false → is_lt w ≡ true
    → is_lt (ordering_then (ordering_reverse x) (ordering_then (ordering_reverse y) (ordering_then (ordering_reverse z) w))) ≡ true
turned_decides Less y z w early late = absurd (false≢true (sym early))
turned_decides Greater y z w early late = refl
turned_decides Equal Less z w early late = absurd (false≢true (sym early))
turned_decides Equal Greater z w early late = refl
turned_decides Equal Equal Less w early late = absurd (false≢true (sym early))
turned_decides Equal Equal Greater w early late = refl
turned_decides Equal Equal Equal w early late = late

turned_so : (x y z x' y' z' w : Ordering) → x' ≡ ordering_reverse x → y' ≡ ordering_reverse y → z' ≡ ordering_reverse z
    → is_lt (ordering_then x (ordering_then y (ordering_then z Equal))) ≡ false → is_lt w ≡ true
    → is_lt (ordering_then x' (ordering_then y' (ordering_then z' w))) ≡ true
turned_so x y z x' y' z' w a b c early late = rw (a, b, c) (turned_decides x y z w early late)

-- sources

module _ (input : SelectionInput) (ip : Ip) (route : Route) (source : Source) (alone : IsAloneOnWay input ip route source) where
  abbrev is_on_way : Source → Bool
  is_on_way s = option_map_or (λ (r : Route). s.interface == r.interface) (route_of input ip) false

  on_way : (s : Source) → is_on_way s ≡ (s.interface == route.interface)
  on_way s = ap (λ (o : Option Route). option_map_or (λ (r : Route). s.interface == r.interface) o false) alone.routed

  is_own : is_on_way source ≡ true
  is_own = on_way source ∙ grind (arith, nat_tests, alone.way)

  abbrev late : Source → Source → Ordering
  late a b = first_of (prefers_matching_label input ip ∷ prefers_temporary ∷ prefers_longest_match ip ∷ []) a b

  nat_itself : (n : ℕ) → nat_cmp n n ≡ Equal
  nat_itself n = tied_itself nat_cmp_total n

  late_itself : late source source ≡ Equal
  late_itself =
      ap (λ o. ordering_then o (first_of (prefers_temporary ∷ prefers_longest_match ip ∷ []) source source)) (bool_itself (label_of input.rows source.ip == label_of input.rows ip))
      ∙ ap (λ o. ordering_then o (first_of (prefers_longest_match ip ∷ []) source source)) (bool_itself source.temporary)
      ∙ ap (λ o. ordering_then o Equal) (nat_itself (common_of source.ip source.plen ip))

  not_itself : is_better input ip source source ≡ false
  unfolding source_rules
  not_itself =
      later_decides (prefers_same_address ip source source) (prefers_appropriate_scope ip source source) (avoids_deprecated source source) (ordering_then (bool_cmp (is_on_way source) (is_on_way source)) (late source source)) (alone.early source alone.listed)
      (ap (λ o. is_lt (ordering_then o (late source source))) (bool_itself (is_on_way source)) ∙ ap is_lt late_itself)

  none_better : (other : Source) → Among other input.sources → is_better input ip other source ≡ false
  unfolding source_rules
  none_better other among =
      elim (alone.alone other among) [
        | inl same ↦ ap (λ (o : Source). is_better input ip o source) same ∙ not_itself
        | inr apart ↦
            later_decides (prefers_same_address ip other source) (prefers_appropriate_scope ip other source) (avoids_deprecated other source) (ordering_then (bool_cmp (is_on_way source) (is_on_way other)) (late other source)) (alone.early other among)
            (ap (λ (b : Bool). is_lt (ordering_then (bool_cmp b (is_on_way other)) (late other source))) is_own
            ∙ ap (λ (b : Bool). is_lt (ordering_then (bool_cmp true b) (late other source))) (on_way other ∙ apart))
      ]

  beats_others : (other : Source) → Among other input.sources → (other ≡ source) ⊎ (is_better input ip source other ≡ true)
  unfolding source_rules
  beats_others other among =
      elim (alone.alone other among) [
        | inl same ↦ inl same
        | inr apart ↦ inr (turned_so _ _ _ _ _ _ _
            (bool_turns _ _) (scope_turns (scope_of ip) (scope_of other.ip) (scope_of source.ip)) (bool_turns _ _) (alone.early other among)
            (ap (λ (b : Bool). is_lt (ordering_then (bool_cmp (is_on_way other) b) (late source other))) is_own
            ∙ ap (λ (b : Bool). is_lt (ordering_then (bool_cmp b true) (late source other))) (on_way other ∙ apart)))
      ]

  beq_itself : (b : Bool) → beq b b ≡ true
  beq_itself true = refl
  beq_itself false = refl

  or_true : (b : Bool) → (b || true) ≡ true
  or_true true = refl
  or_true false = refl

  is_fit : is_candidate route ip source ≡ true
  is_fit =
      rw (alone.family, beq_itself (is_v6 ip))
      (ap (λ (b : Bool). not (scope_of ip == link_scope) || b) (sym (on_way source) ∙ is_own) ∙ or_true (not (scope_of ip == link_scope)))

  decided : source_of input ip ≡ Some source
  unfolding source_of candidates
  decided =
      ap (λ (o : Option Route). best_by (is_better input ip) (option_map_or (λ (r : Route). filter (is_candidate r ip) input.sources) o [])) alone.routed
      ∙ best_one (is_better input ip) (filter (is_candidate route ip) input.sources) source
      (in_filter (is_candidate route ip) input.sources source alone.listed is_fit)
      (λ other among. none_better other (of_filter (is_candidate route ip) input.sources other among))
      (λ other among. beats_others other (of_filter (is_candidate route ip) input.sources other among))

pub own_interface_law : OwnInterfaceDecides
own_interface_law input ip route source alone = decided input ip route source alone
