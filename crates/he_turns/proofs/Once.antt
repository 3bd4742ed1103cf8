-- The members of a list, each once: none stands twice, one more member stands last, and what is new comes after what
-- there is.
use Rattle.std.proofs.Common.{◌≡◌, ℕ, zero, suc, ◌+◌, ◌-◌, ◌≤◌, ◌<◌, ◌&&◌, ◌||◌, ◌++◌, Bool, true, false, not, List, [], ◌∷◌, if◌then◌else◌, filter, length, take, get_or, nat_lt, refl, sym, ◌∙◌, ap, arith, inl, inr, length-append}
use Rattle.std.specs.List.{list_all, list_any}
use Rattle.std.proofs.lemmas.Bool.{cases_Bool, cases_lt}
use Rattle.std.proofs.lemmas.List.{append-nil, append_assoc, length-take, take-append-le, take_all}
use Rattle.std.proofs.lemmas.List.Elements.{filter-append}
use Rattle.std.proofs.lemmas.List.Folds.{list_all-append, list_any-append}
use Rattle.std.proofs.Math.Seq.{take-suc}
use Rattle.he_timeline.proofs.Bools.{and_both, and_left, and_right, lt_test, not_lt, or_left_none, or_none, or_right_none}
use Rattle.he_turns.specs.Heard.{each_once, with_new}

pub not_true : (b : Bool) → b ≡ false → not b ≡ true
not_true b e = ap not e

pub from_not : (b : Bool) → not b ≡ true → b ≡ false
from_not true e = cc
from_not false e = refl

module _ {X : Type 0} (p : X → Bool) where
  pub all_kept : (q : X → Bool) (xs : List X) → list_all p xs ≡ true → list_all p (filter q xs) ≡ true
  all_kept q [] h = refl
  all_kept q (x ∷ xs) h = by_head (q x) (all_kept q xs (and_right (p x) _ h))
    where
      by_head : (b : Bool) → list_all p (filter q xs) ≡ true → list_all p (if b then x ∷ filter q xs else filter q xs) ≡ true
      by_head true rest = and_both (p x) _ (and_left (p x) _ h) rest
      by_head false rest = rest

  pub all_own : (xs : List X) → list_all p (filter p xs) ≡ true
  all_own [] = refl
  all_own (x ∷ xs) = by_head (p x) refl (all_own xs)
    where
      by_head : (b : Bool) → p x ≡ b → list_all p (filter p xs) ≡ true → list_all p (if b then x ∷ filter p xs else filter p xs) ≡ true
      by_head true e rest = and_both (p x) _ e rest
      by_head false e rest = rest

  pub all_once : (same : X → X → Bool) (xs : List X) → list_all p xs ≡ true → list_all p (each_once same xs) ≡ true
  all_once same [] h = refl
  all_once same (x ∷ xs) h =
      and_both (p x) _ (and_left (p x) _ h) (all_kept (λ other. not (same x other)) (each_once same xs) (all_once same xs (and_right (p x) _ h)))

  pub all_taken : (n : ℕ) (xs : List X) → list_all p xs ≡ true → list_all p (take n xs) ≡ true
  all_taken zero xs h = refl
  all_taken (suc n) [] h = refl
  all_taken (suc n) (x ∷ xs) h = and_both (p x) _ (and_left (p x) _ h) (all_taken n xs (and_right (p x) _ h))

pub all-weaker : {X : Type 0} (p q : X → Bool) (xs : List X) → ((x : X) → p x ≡ true → q x ≡ true) → list_all p xs ≡ true → list_all q xs ≡ true
all-weaker p q [] weaker h = refl
all-weaker p q (x ∷ xs) weaker h = and_both (q x) _ (weaker x (and_left (p x) _ h)) (all-weaker p q xs weaker (and_right (p x) _ h))

pub all-both : {X : Type 0} (p : X → Bool) (xs ys : List X) → list_all p xs ≡ true → list_all p ys ≡ true → list_all p (xs ++ ys) ≡ true
all-both p xs ys h k = list_all-append p xs ys ∙ and_both (list_all p xs) _ h k

module _ {X : Type 0} (same : X → X → Bool) where
  -- a member that is the same stands in the list
  abbrev pub stands : X → List X → Bool
  stands x xs = list_any (λ other. same other x) xs

  -- no two members are the same
  abbrev pub are_apart : List X → Bool
  are_apart [] = true
  are_apart (x ∷ xs) = not (stands x xs) && are_apart xs

  pub none_kept : (q : X → Bool) (x : X) (xs : List X) → stands x xs ≡ false → stands x (filter q xs) ≡ false
  none_kept q x [] h = refl
  none_kept q x (other ∷ xs) h = by_head (q other) (none_kept q x xs (or_right_none (same other x) _ h))
    where
      by_head : (b : Bool) → stands x (filter q xs) ≡ false → stands x (if b then other ∷ filter q xs else filter q xs) ≡ false
      by_head true rest = or_none (same other x) _ (or_left_none (same other x) _ h) rest
      by_head false rest = rest

  none_taken : (n : ℕ) (x : X) (xs : List X) → stands x xs ≡ false → stands x (take n xs) ≡ false
  none_taken zero x xs h = refl
  none_taken (suc n) x [] h = refl
  none_taken (suc n) x (other ∷ xs) h = or_none (same other x) _ (or_left_none (same other x) _ h) (none_taken n x xs (or_right_none (same other x) _ h))

  apart_kept : (q : X → Bool) (xs : List X) → are_apart xs ≡ true → are_apart (filter q xs) ≡ true
  apart_kept q [] h = refl
  apart_kept q (x ∷ xs) h = by_head (q x) (apart_kept q xs (and_right (not (stands x xs)) _ h))
    where
      by_head : (b : Bool) → are_apart (filter q xs) ≡ true → are_apart (if b then x ∷ filter q xs else filter q xs) ≡ true
      by_head true rest =
          and_both (not (stands x (filter q xs))) _ (not_true _ (none_kept q x xs (from_not _ (and_left (not (stands x xs)) _ h)))) rest
      by_head false rest = rest

  apart_taken : (n : ℕ) (xs : List X) → are_apart xs ≡ true → are_apart (take n xs) ≡ true
  apart_taken zero xs h = refl
  apart_taken (suc n) [] h = refl
  apart_taken (suc n) (x ∷ xs) h =
      and_both (not (stands x (take n xs))) _ (not_true _ (none_taken n x xs (from_not _ (and_left (not (stands x xs)) _ h)))) (apart_taken n xs (and_right (not (stands x xs)) _ h))

  -- a member is found among others where it was found before
  kept_same : (q : X → Bool) (x : X) → ((other : X) → same other x ≡ true → q other ≡ q x) → q x ≡ true → (xs : List X) → stands x (filter q xs) ≡ stands x xs
  kept_same q x alike own [] = refl
  kept_same q x alike own (other ∷ xs) = by_head (q other) refl (kept_same q x alike own xs)
    where
      by_head : (b : Bool) → q other ≡ b → stands x (filter q xs) ≡ stands x xs → stands x (if b then other ∷ filter q xs else filter q xs) ≡ (same other x || stands x xs)
      by_head true e rest = ap (λ (found : Bool). same other x || found) rest
      by_head false e rest = elim (cases_Bool (same other x)) [
        | inl here ↦ let is : q other ≡ q x = alike other here in cc
        | inr gone ↦ rw gone rest
      ]

  -- what is taken with one more member
  take_more : (n : ℕ) (xs : List X) (x : X) (seen : Bool) → stands x xs ≡ seen → take n (xs ++ (if seen then [] else x ∷ [])) ≡ (if nat_lt (length (take n xs)) n && not (stands x (take n xs)) then take n xs ++ x ∷ [] else take n xs)
  take_more n xs x seen is = elim (cases_lt (length xs) n) [
    | inl less ↦ by_seen seen is less (take_all n xs (omega arith))
    | inr full ↦
        let long : length (take n xs) ≡ n = omega (arith, length-take n xs) in
        take-append-le n xs (if seen then [] else x ∷ []) (omega arith) ∙ sym (rw (not_lt (length (take n xs)) n (omega (arith, long))) refl)
  ]
    where
      by_seen : (b : Bool) → stands x xs ≡ b → length xs < n → take n xs ≡ xs → take n (xs ++ (if b then [] else x ∷ [])) ≡ (if nat_lt (length (take n xs)) n && not (stands x (take n xs)) then take n xs ++ x ∷ [] else take n xs)
      by_seen true e less all = ap (take n) (append-nil xs) ∙ sym (rw (all, lt_test (length xs) n less, e) refl)
      by_seen false e less all = take_all n (xs ++ x ∷ []) (omega (arith, length-append xs (x ∷ []))) ∙ sym (rw (all, lt_test (length xs) n less, e) refl)

module _ {X : Type 0} (same : X → X → Bool) (symmetric : (x y : X) → same x y ≡ same y x) (alike : (x y z : X) → same x y ≡ true → same z x ≡ same z y) where
  -- a member is another one than this
  abbrev is_other : X → X → Bool
  is_other x other = not (same x other)

  none_other : (x : X) (xs : List X) → stands same x (filter (is_other x) xs) ≡ false
  none_other x [] = refl
  none_other x (other ∷ xs) = by_head (same x other) refl (none_other x xs)
    where
      by_head : (b : Bool) → same x other ≡ b → stands same x (filter (is_other x) xs) ≡ false → stands same x (if not b then other ∷ filter (is_other x) xs else filter (is_other x) xs) ≡ false
      by_head true e rest = rest
      by_head false e rest = or_none (same other x) _ (symmetric other x ∙ e) rest

  apart_once : (xs : List X) → are_apart same (each_once same xs) ≡ true
  apart_once [] = refl
  apart_once (x ∷ xs) =
      and_both (not (stands same x (filter (is_other x) (each_once same xs)))) _ (not_true _ (none_other x (each_once same xs))) (apart_kept same (is_other x) (each_once same xs) (apart_once xs))

  once_same : (x : X) (xs : List X) → stands same x (each_once same xs) ≡ stands same x xs
  once_same x [] = refl
  once_same x (other ∷ xs) = elim (cases_Bool (same other x)) [
    | inl here ↦ rw here refl
    | inr gone ↦ rw gone (kept_same same (is_other other) x (λ z h. ap not (alike z x other h)) (not_true _ gone) (each_once same xs) ∙ once_same x xs)
  ]

  -- one more member stands last, unless it stands before
  once_more : (xs : List X) (x : X) → each_once same (xs ++ x ∷ []) ≡ each_once same xs ++ (if stands same x xs then [] else x ∷ [])
  once_more [] x = refl
  once_more (other ∷ xs) x =
      ap (λ (found : List X). other ∷ filter (is_other other) found) (once_more xs x)
      ∙ ap (λ (found : List X). other ∷ found) (filter-append (is_other other) (each_once same xs) (if stands same x xs then [] else x ∷ []))
      ∙ ap (λ (found : List X). other ∷ filter (is_other other) (each_once same xs) ++ found) (by_flags (same other x) (stands same x xs) refl)
    where
      by_flags : (again seen : Bool) → same other x ≡ again → filter (is_other other) (if seen then [] else x ∷ []) ≡ (if again || seen then [] else x ∷ [])
      by_flags true true e = refl
      by_flags false true e = refl
      by_flags true false e = rw e refl
      by_flags false false e = rw e refl

  -- at most so many of those that are told and wanted, each once
  module _ (wanted : X → Bool) (most : ℕ) where
    abbrev pub taken : List X → List X
    taken told = take most (each_once same (filter wanted told))

    pub taken-apart : (told : List X) → are_apart same (taken told) ≡ true
    taken-apart told = apart_taken same most (each_once same (filter wanted told)) (apart_once (filter wanted told))

    pub taken-few : (told : List X) → length (taken told) ≤ most
    taken-few told = omega (arith, length-take most (each_once same (filter wanted told)))

    pub taken-all : (told : List X) → list_all wanted (taken told) ≡ true
    taken-all told = all_taken wanted most (each_once same (filter wanted told)) (all_once wanted same (filter wanted told) (all_own wanted told))

    -- what is taken with one more that is told
    pub taken-more : (told : List X) (x : X)
        → taken (told ++ x ∷ []) ≡ (if nat_lt (length (taken told)) most && (wanted x && not (stands same x (taken told))) then taken told ++ x ∷ [] else taken told)
    taken-more told x =
        ap (λ (xs : List X). take most (each_once same xs)) (filter-append wanted told (x ∷ [])) ∙ by_wanted (wanted x) refl
      where
        own : List X
        own = filter wanted told

        by_wanted : (b : Bool) → wanted x ≡ b → take most (each_once same (own ++ filter wanted (x ∷ []))) ≡ (if nat_lt (length (taken told)) most && (wanted x && not (stands same x (taken told))) then taken told ++ x ∷ [] else taken told)
        by_wanted true e =
            rw e (ap (take most) (once_more own x) ∙ take_more same most (each_once same own) x (stands same x own) (once_same x own))
        by_wanted false e =
            rw e (ap (λ (xs : List X). take most (each_once same xs)) (append-nil own) ∙ none (nat_lt (length (taken told)) most))
          where
            none : (b : Bool) → taken told ≡ (if b && false then taken told ++ x ∷ [] else taken told)
            none true = refl
            none false = refl

  stands_sym : (x : X) (xs : List X) → list_any (same x) xs ≡ stands same x xs
  stands_sym x [] = refl
  stands_sym x (other ∷ xs) = ap (λ (b : Bool). b || list_any (same x) xs) (symmetric x other) ∙ ap (λ (b : Bool). same other x || b) (stands_sym x xs)

  apart_both : (xs ys : List X) → are_apart same xs ≡ true → are_apart same ys ≡ true → list_all (λ y. not (list_any (same y) xs)) ys ≡ true → are_apart same (xs ++ ys) ≡ true
  apart_both [] ys h k away = k
  apart_both (x ∷ xs) ys h k away =
      let none : stands same x (xs ++ ys) ≡ false =
      list_any-append (λ other. same other x) xs ys ∙ or_none (stands same x xs) _ (from_not _ (and_left (not (stands same x xs)) _ h)) (none_same ys away) in
      and_both (not (stands same x (xs ++ ys))) _ (not_true _ none)
      (apart_both xs ys (and_right (not (stands same x xs)) _ h) k (all-weaker (λ y. not (list_any (same y) (x ∷ xs))) (λ y. not (list_any (same y) xs)) ys (λ y away. not_true _ (or_right_none (same y x) _ (from_not _ away))) away))
    where
      none_same : (zs : List X) → list_all (λ y. not (list_any (same y) (x ∷ xs))) zs ≡ true → stands same x zs ≡ false
      none_same [] away = refl
      none_same (z ∷ zs) away =
          or_none (same z x) _ (or_left_none (same z x) _ (from_not _ (and_left (not (list_any (same z) (x ∷ xs))) _ away))) (none_same zs (and_right (not (list_any (same z) (x ∷ xs))) _ away))

  -- what there is, and what is new of what is told
  module _ (wanted : X → Bool) (most : ℕ) (has : List X) where
    abbrev is_new : X → Bool
    is_new x = wanted x && not (list_any (same x) has)

    abbrev added : List X → List X
    added told = take (most - length has) (each_once same (filter is_new told))

    pub new-apart : are_apart same has ≡ true → (told : List X) → are_apart same (with_new same wanted most has told) ≡ true
    new-apart h told =
        apart_both has (added told) h (taken-apart is_new (most - length has) told)
        (all-weaker is_new (λ x. not (list_any (same x) has)) (added told) (λ x new. and_right (wanted x) _ new) (taken-all is_new (most - length has) told))

    pub new-few : length has ≤ most → (told : List X) → length (with_new same wanted most has told) ≤ most
    new-few h told = omega (arith, h, length-append has (added told), taken-few is_new (most - length has) told)

    pub new-wanted : (told : List X) → list_all wanted (added told) ≡ true
    new-wanted told = all-weaker is_new wanted (added told) (λ x new. and_left (wanted x) _ new) (taken-all is_new (most - length has) told)

    pub new-none : has ≡ with_new same wanted most has []
    new-none = sym (ap (λ (xs : List X). has ++ xs) (take_none (most - length has)) ∙ append-nil has)
      where
        take_none : (k : ℕ) → ◌≡◌ {A = List X} (take k []) []
        take_none zero = refl
        take_none (suc k) = refl

    -- what there is with one more that is told
    module _ (told : List X) (x : X) where
      abbrev there : List X
      there = with_new same wanted most has told

      abbrev pub fits : List X → Bool
      fits all = nat_lt (length all) most && (wanted x && not (list_any (same x) all))

      room : nat_lt (length there) most ≡ nat_lt (length (added told)) (most - length has)
      room = elim (cases_lt (length there) most) [
        | inl less ↦ lt_test (length there) most less ∙ sym (lt_test (length (added told)) (most - length has) (omega (arith, less, length-append has (added told))))
        | inr full ↦ not_lt (length there) most full ∙ sym (not_lt (length (added told)) (most - length has) (omega (arith, full, length-append has (added told))))
      ]

      both_new : (w a b : Bool) → (w && not (a || b)) ≡ ((w && not a) && not b)
      both_new true true b = refl
      both_new true false b = refl
      both_new false a b = refl

      same_fit : fits there ≡ (nat_lt (length (added told)) (most - length has) && (is_new x && not (stands same x (added told))))
      same_fit =
          let stood : list_any (same x) there ≡ (list_any (same x) has || stands same x (added told)) =
          list_any-append (same x) has (added told) ∙ ap (λ (b : Bool). list_any (same x) has || b) (stands_sym x (added told)) in
          ap (λ (b : Bool). b && (wanted x && not (list_any (same x) there))) room
          ∙ ap (λ (b : Bool). nat_lt (length (added told)) (most - length has) && b)
          (ap (λ (b : Bool). wanted x && not b) stood ∙ both_new (wanted x) (list_any (same x) has) (stands same x (added told)))

      grown : with_new same wanted most has (told ++ x ∷ []) ≡ (if fits there then there ++ x ∷ [] else there)
      grown =
          ap (λ (xs : List X). has ++ xs) (taken-more is_new (most - length has) told x) ∙ by_fit _ ∙ sym (ap (λ (b : Bool). if b then there ++ x ∷ [] else there) same_fit)
        where
          by_fit : (b : Bool) → has ++ (if b then added told ++ x ∷ [] else added told) ≡ (if b then there ++ x ∷ [] else there)
          by_fit true = sym (append_assoc has (added told) (x ∷ []))
          by_fit false = refl

    -- the step of a loop over what is told
    module _ (told all : List X) (i : ℕ) (d x : X) (at : x ≡ get_or told i d) (below : i < length told) (was : all ≡ with_new same wanted most has (take i told)) where
      step : with_new same wanted most has (take (i + 1) told) ≡ (if fits (take i told) x all then all ++ x ∷ [] else all)
      step =
          let suc_is : i + 1 ≡ suc i = omega arith in
          let P : List X → List X = λ xs. if fits (take i told) x xs then xs ++ x ∷ [] else xs in
          ap (λ (k : ℕ). with_new same wanted most has (take k told)) suc_is ∙ ap (with_new same wanted most has) (take-suc told i d below)
          ∙ ap (λ (z : X). with_new same wanted most has (take i told ++ z ∷ [])) (sym at) ∙ grown (take i told) x ∙ ap P (sym was)

      pub new-next : (zs : List X) → fits (take i told) x all ≡ true → zs ≡ all ++ x ∷ [] → zs ≡ with_new same wanted most has (take (i + 1) told)
      new-next zs is more = more ∙ sym (step ∙ ap (λ (b : Bool). if b then all ++ x ∷ [] else all) is)

      pub new-left : fits (take i told) x all ≡ false → all ≡ with_new same wanted most has (take (i + 1) told)
      new-left is = sym (step ∙ ap (λ (b : Bool). if b then all ++ x ∷ [] else all) is)
