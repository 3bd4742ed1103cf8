-- What stands for items, found from the first item on.
use Rattle.std.proofs.Common.{◌≡◌, ℕ, ◌+◌, ◌<◌, ◌≤◌, ◌++◌, List, [], ◌∷◌, length, drop, get_or, map, refl, sym, ◌∙◌, ap, subst, add-one, append_assoc, append-nil, drop-cons, inl, inr}
use Rattle.std.proofs.lemmas.List.{drop_all}
use Rattle.he_settings.specs.Plans.{StandFor}

none_more : {Y Z : Type 0} (Is : Z → Y → Type 0) (Lacks : Z → Type 0) (item : Z) (items : List Z) (ys : List Y)
    → Lacks item → StandFor Is Lacks items ys → StandFor Is Lacks (item ∷ items) ys
none_more Is Lacks item items [] none rest = (none, rest)
none_more Is Lacks item items (y ∷ ys) none rest = inr (none, rest)

next : {X : Type 0} (xs : List X) (i : ℕ) (item : X) → i < length xs → item ≡ get_or xs i item → drop i xs ≡ item ∷ drop (i + 1) xs
next {X = X} xs i item below is = (rw add-one (drop-cons xs i item below)) ∙ ap (λ (x : X). x ∷ drop (i + 1) xs) (sym is)

module _ {X Y Z : Type 0} (Is : Z → Y → Type 0) (Lacks : Z → Type 0) (of : X → Z) (xs : List X) (i : ℕ) where
  pub one_stands : (item : X) → i < length xs → item ≡ get_or xs i item → (ys : List Y) (y : Y) (new : List Y)
      → new ≡ ys ++ y ∷ [] → Is (of item) y
      → ((later : List Y) → StandFor Is Lacks (map of (drop i xs)) later → StandFor Is Lacks (map of xs) (ys ++ later))
      → (later : List Y) → StandFor Is Lacks (map of (drop (i + 1) xs)) later → StandFor Is Lacks (map of xs) (new ++ later)
  one_stands item below is ys y new added stands before later rest =
      let there : StandFor Is Lacks (map of (drop i xs)) (y ∷ later) =
      subst (λ (all : List X). StandFor Is Lacks (map of all) (y ∷ later)) (sym (next xs i item below is)) (inl (stands, rest)) in
      subst (λ (all : List Y). StandFor Is Lacks (map of xs) all)
      (sym (ap (λ (ns : List Y). ns ++ later) added ∙ append_assoc ys (y ∷ []) later)) (before (y ∷ later) there)

  pub none_stands : (item : X) → i < length xs → item ≡ get_or xs i item → (ys new : List Y) → new ≡ ys → Lacks (of item)
      → ((later : List Y) → StandFor Is Lacks (map of (drop i xs)) later → StandFor Is Lacks (map of xs) (ys ++ later))
      → (later : List Y) → StandFor Is Lacks (map of (drop (i + 1) xs)) later → StandFor Is Lacks (map of xs) (new ++ later)
  none_stands item below is ys new same none before later rest =
      subst (λ (all : List Y). StandFor Is Lacks (map of xs) (all ++ later)) (sym same) (
      before later (
      subst (λ (all : List X). StandFor Is Lacks (map of all) later) (sym (next xs i item below is))
      (none_more Is Lacks (of item) (map of (drop (i + 1) xs)) later none rest)
      )
      )

  pub all_stand : length xs ≤ i → (ys : List Y)
      → ((later : List Y) → StandFor Is Lacks (map of (drop i xs)) later → StandFor Is Lacks (map of xs) (ys ++ later))
      → StandFor Is Lacks (map of xs) ys
  all_stand past ys before =
      let end : StandFor Is Lacks (map of (drop i xs)) [] =
      subst (λ (all : List X). StandFor Is Lacks (map of all) []) (sym (drop_all i xs past)) refl in
      subst (λ (all : List Y). StandFor Is Lacks (map of xs) all) (append-nil ys) (before [] end)
