-- Interlacing two lists: a step of it, its end, and what it keeps.
use Rattle.std.proofs.Common.{◌≡◌, ℕ, ◌≤◌, ◌⊎◌, ◌||◌, ◌++◌, Bool, true, false, cond, not, List, [], ◌∷◌, filter, take, drop, length, refl, sym, ◌∙◌, ap, arith, inl, inr, append_assoc}
use Rattle.std.specs.List.{list_any}
use Rattle.std.proofs.lemmas.Grind.{common_steps}
use Rattle.std.proofs.lemmas.List.{drop_all, append-nil, take-append-drop}
use Rattle.std.proofs.lemmas.List.Folds.{list_any-append}
use Rattle.std.proofs.lemmas.List.Sorted.{IsPermutation-filter_both, list_any-IsPermutation}
use Rattle.he_addr.specs.declared.ip.Family.{Family}
use Rattle.he_addr.specs.declared.ip.Ip.{Ip}
use Rattle.he_addr.specs.Ip.{family_of}
use Rattle.he_plan.specs.Alternating.{alternate, interlace_by, interlace}
use Rattle.he_timeline.specs.Timeline.{is_of}

pub alternate-nil : (xs : List Ip) → alternate xs [] ≡ xs
alternate-nil [] = refl
alternate-nil (x ∷ xs) = refl

alternate-either : (xs ys : List Ip) → (xs ≡ []) ⊎ (ys ≡ []) → alternate xs ys ≡ xs ++ ys
alternate-either xs ys (inl e) = rw e refl
alternate-either xs ys (inr e) = rw e (alternate-nil xs ∙ sym (append-nil xs))

alternate-end : (xs ys : List Ip) (i : ℕ) → (length xs ≤ i) ⊎ (length ys ≤ i) → alternate (drop i xs) (drop i ys) ≡ drop i xs ++ drop i ys
alternate-end xs ys i (inl h) = alternate-either (drop i xs) (drop i ys) (inl (drop_all i xs h))
alternate-end xs ys i (inr h) = alternate-either (drop i xs) (drop i ys) (inr (drop_all i ys h))

-- what is put together where one list has run out
pub alternate-whole : (done whole xs ys : List Ip) (i : ℕ) → (length xs ≤ i) ⊎ (length ys ≤ i) → done ++ alternate (drop i xs) (drop i ys) ≡ whole → (done ++ drop i xs) ++ drop i ys ≡ whole
alternate-whole done whole xs ys i out is =
    append_assoc done (drop i xs) (drop i ys)
    ∙ ap (λ zs. done ++ zs) (sym (alternate-end xs ys i out))
    ∙ is

-- four tests in another order
or_across : (a b c d : Bool) → (a || (b || (c || d))) ≡ ((a || c) || (b || d))
or_across true b c d = refl
or_across false true true d = refl
or_across false true false d = refl
or_across false false c d = refl

list_any-alternate : (p : Ip → Bool) (xs ys : List Ip) → list_any p (alternate xs ys) ≡ (list_any p xs || list_any p ys)
list_any-alternate p [] ys = refl
list_any-alternate p (x ∷ xs) [] = grind (arith, common_steps)
list_any-alternate p (x ∷ xs) (y ∷ ys) = rw (list_any-alternate p xs ys) (or_across (p x) (p y) (list_any p xs) (list_any p ys))

or_between : (a b c : Bool) → (a || (b || c)) ≡ ((a || c) || b)
or_between true b c = refl
or_between false true true = refl
or_between false true false = refl
or_between false false c = grind (arith, common_steps)

list_any-interlace_by : (p : Ip → Bool) (family : Family) (ips : List Ip) (count : ℕ) → list_any p (interlace_by family ips count) ≡ list_any p ips
list_any-interlace_by p family ips count =
    let leading : List Ip = filter (is_of family) ips in
    let other : List Ip = filter (λ ip. not (is_of family ip)) ips in
    list_any-append p (take count leading) (alternate other (drop count leading))
    ∙ rw (list_any-alternate p other (drop count leading))
    (or_between (list_any p (take count leading)) (list_any p other) (list_any p (drop count leading))
    ∙ ap (λ b. b || list_any p other) (sym (list_any-append p (take count leading) (drop count leading)) ∙ ap (list_any p) (take-append-drop count leading))
    ∙ sym (list_any-append p leading other)
    ∙ sym (list_any-IsPermutation p ips (leading ++ other) (IsPermutation-filter_both (is_of family) (λ ip. not (is_of family ip)) (λ ip. refl) ips)))

pub list_any-interlace : (p : Ip → Bool) (ips : List Ip) (count : ℕ) → list_any p (interlace ips count) ≡ list_any p ips
list_any-interlace p [] count = refl
list_any-interlace p (first ∷ ips) count = list_any-interlace_by p (family_of first) (first ∷ ips) count

pub filter_short : (p : Ip → Bool) (ips : List Ip) → length (filter p ips) ≤ length ips
filter_short p [] = omega arith
filter_short p (ip ∷ ips) = by_head (p ip) (filter_short p ips)
  where
    by_head : (b : Bool) → length (filter p ips) ≤ length ips → length (cond b (ip ∷ filter p ips) (filter p ips)) ≤ length (ip ∷ ips)
    by_head true short = omega (arith, short)
    by_head false short = omega (arith, short)

-- where as many pass as there are, none fails
none_other : (p : Ip → Bool) (ips : List Ip) → length (filter p ips) ≡ length ips → filter (λ ip. not (p ip)) ips ≡ []
none_other p [] all = refl
none_other p (ip ∷ ips) all = by_head (p ip) all (none_other p ips)
  where
    by_head : (b : Bool) → length (cond b (ip ∷ filter p ips) (filter p ips)) ≡ length (ip ∷ ips) → (length (filter p ips) ≡ length ips → filter (λ x. not (p x)) ips ≡ []) → cond (not b) (ip ∷ filter (λ x. not (p x)) ips) (filter (λ x. not (p x)) ips) ≡ []
    by_head true all rest = rest (omega (arith, all))
    by_head false all rest = absurd (omega (arith, all, filter_short p ips))

-- one family alone stays in its order
pub alone-interlace_by : (family : Family) (ips : List Ip) (count : ℕ) → length (filter (is_of family) ips) ≡ length ips → filter (is_of family) ips ≡ interlace_by family ips count
alone-interlace_by family ips count all =
    let leading : List Ip = filter (is_of family) ips in
    sym (ap (λ other. take count leading ++ alternate other (drop count leading)) (none_other (is_of family) ips all) ∙ take-append-drop count leading)
