-- The interlaced list is the list by keys.
use Rattle.std.proofs.Common.{◌≡◌, ℕ, zero, suc, ◌+◌, ◌-◌, ◌*◌, ◌<◌, ◌≤◌, ◌==◌, ◌&&◌, ◌||◌, ◌++◌, Bool, true, false, not, cond, List, [], ◌∷◌, map, filter, take, drop, refl, sym, ◌∙◌, ap, subst, arith, inl, inr, append_assoc}
use Rattle.std.specs.Prelude.{count_by, nat_lt, IsPermutation}
use Rattle.std.specs.List.{AllByRecursion}
use Rattle.std.proofs.lemmas.Bool.{cases_Bool}
use Rattle.std.proofs.lemmas.Bool.Decides.{nat_tests}
use Rattle.std.proofs.lemmas.List.{append-nil, drop-map, map-append, take-map, take-append-drop}
use Rattle.std.proofs.lemmas.List.Sorted.{IsPermutation-append_comm, IsPermutation-append_right, IsPermutation-cons, IsPermutation-filter_both, IsPermutation-middle, IsPermutation-refl, IsPermutation-trans}
use Rattle.std.proofs.lemmas.List.Sums.{sum_by_push}
use Rattle.he_addr.specs.declared.ip.Family.{Family}
use Rattle.he_addr.specs.declared.ip.Family.TheVariants as families
use Rattle.he_addr.specs.declared.ip.Ip.{Ip}
use Rattle.he_addr.specs.declared.ip.Ip.TheVariants.{V4, V6}
use Rattle.he_addr.specs.Ip.{family_of}
use Rattle.he_plan.specs.Alternating.{alternate, interlace, interlace_by}
use Rattle.he_plan.specs.Interlacing.{IsInterlaced, Numbered, comes_before, interlacing_key, numbered_after}
use Rattle.he_timeline.specs.Timeline.{is_of}
use Rattle.he_plan.proofs.StrictlySorted.{Rises, count_cons, one_if, one_sorted, pairs_from}

-- ---- the numbers within one family
abbrev numbered_from : ℕ → List Ip → List Numbered
numbered_from n [] = []
numbered_from n (ip ∷ ips) = record { ip = ip; number = n } ∷ numbered_from (n + 1) ips

abbrev ips_of : List Numbered → List Ip
ips_of items = map (λ (item : Numbered). item.ip) items

ips_back : (n : ℕ) (ips : List Ip) → ips_of (numbered_from n ips) ≡ ips
ips_back n [] = refl
ips_back n (ip ∷ ips) = ap (λ more. ip ∷ more) (ips_back (n + 1) ips)

drop-numbered_from : (k n : ℕ) (ips : List Ip) → drop k (numbered_from n ips) ≡ numbered_from (n + k) (drop k ips)
drop-numbered_from zero n ips = ap (λ m. numbered_from m ips) (omega arith)
drop-numbered_from (suc k) n [] = refl
drop-numbered_from (suc k) n (ip ∷ ips) = drop-numbered_from k (n + 1) ips ∙ ap (λ m. numbered_from m (drop k ips)) (omega arith)

of_family : (family : Family) (ip : Ip) → is_of family ip ≡ true → family_of ip ≡ family
of_family families.V4 (V4 n) e = refl
of_family families.V4 (V6 n) e = cc
of_family families.V6 (V4 n) e = cc
of_family families.V6 (V6 n) e = refl

of_other : (family : Family) (ip x : Ip) → is_of family ip ≡ false → is_of (family_of ip) x ≡ not (is_of family x)
of_other families.V4 (V4 n) x e = cc
of_other families.V4 (V6 n) (V4 m) e = refl
of_other families.V4 (V6 n) (V6 m) e = refl
of_other families.V6 (V4 n) (V4 m) e = refl
of_other families.V6 (V4 n) (V6 m) e = refl
of_other families.V6 (V6 n) x e = cc

not-true : (b : Bool) → not b ≡ true → b ≡ false
not-true true e = cc
not-true false e = refl

count_push : (p : Ip → Bool) (xs : List Ip) (x : Ip) → count_by p (xs ++ x ∷ []) ≡ count_by p xs + cond (p x) 1 0
count_push p xs x = sum_by_push (λ y. cond (p y) 1 0) xs x

count_same : (p q : Ip → Bool) → ((x : Ip) → p x ≡ q x) → (xs : List Ip) → count_by p xs ≡ count_by q xs
count_same p q e [] = refl
count_same p q e (x ∷ xs) = count_cons p x xs ∙ ap (λ b. one_if b + count_by p xs) (e x) ∙ ap (λ n. one_if (q x) + n) (count_same p q e xs) ∙ sym (count_cons q x xs)

leading_items : (family : Family) (before ips : List Ip)
    → filter (λ (item : Numbered). is_of family item.ip) (numbered_after before ips) ≡ numbered_from (count_by (is_of family) before) (filter (is_of family) ips)
leading_items family before [] = refl
leading_items family before (ip ∷ ips) =
    let more = leading_items family (before ++ ip ∷ []) ips in
    elim (cases_Bool (is_of family ip)) [
      | inl here ↦
          let pushed : count_by (is_of family) (before ++ ip ∷ []) ≡ count_by (is_of family) before + 1 = count_push (is_of family) before ip ∙ ap (λ b. count_by (is_of family) before + cond b 1 0) here in
          let made : ℕ → Numbered = λ n. record { ip = ip; number = n } in
          rw here (
          ap (λ f. made (count_by (is_of f) before) ∷ filter (λ (item : Numbered). is_of family item.ip) (numbered_after (before ++ ip ∷ []) ips)) (of_family family ip here)
          ∙ ap (λ l. made (count_by (is_of family) before) ∷ l) (more ∙ ap (λ n. numbered_from n (filter (is_of family) ips)) pushed)
          )
      | inr gone ↦
          let pushed : count_by (is_of family) (before ++ ip ∷ []) ≡ count_by (is_of family) before = count_push (is_of family) before ip ∙ ap (λ b. count_by (is_of family) before + cond b 1 0) gone ∙ omega arith in
          rw gone (more ∙ ap (λ n. numbered_from n (filter (is_of family) ips)) pushed)
    ]

other_items : (family : Family) (before ips : List Ip)
    → filter (λ (item : Numbered). not (is_of family item.ip)) (numbered_after before ips) ≡ numbered_from (count_by (λ ip. not (is_of family ip)) before) (filter (λ ip. not (is_of family ip)) ips)
other_items family before [] = refl
other_items family before (ip ∷ ips) =
    let apart : Ip → Bool = λ x. not (is_of family x) in
    let more = other_items family (before ++ ip ∷ []) ips in
    elim (cases_Bool (is_of family ip)) [
      | inl here ↦
          let pushed : count_by apart (before ++ ip ∷ []) ≡ count_by apart before = count_push apart before ip ∙ ap (λ b. count_by apart before + cond (not b) 1 0) here ∙ omega arith in
          rw here (more ∙ ap (λ n. numbered_from n (filter apart ips)) pushed)
      | inr gone ↦
          let pushed : count_by apart (before ++ ip ∷ []) ≡ count_by apart before + 1 = count_push apart before ip ∙ ap (λ b. count_by apart before + cond (not b) 1 0) gone in
          let made : ℕ → Numbered = λ n. record { ip = ip; number = n } in
          rw gone (
          ap (λ n. made n ∷ filter (λ (item : Numbered). not (is_of family item.ip)) (numbered_after (before ++ ip ∷ []) ips)) (count_same (is_of (family_of ip)) apart (λ x. of_other family ip x gone) before)
          ∙ ap (λ l. made (count_by apart before) ∷ l) (more ∙ ap (λ n. numbered_from n (filter apart ips)) pushed)
          )
    ]

-- ---- alternation
map-alternate : {X Y : Type 0} (f : X → Y) (xs ys : List X) → map f (alternate xs ys) ≡ alternate (map f xs) (map f ys)
map-alternate f [] ys = refl
map-alternate f (x ∷ xs) [] = refl
map-alternate f (x ∷ xs) (y ∷ ys) = ap (λ l. f x ∷ f y ∷ l) (map-alternate f xs ys)

alternated : {X : Type 0} (xs ys : List X) → IsPermutation (xs ++ ys) (alternate xs ys)
alternated [] ys = IsPermutation-refl ys
alternated (x ∷ xs) [] = subst (λ l. IsPermutation l (x ∷ xs)) (ap (λ l. x ∷ l) (sym (append-nil xs))) (IsPermutation-refl (x ∷ xs))
alternated (x ∷ xs) (y ∷ ys) =
    IsPermutation-cons x (xs ++ y ∷ ys) (y ∷ alternate xs ys)
    (IsPermutation-trans (xs ++ y ∷ ys) (y ∷ (xs ++ ys)) (y ∷ alternate xs ys) (IsPermutation-middle xs y ys) (IsPermutation-cons y (xs ++ ys) (alternate xs ys) (alternated xs ys)))

-- ---- the order by keys
each-filter : {X : Type 0} (p : X → Bool) (xs : List X) → AllByRecursion (λ x. p x ≡ true) (filter p xs)
each-filter p [] = tt
each-filter p (x ∷ xs) =
    elim (cases_Bool (p x)) [
      | inl here ↦ rw here (here, each-filter p xs)
      | inr gone ↦ rw gone (each-filter p xs)
    ]

each-drop : {X : Type 0} (P : X → Type 0) (k : ℕ) (xs : List X) → AllByRecursion P xs → AllByRecursion P (drop k xs)
each-drop P zero xs each = each
each-drop P (suc k) [] each = tt
each-drop P (suc k) (x ∷ xs) each = each-drop P k xs each.1

module _ (leads : Ip → Bool) (count : ℕ) where
  abbrev key : Numbered → ℕ
  key item = cond (leads item.ip) (2 * (item.number + 1 - count)) (2 * item.number + 1)

  abbrev before : Numbered → Numbered → Bool
  before a b = nat_lt (key a) (key b) || (key a == key b && nat_lt a.number b.number)

  abbrev Leading : List Ip → Type 0
  Leading ips = AllByRecursion (λ ip. leads ip ≡ true) ips

  abbrev Other : List Ip → Type 0
  Other ips = AllByRecursion (λ ip. not (leads ip) ≡ true) ips

  key_leading : (ip : Ip) (n : ℕ) → leads ip ≡ true → key (record { ip = ip; number = n }) ≡ 2 * (n + 1 - count)
  key_leading ip n e = ap (λ b. cond b (2 * (n + 1 - count)) (2 * n + 1)) e

  key_other : (ip : Ip) (n : ℕ) → not (leads ip) ≡ true → key (record { ip = ip; number = n }) ≡ 2 * n + 1
  key_other ip n e = let no : leads ip ≡ false = not-true (leads ip) e in ap (λ b. cond b (2 * (n + 1 - count)) (2 * n + 1)) no

  sooner : (k l m n : ℕ) → k < l → (nat_lt k l || (k == l && nat_lt m n)) ≡ true
  sooner k l m n lt = grind (arith, nat_tests)

  lower : (k l m n : ℕ) → k ≡ l → m < n → (nat_lt k l || (k == l && nat_lt m n)) ≡ true
  lower k l m n e lt = grind (arith, nat_tests)

  -- keys above a number
  abbrev Above : ℕ → List Numbered → Type 0
  Above low items = AllByRecursion (λ item. low < key item) items

  above-weaker : (low high : ℕ) (items : List Numbered) → low ≤ high → Above high items → Above low items
  above-weaker low high [] le each = tt
  above-weaker low high (item ∷ items) le each = (omega (arith, each.0), above-weaker low high items le each.1)

  all_later : (a : Numbered) (low : ℕ) (items : List Numbered) → key a ≤ low → Above low items → AllByRecursion (λ b. before a b ≡ true) items
  all_later a low [] le each = tt
  all_later a low (b ∷ items) le each = (sooner (key a) (key b) a.number b.number (omega (arith, le, each.0)), all_later a low items le each.1)

  abbrev Ascends : ℕ → List Numbered → Type 0
  Ascends low items = Above low items × Rises before items

  ascends-cons : (low high : ℕ) (a : Numbered) (items : List Numbered) → low < key a → key a ≤ high → Ascends high items → Ascends low (a ∷ items)
  ascends-cons low high a items above le rest =
      ((above, above-weaker low high items (omega (arith, above, le)) rest.0), (all_later a high items le rest.0, rest.1))

  leading_ascends : (ips : List Ip) (j i : ℕ) → i ≡ count + j → Leading ips → Ascends (2 * j) (numbered_from i ips)
  leading_ascends [] j i e each = (tt, tt)
  leading_ascends (ip ∷ ips) j i e each =
      let is = key_leading ip i each.0 in
      ascends-cons (2 * j) (2 * (j + 1)) (record { ip = ip; number = i }) (numbered_from (i + 1) ips) (omega (arith, is, e)) (omega (arith, is, e))
      (leading_ascends ips (j + 1) (i + 1) (omega arith) each.1)

  other_ascends : (ips : List Ip) (j : ℕ) → Other ips → Ascends (2 * j) (numbered_from j ips)
  other_ascends [] j each = (tt, tt)
  other_ascends (ip ∷ ips) j each =
      let is = key_other ip j each.0 in
      ascends-cons (2 * j) (2 * (j + 1)) (record { ip = ip; number = j }) (numbered_from (j + 1) ips) (omega (arith, is)) (omega (arith, is))
      (other_ascends ips (j + 1) each.1)

  alternate_ascends : (others ips : List Ip) (j i : ℕ) → i ≡ count + j → Other others → Leading ips → Ascends (2 * j) (alternate (numbered_from j others) (numbered_from i ips))
  alternate_ascends [] ips j i e other leading = leading_ascends ips j i e leading
  alternate_ascends (o ∷ others) [] j i e other leading = other_ascends (o ∷ others) j other
  alternate_ascends (o ∷ others) (ip ∷ ips) j i e other leading =
      let first = key_other o j other.0 in
      let second = key_leading ip i leading.0 in
      ascends-cons (2 * j) (2 * j + 1) (record { ip = o; number = j }) (record { ip = ip; number = i } ∷ alternate (numbered_from (j + 1) others) (numbered_from (i + 1) ips)) (omega (arith, first)) (omega (arith, first))
      (ascends-cons (2 * j + 1) (2 * (j + 1)) (record { ip = ip; number = i }) (alternate (numbered_from (j + 1) others) (numbered_from (i + 1) ips)) (omega (arith, second, e)) (omega (arith, second, e))
      (alternate_ascends others ips (j + 1) (i + 1) (omega arith) other.1 leading.1))

  -- the first members of the leading family: with the key 0, by number
  abbrev Firsts : ℕ → List Numbered → Type 0
  Firsts n items = AllByRecursion (λ item. (key item ≡ 0) × (n ≤ item.number)) items

  firsts-weaker : (n m : ℕ) (items : List Numbered) → n ≤ m → Firsts m items → Firsts n items
  firsts-weaker n m [] le each = tt
  firsts-weaker n m (item ∷ items) le each = ((each.0.0, omega (arith, each.0.1)), firsts-weaker n m items le each.1)

  firsts_later : (a : Numbered) (n : ℕ) (items : List Numbered) → key a ≡ 0 → a.number < n → Firsts n items → AllByRecursion (λ b. before a b ≡ true) items
  firsts_later a n [] zero_key lt each = tt
  firsts_later a n (b ∷ items) zero_key lt each =
      (lower (key a) (key b) a.number b.number (zero_key ∙ sym each.0.0) (omega (arith, lt, each.0.1)), firsts_later a n items zero_key lt each.1)

  firsts_ascend : (ips : List Ip) (k n : ℕ) → n + k ≤ count → Leading ips → Firsts n (take k (numbered_from n ips)) × Rises before (take k (numbered_from n ips))
  firsts_ascend ips zero n le each = (tt, tt)
  firsts_ascend [] (suc k) n le each = (tt, tt)
  firsts_ascend (ip ∷ ips) (suc k) n le each =
      let a : Numbered = record { ip = ip; number = n } in
      let is : key a ≡ 0 = let at = key_leading ip n each.0 in omega (arith, at, le) in
      let rest = firsts_ascend ips k (n + 1) (omega arith) each.1 in
      (((is, omega arith), firsts-weaker n (n + 1) (take k (numbered_from (n + 1) ips)) (omega arith) rest.0), (firsts_later a (n + 1) (take k (numbered_from (n + 1) ips)) is (omega arith) rest.0, rest.1))

  each-append : (P : Numbered → Type 0) (xs ys : List Numbered) → AllByRecursion P xs → AllByRecursion P ys → AllByRecursion P (xs ++ ys)
  each-append P [] ys first second = second
  each-append P (x ∷ xs) ys first second = (first.0, each-append P xs ys first.1 second)

  joined : (xs ys : List Numbered) → Firsts 0 xs → Rises before xs → Ascends 0 ys → Rises before (xs ++ ys)
  joined [] ys firsts up rest = rest.1
  joined (x ∷ xs) ys firsts up rest =
      (each-append (λ b. before x b ≡ true) xs ys up.0 (all_later x 0 ys (omega (arith, firsts.0.0)) rest.0), joined xs ys firsts.1 up.1 rest)

  ascending : (ips others : List Ip) → Leading ips → Other others → Rises before (take count (numbered_from 0 ips) ++ alternate (numbered_from 0 others) (drop count (numbered_from 0 ips)))
  ascending ips others leading other =
      let firsts = firsts_ascend ips count 0 (omega arith) leading in
      let rest : Ascends 0 (alternate (numbered_from 0 others) (drop count (numbered_from 0 ips))) =
      subst (λ l. Ascends 0 (alternate (numbered_from 0 others) l)) (sym (drop-numbered_from count 0 ips))
      (alternate_ascends others (drop count ips) 0 (0 + count) (omega arith) other (each-drop (λ ip. leads ip ≡ true) count ips leading)) in
      joined (take count (numbered_from 0 ips)) (alternate (numbered_from 0 others) (drop count (numbered_from 0 ips))) firsts.0 firsts.1 rest

-- ---- both together
moved_first : {X : Type 0} (count : ℕ) (xs ys : List X) → IsPermutation (xs ++ ys) (take count xs ++ alternate ys (drop count xs))
moved_first count xs ys =
    let some = take count xs in
    let rest = drop count xs in
    let whole : some ++ (rest ++ ys) ≡ xs ++ ys = sym (append_assoc some rest ys) ∙ ap (λ l. l ++ ys) (take-append-drop count xs) in
    subst (λ l. IsPermutation l (some ++ alternate ys rest)) whole
    (IsPermutation-append_right some (rest ++ ys) (alternate ys rest) (IsPermutation-trans (rest ++ ys) (ys ++ rest) (alternate ys rest) (IsPermutation-append_comm rest ys) (alternated ys rest)))

items_of : Family → List Ip → ℕ → List Numbered
items_of family ips count =
    take count (numbered_from 0 (filter (is_of family) ips))
    ++ alternate (numbered_from 0 (filter (λ ip. not (is_of family ip)) ips)) (drop count (numbered_from 0 (filter (is_of family) ips)))

items_moved : (family : Family) (ips : List Ip) (count : ℕ) → IsPermutation (numbered_after [] ips) (items_of family ips count)
unfolding items_of
items_moved family ips count =
    let all : List Numbered = numbered_after [] ips in
    let leading : List Numbered = filter (λ (item : Numbered). is_of family item.ip) all in
    let other : List Numbered = filter (λ (item : Numbered). not (is_of family item.ip)) all in
    let split : IsPermutation all (leading ++ other) = IsPermutation-filter_both (λ (item : Numbered). is_of family item.ip) (λ (item : Numbered). not (is_of family item.ip)) (λ item. refl) all in
    let named : IsPermutation all (numbered_from 0 (filter (is_of family) ips) ++ numbered_from 0 (filter (λ ip. not (is_of family ip)) ips)) =
    subst (λ l. IsPermutation all (numbered_from 0 (filter (is_of family) ips) ++ l)) (other_items family [] ips) (subst (λ l. IsPermutation all (l ++ other)) (leading_items family [] ips) split) in
    IsPermutation-trans all _ _ named (moved_first count (numbered_from 0 (filter (is_of family) ips)) (numbered_from 0 (filter (λ ip. not (is_of family ip)) ips)))

items_are : (family : Family) (ips : List Ip) (count : ℕ) → ips_of (items_of family ips count) ≡ interlace_by family ips count
unfolding items_of
items_are family ips count =
    let ip_of : Numbered → Ip = λ item. item.ip in
    let leading : List Ip = filter (is_of family) ips in
    let other : List Ip = filter (λ ip. not (is_of family ip)) ips in
    map-append ip_of (take count (numbered_from 0 leading)) (alternate (numbered_from 0 other) (drop count (numbered_from 0 leading)))
    ∙ ap (λ l. l ++ ips_of (alternate (numbered_from 0 other) (drop count (numbered_from 0 leading)))) (sym (take-map ip_of count (numbered_from 0 leading)) ∙ ap (take count) (ips_back 0 leading))
    ∙ ap (λ l. take count leading ++ l) (
    map-alternate ip_of (numbered_from 0 other) (drop count (numbered_from 0 leading))
    ∙ ap (λ l. alternate l (ips_of (drop count (numbered_from 0 leading)))) (ips_back 0 other)
    ∙ ap (alternate other) (sym (drop-map ip_of count (numbered_from 0 leading)) ∙ ap (drop count) (ips_back 0 leading))
    )

pub interlaced : (ips : List Ip) (count : ℕ) → IsInterlaced ips count (interlace ips count)
unfolding items_of
interlaced [] count = record { items = []; members = IsPermutation-refl []; by_key = λ i j d low high. absurd (omega arith); addresses = refl }
interlaced (first ∷ rest) count =
    let family : Family = family_of first in
    let ips : List Ip = first ∷ rest in
    record {
      items = items_of family ips count;
      members = items_moved family ips count;
      by_key = pairs_from (comes_before ips count) (items_of family ips count) (ascending (is_of family) count (filter (is_of family) ips) (filter (λ ip. not (is_of family ip)) ips) (each-filter (is_of family) ips) (each-filter (λ ip. not (is_of family ip)) ips));
      addresses = sym (items_are family ips count);
    }

one_way : (ips : List Ip) (count : ℕ) (a b : Numbered) → comes_before ips count a b ≡ true → comes_before ips count b a ≡ false
one_way ips count a b = numbers (interlacing_key ips count a) (interlacing_key ips count b) a.number b.number
  where
    numbers : (k l m n : ℕ) → (nat_lt k l || (k == l && nat_lt m n)) ≡ true → (nat_lt l k || (l == k && nat_lt n m)) ≡ false
    numbers k l m n h = grind (arith, nat_tests)

pub interlaced-one : (ips result : List Ip) (count : ℕ) → IsInterlaced ips count result → result ≡ interlace ips count
interlaced-one ips result count given =
    let own : IsInterlaced ips count (interlace ips count) = interlaced ips count in
    given.addresses
    ∙ ap ips_of (one_sorted (comes_before ips count) (one_way ips count) (numbered_after [] ips) given.items own.items given.members own.members given.by_key own.by_key)
    ∙ sym own.addresses
