-- Lines that fit together: the checks of a line by the lines before it find nothing wrong, and where they don't, one
-- more line fits.
use Rattle.std.proofs.Common.{◌≡◌, ℕ, ◌+◌, ◌<◌, ◌≤◌, Bool, true, false, cond, leb, ltb, eqb, List, [], ◌∷◌, ◌++◌, Option, Some, None, refl, sym, ◌∙◌, ap, subst, arith}
use Rattle.std.specs.Prelude.{IfSome}
use Rattle.std.specs.List.{count_by}
use Rattle.std.proofs.lemmas.Bool.{le-ltb, lt-leb, leb-false, leb-true, le-leb, ltb-false, eq-eqb, eqb-true, and_parts, and_from}
use Rattle.std.proofs.lemmas.List.Sums.{sum_by-append, sum_by-cons, sum_by_push}
use Rattle.he_addr.specs.declared.ip.Family.{Family}
use Rattle.he_addr.specs.declared.ip.Family.TheVariants as families
use Rattle.he_addr.specs.declared.ip.Ip.{Ip}
use Rattle.he_addr.specs.declared.ip.Ip.TheVariants.{V4, V6}
use Rattle.he_addr.specs.Ip.{same_ip}
use Rattle.he_words.specs.declared.fault.TextKind.{TextKind}
use Rattle.he_words.specs.declared.fault.TextKind.TheVariants as kinds
use Rattle.he_reading.specs.Faults.{test, excess}
use Rattle.he_record.specs.declared.words.RecordWord.{RecordWord}
use Rattle.he_record.specs.declared.words.RecordWord.TheVariants as words
use Rattle.he_record.specs.Faults.{last_group, lines_with, out_of_order, one_too_many, repeated}
use Rattle.he_record.specs.Said.{Said, AtSaid, ToSaid, FromSaid, LookupSaid, Nat64Said, ServerSaid, AttemptSaid, UntriedSaid, EndSaid, group_said, looks_up, same_family, tells_of, word_said}
use Rattle.he_record.specs.Text.{FitTogether, are_in_order}
use Rattle.he_record.specs.Words.{word_group, most_record_lines}

-- the checks of a line by the lines before it
pub record PassesAfter (told : List Said) (s : Said) : Type 0 where
  pub order : out_of_order told (word_said s) ≡ None
  pub room : one_too_many told (word_said s) ≡ None
  pub once : repeated told s ≡ None

test_none : (b : Bool) (kind : TextKind) → test b kind ≡ None → b ≡ false
test_none true kind h = cc
test_none false kind h = refl

-- counts
count_split : {X : Type 0} (p : X → Bool) (xs ys : List X) (y : X) → count_by p (xs ++ y ∷ ys) ≡ count_by p xs + (cond (p y) 1 0 + count_by p ys)
count_split p xs ys y =
    sum_by-append (λ x. cond (p x) 1 0) xs (y ∷ ys) ∙ ap (λ (n : ℕ). count_by p xs + n) (sum_by-cons (λ x. cond (p x) 1 0) y ys)

fewer_before : {X : Type 0} (p : X → Bool) (xs ys : List X) (y : X) → p y ≡ true → count_by p xs < count_by p (xs ++ y ∷ ys)
fewer_before p xs ys y passes =
    let split = count_split p xs ys y in
    let one : ◌≡◌ {A = ℕ} (cond (p y) 1 0) 1 = ap (λ b. cond b 1 0) passes in
    omega (arith, split, one)

count_push : {X : Type 0} (p : X → Bool) (xs : List X) (y : X) → count_by p (xs ++ y ∷ []) ≡ count_by p xs + cond (p y) 1 0
count_push p xs y = sum_by_push (λ x. cond (p x) 1 0) xs y

-- the order of the groups
order_split : (group : ℕ) (told later : List Said) (s : Said) → are_in_order group (told ++ s ∷ later) ≡ true → last_group group told ≤ group_said s
order_split group [] later s h = leb-true group (group_said s) (and_parts (leb group (group_said s)) (are_in_order (group_said s) later) h).0
order_split group (t ∷ told) later s h =
    order_split (group_said t) told later s (and_parts (leb group (group_said t)) (are_in_order (group_said t) (told ++ s ∷ later)) h).1

order_more : (group : ℕ) (told : List Said) (s : Said) → are_in_order group told ≡ true → last_group group told ≤ group_said s → are_in_order group (told ++ s ∷ []) ≡ true
order_more group [] s h last = and_from (leb group (group_said s)) true (le-leb group (group_said s) last) refl
order_more group (t ∷ told) s h last =
    let parts = and_parts (leb group (group_said t)) (are_in_order (group_said t) told) h in
    and_from (leb group (group_said t)) (are_in_order (group_said t) (told ++ s ∷ [])) parts.0 (order_more (group_said t) told s parts.1 last)

-- families and addresses
same_family_refl : (family : Family) → same_family family family ≡ true
same_family_refl families.V6 = refl
same_family_refl families.V4 = refl

same_family_is : (a b : Family) → same_family a b ≡ true → a ≡ b
same_family_is families.V6 families.V6 h = refl
same_family_is families.V4 families.V4 h = refl
same_family_is families.V6 families.V4 h = cc
same_family_is families.V4 families.V6 h = cc

same_ip_refl : (ip : Ip) → same_ip ip ip ≡ true
same_ip_refl (V4 n) = eq-eqb n n refl
same_ip_refl (V6 n) = eq-eqb n n refl

same_ip_is : (x y : Ip) → same_ip x y ≡ true → x ≡ y
same_ip_is (V4 m) (V4 n) h = ap V4 (eqb-true m n h)
same_ip_is (V6 m) (V6 n) h = ap V6 (eqb-true m n h)
same_ip_is (V4 m) (V6 n) h = cc
same_ip_is (V6 m) (V4 n) h = cc

-- the checks pass on each line of lines that fit together
room : (most : Option (ℕ × TextKind)) (before all : ℕ) → before < all → IfSome most (λ m. all ≤ m.0) → excess most before ≡ None
room None before all less few = refl
room (Some most) before all less few = ap (λ b. test b most.1) (lt-leb most.0 before (omega (arith, few)))

none_again : (n : ℕ) → n < 1 → test (ltb 0 n) kinds.Repeated ≡ None
none_again n few = ap (λ b. test b kinds.Repeated) (le-ltb 0 n (omega arith))

once_only : (told later : List Said) (s : Said) → FitTogether (told ++ s ∷ later) → repeated told s ≡ None
once_only told later (LookupSaid family reason) fit =
    let less : count_by (looks_up family) told < count_by (looks_up family) (told ++ LookupSaid family reason ∷ later) =
    fewer_before (looks_up family) told later (LookupSaid family reason) (same_family_refl family) in
    let most : count_by (looks_up family) (told ++ LookupSaid family reason ∷ later) ≤ 1 = fit.families family in
    none_again (count_by (looks_up family) told) (omega arith)
once_only told later (AttemptSaid ip reason) fit =
    let less : count_by (tells_of ip) told < count_by (tells_of ip) (told ++ AttemptSaid ip reason ∷ later) =
    fewer_before (tells_of ip) told later (AttemptSaid ip reason) (same_ip_refl ip) in
    let most : count_by (tells_of ip) (told ++ AttemptSaid ip reason ∷ later) ≤ 1 = fit.addresses ip in
    none_again (count_by (tells_of ip) told) (omega arith)
once_only told later (UntriedSaid ip) fit =
    let less : count_by (tells_of ip) told < count_by (tells_of ip) (told ++ UntriedSaid ip ∷ later) =
    fewer_before (tells_of ip) told later (UntriedSaid ip) (same_ip_refl ip) in
    let most : count_by (tells_of ip) (told ++ UntriedSaid ip ∷ later) ≤ 1 = fit.addresses ip in
    none_again (count_by (tells_of ip) told) (omega arith)
once_only told later (AtSaid moment) fit = refl
once_only told later (ToSaid host port) fit = refl
once_only told later (FromSaid ip) fit = refl
once_only told later (Nat64Said prefix) fit = refl
once_only told later (ServerSaid ip reason ticks) fit = refl
once_only told later (EndSaid end) fit = refl

pub fit_passes : (told later : List Said) (s : Said) → FitTogether (told ++ s ∷ later) → PassesAfter told s
fit_passes told later s fit =
    let group : ℕ = word_group (word_said s) in
    let less : lines_with group told < lines_with group (told ++ s ∷ later) = fewer_before (λ x. eqb (group_said x) group) told later s (eq-eqb group group refl) in
    record {
      order = ap (λ b. test b kinds.Word) (le-ltb group (last_group 0 told) (order_split 0 told later s fit.order));
      room = room (most_record_lines (word_said s)) (lines_with group told) (lines_with group (told ++ s ∷ later)) less (fit.few (word_said s));
      once = once_only told later s fit;
    }

-- words of one group have as many lines at most
same_most : (a b : RecordWord) → word_group a ≡ word_group b → most_record_lines a ≡ most_record_lines b
same_most words.At words.At h = refl
same_most words.At _ h = absurd (omega (arith, h))
same_most words.To words.To h = refl
same_most words.To _ h = absurd (omega (arith, h))
same_most words.From words.From h = refl
same_most words.From _ h = absurd (omega (arith, h))
same_most words.Lookup words.Lookup h = refl
same_most words.Lookup _ h = absurd (omega (arith, h))
same_most words.Nat64 words.Nat64 h = refl
same_most words.Nat64 _ h = absurd (omega (arith, h))
same_most words.Server words.Server h = refl
same_most words.Server _ h = absurd (omega (arith, h))
same_most words.Attempt words.Attempt h = refl
same_most words.Attempt _ h = absurd (omega (arith, h))
same_most words.Untried words.Untried h = refl
same_most words.Untried _ h = absurd (omega (arith, h))
same_most words.Connected words.Connected h = refl
same_most words.Connected words.GaveUp h = refl
same_most words.Connected words.Failed h = refl
same_most words.Connected _ h = absurd (omega (arith, h))
same_most words.GaveUp words.Connected h = refl
same_most words.GaveUp words.GaveUp h = refl
same_most words.GaveUp words.Failed h = refl
same_most words.GaveUp _ h = absurd (omega (arith, h))
same_most words.Failed words.Connected h = refl
same_most words.Failed words.GaveUp h = refl
same_most words.Failed words.Failed h = refl
same_most words.Failed _ h = absurd (omega (arith, h))

room_for : (most : Option (ℕ × TextKind)) (n : ℕ) → excess most n ≡ None → IfSome most (λ m. n + 1 ≤ m.0)
room_for None n h = tt
room_for (Some most) n h =
    let less : n < most.0 = leb-false most.0 n (test_none (leb most.0 n) most.1 h) in
    omega arith

few_at : (most : Option (ℕ × TextKind)) (m n : ℕ) → m ≡ n → IfSome most (λ x. n ≤ x.0) → IfSome most (λ x. m ≤ x.0)
few_at most m n same few = let P : ℕ → Type 0 = λ k. IfSome most (λ x. k ≤ x.0) in subst P (sym same) few

-- one more line fits
few_more : (told : List Said) (s : Said) (word : RecordWord) → IfSome (most_record_lines word) (λ m. lines_with (word_group word) told ≤ m.0) → one_too_many told (word_said s) ≡ None
    → IfSome (most_record_lines word) (λ m. lines_with (word_group word) (told ++ s ∷ []) ≤ m.0)
few_more told s word few has_room = by_group (eqb (group_said s) (word_group word)) refl
  where
    counted : (b : Bool) → eqb (group_said s) (word_group word) ≡ b → lines_with (word_group word) (told ++ s ∷ []) ≡ lines_with (word_group word) told + cond b 1 0
    counted b e = count_push (λ x. eqb (group_said x) (word_group word)) told s ∙ ap (λ b. lines_with (word_group word) told + cond b 1 0) e

    by_group : (b : Bool) → eqb (group_said s) (word_group word) ≡ b → IfSome (most_record_lines word) (λ m. lines_with (word_group word) (told ++ s ∷ []) ≤ m.0)
    by_group false e =
        let more = counted false e in
        let same : lines_with (word_group word) (told ++ s ∷ []) ≡ lines_with (word_group word) told = omega arith in
        few_at (most_record_lines word) (lines_with (word_group word) (told ++ s ∷ [])) (lines_with (word_group word) told) same few
    by_group true e =
        let group : group_said s ≡ word_group word = eqb-true (group_said s) (word_group word) e in
        let P : Option (ℕ × TextKind) → Type 0 = λ most. IfSome most (λ m. lines_with (word_group word) (told ++ s ∷ []) ≤ m.0) in
        let same : lines_with (word_group word) told ≡ lines_with (word_group (word_said s)) told = ap (λ (g : ℕ). lines_with g told) (sym group) in
        let more : lines_with (word_group word) (told ++ s ∷ []) ≡ lines_with (word_group (word_said s)) told + 1 = counted true e ∙ ap (λ (n : ℕ). n + 1) same in
        subst P (same_most (word_said s) word group)
        (few_at (most_record_lines (word_said s)) (lines_with (word_group word) (told ++ s ∷ [])) (lines_with (word_group (word_said s)) told + 1) more
        (room_for (most_record_lines (word_said s)) (lines_with (word_group (word_said s)) told) has_room))

no_others : (n : ℕ) → test (ltb 0 n) kinds.Repeated ≡ None → n ≡ 0
no_others n h = let none : n ≤ 0 = ltb-false 0 n (test_none (ltb 0 n) kinds.Repeated h) in omega arith

looked_once : (told : List Said) (s : Said) (family : Family) → repeated told s ≡ None → looks_up family s ≡ true → count_by (looks_up family) told ≡ 0
looked_once told (LookupSaid other reason) family once here =
    let same : family ≡ other = same_family_is family other here in
    let P : Family → Type 0 = λ f. count_by (looks_up f) told ≡ 0 in
    subst P (sym same) (no_others (count_by (looks_up other) told) once)
looked_once told (AtSaid moment) family once here = cc
looked_once told (ToSaid host port) family once here = cc
looked_once told (FromSaid ip) family once here = cc
looked_once told (Nat64Said prefix) family once here = cc
looked_once told (ServerSaid ip reason ticks) family once here = cc
looked_once told (AttemptSaid ip reason) family once here = cc
looked_once told (UntriedSaid ip) family once here = cc
looked_once told (EndSaid end) family once here = cc

told_once : (told : List Said) (s : Said) (ip : Ip) → repeated told s ≡ None → tells_of ip s ≡ true → count_by (tells_of ip) told ≡ 0
told_once told (AttemptSaid other reason) ip once here =
    let P : Ip → Type 0 = λ x. count_by (tells_of x) told ≡ 0 in
    subst P (same_ip_is other ip here) (no_others (count_by (tells_of other) told) once)
told_once told (UntriedSaid other) ip once here =
    let P : Ip → Type 0 = λ x. count_by (tells_of x) told ≡ 0 in
    subst P (same_ip_is other ip here) (no_others (count_by (tells_of other) told) once)
told_once told (AtSaid moment) ip once here = cc
told_once told (ToSaid host port) ip once here = cc
told_once told (FromSaid other) ip once here = cc
told_once told (LookupSaid family reason) ip once here = cc
told_once told (Nat64Said prefix) ip once here = cc
told_once told (ServerSaid other reason ticks) ip once here = cc
told_once told (EndSaid end) ip once here = cc

once_more : (p : Said → Bool) (told : List Said) (s : Said) → count_by p told ≤ 1 → (p s ≡ true → count_by p told ≡ 0) → count_by p (told ++ s ∷ []) ≤ 1
once_more p told s most none = by_test (p s) refl
  where
    by_test : (b : Bool) → p s ≡ b → count_by p (told ++ s ∷ []) ≤ 1
    by_test true e =
        let more : count_by p (told ++ s ∷ []) ≡ count_by p told + 1 = count_push p told s ∙ ap (λ b. count_by p told + cond b 1 0) e in
        let zero : count_by p told ≡ 0 = none e in
        omega arith
    by_test false e =
        let more : count_by p (told ++ s ∷ []) ≡ count_by p told + 0 = count_push p told s ∙ ap (λ b. count_by p told + cond b 1 0) e in
        omega arith

pub fit_more : (told : List Said) (s : Said) → FitTogether told → PassesAfter told s → FitTogether (told ++ s ∷ [])
fit_more told s fit passes = record {
  order = order_more 0 told s fit.order (ltb-false (word_group (word_said s)) (last_group 0 told) (test_none (ltb (word_group (word_said s)) (last_group 0 told)) kinds.Word passes.order));
  few = λ word. few_more told s word (fit.few word) passes.room;
  families = λ family. once_more (looks_up family) told s (fit.families family) (looked_once told s family passes.once);
  addresses = λ ip. once_more (tells_of ip) told s (fit.addresses ip) (told_once told s ip passes.once);
}

none_yet : (most : Option (ℕ × TextKind)) → IfSome most (λ m. 0 ≤ m.0)
none_yet None = tt
none_yet (Some most) = omega arith

-- no lines fit together
pub fit_none : FitTogether []
fit_none = record { order = refl; few = λ word. none_yet (most_record_lines word); families = λ family. omega arith; addresses = λ ip. omega arith }
