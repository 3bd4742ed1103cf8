-- What keeps to a rule as a whole list keeps to it where it is parted.
use Rattle.std.proofs.Common.{◌≡◌, ℕ, suc, ◌+◌, ◌-◌, ◌<◌, ◌≤◌, ◌&&◌, ◌||◌, Bool, true, false, cond, not, leb, ltb, List, [], ◌∷◌, ◌++◌, length, Option, Some, None, refl, sym, ◌∙◌, ap, arith, append_assoc, length-append}
use Rattle.std.specs.List.{filter_map, cons_option, list_any, list_all, slice_get}
use Rattle.std.specs.Option.{option_map_or}
use Rattle.std.proofs.lemmas.Bool.{and_parts}
use Rattle.std.proofs.lemmas.List.{append-nil}
use Rattle.std.proofs.lemmas.List.Elements.{filter_map-append}
use Rattle.std.proofs.lemmas.List.Folds.{list_any-append, list_all-append}
use Rattle.he_addr.specs.declared.ip.Ip.{Ip}
use Rattle.he_addr.specs.Ip.{same_ip}
use Rattle.he_timeline.specs.Building.{last_end}
use Rattle.he_timeline.specs.declared.limits.TheConstants.{MAX_PAUSE_END}
use Rattle.he_timeline.specs.Race.{has_ip, is_told}
use Rattle.he_timeline.specs.Timeline.{are_distinct, are_told_once, are_pauses}
use Rattle.he_timeline.proofs.Ranges.{same_ip-sym}
use Rattle.he_select.specs.Refusals.{repeat_from, first_repeat}

-- what stands before, at and after one that gives something
pub given_split : {X Y : Type 0} (h : X → Option Y) (before after : List X) (x : X) (y : Y) → h x ≡ Some y → filter_map h (before ++ x ∷ after) ≡ filter_map h before ++ y ∷ filter_map h after
given_split h before after x y some = filter_map-append h before (x ∷ after) ∙ ap (λ o. filter_map h before ++ cons_option o (filter_map h after)) some

pub given_none : {X Y : Type 0} (h : X → Option Y) (before after : List X) (x : X) → h x ≡ None → filter_map h (before ++ x ∷ after) ≡ filter_map h before ++ filter_map h after
given_none h before after x none = filter_map-append h before (x ∷ after) ∙ ap (λ o. filter_map h before ++ cons_option o (filter_map h after)) none

-- of at most one there is none before
pub none_before : {A : Type 0} (xs ys : List A) (y : A) → length (xs ++ y ∷ ys) ≤ 1 → xs ≡ []
none_before [] ys y h = refl
none_before (x ∷ xs) ys y h = absurd (omega (arith, length-append xs (y ∷ ys)))

pub shorter_before : {A : Type 0} (xs ys : List A) (y : A) (n : ℕ) → length (xs ++ y ∷ ys) ≤ n → length xs < n
shorter_before xs ys y n h = omega (arith, length-append xs (y ∷ ys))

cond_none : {A : Type 0} (b : Bool) (x : A) (o : Option A) → cond b (Some x) o ≡ None → (b ≡ false) × (o ≡ None)
cond_none true x o h = cc
cond_none false x o h = (refl, h)

-- a list without a repeat
no_repeat : {X : Type 0} (same : X → X → Bool) (before : List X) (place : ℕ) (xs ys : List X) (x : X) → repeat_from same before place (xs ++ x ∷ ys) ≡ None → list_any (same x) (before ++ xs) ≡ false
no_repeat same before place [] ys x h =
    ap (list_any (same x)) (append-nil before)
    ∙ (cond_none (list_any (same x) before) place (repeat_from same (before ++ x ∷ []) (place + 1) ys) h).0
no_repeat same before place (z ∷ xs) ys x h =
    ap (list_any (same x)) (sym (append_assoc before (z ∷ []) xs))
    ∙ no_repeat same (before ++ z ∷ []) (place + 1) xs ys x (cond_none (list_any (same z) before) place (repeat_from same (before ++ z ∷ []) (place + 1) (xs ++ x ∷ ys)) h).1

pub none_repeats : {X : Type 0} (same : X → X → Bool) (xs ys : List X) (x : X) → first_repeat same (xs ++ x ∷ ys) ≡ None → list_any (same x) xs ≡ false
none_repeats same xs ys x h = no_repeat same [] 0 xs ys x h

-- addresses of which one thing each is told
pub not_or : (a b : Bool) → not (a || b) ≡ true → (a ≡ false) × (b ≡ false)
not_or true b h = cc
not_or false true h = cc
not_or false false h = (refl, refl)

or_false : (a b : Bool) → a ≡ false → b ≡ false → (a || b) ≡ false
or_false false false h k = refl
or_false true b h k = cc
or_false false true h k = cc

first_false : (a b : Bool) → (a || b) ≡ false → a ≡ false
first_false true b h = cc
first_false false b h = refl

pub told_before : {V : Type 0} (ps qs : List (Ip × V)) (p : Ip × V) → are_told_once (ps ++ p ∷ qs) ≡ true → is_told p.0 ps ≡ false
told_before [] qs p h = refl
told_before {V = V} (q ∷ ps) qs p h =
    let test : Ip × V → Bool = λ x. same_ip x.0 q.0 in
    let parts = and_parts (not (is_told q.0 (ps ++ p ∷ qs))) (are_told_once (ps ++ p ∷ qs)) h in
    let split : not (list_any test ps || list_any test (p ∷ qs)) ≡ true = ap not (sym (list_any-append test ps (p ∷ qs))) ∙ parts.0 in
    let behind = (not_or (list_any test ps) (list_any test (p ∷ qs)) split).1 in
    or_false (same_ip q.0 p.0) (is_told p.0 ps) (same_ip-sym q.0 p.0 ∙ first_false (same_ip p.0 q.0) (list_any test qs) behind) (told_before ps qs p parts.1)

-- addresses of which none stands twice
pub address_before : (ips more : List Ip) (ip : Ip) → are_distinct (ips ++ ip ∷ more) ≡ true → has_ip ip ips ≡ false
address_before [] more ip h = refl
address_before (other ∷ ips) more ip h =
    let test : Ip → Bool = λ x. same_ip x other in
    let parts = and_parts (not (has_ip other (ips ++ ip ∷ more))) (are_distinct (ips ++ ip ∷ more)) h in
    let split : not (list_any test ips || list_any test (ip ∷ more)) ≡ true = ap not (sym (list_any-append test ips (ip ∷ more))) ∙ parts.0 in
    let behind = (not_or (list_any test ips) (list_any test (ip ∷ more)) split).1 in
    or_false (same_ip other ip) (has_ip ip ips) (same_ip-sym other ip ∙ first_false (same_ip ip other) (list_any test more) behind) (address_before ips more ip parts.1)

-- pauses that follow each other
abbrev end_from : ℕ → List (ℕ × ℕ) → ℕ
end_from low [] = low
end_from low (p ∷ ps) = end_from p.1 ps

end_is : (p : ℕ × ℕ) (ps : List (ℕ × ℕ)) → last_end (p ∷ ps) ≡ end_from p.1 ps
end_is p [] = refl
end_is p (q ∷ ps) =
    let n : suc (length (q ∷ ps)) - 1 ≡ suc (length (q ∷ ps) - 1) = omega arith in
    ap (λ k. option_map_or (λ (x : ℕ × ℕ). x.1) (slice_get (p ∷ q ∷ ps) k) 0) n ∙ end_is q ps

ends_before : (low : ℕ) (ps qs : List (ℕ × ℕ)) (p : ℕ × ℕ) → are_pauses low (ps ++ p ∷ qs) ≡ true → (leb (end_from low ps) p.0 ≡ true) × (ltb p.0 p.1 ≡ true)
ends_before low [] qs p h =
    let all = and_parts (leb low p.0 && ltb p.0 p.1 && leb p.1 MAX_PAUSE_END) (are_pauses p.1 qs) h in
    let most = and_parts (leb low p.0 && ltb p.0 p.1) (leb p.1 MAX_PAUSE_END) all.0 in
    and_parts (leb low p.0) (ltb p.0 p.1) most.0
ends_before low (q ∷ ps) qs p h =
    let all = and_parts (leb low q.0 && ltb q.0 q.1 && leb q.1 MAX_PAUSE_END) (are_pauses q.1 (ps ++ p ∷ qs)) h in
    ends_before q.1 ps qs p all.1

pub pause_before : (ps qs : List (ℕ × ℕ)) (p : ℕ × ℕ) → are_pauses 0 (ps ++ p ∷ qs) ≡ true → (leb (last_end ps) p.0 ≡ true) × (ltb p.0 p.1 ≡ true)
pause_before [] qs p h = ends_before 0 [] qs p h
pause_before (q ∷ ps) qs p h =
    let got = ends_before 0 (q ∷ ps) qs p h in
    (ap (λ n. leb n p.0) (end_is q ps) ∙ got.0, got.1)

-- a test that all pass, one of them passes
pub passes_at : {X : Type 0} (test : X → Bool) (xs ys : List X) (x : X) → list_all test (xs ++ x ∷ ys) ≡ true → test x ≡ true
passes_at test xs ys x h =
    let parts = and_parts (list_all test xs) (list_all test (x ∷ ys)) (sym (list_all-append test xs (x ∷ ys)) ∙ h) in
    (and_parts (test x) (list_all test ys) parts.1).0
