-- Addresses one after the other: whether one stands twice, and which family's they are.
use Rattle.std.proofs.Common.{◌≡◌, ℕ, suc, ◌+◌, ◌<◌, ◌||◌, ◌&&◌, ◌++◌, Bool, true, false, cond, not, List, [], ◌∷◌, length, take, drop, get_or, Option, Some, None, IsTrue, refl, sym, ◌∙◌, ap, drop-cons}
use Rattle.std.specs.List.{list_any}
use Rattle.std.proofs.lemmas.List.{take_more, take-append-drop}
use Rattle.he_addr.specs.Ip.{family_of, same_ip}
use Rattle.he_addr.specs.declared.ip.Family.TheVariants as families
use Rattle.he_addr.specs.declared.ip.Ip.{Ip}
use Rattle.he_addr.specs.declared.ip.Ip.TheVariants.{V4, V6}
use Rattle.he_timeline.specs.Race.{Reply, addresses_of, has_ip}
use Rattle.he_timeline.specs.Timeline.{are_distinct, are_of, is_answer}
use Rattle.he_timeline.proofs.Bools.{and_left, and_right}
use Rattle.he_timeline.proofs.ByAddress.{IsSame}
use Rattle.he_timeline.proofs.Ranges.{distinct_more, same_ip-sym}

-- an equality of addresses finds what the definition does
pub found_is : (eq : Ip → Ip → Bool) → IsSame eq → (ip : Ip) (ips : List Ip) → list_any (eq ip) ips ≡ has_ip ip ips
found_is eq same ip [] = refl
found_is eq same ip (x ∷ ips) = rw (same ip x, same_ip-sym ip x, found_is eq same ip ips)

pub not_by : (b : Bool) → b ≡ false → not b ≡ true
not_by true e = sym e
not_by false e = refl

pub no_by : (b : Bool) → not b ≡ true → b ≡ false
no_by true e = cc
no_by false e = refl

or_true : (b : Bool) → (b || true) ≡ true
or_true true = refl
or_true false = refl

-- one that stands before it stands twice
pub distinct_not : (xs ys : List Ip) (x : Ip) → has_ip x xs ≡ true → are_distinct (xs ++ x ∷ ys) ≡ false
distinct_not [] ys x there = cc
distinct_not (z ∷ xs) ys x there = by_head (same_ip z x) refl (distinct_not xs ys x)
  where
    out : (b c : Bool) → c ≡ true → (not c && b) ≡ false
    out b true e = refl
    out b false e = cc

    late : (b c : Bool) → c ≡ false → (b && c) ≡ false
    late true c e = e
    late false c e = refl

    has_later : (zs : List Ip) → same_ip x z ≡ true → has_ip z (zs ++ x ∷ ys) ≡ true
    has_later [] e = ap (λ (b : Bool). b || has_ip z ys) e
    has_later (w ∷ zs) e = ap (λ (b : Bool). same_ip w z || b) (has_later zs e) ∙ or_true (same_ip w z)

    rest_has : same_ip z x ≡ false → (same_ip z x || has_ip x xs) ≡ true → has_ip x xs ≡ true
    rest_has e h = sym (ap (λ (b : Bool). b || has_ip x xs) e) ∙ h

    by_head : (b : Bool) → same_ip z x ≡ b → (has_ip x xs ≡ true → are_distinct (xs ++ x ∷ ys) ≡ false) → (not (has_ip z (xs ++ x ∷ ys)) && are_distinct (xs ++ x ∷ ys)) ≡ false
    by_head true e rest = out (are_distinct (xs ++ x ∷ ys)) (has_ip z (xs ++ x ∷ ys)) (has_later xs (same_ip-sym x z ∙ e))
    by_head false e rest = late (not (has_ip z (xs ++ x ∷ ys))) (are_distinct (xs ++ x ∷ ys)) (rest (rest_has e there))

strange_v6 : (ip : Ip) (ips : List Ip) → families.V6 ≡ family_of ip → are_of families.V4 ips ≡ true → has_ip ip ips ≡ false
strange_v6 (V4 n) ips f h = cc
strange_v6 (V6 n) [] f h = refl
strange_v6 (V6 n) (V4 m ∷ ips) f h = strange_v6 (V6 n) ips f h
strange_v6 (V6 n) (V6 m ∷ ips) f h = cc

strange_v4 : (ip : Ip) (ips : List Ip) → families.V4 ≡ family_of ip → are_of families.V6 ips ≡ true → has_ip ip ips ≡ false
strange_v4 (V6 n) ips f h = cc
strange_v4 (V4 n) [] f h = refl
strange_v4 (V4 n) (V6 m ∷ ips) f h = strange_v4 (V4 n) ips f h
strange_v4 (V4 n) (V4 m ∷ ips) f h = cc

-- an address stands in no answer of the other family
pub not_in_a : (ip : Ip) (reply : Option Reply) → families.V6 ≡ family_of ip → IsTrue (is_answer families.V4 reply) → has_ip ip (addresses_of reply) ≡ false
not_in_a ip None f h = refl
not_in_a ip (Some reply) f h = strange_v6 ip reply.addresses f (and_right _ _ (and_left _ _ h))

pub not_in_aaaa : (ip : Ip) (reply : Option Reply) → families.V4 ≡ family_of ip → IsTrue (is_answer families.V6 reply) → has_ip ip (addresses_of reply) ≡ false
not_in_aaaa ip None f h = refl
not_in_aaaa ip (Some reply) f h = strange_v4 ip reply.addresses f (and_right _ _ (and_left _ _ h))

pub or_false : (b d : Bool) → d ≡ false → b ≡ (b || d)
or_false true d h = refl
or_false false d h = sym h

pub false_or : (b d : Bool) → b ≡ false → d ≡ (b || d)
false_or true d h = cc
false_or false d h = refl

-- the address at a place is new, where those before it are distinct
pub distinct_next : (ips : List Ip) (i : ℕ) (d : Ip) → i < length ips → are_distinct (take i ips) ≡ true → has_ip (get_or ips i d) (take i ips) ≡ false → are_distinct (take (i + 1) ips) ≡ true
distinct_next ips i d below distinct new = rw (take_more ips i d below) (distinct_more (take i ips) (get_or ips i d) distinct new)

-- or it stands twice
pub distinct_never : (ips : List Ip) (i : ℕ) (d : Ip) → i < length ips → has_ip (get_or ips i d) (take i ips) ≡ true → are_distinct ips ≡ false
distinct_never ips i d below there =
    ap are_distinct (sym (take-append-drop i ips) ∙ ap (λ rest. take i ips ++ rest) (drop-cons ips i d below))
    ∙ distinct_not (take i ips) (drop (suc i) ips) (get_or ips i d) there

-- a set grows by an address that it has not
pub set_next : (eq : Ip → Ip → Bool) → IsSame eq → (keys new ips : List Ip) (i : ℕ) (d : Ip) → i < length ips → keys ≡ take i ips → list_any (eq (get_or ips i d)) keys ≡ false → new ≡ cond (list_any (eq (get_or ips i d)) keys) keys (keys ++ get_or ips i d ∷ []) → new ≡ take (i + 1) ips
set_next eq same keys new ips i d below is absent grown =
    grown ∙ ap (λ (b : Bool). cond b keys (keys ++ get_or ips i d ∷ [])) absent ∙ ap (λ rest. rest ++ get_or ips i d ∷ []) is ∙ sym (take_more ips i d below)

-- and of distinct addresses it has none before its place
pub set_grows : (eq : Ip → Ip → Bool) → IsSame eq → (keys new ips : List Ip) (i : ℕ) (d : Ip) → are_distinct ips ≡ true → i < length ips → keys ≡ take i ips → new ≡ cond (list_any (eq (get_or ips i d)) keys) keys (keys ++ get_or ips i d ∷ []) → new ≡ take (i + 1) ips
set_grows eq same keys new ips i d distinct below is grown =
    let absent : has_ip (get_or ips i d) (take i ips) ≡ false = unless (has_ip (get_or ips i d) (take i ips)) (λ there. sym (distinct_never ips i d below there) ∙ distinct) in
    set_next eq same keys new ips i d below is (found_is eq same (get_or ips i d) keys ∙ ap (has_ip (get_or ips i d)) is ∙ absent) grown
  where
    unless : (b : Bool) → (b ≡ true → false ≡ true) → b ≡ false
    unless true against = sym (against refl)
    unless false against = refl

-- an insertion that adds nothing found the address there
pub there_by : (b k : Bool) → b ≡ not k → b ≡ false → k ≡ true
there_by b true e f = refl
there_by b false e f = cc
