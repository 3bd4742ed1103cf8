-- The addresses of which something is told, in their order, and what is found by them.
use Rattle.std.proofs.Common.{◌≡◌, ℕ, ◌+◌, ◌<◌, ◌||◌, ◌⊎◌, ◌++◌, Bool, true, false, cond, List, [], ◌∷◌, length, take, get_or, slice_get, position, Option, Some, None, is_some, inl, inr, true≢false, refl, sym, ◌∙◌, ap, subst}
use Rattle.std.specs.List.{list_any}
use Rattle.std.specs.Map.{keys_of, values_of, lookup}
use Rattle.std.proofs.lemmas.List.{get_or-map, length-map, map-append}
use Rattle.std.proofs.lemmas.List.Folds.{list_any-append}
use Rattle.std.proofs.lemmas.Option.{slice_get-get_or}
use Rattle.he_addr.specs.Ip.{same_ip}
use Rattle.he_addr.specs.declared.ip.Ip.{Ip}
use Rattle.he_timeline.specs.Race.{has_ip, is_told, told_of}
use Rattle.he_timeline.specs.Timeline.{are_distinct, are_told_once}
use Rattle.he_timeline.proofs.Bools.{and_both, and_left, and_right}
use Rattle.he_timeline.proofs.Addressed.{found_is, no_by, not_by, set_grows}
use Rattle.he_timeline.proofs.ByAddress.{IsSame, looked_up, none_before}
use Rattle.indexmap.proofs.MapLemmas.{Found-position, some_index}

has_key : {V : Type 0} (ip : Ip) (told : List (Ip × V)) → has_ip ip (keys_of told) ≡ is_told ip told
has_key {V} ip [] = refl
has_key {V} ip (p ∷ told) = ap (λ (b : Bool). same_ip p.0 ip || b) (has_key ip told)

pub distinct_keys : {V : Type 0} (told : List (Ip × V)) → are_distinct (keys_of told) ≡ are_told_once told
distinct_keys {V} [] = refl
distinct_keys {V} (p ∷ told) = rw (has_key p.0 told, distinct_keys told) refl

-- an equality of addresses finds the address
pub key_there : {V : Type 0} (eq : Ip → Ip → Bool) → IsSame eq → (ip : Ip) (keys : List Ip) (told : List (Ip × V)) → keys ≡ keys_of told → list_any (eq ip) keys ≡ is_told ip told
key_there {V} eq same ip keys told is = found_is eq same ip keys ∙ ap (has_ip ip) is ∙ has_key ip told

-- the next address is new
pub place_next : {V : Type 0} (eq : Ip → Ip → Bool) → IsSame eq → (told : List (Ip × V)) (keys new : List Ip) (i : ℕ) (p : Ip × V) → are_told_once told ≡ true → i < length told → p ≡ get_or told i p → keys ≡ take i (keys_of told) → new ≡ cond (list_any (eq p.0) keys) keys (keys ++ p.0 ∷ []) → new ≡ take (i + 1) (keys_of told)
place_next {V} eq same told keys new i p once below at is grown =
    let ips : List Ip = keys_of told in
    let own : get_or ips i p.0 ≡ p.0 = get_or-map (λ (q : Ip × V). q.0) told i p p.0 below ∙ ap (λ (q : Ip × V). q.0) (sym at) in
    let within : i < length ips = subst (λ n. i < n) (sym (length-map told _)) below in
    set_grows eq same keys new ips i p.0 (distinct_keys told ∙ once) within is
    (grown ∙ ap (λ (x : Ip). cond (list_any (eq x) keys) keys (keys ++ x ∷ [])) (sym own))

-- what is told at the place of its address
pub value_at : {V : Type 0} (eq : Ip → Ip → Bool) → IsSame eq → (ip : Ip) (keys : List Ip) (told : List (Ip × V)) → keys ≡ keys_of told → (place : ℕ) (d : Ip × V) → position (eq ip) keys ≡ Some place → (place < length told) × (Some (get_or told place d).1 ≡ told_of told ip)
value_at {V} eq same ip keys told is place d found =
    let there = Found-position (eq ip) told place (ap (position (eq ip)) (sym is) ∙ found) in
    (there.within, sym (held told place d there.within) ∙ sym there.value ∙ looked_up eq same ip told)
  where
    held : (told : List (Ip × V)) (place : ℕ) (d : Ip × V) → place < length told → slice_get (values_of told) place ≡ Some (get_or told place d).1
    held told place d below =
        slice_get-get_or (values_of told) place d.1 (subst (λ n. place < n) (sym (length-map told _)) below)
        ∙ ap Some (get_or-map (λ (p : Ip × V). p.1) told place d d.1 below)

-- and none where the address has no place
pub value_nowhere : {V : Type 0} (eq : Ip → Ip → Bool) → IsSame eq → (ip : Ip) (keys : List Ip) (told : List (Ip × V)) → keys ≡ keys_of told → position (eq ip) keys ≡ None → None ≡ told_of told ip
value_nowhere {V} eq same ip keys told is missing =
    nothing (lookup (eq ip) told) (sym (some_index (eq ip) told) ∙ ap is_some (ap (position (eq ip)) (sym is) ∙ missing)) ∙ looked_up eq same ip told
  where
    nothing : (o : Option V) → is_some o ≡ false → None ≡ o
    nothing None h = refl
    nothing (Some x) h = cc

-- a new address goes last
pub place_last : {V : Type 0} (eq : Ip → Ip → Bool) → IsSame eq → (told : List (Ip × V)) (keys new : List Ip) (ip : Ip) (value : V) → are_told_once (told ++ (ip, value) ∷ []) ≡ true → keys ≡ keys_of told → new ≡ cond (list_any (eq ip) keys) keys (keys ++ ip ∷ []) → new ≡ keys_of (told ++ (ip, value) ∷ [])
place_last {V} eq same told keys new ip value once is grown =
    let absent : list_any (eq ip) keys ≡ false = key_there eq same ip keys told is ∙ none_before told [] (ip, value) once in
    grown
    ∙ ap (λ (b : Bool). cond b keys (keys ++ ip ∷ [])) absent
    ∙ ap (λ (xs : List Ip). xs ++ ip ∷ []) is
    ∙ sym (map-append (λ (p : Ip × V). p.0) told ((ip, value) ∷ []))

-- what is told before the last is told once
pub once_before : {V : Type 0} (xs ys : List (Ip × V)) → are_told_once (xs ++ ys) ≡ true → are_told_once xs ≡ true
once_before {V} [] ys once = refl
once_before {V} (x ∷ xs) ys once =
    let apart : is_told x.0 (xs ++ ys) ≡ false = no_by _ (and_left _ _ once) in
    and_both _ _ (not_by _ (or_before (is_told x.0 xs) (is_told x.0 ys) (sym (list_any-append (λ (p : Ip × V). same_ip p.0 x.0) xs ys) ∙ apart))) (once_before xs ys (and_right _ _ once))
  where
    or_before : (b c : Bool) → (b || c) ≡ false → b ≡ false
    or_before true c e = e
    or_before false c e = refl

-- keys that are some are those of what is told
pub are_some : {V : Type 0} (keys : List Ip) (told : List (Ip × V)) → (keys ≡ []) ⊎ (keys ≡ keys_of told) → (b : Bool) → b ≡ false → (length keys ≡ 0 → b ≡ true) → keys ≡ keys_of told
are_some {V} keys told (inr is) b some empty = is
are_some {V} keys told (inl none) b some empty = absurd (true≢false (sym (empty (ap length none)) ∙ some))
