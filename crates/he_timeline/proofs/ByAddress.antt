-- What is told of addresses, found by address.
use Rattle.std.proofs.Common.{◌≡◌, ◌++◌, ◌||◌, Bool, true, false, cond, not, List, [], ◌∷◌, Some, option_map, find, refl, ◌∙◌}
use Rattle.std.specs.Map.{lookup}
use Rattle.he_addr.specs.Ip.{same_ip}
use Rattle.he_addr.specs.contracts.ip.IpPartialEq.TheImpl.{eq-value}
use Rattle.he_addr.specs.declared.ip.Ip.{Ip}
use Rattle.he_addr.specs.declared.ip.Ip.TheVariants.{V4, V6}
use Rattle.he_timeline.specs.Race.{is_told, told_of}
use Rattle.he_timeline.specs.Timeline.{are_told_once}
use Rattle.he_timeline.proofs.Bools.{and_left, and_right, or_left_none, or_right_none}
use Rattle.he_timeline.proofs.Ranges.{same_ip-sym}

-- an equality of addresses
abbrev pub IsSame : (Ip → Ip → Bool) → Type 0
IsSame eq = (x y : Ip) → eq x y ≡ same_ip x y

-- as the code's is
pub same_as : IsSame eq-value.it
same_as (V4 m) (V4 n) = refl
same_as (V6 m) (V6 n) = refl
same_as (V4 m) (V6 n) = refl
same_as (V6 m) (V4 n) = refl

pub looked_up : {V : Type 0} (eq : Ip → Ip → Bool) → IsSame eq → (ip : Ip) (told : List (Ip × V)) → lookup (eq ip) told ≡ told_of told ip
looked_up {V} eq same ip [] = refl
looked_up {V} eq same ip (p ∷ told) = by_test (looked_up eq same ip told) (eq ip p.0) (same_ip p.0 ip) (same ip p.0 ∙ same_ip-sym ip p.0)
  where
    by_test : lookup (eq ip) told ≡ told_of told ip → (b c : Bool) → b ≡ c → cond b (Some p.1) (lookup (eq ip) told) ≡ option_map (λ q. q.1) (cond c (Some p) (find (λ q. same_ip q.0 ip) told))
    by_test rest true true e = refl
    by_test rest false false e = rest
    by_test rest true false e = cc
    by_test rest false true e = cc

-- of an address of which something is told nothing is told before it
pub none_before : {V : Type 0} (xs ys : List (Ip × V)) (p : Ip × V) → are_told_once (xs ++ p ∷ ys) ≡ true → is_told p.0 xs ≡ false
none_before {V} [] ys p h = refl
none_before {V} (x ∷ xs) ys p h =
    let apart : is_told x.0 (xs ++ p ∷ ys) ≡ false = is_false (is_told x.0 (xs ++ p ∷ ys)) (and_left _ _ h) in
    let other : same_ip p.0 x.0 ≡ false = without xs apart in
    let rest : is_told p.0 xs ≡ false = none_before xs ys p (and_right _ _ h) in
    both (same_ip x.0 p.0) (is_told p.0 xs) (same_ip-sym x.0 p.0 ∙ other) rest
  where
    is_false : (b : Bool) → not b ≡ true → b ≡ false
    is_false true h = cc
    is_false false h = refl

    without : (zs : List (Ip × V)) → is_told x.0 (zs ++ p ∷ ys) ≡ false → same_ip p.0 x.0 ≡ false
    without [] k = or_left_none _ _ k
    without (z ∷ zs) k = without zs (or_right_none _ _ k)

    both : (b c : Bool) → b ≡ false → c ≡ false → (b || c) ≡ false
    both true c k l = cc
    both false c k l = l
