-- The tests of the program are what they say.
use Rattle.std.proofs.Common.{◌≡◌, ◌&&◌, ◌||◌, ◌==◌, ◌/◌, ◌^◌, Bool, true, false, List, [], ◌∷◌, Option, Some, None, refl, sym, subst, inl, inr, eq-eqb}
use Rattle.std.proofs.lemmas.Bool.{and_parts, or_cases, eqb-true, and_from}
use Rattle.std.specs.List.{list_any}
use Rattle.he_addr.specs.declared.ip.Ip.{Ip}
use Rattle.he_addr.specs.declared.ip.Ip.TheVariants.{V4, V6}
use Rattle.he_access.specs.declared.reach.Place.{Place}
use Rattle.he_addr.specs.Ip.{mapped_of}
use Rattle.he_access.specs.Reaching.{ComesTo, IsHere, IsLoopback, IsOwn, IsUnspecified}
use Rattle.he_access.specs.Reaching.ComesTo.{Same, Wild, Loop}
use Rattle.he_access.specs.Tests.{comes_to, is_here, is_loopback, is_same, is_unspecified}

or_left : (a b : Bool) → a ≡ true → (a || b) ≡ true
or_left a b h = subst (λ (x : Bool). (x || b) ≡ true) (sym h) refl

or_right : (a b : Bool) → b ≡ true → (a || b) ≡ true
or_right true b h = refl
or_right false b h = h

pub loopback_to : (ip : Ip) → IsLoopback ip → is_loopback ip ≡ true
loopback_to (V4 n) is = eq-eqb (n / 2 ^ 24) 127 is
loopback_to (V6 n) (inl is) = or_left (n == 1) (n / 2 ^ 24 == 0xffff_7f) (eq-eqb n 1 is)
loopback_to (V6 n) (inr is) = or_right (n == 1) (n / 2 ^ 24 == 0xffff_7f) (eq-eqb (n / 2 ^ 24) 0xffff_7f is)

pub loopback_from : (ip : Ip) → is_loopback ip ≡ true → IsLoopback ip
loopback_from (V4 n) t = eqb-true (n / 2 ^ 24) 127 t
loopback_from (V6 n) t = elim (or_cases (n == 1) (n / 2 ^ 24 == 0xffff_7f) t) [
  | inl h ↦ inl (eqb-true n 1 h)
  | inr h ↦ inr (eqb-true (n / 2 ^ 24) 0xffff_7f h)
]

unspecified_to : (ip : Ip) → IsUnspecified ip → is_unspecified ip ≡ true
unspecified_to ip (inl is) = or_left (mapped_of ip == 0) (mapped_of ip == 0xffff_0000_0000) (eq-eqb (mapped_of ip) 0 is)
unspecified_to ip (inr is) = or_right (mapped_of ip == 0) (mapped_of ip == 0xffff_0000_0000) (eq-eqb (mapped_of ip) 0xffff_0000_0000 is)

unspecified_from : (ip : Ip) → is_unspecified ip ≡ true → IsUnspecified ip
unspecified_from ip t = elim (or_cases (mapped_of ip == 0) (mapped_of ip == 0xffff_0000_0000) t) [
  | inl h ↦ inl (eqb-true (mapped_of ip) 0 h)
  | inr h ↦ inr (eqb-true (mapped_of ip) 0xffff_0000_0000 h)
]

same_from : (source : Option Ip) (ip : Ip) → is_same source ip ≡ true → (own : Ip) × (source ≡ Some own) × (mapped_of own ≡ mapped_of ip)
same_from None ip t = cc
same_from (Some own) ip t = (own, refl, eqb-true (mapped_of own) (mapped_of ip) t)

pub here_to : (ip : Ip) (source : Option Ip) → IsHere ip source → is_here ip source ≡ true
here_to ip source (inl is) = or_left (is_loopback ip) (is_unspecified ip || is_same source ip) (loopback_to ip is)
here_to ip source (inr (inl is)) = or_right (is_loopback ip) (is_unspecified ip || is_same source ip) (or_left (is_unspecified ip) (is_same source ip) (unspecified_to ip is))
here_to ip source (inr (inr (own, is, same))) =
    or_right (is_loopback ip) (is_unspecified ip || is_same source ip) (or_right (is_unspecified ip) (is_same source ip)
    (subst (λ (o : Option Ip). is_same o ip ≡ true) (sym is) (eq-eqb (mapped_of own) (mapped_of ip) same)))

pub here_from : (ip : Ip) (source : Option Ip) → is_here ip source ≡ true → IsHere ip source
here_from ip source t = elim (or_cases (is_loopback ip) (is_unspecified ip || is_same source ip) t) [
  | inl h ↦ inl (loopback_from ip h)
  | inr h ↦ elim (or_cases (is_unspecified ip) (is_same source ip) h) [
    | inl h ↦ inr (inl (unspecified_from ip h))
    | inr h ↦ inr (inr (same_from source ip h))
  ]
]

module _ (place to : Place) (source : Option Ip) where
  comes_to_to : ComesTo place to source → comes_to place to source ≡ true
  comes_to_to (Same at ip) =
      and_from (place.port == to.port) _ (eq-eqb place.port to.port at) (or_left (mapped_of place.ip == mapped_of to.ip) _ (eq-eqb (mapped_of place.ip) (mapped_of to.ip) ip))
  comes_to_to (Wild at any here) =
      and_from (place.port == to.port) _ (eq-eqb place.port to.port at) (or_right (mapped_of place.ip == mapped_of to.ip) _
      (or_left (is_unspecified place.ip && is_here to.ip source) _ (and_from _ _ (unspecified_to place.ip any) (here_to to.ip source here))))
  comes_to_to (Loop at lo any) =
      and_from (place.port == to.port) _ (eq-eqb place.port to.port at) (or_right (mapped_of place.ip == mapped_of to.ip) _
      (or_right (is_unspecified place.ip && is_here to.ip source) _ (and_from _ _ (loopback_to place.ip lo) (unspecified_to to.ip any))))

  comes_to_from : comes_to place to source ≡ true → ComesTo place to source
  comes_to_from t =
      let parts : _ = and_parts (place.port == to.port) (mapped_of place.ip == mapped_of to.ip
      || ((is_unspecified place.ip && is_here to.ip source) || (is_loopback place.ip && is_unspecified to.ip))) t in
      let at : place.port ≡ to.port = eqb-true place.port to.port parts.0 in
      elim (or_cases (mapped_of place.ip == mapped_of to.ip) ((is_unspecified place.ip && is_here to.ip source) || (is_loopback place.ip && is_unspecified to.ip)) parts.1) [
        | inl h ↦ Same at (eqb-true (mapped_of place.ip) (mapped_of to.ip) h)
        | inr h ↦ elim (or_cases (is_unspecified place.ip && is_here to.ip source) (is_loopback place.ip && is_unspecified to.ip) h) [
          | inl h ↦ Wild at (unspecified_from place.ip (and_parts (is_unspecified place.ip) (is_here to.ip source) h).0) (here_from to.ip source (and_parts (is_unspecified place.ip) (is_here to.ip source) h).1)
          | inr h ↦ Loop at (loopback_from place.ip (and_parts (is_loopback place.ip) (is_unspecified to.ip) h).0) (unspecified_from to.ip (and_parts (is_loopback place.ip) (is_unspecified to.ip) h).1)
        ]
      ]

pub own_to : (places : List Place) (to : Place) (source : Option Ip) → IsOwn places to source → list_any (λ place. comes_to place to source) places ≡ true
own_to [] to source own = elim own [ ]
own_to (place ∷ others) to source (inl own) = or_left (comes_to place to source) (list_any (λ p. comes_to p to source) others) (comes_to_to place to source own)
own_to (place ∷ others) to source (inr own) = or_right (comes_to place to source) (list_any (λ p. comes_to p to source) others) (own_to others to source own)

pub own_from : (places : List Place) (to : Place) (source : Option Ip) → list_any (λ place. comes_to place to source) places ≡ true → IsOwn places to source
own_from [] to source t = cc
own_from (place ∷ others) to source t = elim (or_cases (comes_to place to source) (list_any (λ p. comes_to p to source) others) t) [
  | inl h ↦ inl (comes_to_from place to source h)
  | inr h ↦ inr (own_from others to source h)
]
