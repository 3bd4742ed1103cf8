-- What octets begin, and what may follow them.
use Rattle.std.proofs.Common.{◌≡◌, ◌⊎◌, ℕ, zero, suc, ◌+◌, ◌-◌, ◌<◌, ◌≤◌, drop, true, false, eqb, not, List, [], ◌∷◌, ◌++◌, length, replicate, Some, refl, sym, ◌∙◌, ap, subst, arith, inl, inr, slice_get, slice_index_or, slice_range, length-append}
use Rattle.std.proofs.lemmas.Bool.{cases_Bool, eq-eqb, eqb-true, false≢true, not_from_false, not-false}
use Rattle.std.proofs.lemmas.List.{length-drop, length-replicate, length-take}
use Rattle.std.proofs.lemmas.Option.{get_or_from_slice_get, same_Some, slice_get_within}
use Rattle.std.specs.Borrow.{Bor}
use Rattle.std.specs.Int.{w16, w32, w128, from_be_bytes}
use Rattle.he_addr.specs.declared.ip.Ip.TheVariants.{V4, V6}
use Rattle.he_front.specs.declared.socks.Method.{Method}
use Rattle.he_front.specs.declared.socks.Refusal.{Refusal}
use Rattle.he_front.specs.declared.socks.Refusal.TheVariants as refusals
use Rattle.he_front.specs.declared.socks.Target.{Target}
use Rattle.he_front.specs.declared.socks.Target.TheVariants as targets
use Rattle.he_front.specs.Messages.{HasNone, MayBecome}
use Rattle.he_front.specs.Socks.{HasOtherKind, IsBegun, IsEnd, IsGreeting, IsRefused, IsRequest, IsTarget, is_other, is_other_than, number_of, offers}

-- an octet that stands where another one is wanted still does when more follow
pub other-more : (octets more : List ℕ) (place wanted : ℕ) → is_other octets place wanted ≡ true → is_other (octets ++ more) place wanted ≡ true
other-more [] more place wanted is = absurd (false≢true is)
other-more (x ∷ octets) more zero wanted is = is
other-more (x ∷ octets) more (suc place) wanted is = other-more octets more place wanted is

-- none stands there where the wanted one does
pub not-other : (octets : List ℕ) (place : ℕ) (wanted : ℕ) → eqb wanted wanted ≡ true → slice_get octets place ≡ Some wanted → is_other octets place wanted ≡ true → ⊥
not-other octets place wanted same is other =
    let known : is_other_than wanted (Some wanted) ≡ true = subst (λ got. is_other_than wanted got ≡ true) is other in
    false≢true (sym (ap not same) ∙ known)

pub refused-more : (octets more : List ℕ) (refusal : Refusal) → IsRefused octets refusal → IsRefused (octets ++ more) refusal
refused-more octets more refusals.Message (inl is) = inl (other-more octets more 0 5 is)
refused-more octets more refusals.Message (inr is) = inr (other-more octets more 2 0 is)
refused-more octets more refusals.Command is = other-more octets more 1 1 is
refused-more octets more refusals.Kind is = (other-more octets more 3 1 is.0, other-more octets more 3 4 is.1, other-more octets more 3 3 is.2)

no-kind : (octets : List ℕ) (target : Target) (end : ℕ) → HasOtherKind octets → IsTarget octets target end → ⊥
no-kind octets (targets.Address (V4 n)) end other is = not-other octets 3 1 refl is.0 other.0
no-kind octets (targets.Address (V6 n)) end other is = not-other octets 3 4 refl is.0 other.1
no-kind octets (targets.Name name) end other is = not-other octets 3 3 refl is.0 other.2

pub refused : (octets : List ℕ) (refusal : Refusal) → IsRefused octets refusal → HasNone IsRequest octets
refused octets refusals.Message (inl other) request len is = not-other octets 0 5 refl is.version other
refused octets refusals.Message (inr other) request len is = not-other octets 2 0 refl is.reserved other
refused octets refusals.Command other request len is = not-other octets 1 1 refl is.command other
refused octets refusals.Kind other request len is = no-kind octets request.target is.end other is.address

-- the wanted octet stands there, where another one doesn't
pub wanted-there : (x wanted : ℕ) → not (eqb x wanted) ≡ false → x ≡ wanted
wanted-there x wanted is = eqb-true x wanted (not-false (eqb x wanted) is)

abbrev pub zeros : ℕ → List ℕ
zeros n = replicate n 0

-- a kind of address
abbrev IsKind : ℕ → Type 0
IsKind k = (k ≡ 1) ⊎ ((k ≡ 4) ⊎ (k ≡ 3))

kind-of : (k : ℕ) → ((not (eqb k 1) ≡ true) × (not (eqb k 4) ≡ true) × (not (eqb k 3) ≡ true) → ⊥) → IsKind k
kind-of k known = elim (cases_Bool (eqb k 1)) [
  | inl one ↦ inl (eqb-true k 1 one)
  | inr not-one ↦ elim (cases_Bool (eqb k 4)) [
    | inl four ↦ inr (inl (eqb-true k 4 four))
    | inr not-four ↦ elim (cases_Bool (eqb k 3)) [
      | inl three ↦ inr (inr (eqb-true k 3 three))
      | inr not-three ↦ absurd (known (not_from_false (eqb k 1) not-one, not_from_false (eqb k 4) not-four, not_from_false (eqb k 3) not-three))
    ]
  ]
]

-- enough octets follow
pub enough : (octets : List ℕ) (n : ℕ) → n ≤ length (octets ++ zeros n)
enough octets n = omega (arith, length-append octets (zeros n), length-replicate {A = ℕ} n 0)

-- octets as a reference shows them
abbrev pub shown : List ℕ → Bor (List ℕ)
shown octets = record { ref_ptr = (0, 0); now = octets }

name-len : (octets : List ℕ) (l : ℕ) → 5 + l + 2 ≤ length octets → length (slice_range octets 5 (5 + l)) ≡ l
name-len octets l room = omega (arith, length-take (5 + l - 5) (drop 5 octets), length-drop 5 octets, room)

-- more octets make a request of what has the place of a name's length
request-of-five : (x y z k l : ℕ) (rest : List ℕ) → x ≡ 5 → y ≡ 1 → z ≡ 0 → IsKind k → MayBecome IsRequest (x ∷ y ∷ z ∷ k ∷ l ∷ rest)
request-of-five x y z k l rest version command reserved (inl kind) =
    let all = (x ∷ y ∷ z ∷ k ∷ l ∷ rest) ++ zeros 10 in (
      zeros 10,
      record { target = targets.Address (V4 (from_be_bytes w32 (slice_range all 4 8))); port = from_be_bytes w16 (slice_range all 8 10) },
      10,
      record {
        version = ap Some version;
        command = ap Some command;
        reserved = ap Some reserved;
        end = 8;
        address = (ap Some kind, refl, refl);
        ends = refl;
        whole = enough (x ∷ y ∷ z ∷ k ∷ l ∷ rest) 10;
        port = refl;
      },
    )
request-of-five x y z k l rest version command reserved (inr (inl kind)) =
    let all = (x ∷ y ∷ z ∷ k ∷ l ∷ rest) ++ zeros 22 in (
      zeros 22,
      record { target = targets.Address (V6 (from_be_bytes w128 (slice_range all 4 20))); port = from_be_bytes w16 (slice_range all 20 22) },
      22,
      record {
        version = ap Some version;
        command = ap Some command;
        reserved = ap Some reserved;
        end = 20;
        address = (ap Some kind, refl, refl);
        ends = refl;
        whole = enough (x ∷ y ∷ z ∷ k ∷ l ∷ rest) 22;
        port = refl;
      },
    )
request-of-five x y z k l rest version command reserved (inr (inr kind)) =
    let all = (x ∷ y ∷ z ∷ k ∷ l ∷ rest) ++ zeros (5 + l + 2) in (
      zeros (5 + l + 2),
      record { target = targets.Name (shown (slice_range all 5 (5 + l))); port = from_be_bytes w16 (slice_range all (5 + l) (5 + l + 2)) },
      5 + l + 2,
      record {
        version = ap Some version;
        command = ap Some command;
        reserved = ap Some reserved;
        end = 5 + l;
        address = (ap Some kind, ap Some (sym (name-len all l (enough (x ∷ y ∷ z ∷ k ∷ l ∷ rest) (5 + l + 2)))), ap (λ n. 5 + n) (sym (name-len all l (enough (x ∷ y ∷ z ∷ k ∷ l ∷ rest) (5 + l + 2)))), refl);
        ends = refl;
        whole = enough (x ∷ y ∷ z ∷ k ∷ l ∷ rest) (5 + l + 2);
        port = refl;
      },
    )

-- and of any that may begin one
pub may-become : (octets : List ℕ) → IsBegun octets → MayBecome IsRequest octets
may-become [] begun =
    let made = request-of-five 5 1 0 3 0 [] refl refl refl (inr (inr refl)) in
    (5 ∷ 1 ∷ 0 ∷ 3 ∷ 0 ∷ made.0, made.1, made.2, made.3)
may-become (x ∷ []) begun =
    let made = request-of-five x 1 0 3 0 [] (wanted-there x 5 begun.version) refl refl (inr (inr refl)) in
    (1 ∷ 0 ∷ 3 ∷ 0 ∷ made.0, made.1, made.2, made.3)
may-become (x ∷ y ∷ []) begun =
    let made = request-of-five x y 0 3 0 [] (wanted-there x 5 begun.version) (wanted-there y 1 begun.command) refl (inr (inr refl)) in
    (0 ∷ 3 ∷ 0 ∷ made.0, made.1, made.2, made.3)
may-become (x ∷ y ∷ z ∷ []) begun =
    let made = request-of-five x y z 3 0 [] (wanted-there x 5 begun.version) (wanted-there y 1 begun.command) (wanted-there z 0 begun.reserved) (inr (inr refl)) in
    (3 ∷ 0 ∷ made.0, made.1, made.2, made.3)
may-become (x ∷ y ∷ z ∷ k ∷ []) begun =
    let made = request-of-five x y z k 0 [] (wanted-there x 5 begun.version) (wanted-there y 1 begun.command) (wanted-there z 0 begun.reserved) (kind-of k begun.kind) in
    (0 ∷ made.0, made.1, made.2, made.3)
may-become (x ∷ y ∷ z ∷ k ∷ l ∷ rest) begun =
    request-of-five x y z k l rest (wanted-there x 5 begun.version) (wanted-there y 1 begun.command) (wanted-there z 0 begun.reserved) (kind-of k begun.kind)

clash : {X : Type 0} (a b : ℕ) → eqb a b ≡ false → Some a ≡ Some b → X
clash a b differ same = absurd (false≢true (sym differ ∙ eq-eqb a b (same_Some a b same)))

-- a target ends where the address of its kind does
ends-there : (octets : List ℕ) (target : Target) (end found : ℕ) → IsTarget octets target found → IsEnd octets end → found ≡ end
ends-there octets (targets.Address (V4 n)) end found is (inl one) = is.1 ∙ sym one.1
ends-there octets (targets.Address (V4 n)) end found is (inr (inl four)) = clash 1 4 refl (sym is.0 ∙ four.0)
ends-there octets (targets.Address (V4 n)) end found is (inr (inr three)) = clash 1 3 refl (sym is.0 ∙ three.0)
ends-there octets (targets.Address (V6 n)) end found is (inl one) = clash 4 1 refl (sym is.0 ∙ one.0)
ends-there octets (targets.Address (V6 n)) end found is (inr (inl four)) = is.1 ∙ sym four.1
ends-there octets (targets.Address (V6 n)) end found is (inr (inr three)) = clash 4 3 refl (sym is.0 ∙ three.0)
ends-there octets (targets.Name name) end found is (inl one) = clash 3 1 refl (sym is.0 ∙ one.0)
ends-there octets (targets.Name name) end found is (inr (inl four)) = clash 3 4 refl (sym is.0 ∙ four.0)
ends-there octets (targets.Name name) end found is (inr (inr three)) =
    let same : length name.now ≡ three.1.0 = same_Some (length name.now) three.1.0 (sym is.1 ∙ three.1.1) in
    is.2 ∙ ap (λ n. 5 + n) same ∙ sym three.1.2

-- where that is not there yet, no request is
pub none-yet : (octets : List ℕ) (end : ℕ) → IsEnd octets end → length octets < end + 2 → HasNone IsRequest octets
none-yet octets end ends short request len is =
    let there = ends-there octets request.target end is.end is.address ends in
    absurd (omega (arith, there, is.ends, is.whole, short))

-- an address ends after the place of a name's length
ends-late : (octets : List ℕ) (target : Target) (end : ℕ) → IsTarget octets target end → 5 ≤ end
ends-late octets (targets.Address (V4 n)) end is = omega (arith, is.1)
ends-late octets (targets.Address (V6 n)) end is = omega (arith, is.1)
ends-late octets (targets.Name name) end is = omega (arith, is.2)

-- so where that place isn't there, no request is
pub no-address : (octets : List ℕ) → length octets ≤ 4 → HasNone IsRequest octets
no-address octets short request len is = absurd (omega (arith, ends-late octets request.target is.end is.address, is.ends, is.whole, short))

-- the wanted octet stands at a place that is there
pub is-there : (octets : List ℕ) (place wanted : ℕ) → place < length octets → is_other octets place wanted ≡ false → slice_get octets place ≡ Some wanted
is-there [] place wanted there is = absurd (omega (arith, there))
is-there (x ∷ octets) zero wanted there is = ap Some (wanted-there x wanted is)
is-there (x ∷ octets) (suc place) wanted there is = is-there octets place wanted (omega (arith, there)) is

-- ---- greetings

-- more octets make a greeting of what has the number of its methods
greeting-of-two : (way : Method) (x n : ℕ) (rest : List ℕ) → x ≡ 5 → MayBecome (IsGreeting way) (x ∷ n ∷ rest)
greeting-of-two way x n rest version =
    let all = (x ∷ n ∷ rest) ++ zeros (2 + n) in (
      zeros (2 + n),
      offers (number_of way) (slice_range all 2 (2 + n)),
      2 + n,
      record { version = ap Some version; count = n; counted = refl; ends = refl; whole = enough (x ∷ n ∷ rest) (2 + n); methods = refl },
    )

pub greeting-may : (way : Method) (octets : List ℕ) → slice_index_or octets 0 0 ≡ 5 → MayBecome (IsGreeting way) octets
greeting-may way [] version = absurd (omega (arith, version))
greeting-may way (x ∷ []) version = let made = greeting-of-two way x 0 [] version in (0 ∷ made.0, made.1, made.2, made.3)
greeting-may way (x ∷ n ∷ rest) version = greeting-of-two way x n rest version

pub greeting-of-none : (way : Method) (octets : List ℕ) → length octets ≡ 0 → MayBecome (IsGreeting way) octets
greeting-of-none way [] none = let made = greeting-of-two way 5 0 [] refl in (5 ∷ 0 ∷ made.0, made.1, made.2, made.3)
greeting-of-none way (x ∷ octets) none = absurd (omega (arith, none))

pub no-count : (way : Method) (octets : List ℕ) → length octets < 2 → HasNone (IsGreeting way) octets
no-count way octets short offered len is = absurd (omega (arith, slice_get_within octets 1 is.count is.counted, short))

pub too-short : (way : Method) (octets : List ℕ) → length octets < 2 + slice_index_or octets 1 0 → HasNone (IsGreeting way) octets
too-short way octets short offered len is =
    let count : slice_index_or octets 1 0 ≡ is.count = get_or_from_slice_get octets 1 is.count 0 is.counted in
    absurd (omega (arith, count, is.ends, is.whole, short))
