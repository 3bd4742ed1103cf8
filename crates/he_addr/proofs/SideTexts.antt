-- Groups of hexadecimal digits joined by colons, read one by one, and the number of an IPv6 text.
use Rattle.std.proofs.Common.{◌≡◌, inl, inr, ℕ, zero, suc, ◌+◌, ◌-◌, ◌*◌, ◌%◌, ◌^◌, ◌<◌, ◌≤◌, Bool, true, false, eqb, List, [], ◌∷◌, ◌++◌, length, replicate, Some, refl, sym, ◌∙◌, ap, subst, arith, append_assoc, append-nil, length-append}
use Rattle.std.specs.Int.{w128, from_be_bytes}
use Rattle.std.specs.Int.Digits.{number_from_digits_after, number_from_digits}
use Rattle.std.specs.Net.Addr.{octets_of}
use Rattle.std.specs.Net.Grammar.{IsGroupsAfter, IsGroups, IsColonHex}
use Rattle.std.proofs.Math.Nat.{pow-le-pow_right, mul_assoc}
use Rattle.std.proofs.NetLemmas.Arrays.{eight_items}
use Rattle.std.proofs.lemmas.Bool.{eqb-true}
use Rattle.std.proofs.lemmas.Int.Digits.{number_after_append, number_push}
use Rattle.std.proofs.lemmas.Nat.{pow-add, shl_whole, shl_below, mul-add-lt}
use Rattle.he_addr.specs.Reading.{v6_in}
use Rattle.he_addr.specs.Sides.{IsFront, IsSide}
use Rattle.he_addr.proofs.NetTexts.{v6_some}
use Rattle.he_addr.proofs.PrintedTexts.{number_8, length_around}

-- groups, and a colon behind the last of them: whatever groups follow are joined to them
pub record IsBegun (text rest : List ℕ) (number count : ℕ) : Type 0 where
  pub front : List ℕ
  pub groups : List ℕ
  pub parts : text ≡ front ++ rest
  pub joins : (ipv4 : Bool) (more : List ℕ) (others : List ℕ) → 0 < length others → IsGroups ipv4 more others → IsGroups ipv4 (front ++ more) (groups ++ others)
  pub number_is : number ≡ number_from_digits 65536 groups
  pub count_is : count ≡ length groups
  pub small : number < 2 ^ (16 * count)

-- one group more is sixteen bits more
pub small_more : (number count value : ℕ) → number < 2 ^ (16 * count) → value < 65536 → number * 65536 + value < 2 ^ (16 * (count + 1))
small_more number count value small group =
    let bits : 16 * (count + 1) ≡ 16 * count + 16 = omega arith in
    let more : 2 ^ (16 * (count + 1)) ≡ 2 ^ (16 * count) * 65536 = ap (λ k. 2 ^ k) bits ∙ pow-add 2 (16 * count) 16 in
    omega (arith, more)

pub group_fits : (number count value : ℕ) → number < 2 ^ (16 * count) → count < 8 → value < 65536 → number * 65536 + value < 2 ^ 128
group_fits number count value small few group =
    let grown : 2 ^ (16 * (count + 1)) ≤ 2 ^ 128 = pow-le-pow_right {n = 2} (omega arith) {i = 16 * (count + 1)} {j = 128} (omega arith) in
    omega (arith, small_more number count value small group)

pub begun_none : (text : List ℕ) → IsBegun text text 0 0
begun_none text = record {
  front = [];
  groups = [];
  parts = refl;
  joins = λ ipv4 more others some h. h;
  number_is = refl;
  count_is = refl;
  small = omega arith;
}

lead_colon : (ipv4 : Bool) (text groups : List ℕ) → 0 < length groups → IsGroups ipv4 text groups → IsGroupsAfter ipv4 (58 ∷ []) (58 ∷ text) groups
lead_colon ipv4 text [] some h = absurd (omega arith)
lead_colon ipv4 text (s ∷ groups) some (inl (group, rest, parts, is, more)) = inl (group, rest, ap (λ t. 58 ∷ t) parts, is, more)
lead_colon ipv4 text (s ∷ groups) some (inr (last, octets, allowed, parts, is, value)) =
    inr (last, octets, allowed, ap (λ t. 58 ∷ t) parts, is, value)

pub begun_more : (text rest behind more : List ℕ) (number count value : ℕ) → IsBegun text rest number count → IsFront rest behind value → behind ≡ 58 ∷ more → IsBegun text more (number * 65536 + value) (count + 1)
begun_more text rest behind more number count value h f colon = record {
  front = h.front ++ (f.group ++ 58 ∷ []);
  groups = h.groups ++ value ∷ [];
  parts = h.parts ∙ ap (λ t. h.front ++ t) (f.parts ∙ ap (λ t. f.group ++ t) colon) ∙ joined more;
  joins = λ ipv4 after others some spelled.
      let whole : IsGroups ipv4 (h.front ++ (f.group ++ 58 ∷ after)) (h.groups ++ value ∷ others) =
      h.joins ipv4 (f.group ++ 58 ∷ after) (value ∷ others) (omega arith) (inl (f.group, 58 ∷ after, refl, f.is, lead_colon ipv4 after others some spelled)) in
      subst (λ t. IsGroups ipv4 t ((h.groups ++ value ∷ []) ++ others)) (joined after)
      (subst (λ gs. IsGroups ipv4 (h.front ++ (f.group ++ 58 ∷ after)) gs) (sym (append_assoc h.groups (value ∷ []) others)) whole);
  number_is = ap (λ n. n * 65536 + value) h.number_is ∙ sym (number_push 65536 h.groups value);
  count_is = omega (arith, h.count_is, length-append h.groups (value ∷ []));
  small = small_more number count value h.small f.fits;
}
  where
    joined : (after : List ℕ) → h.front ++ (f.group ++ 58 ∷ after) ≡ (h.front ++ (f.group ++ 58 ∷ [])) ++ after
    joined after = simp append_assoc

pub begun_last : (text rest behind : List ℕ) (number count value : ℕ) → IsBegun text rest number count → IsFront rest behind value → count < 8 → IsSide text behind (number * 65536 + value) (count + 1)
begun_last text rest behind number count value h f room = record {
  front = h.front ++ f.group;
  groups = h.groups ++ value ∷ [];
  parts = h.parts ∙ ap (λ t. h.front ++ t) f.parts ∙ sym (append_assoc h.front f.group behind);
  spelled = λ ipv4. h.joins ipv4 f.group (value ∷ []) (omega arith) (inl (f.group, [], sym (append-nil f.group), f.is, refl));
  number_is = ap (λ n. n * 65536 + value) h.number_is ∙ sym (number_push 65536 h.groups value);
  count_is = omega (arith, h.count_is, length-append h.groups (value ∷ []));
  few = omega arith;
  small = small_more number count value h.small f.fits;
}

-- no group
pub side_none : (text : List ℕ) → IsSide text text 0 0
side_none text = record { front = []; groups = []; parts = refl; spelled = λ ipv4. refl; number_is = refl; count_is = refl; few = omega arith; small = omega arith }

-- the number of eight groups
groups_number : (groups : List ℕ) → length groups ≡ 8 → from_be_bytes w128 (octets_of groups) ≡ number_from_digits 65536 groups
groups_number groups eight =
    let items = eight_items groups eight in
    ap (λ gs. from_be_bytes w128 (octets_of gs)) items ∙ number_8 _ _ _ _ _ _ _ _ ∙ ap (number_from_digits 65536) (sym items)

pub whole_read : (text : List ℕ) (number : ℕ) → IsSide text [] number 8 → v6_in text ≡ Some number
whole_read text number h =
    v6_some text h.groups (inl (subst (λ t. IsGroups true t h.groups) (sym (h.parts ∙ append-nil h.front)) (h.spelled true), sym h.count_is))
    ∙ ap Some (groups_number h.groups (sym h.count_is) ∙ sym h.number_is)

-- groups of zeros, and groups behind others
zeros_number : (n k : ℕ) → number_from_digits_after 65536 n (replicate k 0) ≡ n * 2 ^ (16 * k)
zeros_number n zero = omega arith
zeros_number n (suc k) =
    let bits : 16 * suc k ≡ 16 + 16 * k = omega arith in
    let more : 2 ^ (16 * suc k) ≡ 65536 * 2 ^ (16 * k) = ap (λ j. 2 ^ j) bits ∙ pow-add 2 16 (16 * k) in
    let shifted : n * 65536 + 0 ≡ n * 65536 = omega arith in
    zeros_number (n * 65536 + 0) k ∙ ap (λ m. m * 2 ^ (16 * k)) shifted ∙ mul_assoc n 65536 (2 ^ (16 * k)) ∙ ap (λ m. n * m) (sym more)

number_behind : (n : ℕ) (groups : List ℕ) → number_from_digits_after 65536 n groups ≡ n * 2 ^ (16 * length groups) + number_from_digits 65536 groups
number_behind n [] = omega arith
number_behind n (g ∷ gs) =
    let bits : 16 * suc (length gs) ≡ 16 + 16 * length gs = omega arith in
    let more : 2 ^ (16 * suc (length gs)) ≡ 65536 * 2 ^ (16 * length gs) = ap (λ j. 2 ^ j) bits ∙ pow-add 2 16 (16 * length gs) in
    let power : n * 2 ^ (16 * suc (length gs)) ≡ n * 65536 * 2 ^ (16 * length gs) = ap (λ m. n * m) more ∙ sym (mul_assoc n 65536 (2 ^ (16 * length gs))) in
    let here = number_behind (n * 65536 + g) gs in
    let alone = number_behind (0 * 65536 + g) gs in
    grind (arith, here, alone, power)

-- groups on both sides of `::`
pub short_read : (text rest behind : List ℕ) (front count back others : ℕ) → IsSide text rest front count → rest ≡ 58 ∷ 58 ∷ behind → IsSide behind [] back others → count + others < 8 → v6_in text ≡ Some (front * 2 ^ (16 * (8 - count)) + back)
short_read text rest behind front count back others x parts y room =
    let free : ℕ = 8 - length x.groups - length y.groups in
    let groups : List ℕ = x.groups ++ replicate free 0 ++ y.groups in
    let eight : length groups ≡ 8 = length_around x.groups y.groups free ∙ omega (arith, x.count_is, y.count_is) in
    let colon_hex : IsColonHex text groups = inr (record {
      head_text = x.front;
      tail_text = y.front;
      head = x.groups;
      tail = y.groups;
      spelled =
          x.parts
          ∙ ap (λ t. x.front ++ t) (parts ∙ ap (λ t. 58 ∷ 58 ∷ t) (y.parts ∙ append-nil y.front))
          ∙ sym (append_assoc x.front (58 ∷ 58 ∷ []) y.front);
      head_groups = x.spelled false;
      tail_groups = y.spelled true;
      room = omega (arith, x.count_is, y.count_is);
      value = refl;
    }) in
    let bits : 16 * free + 16 * length y.groups ≡ 16 * (8 - count) = omega (arith, x.count_is, y.count_is) in
    let moved : front * 2 ^ (16 * free) * 2 ^ (16 * length y.groups) ≡ front * 2 ^ (16 * (8 - count)) =
    mul_assoc front (2 ^ (16 * free)) (2 ^ (16 * length y.groups))
    ∙ ap (λ p. front * p) (sym (pow-add 2 (16 * free) (16 * length y.groups)) ∙ ap (λ k. 2 ^ k) bits) in
    let number : number_from_digits 65536 groups ≡ front * 2 ^ (16 * (8 - count)) + back =
    number_after_append 65536 0 (x.groups ++ replicate free 0) y.groups
    ∙ ap (λ n. number_from_digits_after 65536 n y.groups) (number_after_append 65536 0 x.groups (replicate free 0) ∙ ap (λ n. number_from_digits_after 65536 n (replicate free 0)) (sym x.number_is) ∙ zeros_number front free)
    ∙ number_behind (front * 2 ^ (16 * free)) y.groups
    ∙ ap (λ n. n + number_from_digits 65536 y.groups) moved
    ∙ ap (λ n. front * 2 ^ (16 * (8 - count)) + n) (sym y.number_is) in
    v6_some text groups colon_hex ∙ ap Some (groups_number groups eight ∙ number)

-- the groups in front moved up to the first bits
pub moved_up : (front count : ℕ) → front < 2 ^ (16 * count) → count ≤ 7 → ((front * 2 ^ 16) % 2 ^ 128 * 2 ^ (16 * (7 - count))) % 2 ^ 128 ≡ front * 2 ^ (16 * (8 - count))
moved_up front count small few =
    let once : (front * 2 ^ 16) % 2 ^ 128 ≡ front * 2 ^ 16 = shl_whole front (16 * count) 16 128 small (omega arith) in
    let higher : front * 2 ^ 16 < 2 ^ (16 * count + 16) = shl_below front (16 * count) 16 small in
    let bits : 16 + 16 * (7 - count) ≡ 16 * (8 - count) = omega arith in
    ap (λ n. (n * 2 ^ (16 * (7 - count))) % 2 ^ 128) once
    ∙ shl_whole (front * 2 ^ 16) (16 * count + 16) (16 * (7 - count)) 128 higher (omega arith)
    ∙ mul_assoc front (2 ^ 16) (2 ^ (16 * (7 - count)))
    ∙ ap (λ p. front * p) (sym (pow-add 2 16 (16 * (7 - count))) ∙ ap (λ k. 2 ^ k) bits)

pub both_fit : (front count back others : ℕ) → front < 2 ^ (16 * count) → back < 2 ^ (16 * others) → count + others < 8 → front * 2 ^ (16 * (8 - count)) + back < 2 ^ 128
both_fit front count back others small small_back room =
    let grown : 2 ^ (16 * others) ≤ 2 ^ (16 * (8 - count)) = pow-le-pow_right {n = 2} (omega arith) {i = 16 * others} {j = 16 * (8 - count)} (omega arith) in
    let bits : 16 * (8 - count) + 16 * count ≡ 128 = omega arith in
    let all : 2 ^ (16 * (8 - count)) * 2 ^ (16 * count) ≡ 2 ^ 128 = sym (pow-add 2 (16 * (8 - count)) (16 * count)) ∙ ap (λ k. 2 ^ k) bits in
    omega (arith, all, mul-add-lt front (2 ^ (16 * (8 - count))) back (2 ^ (16 * count)) small (omega arith))

pub nothing_left : (rest : List ℕ) → eqb (length rest) 0 ≡ true → rest ≡ []
nothing_left [] h = refl
nothing_left (x ∷ rest) h = absurd (omega (arith, eqb-true (length (x ∷ rest)) 0 h))
