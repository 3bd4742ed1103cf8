-- Octets, words and parts of names: what is read is what stands there, and the other way round.
use Rattle.std.proofs.Common.{◌≡◌, ℕ, ◌+◌, ◌-◌, ◌*◌, ◌<◌, ◌≤◌, Bool, true, false, cond, ltb, leb, eqb, List, Option, Some, None, length, get_or, refl, sym, ◌∙◌, ap, subst, arith}
use Rattle.std.specs.Option.{option_and_then}
use Rattle.std.proofs.lemmas.Bool.{ltb-true, ltb-false, leb-true, eqb-true, eqb-false, lt-ltb, le-ltb, le-leb, lt-leb, ne_eqb}
use Rattle.he_dns.specs.declared.parts.NamePart.{NamePart}
use Rattle.he_dns.specs.declared.parts.NamePart.TheVariants.{Root, Label, Pointer}
use Rattle.he_dns.specs.Names.{IsPartAt}
use Rattle.he_dns.specs.Numbers.{IsTtlAt, IsWordAt, counted_ttl}
use Rattle.he_dns.specs.Reading.{label_at, octet_at, part_at, ttl_at, word_at}

-- a step and what follows it
pub bind_some : {A B : Type 0} (o : Option A) (f : A → Option B) (y : B) → option_and_then f o ≡ Some y → (x : A) × (o ≡ Some x) × (f x ≡ Some y)
bind_some None f y h = cc
bind_some (Some x) f y h = (x, refl, h)

pub allowed : {A : Type 0} (b : Bool) (o : Option A) (y : A) → cond b o None ≡ Some y → (b ≡ true) × (o ≡ Some y)
allowed true o y h = (refl, h)
allowed false o y h = cc

pub not_refused : {A : Type 0} (b : Bool) (o : Option A) (y : A) → cond b None o ≡ Some y → (b ≡ false) × (o ≡ Some y)
not_refused true o y h = cc
not_refused false o y h = (refl, h)

pub some_same : {A : Type 0} (x y : A) → Some x ≡ Some y → x ≡ y
some_same x y h = cc

pub octet_stands : (m : List ℕ) (at x : ℕ) → octet_at m at ≡ Some x → (at < length m) × (get_or m at 0 ≡ x)
unfolding octet_at
octet_stands m at x h =
    let a = allowed (ltb at (length m)) (Some (get_or m at 0)) x h in
    (ltb-true at (length m) a.0, some_same (get_or m at 0) x a.1)

pub octet_found : (m : List ℕ) (at : ℕ) → at < length m → octet_at m at ≡ Some (get_or m at 0)
unfolding octet_at
octet_found m at lt = rw (lt-ltb at (length m) lt) refl

pub word_stands : (m : List ℕ) (at word : ℕ) → word_at m at ≡ Some word → IsWordAt m at word
unfolding word_at
word_stands m at word h =
    let a = allowed (ltb (at + 1) (length m)) (Some (get_or m at 0 * 256 + get_or m (at + 1) 0)) word h in
    record { within = ltb-true (at + 1) (length m) a.0; value = sym (some_same (get_or m at 0 * 256 + get_or m (at + 1) 0) word a.1) }

pub word_found : (m : List ℕ) (at word : ℕ) → IsWordAt m at word → word_at m at ≡ Some word
unfolding word_at
word_found m at word w = rw (lt-ltb (at + 1) (length m) w.within) (ap Some (sym w.value))

pub ttl_stands : (m : List ℕ) (at ttl : ℕ) → ttl_at m at ≡ Some ttl → IsTtlAt m at ttl
unfolding ttl_at
ttl_stands m at ttl h =
    let high = bind_some _ _ ttl h in
    let low = bind_some _ _ ttl high.2 in
    record {
      high = high.0;
      low = low.0;
      high_word = word_stands m at high.0 high.1;
      low_word = word_stands m (at + 2) low.0 low.1;
      value = sym (some_same (counted_ttl (high.0 * 65536 + low.0)) ttl low.2);
    }

pub ttl_found : (m : List ℕ) (at ttl : ℕ) → IsTtlAt m at ttl → ttl_at m at ≡ Some ttl
unfolding ttl_at
ttl_found m at ttl is =
    let high = word_found m at is.high is.high_word in
    let low = word_found m (at + 2) is.low is.low_word in
    rw (high, low) (ap Some (sym is.value))

-- a part, by the tests of its first octet
by_first : (m : List ℕ) (at x : ℕ) (part : NamePart) (z l p : Bool) → at < length m → get_or m at 0 ≡ x → eqb x 0 ≡ z → leb x 63 ≡ l → ltb x 192 ≡ p
    → cond z (Some Root) (cond l (label_at m at x) (cond p None (option_and_then (λ second. Some (Pointer ((x - 192) * 256 + second))) (octet_at m (at + 1))))) ≡ Some part
    → IsPartAt m at part
unfolding label_at
by_first m at x part true l p lt is hz hl hp h =
    subst (λ (q : NamePart). IsPartAt m at q) (some_same Root part h) (lt, is ∙ eqb-true x 0 hz)
by_first m at x part false true p lt is hz hl hp h =
    let a = allowed (ltb (at + x) (length m)) (Some (Label x)) part h in
    let some : x ≡ 0 → ⊥ = eqb-false x 0 hz in
    subst (λ (q : NamePart). IsPartAt m at q) (some_same (Label x) part a.1) (omega arith, leb-true x 63 hl, ltb-true (at + x) (length m) a.0, is)
by_first m at x part false false true lt is hz hl hp h = cc
by_first m at x part false false false lt is hz hl hp h =
    let b = bind_some (octet_at m (at + 1)) (λ second. Some (Pointer ((x - 192) * 256 + second))) part h in
    let second = octet_stands m (at + 1) b.0 b.1 in
    let high : 192 ≤ x = ltb-false x 192 hp in
    let sum : 49152 + ((x - 192) * 256 + b.0) ≡ get_or m at 0 * 256 + get_or m (at + 1) 0 = omega (arith, is, second.1, high) in
    subst (λ (q : NamePart). IsPartAt m at q) (some_same (Pointer ((x - 192) * 256 + b.0)) part b.2) (second.0, omega (arith, is, high), sum)

pub part_stands : (m : List ℕ) (at : ℕ) (part : NamePart) → part_at m at ≡ Some part → IsPartAt m at part
unfolding part_at
part_stands m at part h =
    let b = bind_some (octet_at m at)
    (λ first. cond (eqb first 0) (Some Root) (cond (leb first 63) (label_at m at first) (cond (ltb first 192) None (option_and_then (λ second. Some (Pointer ((first - 192) * 256 + second))) (octet_at m (at + 1))))))
    part h in
    let first = octet_stands m at b.0 b.1 in
    by_first m at b.0 part (eqb b.0 0) (leb b.0 63) (ltb b.0 192) first.0 first.1 refl refl refl b.2

pub part_found : (m : List ℕ) (at : ℕ) (part : NamePart) → IsPartAt m at part → part_at m at ≡ Some part
unfolding part_at label_at
part_found m at Root (lt, is) = rw (octet_found m at lt, is) refl
part_found m at (Label n) (one, most, within, is) =
    let lt : at < length m = omega arith in
    let some : n ≡ 0 → ⊥ = λ e. absurd (omega arith) in
    rw (octet_found m at lt, is, ne_eqb n 0 some, le-leb n 63 most, lt-ltb (at + n) (length m) within) refl
part_found m at (Pointer to) (within, high, sum) =
    let lt : at < length m = omega arith in
    let x : ℕ = get_or m at 0 in
    let some : get_or m at 0 ≡ 0 → ⊥ = λ e. absurd (omega arith) in
    let place : (get_or m at 0 - 192) * 256 + get_or m (at + 1) 0 ≡ to = omega arith in
    rw (octet_found m at lt, ne_eqb (get_or m at 0) 0 some, lt-leb (get_or m at 0) 63 (omega arith), le-ltb (get_or m at 0) 192 high, octet_found m (at + 1) within)
    (ap (λ (n : ℕ). Some (Pointer n)) place)
