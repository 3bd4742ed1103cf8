-- One more part of a name.
use Rattle.std.proofs.Common.{◌≡◌, ℕ, zero, suc, ◌+◌, ◌-◌, ◌<◌, ◌≤◌, List, ◌++◌, Option, Some, None, length, take, drop, refl, sym, ◌∙◌, ap, arith}
use Rattle.std.specs.Option.{IfSome, unwrap_or}
use Rattle.std.proofs.lemmas.Bool.{le-ltb, lt-ltb}
use Rattle.he_dns.specs.declared.parts.NamePart.TheVariants.{Root, Label, Pointer}
use Rattle.he_dns.specs.Reading.{part_at, name_from}

-- with parts left, one fewer is left behind the next one
one_fewer : (read : ℕ) → read < 255 → 255 - read ≡ suc (255 - (read + 1))
one_fewer read h = omega arith

pub none_step : (k : ℕ) (m : List ℕ) (b p : ℕ) (e : Option ℕ) (o : List ℕ) → None ≡ part_at m p → name_from (suc k) m b p e o ≡ None
unfolding name_from
none_step k m b p e o h = rw (← h) refl

pub root_step : (k : ℕ) (m : List ℕ) (b p : ℕ) (e : Option ℕ) (o : List ℕ) → Some Root ≡ part_at m p → name_from (suc k) m b p e o ≡ Some (o, unwrap_or e (p + 1))
unfolding name_from
root_step k m b p e o h = rw (← h) refl

pub label_step : (k : ℕ) (m : List ℕ) (b p : ℕ) (e : Option ℕ) (o : List ℕ) (len : ℕ) → Some (Label len) ≡ part_at m p → length o + (1 + len) ≤ 254
    → name_from (suc k) m b p e o ≡ name_from k m b (p + (1 + len)) e (o ++ take (1 + len) (drop p m))
unfolding name_from
label_step k m b p e o len h fits = rw (← h) (rw (le-ltb 254 (length o + (1 + len)) fits) refl)

pub long_step : (k : ℕ) (m : List ℕ) (b p : ℕ) (e : Option ℕ) (o : List ℕ) (len : ℕ) → Some (Label len) ≡ part_at m p → 254 < length o + (1 + len)
    → name_from (suc k) m b p e o ≡ None
unfolding name_from
long_step k m b p e o len h long = rw (← h) (rw (lt-ltb 254 (length o + (1 + len)) long) refl)

pub pointer_step : (k : ℕ) (m : List ℕ) (b p : ℕ) (e : Option ℕ) (o : List ℕ) (to : ℕ) → Some (Pointer to) ≡ part_at m p → to < b
    → name_from (suc k) m b p e o ≡ name_from k m to to (Some (unwrap_or e (p + 2))) o
unfolding name_from
pointer_step k m b p e o to h lt = rw (← h) (rw (lt-ltb to b lt) refl)

pub forward_step : (k : ℕ) (m : List ℕ) (b p : ℕ) (e : Option ℕ) (o : List ℕ) (to : ℕ) → Some (Pointer to) ≡ part_at m p → b ≤ to
    → name_from (suc k) m b p e o ≡ None
unfolding name_from
forward_step k m b p e o to h le = rw (← h) (rw (le-ltb to b le) refl)

-- with so many parts left, where a whole name is what is read from here on
pub record Left (m : List ℕ) (b p : ℕ) (e : Option ℕ) (o : List ℕ) (read : ℕ) (whole : Option (List ℕ × ℕ)) : Type 0 where
  pub same : name_from (255 - read) m b p e o ≡ whole
  pub more : read < 255

again : (m : List ℕ) (b p : ℕ) (e : Option ℕ) (o : List ℕ) (read : ℕ) (whole : Option (List ℕ × ℕ)) → Left m b p e o read whole
    → name_from (suc (255 - (read + 1))) m b p e o ≡ whole
again m b p e o read whole l = ap (λ k. name_from k m b p e o) (sym (one_fewer read l.more)) ∙ l.same

pub none_left : (m : List ℕ) (b p : ℕ) (e : Option ℕ) (o : List ℕ) (read : ℕ) (whole : Option (List ℕ × ℕ)) → Left m b p e o read whole
    → None ≡ part_at m p → None ≡ whole
none_left m b p e o read whole l h = sym (none_step (255 - (read + 1)) m b p e o h) ∙ again m b p e o read whole l

pub root_left : (m : List ℕ) (b p : ℕ) (e : Option ℕ) (o : List ℕ) (read : ℕ) (whole : Option (List ℕ × ℕ)) → Left m b p e o read whole
    → Some Root ≡ part_at m p → Some (o, unwrap_or e (p + 1)) ≡ whole
root_left m b p e o read whole l h = sym (root_step (255 - (read + 1)) m b p e o h) ∙ again m b p e o read whole l

pub long_left : (m : List ℕ) (b p : ℕ) (e : Option ℕ) (o : List ℕ) (read : ℕ) (whole : Option (List ℕ × ℕ)) → Left m b p e o read whole
    → (len : ℕ) → Some (Label len) ≡ part_at m p → 254 < length o + (1 + len) → None ≡ whole
long_left m b p e o read whole l len h long = sym (long_step (255 - (read + 1)) m b p e o len h long) ∙ again m b p e o read whole l

pub forward_left : (m : List ℕ) (b p : ℕ) (e : Option ℕ) (o : List ℕ) (read : ℕ) (whole : Option (List ℕ × ℕ)) → Left m b p e o read whole
    → (to : ℕ) → Some (Pointer to) ≡ part_at m p → b ≤ to → None ≡ whole
forward_left m b p e o read whole l to h le = sym (forward_step (255 - (read + 1)) m b p e o to h le) ∙ again m b p e o read whole l

pub label_left : (m : List ℕ) (b p : ℕ) (e : Option ℕ) (o : List ℕ) (read : ℕ) (whole : Option (List ℕ × ℕ)) → Left m b p e o read whole
    → (len : ℕ) → Some (Label len) ≡ part_at m p → length o + (1 + len) ≤ 254
    → name_from (255 - (read + 1)) m b (p + (1 + len)) e (o ++ take (1 + len) (drop p m)) ≡ whole
label_left m b p e o read whole l len h fits = sym (label_step (255 - (read + 1)) m b p e o len h fits) ∙ again m b p e o read whole l

pub pointer_left : (m : List ℕ) (b p : ℕ) (e : Option ℕ) (o : List ℕ) (read : ℕ) (whole : Option (List ℕ × ℕ)) → Left m b p e o read whole
    → (to : ℕ) → Some (Pointer to) ≡ part_at m p → to < b
    → name_from (255 - (read + 1)) m to to (Some (unwrap_or e (p + 2))) o ≡ whole
pointer_left m b p e o read whole l to h lt = sym (pointer_step (255 - (read + 1)) m b p e o to h lt) ∙ again m b p e o read whole l

-- no part is left
pub nothing_left : (m : List ℕ) (b p : ℕ) (e : Option ℕ) (o : List ℕ) (read : ℕ) (whole : Option (List ℕ × ℕ)) → 255 ≤ read
    → name_from (255 - read) m b p e o ≡ whole → None ≡ whole
unfolding name_from
nothing_left m b p e o read whole h same =
    let e0 : 255 - read ≡ zero = omega arith in
    ap (λ k. name_from k m b p e o) (sym e0) ∙ same

pub ended_within : (e : Option ℕ) (place len : ℕ) → IfSome e (λ end. end ≤ len) → place ≤ len → unwrap_or e place ≤ len
ended_within None place len h le = le
ended_within (Some end) place len h le = h
