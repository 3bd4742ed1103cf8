-- The name that is read from a message is the one that stands there, and the other way round.
use Rattle.std.proofs.Common.{◌≡◌, ℕ, zero, suc, ◌+◌, ◌<◌, ◌≤◌, cond, ltb, List, [], ◌∷◌, ◌++◌, Option, Some, None, length, take, drop, refl, sym, ◌∙◌, ap, subst, arith, lit≤, append_assoc, length-append, length-drop}
use Rattle.std.specs.Option.{unwrap_or}
use Rattle.std.proofs.lemmas.Bool.{ltb-true, ltb-false}
use Rattle.std.proofs.lemmas.List.{append-nil, length-take-le}
use Rattle.he_dns.specs.declared.parts.NamePart.{NamePart}
use Rattle.he_dns.specs.declared.parts.NamePart.TheVariants.{Root, Label, Pointer}
use Rattle.he_dns.specs.Names.{AreParts, IsNameAt, IsPartAt, end_of, octets_of}
use Rattle.he_dns.specs.Reading.{by_part, name_at, name_from, part_at}
use Rattle.he_dns.proofs.Named.{label_step, pointer_step, root_step}
use Rattle.he_dns.proofs.Numerals.{allowed, not_refused, part_found, part_stands, some_same}

-- what is read from a place on, with so many parts left: the parts that stand there
record Stands (n : ℕ) (m : List ℕ) (b p : ℕ) (e : Option ℕ) (o : List ℕ) (r : List ℕ × ℕ) : Type 0 where
  parts : List NamePart
  stand : AreParts m b p parts
  few : length parts ≤ n
  octets : r.0 ≡ o ++ octets_of m p parts
  short : length r.0 ≤ 254
  ends : r.1 ≡ unwrap_or e (end_of p parts)

label_len : (m o : List ℕ) (p len : ℕ) → p + len < length m → length (o ++ take (1 + len) (drop p m)) ≡ length o + (1 + len)
label_len m o p len within =
    let room : 1 + len ≤ length (drop p m) = omega (arith, length-drop p m) in
    omega (arith, length-append o (take (1 + len) (drop p m)), length-take-le (1 + len) (drop p m) room)

-- by what stands at the place
by_place : (n : ℕ) (m : List ℕ) (b p : ℕ) (e : Option ℕ) (o : List ℕ) (r : List ℕ × ℕ) (part : Option NamePart) → length o ≤ 254 → part_at m p ≡ part
    → ((b' p' : ℕ) (e' : Option ℕ) (o' : List ℕ) → length o' ≤ 254 → name_from n m b' p' e' o' ≡ Some r → Stands n m b' p' e' o' r)
    → by_part part None (Some (o, unwrap_or e (p + 1)))
    (λ len. cond (ltb 254 (length o + (1 + len))) None (name_from n m b (p + (1 + len)) e (o ++ take (1 + len) (drop p m))))
    (λ to. cond (ltb to b) (name_from n m to to (Some (unwrap_or e (p + 2))) o) None) ≡ Some r
    → Stands (suc n) m b p e o r
by_place n m b p e o r None short is later h = cc
by_place n m b p e o r (Some Root) short is later h =
    let same : (o, unwrap_or e (p + 1)) ≡ r = some_same (o, unwrap_or e (p + 1)) r h in
    subst (λ (x : List ℕ × ℕ). Stands (suc n) m b p e o x) same (record {
      parts = Root ∷ [];
      stand = (part_stands m p Root is, refl);
      few = omega arith;
      octets = sym (append-nil o);
      short = short;
      ends = refl;
    })
by_place n m b p e o r (Some (Label len)) short is later h =
    let a = not_refused (ltb 254 (length o + (1 + len))) (name_from n m b (p + (1 + len)) e (o ++ take (1 + len) (drop p m))) r h in
    let part : IsPartAt m p (Label len) = part_stands m p (Label len) is in
    let fits : length o + (1 + len) ≤ 254 = ltb-false 254 (length o + (1 + len)) a.0 in
    let s = later b (p + (1 + len)) e (o ++ take (1 + len) (drop p m)) (omega (arith, fits, label_len m o p len part.2)) a.1 in
    record {
      parts = Label len ∷ s.parts;
      stand = (part, s.stand);
      few = omega (arith, s.few);
      octets = s.octets ∙ append_assoc o (take (1 + len) (drop p m)) (octets_of m (p + (1 + len)) s.parts);
      short = s.short;
      ends = s.ends;
    }
by_place n m b p e o r (Some (Pointer to)) short is later h =
    let a = allowed (ltb to b) (name_from n m to to (Some (unwrap_or e (p + 2))) o) r h in
    let s = later to to (Some (unwrap_or e (p + 2))) o short a.1 in
    record {
      parts = Pointer to ∷ s.parts;
      stand = (part_stands m p (Pointer to) is, ltb-true to b a.0, s.stand);
      few = omega (arith, s.few);
      octets = s.octets;
      short = s.short;
      ends = s.ends;
    }

read_stands : (n : ℕ) (m : List ℕ) (b p : ℕ) (e : Option ℕ) (o : List ℕ) (r : List ℕ × ℕ) → length o ≤ 254 → name_from n m b p e o ≡ Some r → Stands n m b p e o r
unfolding name_from
read_stands zero m b p e o r short h = cc
read_stands (suc n) m b p e o r short h = by_place n m b p e o r (part_at m p) short refl (λ b' p' e' o' short' h'. read_stands n m b' p' e' o' r short' h') h

pub name_stands : (m : List ℕ) (at : ℕ) (name : List ℕ) (end : ℕ) → name_at m at ≡ Some (name, end) → IsNameAt m at name end
unfolding name_at
name_stands m at name end h =
    let s = read_stands 255 m at at None [] (name, end) (lit≤ tt) h in
    record { parts = s.parts; stand = s.stand; few = s.few; octets = s.octets; short = s.short; ends = s.ends }

-- the parts that stand from a place on are read
parts_found : (parts : List NamePart) (n : ℕ) (m : List ℕ) (b p : ℕ) (e : Option ℕ) (o : List ℕ) → AreParts m b p parts → length parts ≤ n
    → length (o ++ octets_of m p parts) ≤ 254 → name_from n m b p e o ≡ Some (o ++ octets_of m p parts, unwrap_or e (end_of p parts))
parts_found [] n m b p e o stand few short = absurd stand
parts_found (part ∷ parts) zero m b p e o stand few short = absurd (omega arith)
parts_found (Root ∷ parts) (suc n) m b p e o stand few short =
    root_step n m b p e o (sym (part_found m p Root stand.0)) ∙ ap (λ (x : List ℕ). Some (x, unwrap_or e (p + 1))) (sym (append-nil o))
parts_found (Label len ∷ parts) (suc n) m b p e o stand few short =
    let label : List ℕ = take (1 + len) (drop p m) in
    let rest : List ℕ = octets_of m (p + (1 + len)) parts in
    let joined : (o ++ label) ++ rest ≡ o ++ (label ++ rest) = append_assoc o label rest in
    let fits : length o + (1 + len) ≤ 254 = omega (arith, short, ap length joined, length-append (o ++ label) rest, label_len m o p len stand.0.2) in
    label_step n m b p e o len (sym (part_found m p (Label len) stand.0)) fits
    ∙ parts_found parts n m b (p + (1 + len)) e (o ++ label) stand.1 (omega arith) (subst (λ (x : List ℕ). length x ≤ 254) (sym joined) short)
    ∙ ap (λ (x : List ℕ). Some (x, unwrap_or e (end_of (p + (1 + len)) parts))) joined
parts_found (Pointer to ∷ parts) (suc n) m b p e o stand few short =
    pointer_step n m b p e o to (sym (part_found m p (Pointer to) stand.0)) stand.1
    ∙ parts_found parts n m to to (Some (unwrap_or e (p + 2))) o stand.2 (omega arith) short

pub name_found : (m : List ℕ) (at : ℕ) (name : List ℕ) (end : ℕ) → IsNameAt m at name end → name_at m at ≡ Some (name, end)
unfolding name_at
name_found m at name end is =
    parts_found is.parts 255 m at at None [] is.stand is.few (subst (λ (x : List ℕ). length x ≤ 254) is.octets is.short)
    ∙ ap (λ (x : List ℕ). Some (x, end_of at is.parts)) (sym is.octets) ∙ ap (λ (x : ℕ). Some (name, x)) (sym is.ends)
