-- The addresses whose bytes a call is given.
use Rattle.std.proofs.Common.{ℕ, ◌+◌, ◌≡◌, ◌≤◌, ◌<◌, ◌++◌, ◌∙◌, List, [], ◌∷◌, true, false, eqb, length, take, drop, refl, sym, ap, subst, arith, append_assoc, take-append-drop}
use Rattle.std.proofs.lemmas.Bool.{eqb-false, false≢true, ne_eqb}
use Rattle.std.proofs.lemmas.List.{append-nil, length-append, length-take-le}
use Rattle.std.proofs.Math.Seq.{drop-append_seam}
use Rattle.he_addr.specs.declared.ip.Family.{Family}
use Rattle.he_addr.specs.declared.ip.Family.TheVariants as families
use Rattle.he_addr.specs.declared.ip.Ip.{Ip}
use Rattle.he_c.specs.Addresses.{AreAddresses, ip_in, size_of}

-- these addresses are those of the first bytes, and the rest is still to be read
pub record IsReadTo (family : Family) (bytes rest : List ℕ) (ips : List Ip) : Type 0 where
  pub joined : (more : List Ip) → AreAddresses family rest more → AreAddresses family bytes (ips ++ more)
  pub parted : (all : List Ip) → AreAddresses family bytes all → (more : List Ip) × AreAddresses family rest more

pub at_first : (family : Family) (bytes : List ℕ) → IsReadTo family bytes bytes []
at_first family bytes = record { joined = λ more is. is; parted = λ all is. (all, is) }

some_size : (family : Family) → 1 ≤ size_of family
some_size families.V4 = omega arith
some_size families.V6 = omega arith

-- what is left after an address of bytes that have one
left_after : (family : Family) (rest own : List ℕ) (more : List Ip) → rest ≡ own ++ drop (size_of family) rest → length own ≡ size_of family
    → AreAddresses family rest more → (others : List Ip) × AreAddresses family (drop (size_of family) rest) others
left_after family rest own [] split size none =
    let some = some_size family in
    let lengths : length rest ≡ length own + length (drop (size_of family) rest) = ap length split ∙ length-append own (drop (size_of family) rest) in
    let nothing : length rest ≡ 0 = ap length none in
    absurd (omega (arith, some, lengths, nothing, size))
left_after family rest own (ip ∷ others) split size (first, behind, parts, first_size, is, are) =
    let same : drop (size_of family) rest ≡ behind =
    ap (λ (n : ℕ). drop n rest) (sym first_size) ∙ ap (λ (bytes : List ℕ). drop (length first) bytes) parts ∙ drop-append_seam first behind in
    (others, subst (λ (bytes : List ℕ). AreAddresses family bytes others) (sym same) are)

pub one_further : (family : Family) (n : ℕ) (bytes rest own more : List ℕ) (ip : Ip) (ips new : List Ip) → n ≡ size_of family → n ≤ length rest
    → own ≡ take n rest → more ≡ drop n rest → ip ≡ ip_in family own → new ≡ ips ++ ip ∷ [] → IsReadTo family bytes rest ips
    → IsReadTo family bytes more new
one_further family n bytes rest own more ip ips new sized long taken left is added before =
    let within : size_of family ≤ length rest = subst (λ (size : ℕ). size ≤ length rest) sized long in
    let front : own ≡ take (size_of family) rest = taken ∙ ap (λ (size : ℕ). take size rest) sized in
    let back : more ≡ drop (size_of family) rest = left ∙ ap (λ (size : ℕ). drop size rest) sized in
    let pushed : new ≡ ips ++ ip_in family own ∷ [] = added ∙ ap (λ (one : Ip). ips ++ one ∷ []) is in
    let size : length own ≡ size_of family = ap length front ∙ length-take-le (size_of family) rest within in
    let split : rest ≡ own ++ drop (size_of family) rest = sym (take-append-drop (size_of family) rest) ∙ ap (λ (b : List ℕ). b ++ drop (size_of family) rest) (sym front) in
    let here : rest ≡ own ++ more = split ∙ ap (λ (b : List ℕ). own ++ b) (sym back) in
    record {
      joined = λ others are.
          subst (λ (all : List Ip). AreAddresses family bytes all)
          (sym (ap (λ (l : List Ip). l ++ others) pushed ∙ append_assoc ips (ip_in family own ∷ []) others))
          (before.joined (ip_in family own ∷ others) (own, more, here, size, refl, are));
      parted = λ all are.
          let left = before.parted all are in
          let after = left_after family rest own left.0 split size left.1 in
          (after.0, subst (λ (b : List ℕ). AreAddresses family b after.0) (sym back) after.1);
    }

nothing_left : (rest : List ℕ) → eqb (length rest) 0 ≡ true → rest ≡ []
nothing_left [] h = refl
nothing_left (b ∷ rest) h = absurd (false≢true (sym (ne_eqb (length (b ∷ rest)) 0 (λ none. omega (arith, none))) ∙ h))

pub all_read : (family : Family) (bytes rest : List ℕ) (ips : List Ip) → eqb (length rest) 0 ≡ true → IsReadTo family bytes rest ips → AreAddresses family bytes ips
all_read family bytes rest ips none read =
    subst (λ (all : List Ip). AreAddresses family bytes all) (append-nil ips) (read.joined [] (nothing_left rest none))

pub cut_off : (family : Family) (n : ℕ) (bytes rest : List ℕ) (ips : List Ip) → n ≡ size_of family → length rest < n → eqb (length rest) 0 ≡ false
    → IsReadTo family bytes rest ips → (all : List Ip) → AreAddresses family bytes all → ⊥
cut_off family n bytes rest ips sized short some read all are = by_left (read.parted all are).0 (read.parted all are).1
  where
    by_left : (more : List Ip) → AreAddresses family rest more → ⊥
    by_left [] none = eqb-false (length rest) 0 some (ap length none)
    by_left (ip ∷ more) (own, behind, parts, size, is, later) =
        let lengths : length rest ≡ length own + length behind = ap length parts ∙ length-append own behind in
        omega (arith, lengths, size, sized, short)
