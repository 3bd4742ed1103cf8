-- The bytes of a text that spells an address: hexadecimal digits, dots and colons.
use Rattle.std.proofs.Common.{◌≡◌, ◌⊎◌, inl, inr, ℕ, ◌<◌, ◌≤◌, Bool, true, false, List, [], ◌∷◌, ◌++◌, decimal, refl, sym, subst, arith}
use Rattle.std.specs.Char.{digit_value}
use Rattle.std.specs.List.{AllByRecursion}
use Rattle.std.specs.Net.Grammar.{IsDotted, IsGroupsAfter, IsIpText}
use Rattle.std.specs.Str.Parse.{AllDigits}
use Rattle.std.specs.declared.net.ip_addr.IpAddr.{IpAddr}
use Rattle.std.specs.declared.net.ip_addr.IpAddr.TheVariants as addresses
use Rattle.std.proofs.lemmas.Bool.{ne_eqb}
use Rattle.std.proofs.lemmas.Fmt.{decimal_is_IsNumeral}
use Rattle.he_addr.specs.declared.ip.Ip.{Ip}
use Rattle.he_addr.specs.Text.{Spells, Lacks}

abbrev pub IsAddressByte : ℕ → Type 0
IsAddressByte b = (digit_value b < 16) ⊎ ((b ≡ 46) ⊎ (b ≡ 58))

abbrev pub AddressBytes : List ℕ → Type 0
AddressBytes text = AllByRecursion IsAddressByte text

bytes-append : (xs ys : List ℕ) → AddressBytes xs → AddressBytes ys → AddressBytes (xs ++ ys)
bytes-append [] ys hx hy = hy
bytes-append (x ∷ xs) ys hx hy = (hx.0, bytes-append xs ys hx.1 hy)

digit_bytes : (radix : ℕ) (text : List ℕ) → radix ≤ 16 → AllDigits radix text → AddressBytes text
digit_bytes radix [] low h = tt
digit_bytes radix (c ∷ cs) low h = (inl (omega (arith, h.0)), digit_bytes radix cs low h.1)

dotted_bytes : (text octets : List ℕ) → IsDotted text octets → AddressBytes text
dotted_bytes text octets h =
    let one : (n : ℕ) → n < 256 → AddressBytes (decimal n) = λ n small. digit_bytes 10 (decimal n) (omega arith) (decimal_is_IsNumeral n (omega (arith, small))).0.1 in
    let dot : AddressBytes (46 ∷ []) = (inr (inl refl), tt) in
    subst AddressBytes (sym h.spelled) (bytes-append _ _ (bytes-append _ _ (bytes-append _ _ (bytes-append _ _ (bytes-append _ _ (bytes-append _ _ (one h.a h.fit.0) dot) (one h.b h.fit.1)) dot) (one h.c h.fit.2)) dot) (one h.d h.fit.3))

groups_bytes : (ipv4 : Bool) (lead text groups : List ℕ) → AddressBytes lead → IsGroupsAfter ipv4 lead text groups → AddressBytes text
groups_bytes ipv4 lead text [] first h = subst AddressBytes (sym h) tt
groups_bytes ipv4 lead text (g ∷ groups) first (inl (group, rest, e, h, more)) =
    subst AddressBytes (sym e) (bytes-append (lead ++ group) rest (bytes-append lead group first (digit_bytes 16 group (omega arith) h.0.0.1)) (groups_bytes ipv4 (58 ∷ []) rest groups (inr (inr refl), tt) more))
groups_bytes ipv4 lead text (g ∷ groups) first (inr (last, octets, t, e, h, same)) = subst AddressBytes (sym e) (bytes-append lead last first (dotted_bytes last octets h))

text_bytes : (text : List ℕ) (address : IpAddr) → IsIpText text address → AddressBytes text
text_bytes text (addresses.V4 a) h = dotted_bytes text _ h
text_bytes text (addresses.V6 a) (inl h) = groups_bytes true [] text _ tt h.0
text_bytes text (addresses.V6 a) (inr h) =
    subst AddressBytes (sym h.spelled) (bytes-append _ _ (bytes-append _ _ (groups_bytes false [] h.head_text h.head tt h.head_groups) (inr (inr refl), (inr (inr refl), tt))) (groups_bytes true [] h.tail_text h.tail tt h.tail_groups))

-- every text that spells an address
pub address_bytes : (text : List ℕ) (ip : Ip) → Spells text ip → AddressBytes text
address_bytes text ip (address, h, same) = text_bytes text address h

-- no other byte stands in it
pub bytes_lack : (mark : ℕ) (text : List ℕ) → (IsAddressByte mark → ⊥) → AddressBytes text → Lacks mark text
bytes_lack mark [] apart h = tt
bytes_lack mark (b ∷ bs) apart h = (ne_eqb b mark (λ e. apart (subst IsAddressByte e h.0)), bytes_lack mark bs apart h.1)

pub no_slash : IsAddressByte 47 → ⊥
no_slash (inl h) = omega (arith, h)
no_slash (inr (inl h)) = omega (arith, h)
no_slash (inr (inr h)) = omega (arith, h)

pub no_space : IsAddressByte 32 → ⊥
no_space (inl h) = omega (arith, h)
no_space (inr (inl h)) = omega (arith, h)
no_space (inr (inr h)) = omega (arith, h)

pub no_newline : IsAddressByte 10 → ⊥
no_newline (inl h) = omega (arith, h)
no_newline (inr (inl h)) = omega (arith, h)
no_newline (inr (inr h)) = omega (arith, h)
