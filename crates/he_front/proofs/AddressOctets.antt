-- The octets of a text that spells an address: hexadecimal digits, dots and colons.
use Rattle.std.proofs.Common.{◌≡◌, ◌⊎◌, inl, inr, ℕ, ◌<◌, ◌≤◌, Bool, true, false, List, [], ◌∷◌, ◌++◌, decimal, refl, sym, subst, arith, IsAscii}
use Rattle.std.specs.Char.{digit_value}
use Rattle.std.specs.List.{AllByRecursion}
use Rattle.std.specs.Net.Grammar.{IsDotted, IsGroupsAfter, IsIpText}
use Rattle.std.specs.Str.Parse.{AllDigits}
use Rattle.std.specs.declared.net.ip_addr.IpAddr.{IpAddr}
use Rattle.std.specs.declared.net.ip_addr.IpAddr.TheVariants as addresses
use Rattle.std.proofs.lemmas.Bool.{ne_eqb}
use Rattle.std.proofs.lemmas.Fmt.{decimal_is_IsNumeral}
use Rattle.std.proofs.lemmas.Str.Ascii.{IsAscii-nil, IsAscii-cons}
use Rattle.he_addr.specs.declared.ip.Ip.{Ip}
use Rattle.he_addr.specs.Text.{Spells, Lacks}

abbrev pub IsAddressOctet : ℕ → Type 0
IsAddressOctet b = (digit_value b < 16) ⊎ ((b ≡ 46) ⊎ (b ≡ 58))

abbrev pub AddressOctets : List ℕ → Type 0
AddressOctets text = AllByRecursion IsAddressOctet text

octets-append : (xs ys : List ℕ) → AddressOctets xs → AddressOctets ys → AddressOctets (xs ++ ys)
octets-append [] ys hx hy = hy
octets-append (x ∷ xs) ys hx hy = (hx.0, octets-append xs ys hx.1 hy)

digit_octets : (radix : ℕ) (text : List ℕ) → radix ≤ 16 → AllDigits radix text → AddressOctets text
digit_octets radix [] low h = tt
digit_octets radix (c ∷ cs) low h = (inl (omega (arith, h.0)), digit_octets radix cs low h.1)

dotted_octets : (text octets : List ℕ) → IsDotted text octets → AddressOctets text
dotted_octets text octets h =
    let one : (n : ℕ) → n < 256 → AddressOctets (decimal n) = λ n small. digit_octets 10 (decimal n) (omega arith) (decimal_is_IsNumeral n (omega (arith, small))).0.1 in
    let dot : AddressOctets (46 ∷ []) = (inr (inl refl), tt) in
    subst AddressOctets (sym h.spelled) (octets-append _ _ (octets-append _ _ (octets-append _ _ (octets-append _ _ (octets-append _ _ (octets-append _ _ (one h.a h.fit.0) dot) (one h.b h.fit.1)) dot) (one h.c h.fit.2)) dot) (one h.d h.fit.3))

groups_octets : (ipv4 : Bool) (lead text groups : List ℕ) → AddressOctets lead → IsGroupsAfter ipv4 lead text groups → AddressOctets text
groups_octets ipv4 lead text [] first h = subst AddressOctets (sym h) tt
groups_octets ipv4 lead text (g ∷ groups) first (inl (group, rest, e, h, more)) =
    subst AddressOctets (sym e) (octets-append (lead ++ group) rest (octets-append lead group first (digit_octets 16 group (omega arith) h.0.0.1)) (groups_octets ipv4 (58 ∷ []) rest groups (inr (inr refl), tt) more))
groups_octets ipv4 lead text (g ∷ groups) first (inr (last, octets, t, e, h, same)) = subst AddressOctets (sym e) (octets-append lead last first (dotted_octets last octets h))

text_octets : (text : List ℕ) (address : IpAddr) → IsIpText text address → AddressOctets text
text_octets text (addresses.V4 a) h = dotted_octets text _ h
text_octets text (addresses.V6 a) (inl h) = groups_octets true [] text _ tt h.0
text_octets text (addresses.V6 a) (inr h) =
    subst AddressOctets (sym h.spelled) (octets-append _ _ (octets-append _ _ (groups_octets false [] h.head_text h.head tt h.head_groups) (inr (inr refl), (inr (inr refl), tt))) (groups_octets true [] h.tail_text h.tail tt h.tail_groups))

pub address_octets : (text : List ℕ) (ip : Ip) → Spells text ip → AddressOctets text
address_octets text ip (address, h, same) = text_octets text address h

no_bracket : IsAddressOctet 93 → ⊥
no_bracket (inl h) = omega (arith, h)
no_bracket (inr (inl h)) = omega (arith, h)
no_bracket (inr (inr h)) = omega (arith, h)

lacks_bracket : (text : List ℕ) → AddressOctets text → Lacks 93 text
lacks_bracket [] h = tt
lacks_bracket (b ∷ bs) h = (ne_eqb b 93 (λ e. no_bracket (subst IsAddressOctet e h.0)), lacks_bracket bs h.1)

-- no closing bracket stands in it
pub address_lacks_bracket : (text : List ℕ) (ip : Ip) → Spells text ip → Lacks 93 text
address_lacks_bracket text ip h = lacks_bracket text (address_octets text ip h)

ascii_octet : (b : ℕ) → IsAddressOctet b → b < 128
ascii_octet b (inl h) = grind (arith, h)
ascii_octet b (inr (inl h)) = omega (arith, h)
ascii_octet b (inr (inr h)) = omega (arith, h)

ascii_octets : (text : List ℕ) → AddressOctets text → IsAscii text
ascii_octets [] h = IsAscii-nil
ascii_octets (b ∷ bs) h = IsAscii-cons b bs (ascii_octet b h.0) (ascii_octets bs h.1)

-- it is ASCII
pub address_is_ascii : (text : List ℕ) (ip : Ip) → Spells text ip → IsAscii text
address_is_ascii text ip h = ascii_octets text (address_octets text ip h)
