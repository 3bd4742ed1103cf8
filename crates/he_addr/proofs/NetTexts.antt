-- Texts of addresses as the standard library reads them: what its grammar says, as the answers of the functions.
use Rattle.std.proofs.Common.{◌≡◌, ℕ, List, [], ◌∷◌, length, Option, Some, None, true, cond, refl, sym, ap, ◌∙◌, subst, append-nil, lit≤, arith, ne_eqb}
use Rattle.std.proofs.lemmas.Option.{none-some, same_Some}
use Rattle.std.specs.Int.{w32, w128, from_be_bytes}
use Rattle.std.specs.Option.{option_map, option_map_or}
use Rattle.std.specs.declared.net.ip_addr.IpAddr.{IpAddr}
use Rattle.std.specs.declared.net.ip_addr.IpAddr.TheVariants as addresses
use Rattle.std.specs.declared.net.ipv4_addr.Ipv4Addr.{Ipv4Addr}
use Rattle.std.specs.declared.net.ipv6_addr.Ipv6Addr.{Ipv6Addr}
use Rattle.std.specs.Net.Addr.{ipv4_bits, ipv6_bits, octets_of}
use Rattle.std.specs.Net.Grammar.{IsDotted, IsColonHex, IsIpv4Text, IsIpv6Text, IsIpText}
use Rattle.std.specs.Net.Reader.{Read, read_ipv4, read_ipv6, whole_value}
use Rattle.std.proofs.NetLemmas.Ipv4.{read_ipv4_complete, read_ipv4_sound}
use Rattle.std.proofs.NetLemmas.Ipv6.{read_ipv6_complete, read_ipv6_sound, EndsGroups-nil, IsDotted-not_colon_hex}
use Rattle.he_addr.specs.declared.ip.Family.{Family}
use Rattle.he_addr.specs.declared.ip.Family.TheVariants as families
use Rattle.he_addr.specs.declared.ip.Ip.{Ip}
use Rattle.he_addr.specs.declared.ip.Ip.TheVariants.{V4, V6}
use Rattle.he_addr.specs.Ip.{family_of, is_of}
use Rattle.he_addr.specs.Reading.{◌>>=◌, v4_in, v6_in, ip_in, ip_of_in}
use Rattle.he_addr.specs.Text.{ip_of, Spells}
use Rattle.he_addr.proofs.Options.{bind_some, allowed}

-- a value with text after it is no value of a whole text
more_none : {A : Type 0} (x : A) (c : ℕ) (rest : List ℕ) → whole_value (Some (x, c ∷ rest)) ≡ None
more_none x c rest = rw (ne_eqb (length (c ∷ rest)) 0 (omega arith))

whole_none : {A : Type 0} (r : Read A) → ((x : A) → r ≡ Some (x, []) → ⊥) → whole_value r ≡ None
whole_none None h = refl
whole_none (Some (x, [])) h = absurd (h x refl)
whole_none (Some (x, c ∷ rest)) h = more_none x c rest

whole_some : {A : Type 0} (r : Read A) (x : A) → whole_value r ≡ Some x → r ≡ Some (x, [])
whole_some None x h = cc
whole_some (Some (y, [])) x h = ap (λ y. Some (y, [])) (same_Some y x h)
whole_some (Some (y, c ∷ rest)) x h = absurd (none-some x (sym (more_none y c rest) ∙ h))

pub v4_some : (text octets : List ℕ) → IsDotted text octets → v4_in text ≡ Some (from_be_bytes w32 octets)
unfolding v4_in
v4_some text octets h = rw (sym (ap read_ipv4 (append-nil text)) ∙ read_ipv4_complete text octets [] h (lit≤ tt))

v4_none : (text : List ℕ) → ((octets : List ℕ) → IsDotted text octets → ⊥) → v4_in text ≡ None
unfolding v4_in
v4_none text h = rw (whole_none (read_ipv4 text) (λ octets read. let (front, split, dotted) = read_ipv4_sound text octets [] read in h octets (subst (λ t. IsDotted t octets) (sym (split ∙ append-nil front)) dotted)))

pub v6_some : (text groups : List ℕ) → IsColonHex text groups → v6_in text ≡ Some (from_be_bytes w128 (octets_of groups))
unfolding v6_in
v6_some text groups h = rw (sym (ap read_ipv6 (append-nil text)) ∙ read_ipv6_complete text groups [] h EndsGroups-nil)

v6_none : (text : List ℕ) → ((groups : List ℕ) → IsColonHex text groups → ⊥) → v6_in text ≡ None
unfolding v6_in
v6_none text h = rw (whole_none (read_ipv6 text) (λ groups read. let (front, split, colons) = read_ipv6_sound text groups [] read in h groups (subst (λ t. IsColonHex t groups) (sym (split ∙ append-nil front)) colons)))

-- what the reader of one family finds is what the function of that family answers
pub v4_in_text : (text : List ℕ) (address : Ipv4Addr) → IsIpv4Text text address → v4_in text ≡ Some (ipv4_bits address)
unfolding ipv4_bits
v4_in_text text address h = v4_some text _ h

pub v4_in_no_text : (text : List ℕ) → ((address : Ipv4Addr) → IsIpv4Text text address → ⊥) → v4_in text ≡ None
v4_in_no_text text h = v4_none text (λ octets dotted. h (record { octets = octets }) dotted)

pub v6_in_text : (text : List ℕ) (address : Ipv6Addr) → IsIpv6Text text address → v6_in text ≡ Some (ipv6_bits address)
unfolding ipv6_bits
v6_in_text text address h = v6_some text _ h

pub v6_in_no_text : (text : List ℕ) → ((address : Ipv6Addr) → IsIpv6Text text address → ⊥) → v6_in text ≡ None
v6_in_no_text text h = v6_none text (λ groups colons. h (record { segments = groups }) colons)

-- what the text spells is what the function answers
pub ip_in_text : (text : List ℕ) (address : IpAddr) → IsIpText text address → ip_in text ≡ Some (ip_of address)
unfolding ip_in ipv4_bits ipv6_bits
ip_in_text text (addresses.V4 a) h = rw (v4_some text _ h)
ip_in_text text (addresses.V6 a) h = rw (v4_none text (λ octets dotted. IsDotted-not_colon_hex text octets _ dotted h), v6_some text _ h)

pub ip_in_no_text : (text : List ℕ) → ((address : IpAddr) → IsIpText text address → ⊥) → ip_in text ≡ None
unfolding ip_in
ip_in_no_text text h = rw (v4_none text (λ octets dotted. h (addresses.V4 (record { octets = octets })) dotted), v6_none text (λ groups colons. h (addresses.V6 (record { segments = groups })) colons))

-- and what the function answers is what the text spells
pub v4_in_some : (text : List ℕ) (n : ℕ) → v4_in text ≡ Some n → Spells text (V4 n)
unfolding v4_in ipv4_bits
v4_in_some text n h = read (whole_value (read_ipv4 text)) refl h
  where
    read : (o : Option (List ℕ)) → whole_value (read_ipv4 text) ≡ o → option_map (λ octets. from_be_bytes w32 octets) o ≡ Some n → Spells text (V4 n)
    read None e h = cc
    read (Some octets) e h =
        let (front, split, dotted) = read_ipv4_sound text octets [] (whole_some (read_ipv4 text) octets e) in
        (addresses.V4 (record { octets = octets }), subst (λ t. IsDotted t octets) (sym (split ∙ append-nil front)) dotted, ap V4 (sym (same_Some (from_be_bytes w32 octets) n h)))

pub v6_in_some : (text : List ℕ) (n : ℕ) → v6_in text ≡ Some n → Spells text (V6 n)
unfolding v6_in ipv6_bits
v6_in_some text n h = read (whole_value (read_ipv6 text)) refl h
  where
    read : (o : Option (List ℕ)) → whole_value (read_ipv6 text) ≡ o → option_map (λ groups. from_be_bytes w128 (octets_of groups)) o ≡ Some n → Spells text (V6 n)
    read None e h = cc
    read (Some groups) e h =
        let (front, split, colons) = read_ipv6_sound text groups [] (whole_some (read_ipv6 text) groups e) in
        (addresses.V6 (record { segments = groups }), subst (λ t. IsColonHex t groups) (sym (split ∙ append-nil front)) colons, ap V6 (sym (same_Some (from_be_bytes w128 (octets_of groups)) n h)))

pub ip_in_some : (text : List ℕ) (ip : Ip) → ip_in text ≡ Some ip → Spells text ip
unfolding ip_in
ip_in_some text ip h = four (v4_in text) refl h
  where
    six : (o : Option ℕ) → v6_in text ≡ o → option_map (λ n. V6 n) o ≡ Some ip → Spells text ip
    six None e h = cc
    six (Some n) e h = subst (Spells text) (same_Some (V6 n) ip h) (v6_in_some text n e)

    four : (o : Option ℕ) → v4_in text ≡ o → option_map_or (λ n. Some (V4 n)) o (option_map (λ n. V6 n) (v6_in text)) ≡ Some ip → Spells text ip
    four None e h = six (v6_in text) refl h
    four (Some n) e h = subst (Spells text) (same_Some (V4 n) ip h) (v4_in_some text n e)

pub ip_in-spelled : (text : List ℕ) (ip : Ip) → Spells text ip → ip_in text ≡ Some ip
ip_in-spelled text ip (address, spelled, same) = ip_in_text text address spelled ∙ ap Some (sym same)

-- no text is one of both families
v4_in_alone : (text : List ℕ) (n : ℕ) → v4_in text ≡ Some n → v6_in text ≡ None
unfolding v4_in
v4_in_alone text n h = read (whole_value (read_ipv4 text)) refl h
  where
    read : (o : Option (List ℕ)) → whole_value (read_ipv4 text) ≡ o → option_map (λ octets. from_be_bytes w32 octets) o ≡ Some n → v6_in text ≡ None
    read None e h = cc
    read (Some octets) e h =
        let (front, split, dotted) = read_ipv4_sound text octets [] (whole_some (read_ipv4 text) octets e) in
        let whole : IsDotted text octets = subst (λ t. IsDotted t octets) (sym (split ∙ append-nil front)) dotted in
        v6_none text (λ groups colons. IsDotted-not_colon_hex text octets groups whole colons)

-- what the reader of one family finds is the address
pub ip_in_v4 : (text : List ℕ) (n : ℕ) → v4_in text ≡ Some n → ip_in text ≡ Some (V4 n)
unfolding ip_in
ip_in_v4 text n h = rw h

pub ip_in_v6 : (text : List ℕ) (n : ℕ) → v6_in text ≡ Some n → ip_in text ≡ Some (V6 n)
unfolding ip_in
ip_in_v6 text n h = four (v4_in text) refl
  where
    four : (o : Option ℕ) → v4_in text ≡ o → option_map_or (λ n. Some (V4 n)) o (option_map (λ n. V6 n) (v6_in text)) ≡ Some (V6 n)
    four None e = ap (option_map (λ n. V6 n)) h
    four (Some m) e = absurd (none-some n (sym (v4_in_alone text m e) ∙ h))

-- the address of one family is the answer of the reader of that family
pub of_v4 : (text : List ℕ) → ip_of_in families.V4 text ≡ option_map V4 (v4_in text)
unfolding ip_of_in ip_in
of_v4 text = four (v4_in text) (v6_in text)
  where
    four : (four six : Option ℕ) → (option_map_or (λ n. Some (V4 n)) four (option_map (λ n. V6 n) six) >>= (λ ip. cond (is_of families.V4 ip) (Some ip) None)) ≡ option_map V4 four
    four None None = refl
    four None (Some n) = refl
    four (Some n) six = refl

pub of_v6 : (text : List ℕ) → ip_of_in families.V6 text ≡ option_map V6 (v6_in text)
unfolding ip_of_in ip_in
of_v6 text = four (v4_in text) refl
  where
    kept : (six : Option ℕ) → (option_map (λ n. V6 n) six >>= (λ ip. cond (is_of families.V6 ip) (Some ip) None)) ≡ option_map V6 six
    kept None = refl
    kept (Some n) = refl

    four : (o : Option ℕ) → v4_in text ≡ o → (option_map_or (λ n. Some (V4 n)) o (option_map (λ n. V6 n) (v6_in text)) >>= (λ ip. cond (is_of families.V6 ip) (Some ip) None)) ≡ option_map V6 (v6_in text)
    four None e = kept (v6_in text)
    four (Some n) e = ap (option_map V6) (sym (v4_in_alone text n e))

of_family : (family : Family) (ip : Ip) → is_of family ip ≡ true → family_of ip ≡ family
of_family families.V4 (V4 n) h = refl
of_family families.V6 (V6 n) h = refl
of_family families.V4 (V6 n) h = cc
of_family families.V6 (V4 n) h = cc

of_its_family : (ip : Ip) → is_of (family_of ip) ip ≡ true
of_its_family (V4 n) = refl
of_its_family (V6 n) = refl

pub ip_of_in_some : (family : Family) (text : List ℕ) (ip : Ip) → ip_of_in family text ≡ Some ip → Spells text ip × (family_of ip ≡ family)
unfolding ip_of_in
ip_of_in_some family text ip h =
    let read = bind_some (ip_in text) (λ ip. cond (is_of family ip) (Some ip) None) ip h in
    let kept = allowed (is_of family read.0) (Some read.0) ip read.2 in
    let same = same_Some read.0 ip kept.1 in
    (ip_in_some text ip (read.1 ∙ ap Some same), of_family family ip (ap (is_of family) (sym same) ∙ kept.0))

pub ip_of_in-spelled : (family : Family) (text : List ℕ) (ip : Ip) → Spells text ip → family_of ip ≡ family → ip_of_in family text ≡ Some ip
unfolding ip_of_in
ip_of_in-spelled family text ip spelled same = rw (ip_in-spelled text ip spelled, subst (λ f. is_of f ip ≡ true) same (of_its_family ip))
