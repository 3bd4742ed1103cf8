-- What is read of a target is what it names, and a target that names something is read.
use Rattle.std.proofs.Common.{◌≡◌, inl, inr, ℕ, ◌≤◌, true, false, cond, eqb, List, [], ◌∷◌, ◌++◌, Option, Some, None, IfNone, IfSome, IsAscii, ◌<◌, option_map, nat_le, ◌&&◌, refl, sym, ◌∙◌, ap, subst, arith, append_assoc, length}
use Rattle.std.proofs.lemmas.Bool.{and_parts, eq-eqb, eqb-true, false≢true, leb-true, lt-ltb, ne_eqb, cond-false, cond-true}
use Rattle.std.proofs.lemmas.Bool.Decides.{nat_tests}
use Rattle.std.proofs.lemmas.Option.{cond_some, none-some, option_and_then_some, same_Some, some_pair_parts}
use Rattle.std.proofs.lemmas.Str.Ascii.{IsAscii-nil, IsAscii-cons}
use Rattle.std.specs.List.{list_all}
use Rattle.std.specs.Borrow.{Bor}
use Rattle.std.specs.Option.{option_map_or}
use Rattle.he_addr.specs.declared.ip.Family.TheVariants as families
use Rattle.he_addr.specs.declared.ip.Ip.{Ip}
use Rattle.he_addr.specs.declared.ip.Ip.TheVariants.{V4, V6}
use Rattle.he_addr.specs.Ip.{is_of}
use Rattle.he_addr.specs.Reading.{cut_in, ip_in, ip_of_in, number_in}
use Rattle.he_addr.specs.Text.{Lacks, Spells}
use Rattle.he_addr.proofs.ReadLaws.{read_address_spells, read_number_spells, spelled_address_reads, spelled_number_reads}
use Rattle.he_front.specs.Authority.{IsAuthority, IsHostText, IsNoAuthority, SpellsPort, is_name, is_name_octet}
use Rattle.he_front.specs.Reading.{after, authority_in, bracketed_in, named_in, port_in}
use Rattle.he_front.proofs.AddressOctets.{address_is_ascii, address_lacks_bracket}
use Rattle.he_addr.proofs.Cuts.{cut_joined, cut_some}

port_found : (text : List ℕ) (port : ℕ) → port_in text ≡ Some port → SpellsPort text port
unfolding port_in
port_found text port h =
    option_and_then_some _ (number_in text) port h (λ number read fits.
    let both = cond_some (nat_le 1 number && nat_le number 65535) number port fits in
    let within = and_parts (nat_le 1 number) (nat_le number 65535) both.0 in
    subst (SpellsPort text) both.1 (read_number_spells text number read, leb-true 1 number within.0, leb-true number 65535 within.1))

port_read : (text : List ℕ) (port : ℕ) → SpellsPort text port → port_in text ≡ Some port
unfolding port_in
port_read text port h =
    let read : number_in text ≡ Some port = spelled_number_reads text port h.0 in
    let low : 1 ≤ port = h.1 in
    let high : port ≤ 65535 = h.2 in
    let within : nat_le 1 port && nat_le port 65535 ≡ true = grind (arith, nat_tests) in
    rw read (cond-true (nat_le 1 port && nat_le port 65535) (Some port) None within)

named_found : (text host : List ℕ) (port : ℕ) → named_in text ≡ Some (host, port) → IsAuthority text host port
unfolding named_in
named_found text host port h =
    option_and_then_some _ (cut_in 58 text) (host, port) h (λ cut is_cut h1.
    option_and_then_some _ (port_in cut.1) (host, port) h1 (λ number is_port h2.
    let both = cond_some (is_name cut.0) (cut.0, number) (host, port) h2 in
    let P : List ℕ × ℕ → Type 0 = λ named. IsAuthority text named.0 named.1 in
    subst P both.1 (record {
      host_text = cut.0;
      port_text = cut.1;
      parts = (cut_some 58 text cut is_cut).joined;
      is_host = inr (refl, both.0);
      is_port = port_found cut.1 number is_port;
    })))

of_v6 : (ip : Ip) (found : Ip) → cond (is_of families.V6 ip) (Some ip) None ≡ Some found → (n : ℕ) × (ip ≡ V6 n)
of_v6 (V4 n) found h = cc
of_v6 (V6 n) found h = (n, refl)

v6_found : (text : List ℕ) (found : Ip) → ip_of_in families.V6 text ≡ Some found → (n : ℕ) × Spells text (V6 n)
unfolding ip_of_in
v6_found text found h =
    option_and_then_some _ (ip_in text) found h (λ ip read is.
    let of = of_v6 ip found is in
    (of.0, subst (Spells text) of.1 (read_address_spells text ip read)))

v6_read : (text : List ℕ) (n : ℕ) → Spells text (V6 n) → ip_of_in families.V6 text ≡ Some (V6 n)
unfolding ip_of_in
v6_read text n h = rw (spelled_address_reads text (V6 n) h) refl

after_first : (mark x : ℕ) (xs : List ℕ) → after mark (x ∷ xs) ≡ cond (eqb x mark) (Some xs) None
unfolding after
after_first mark x xs = rw (lt-ltb 0 (length (x ∷ xs)) (omega arith)) refl

after_none : (mark : ℕ) → after mark [] ≡ None
unfolding after
after_none mark = refl

after_found : (mark : ℕ) (text rest : List ℕ) → after mark text ≡ Some rest → text ≡ mark ∷ rest
after_found mark [] rest h = absurd (none-some rest (sym (after_none mark) ∙ h))
after_found mark (x ∷ xs) rest h =
    let both = cond_some (eqb x mark) xs rest (sym (after_first mark x xs) ∙ h) in
    ap (λ first. first ∷ xs) (eqb-true x mark both.0) ∙ ap (λ more. mark ∷ more) both.1

after_read : (mark : ℕ) (rest : List ℕ) → after mark (mark ∷ rest) ≡ Some rest
after_read mark rest = after_first mark mark rest ∙ cond-true (eqb mark mark) (Some rest) None (eq-eqb mark mark refl)

bracketed_found : (text host : List ℕ) (port : ℕ) → bracketed_in text ≡ Some (host, port) → IsAuthority (91 ∷ text) host port
unfolding bracketed_in
bracketed_found text host port h =
    option_and_then_some _ (cut_in 93 text) (host, port) h (λ cut is_cut h1.
    option_and_then_some _ (ip_of_in families.V6 cut.0) (host, port) h1 (λ ip is_ip h2.
    option_and_then_some _ (after 58 cut.1) (host, port) h2 (λ rest is_rest h3.
    option_and_then_some _ (port_in rest) (host, port) h3 (λ number is_port h4.
    let P : List ℕ × ℕ → Type 0 = λ named. IsAuthority (91 ∷ text) named.0 named.1 in
    let parts : text ≡ cut.0 ++ 93 ∷ 58 ∷ rest = (cut_some 93 text cut is_cut).joined ∙ ap (λ more. cut.0 ++ 93 ∷ more) (after_found 58 cut.1 rest is_rest) in
    subst P (same_Some (cut.0, number) (host, port) h4) (record {
      host_text = 91 ∷ cut.0 ++ 93 ∷ [];
      port_text = rest;
      parts = ap (λ more. 91 ∷ more) (parts ∙ sym (append_assoc cut.0 (93 ∷ []) (58 ∷ rest)));
      is_host = inl (refl, v6_found cut.0 ip is_ip);
      is_port = port_found rest number is_port;
    })))))

-- what is read is named
pub authority_found : (text host : List ℕ) (port : ℕ) → authority_in text ≡ Some (host, port) → IsAuthority text host port
unfolding authority_in
authority_found text host port h = by_first (after 91 text) refl h
  where
    by_first : (rest : Option (List ℕ)) → after 91 text ≡ rest → option_map_or bracketed_in rest (named_in text) ≡ Some (host, port) → IsAuthority text host port
    by_first None is found = named_found text host port found
    by_first (Some rest) is found = subst (λ octets. IsAuthority octets host port) (sym (after_found 91 text rest is)) (bracketed_found rest host port found)

-- a result that shows it
abbrev pub named_by : Bor (List ℕ) × ℕ → List ℕ × ℕ
named_by named = (named.0.now, named.1)

pub result_found : (text : List ℕ) (result : Option (Bor (List ℕ) × ℕ)) → option_map named_by result ≡ authority_in text → IfSome result (λ named. IsAuthority text named.0.now named.1)
result_found text None is = tt
result_found text (Some named) is = authority_found text named.0.now named.1 (sym is)

-- ---- a name has neither a colon nor a bracket

name_lacks : (mark : ℕ) (host : List ℕ) → is_name_octet mark ≡ false → list_all is_name_octet host ≡ true → Lacks mark host
name_lacks mark [] apart h = tt
name_lacks mark (x ∷ xs) apart h =
    let both = and_parts (is_name_octet x) (list_all is_name_octet xs) h in
    (ne_eqb x mark (λ same. false≢true (sym apart ∙ ap is_name_octet (sym same) ∙ both.0)), name_lacks mark xs apart both.1)

named_read : (host port_text : List ℕ) (port : ℕ) → is_name host ≡ true → SpellsPort port_text port → named_in (host ++ 58 ∷ port_text) ≡ Some (host, port)
unfolding named_in
named_read host port_text port name is_port =
    let octets = (and_parts _ (list_all is_name_octet host) name).1 in
    rw (cut_joined 58 host port_text (name_lacks 58 host refl octets)) (rw (port_read port_text port is_port) (cond-true (is_name host) (Some (host, port)) None name))

bracketed_read : (host port_text : List ℕ) (n port : ℕ) → Spells host (V6 n) → SpellsPort port_text port → bracketed_in (host ++ 93 ∷ 58 ∷ port_text) ≡ Some (host, port)
unfolding bracketed_in
bracketed_read host port_text n port spelled is_port =
    rw (cut_joined 93 host (58 ∷ port_text) (address_lacks_bracket host (V6 n) spelled))
    (rw (v6_read host n spelled) (rw (after_read 58 port_text) (rw (port_read port_text port is_port) refl)))

-- a name is not empty, and its first octet is no bracket
no_bracket_first : (host rest : List ℕ) → is_name host ≡ true → after 91 (host ++ rest) ≡ None
no_bracket_first [] rest name = cc
no_bracket_first (x ∷ xs) rest name =
    let octets = (and_parts _ (list_all is_name_octet (x ∷ xs)) name).1 in
    let lacks = name_lacks 91 (x ∷ xs) refl octets in
    after_first 91 x (xs ++ rest) ∙ cond-false (eqb x 91) (Some (xs ++ rest)) None lacks.0

-- what is named is read
pub authority_read : (text host : List ℕ) (port : ℕ) → IsAuthority text host port → authority_in text ≡ Some (host, port)
unfolding authority_in
authority_read text host port h = by_host h.is_host
  where
    by_host : IsHostText h.host_text host → option_map_or bracketed_in (after 91 text) (named_in text) ≡ Some (host, port)
    by_host (inl (bracketed, spelled)) =
        let parts : text ≡ 91 ∷ host ++ 93 ∷ 58 ∷ h.port_text =
        h.parts ∙ ap (λ octets. octets ++ 58 ∷ h.port_text) bracketed ∙ ap (λ more. 91 ∷ more) (append_assoc host (93 ∷ []) (58 ∷ h.port_text)) in
        subst (λ octets. option_map_or bracketed_in (after 91 octets) (named_in octets) ≡ Some (host, port)) (sym parts)
        (rw (after_read 91 (host ++ 93 ∷ 58 ∷ h.port_text)) (bracketed_read host h.port_text spelled.0 port spelled.1 h.is_port))
    by_host (inr (same, name)) =
        let parts : text ≡ host ++ 58 ∷ h.port_text = h.parts ∙ ap (λ octets. octets ++ 58 ∷ h.port_text) same in
        subst (λ octets. option_map_or bracketed_in (after 91 octets) (named_in octets) ≡ Some (host, port)) (sym parts)
        (rw (no_bracket_first host (58 ∷ h.port_text) name) (named_read host h.port_text port name h.is_port))

pub none_named : (text : List ℕ) (result : Option (Bor (List ℕ) × ℕ)) → option_map named_by result ≡ authority_in text → IfNone result (IsNoAuthority text)
none_named text None is = λ host port named. none-some (host, port) (is ∙ authority_read text host port named)
none_named text (Some named) is = tt

-- a target names one host and one port
pub authority_once : (text host other : List ℕ) (port number : ℕ) → IsAuthority text host port → IsAuthority text other number → (host ≡ other) × (port ≡ number)
authority_once text host other port number h k =
    some_pair_parts host other port number (sym (authority_read text host port h) ∙ authority_read text other number k)

name_is_ascii : (octet : ℕ) → is_name_octet octet ≡ true → octet < 128
name_is_ascii octet h = grind (arith, nat_tests)

names_are_ascii : (host : List ℕ) → list_all is_name_octet host ≡ true → IsAscii host
names_are_ascii [] h = IsAscii-nil
names_are_ascii (x ∷ xs) h =
    let both = and_parts (is_name_octet x) (list_all is_name_octet xs) h in
    IsAscii-cons x xs (name_is_ascii x both.0) (names_are_ascii xs both.1)

-- and the host is ASCII
pub authority_is_ascii : (text host : List ℕ) (port : ℕ) → IsAuthority text host port → IsAscii host
authority_is_ascii text host port h = by_host h.is_host
  where
    by_host : IsHostText h.host_text host → IsAscii host
    by_host (inl (bracketed, spelled)) = address_is_ascii host (V6 spelled.0) spelled.1
    by_host (inr (same, name)) = names_are_ascii host (and_parts _ (list_all is_name_octet host) name).1
