-- Texts of sources and prefixes: what is read is spelled, and what is spelled is read.
use Rattle.std.proofs.Common.{◌≡◌, ℕ, ◌-◌, ◌%◌, ◌^◌, true, leb, ltb, eqb, ◌&&◌, List, Some, None, sym, ◌∙◌, ap, subst}
use Rattle.std.proofs.lemmas.Bool.{leb-true, le-leb, cond-true, eq-eqb, eqb-true, and_parts, and_from, lt-ltb, ltb-true}
use Rattle.std.proofs.lemmas.Option.{same_Some}
use Rattle.he_addr.specs.declared.ip.Ip.{Ip}
use Rattle.he_addr.specs.Prefix.{PrefixBits, IsPrefix, width_of}
use Rattle.he_addr.specs.Reading.{◌>>=◌, cut_in, source_in, is_prefix, checked, prefix_in}
use Rattle.he_addr.specs.Text.{SpellsSource, SpellsPrefix, prefix_of}
use Rattle.he_addr.proofs.AddressBytes.{address_bytes, bytes_lack, no_slash}
use Rattle.he_addr.proofs.NetTexts.{ip_in_some, ip_in-spelled}
use Rattle.he_addr.proofs.Numbers.{numeral_in_some, numeral_in-spelled}
use Rattle.he_addr.proofs.Options.{bind_some, allowed}
use Rattle.he_addr.proofs.Cuts.{cut_some, cut_joined}

pub source_in_some : (text : List ℕ) (ip : Ip) (len : ℕ) → source_in text ≡ Some (ip, len) → SpellsSource text ip len
unfolding source_in
source_in_some text ip len h =
    let cut = bind_some _ _ (ip, len) h in
    let address = bind_some _ _ (ip, len) cut.2 in
    let number = bind_some _ _ (ip, len) address.2 in
    let within = allowed (leb number.0 (width_of address.0)) (Some (address.0, number.0)) (ip, len) number.2 in
    let same = same_Some (address.0, number.0) (ip, len) within.1 in
    let P : Ip × ℕ → Type 0 = λ p. SpellsSource text p.0 p.1 in
    subst P same (record {
      address = cut.0.0;
      digits = cut.0.1;
      parts = (cut_some 47 text cut.0 cut.1).joined;
      spelled = ip_in_some cut.0.0 address.0 address.1;
      length = numeral_in_some 3 cut.0.1 number.0 number.1;
      within = leb-true number.0 (width_of address.0) within.0;
    })

pub source_in-spelled : (text : List ℕ) (ip : Ip) (len : ℕ) → SpellsSource text ip len → source_in text ≡ Some (ip, len)
unfolding source_in
source_in-spelled text ip len h =
    let cut = ap (cut_in 47) h.parts ∙ cut_joined 47 h.address h.digits (bytes_lack 47 h.address no_slash (address_bytes h.address ip h.spelled)) in
    let address = ip_in-spelled h.address ip h.spelled in
    let number = numeral_in-spelled 3 h.digits len h.length in
    let within = le-leb len (width_of ip) h.within in
    rw (cut, address, number, within)

-- a prefix
is_prefix_yes : (p : PrefixBits) → is_prefix p ≡ true → IsPrefix p.bits p.len
is_prefix_yes p h =
    let both = and_parts (leb p.len 128 && ltb p.bits (2 ^ 128)) (eqb (p.bits % 2 ^ (128 - p.len)) 0) h in
    let sizes = and_parts (leb p.len 128) (ltb p.bits (2 ^ 128)) both.0 in
    record { short = leb-true p.len 128 sizes.0; fits = ltb-true p.bits (2 ^ 128) sizes.1; clear = eqb-true (p.bits % 2 ^ (128 - p.len)) 0 both.1 }

is_prefix_from : (p : PrefixBits) → IsPrefix p.bits p.len → is_prefix p ≡ true
is_prefix_from p h =
    and_from (leb p.len 128 && ltb p.bits (2 ^ 128)) (eqb (p.bits % 2 ^ (128 - p.len)) 0)
    (and_from (leb p.len 128) (ltb p.bits (2 ^ 128)) (le-leb p.len 128 h.short) (lt-ltb p.bits (2 ^ 128) h.fits))
    (eq-eqb (p.bits % 2 ^ (128 - p.len)) 0 h.clear)

pub prefix_in_some : (text : List ℕ) (p : PrefixBits) → prefix_in text ≡ Some p → SpellsPrefix text p
unfolding prefix_in
prefix_in_some text p h =
    let source = bind_some (source_in text) (λ source. checked (prefix_of source.0 source.1)) p h in
    let tested = allowed (is_prefix (prefix_of source.0.0 source.0.1)) (Some (prefix_of source.0.0 source.0.1)) p source.2 in
    let same = same_Some (prefix_of source.0.0 source.0.1) p tested.1 in
    record {
      ip = source.0.0;
      len = source.0.1;
      source = source_in_some text source.0.0 source.0.1 source.1;
      value = sym same;
      clear = is_prefix_yes p (ap is_prefix (sym same) ∙ tested.0);
    }

pub prefix_in-spelled : (text : List ℕ) (p : PrefixBits) → SpellsPrefix text p → prefix_in text ≡ Some p
unfolding prefix_in
prefix_in-spelled text p h =
    ap (λ o. o >>= (λ source. checked (prefix_of source.0 source.1))) (source_in-spelled text h.ip h.len h.source)
    ∙ ap checked (sym h.value)
    ∙ cond-true (is_prefix p) (Some p) None (is_prefix_from p h.clear)
