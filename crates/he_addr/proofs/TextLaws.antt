-- The laws of the texts, for the crates above to cite.
use Rattle.std.proofs.Common.{◌≡◌, ℕ, ◌+◌, ◌-◌, ◌*◌, ◌/◌, ◌%◌, ◌^◌, ◌<◌, ◌≤◌, Bool, true, leb, ◌&&◌, List, [], ◌∷◌, ◌++◌, decimal, inl, refl, sym, ◌∙◌, ap, arith}
use Rattle.std.proofs.lemmas.Bool.{and_parts, leb-true, eqb-true, cond_both}
use Rattle.std.proofs.lemmas.Fmt.{length-decimal-le, decimal_nonempty}
use Rattle.std.proofs.lemmas.List.{length-append}
use Rattle.std.proofs.lemmas.Option.{same_Some}
use Rattle.he_addr.specs.declared.ip.Ip.{Ip}
use Rattle.he_addr.specs.declared.ip.Ip.TheVariants.{V4, V6}
use Rattle.he_addr.specs.Bits.{agrees}
use Rattle.he_addr.specs.Ip.{InRange}
use Rattle.he_addr.specs.Laws.{SpellsOneNumber, SpellsOneAddress, SpellsOneSource, SpellsOnePrefix, PrintsOneText, PrintsOneSource, PrintsOnePrefix, NumbersReadBack, AddressesReadBack, SourcesReadBack, PrefixesReadBack, NumbersAreTokens, AddressesAreTokens, SourcesAreTokens, PrefixesAreTokens}
use Rattle.he_addr.specs.Prefix.{PrefixBits, IsPrefix, width_of, is_inside_mapped}
use Rattle.he_addr.specs.Printing.{printed, source_text, prefix_text}
use Rattle.he_addr.specs.Reading.{number_in}
use Rattle.he_addr.specs.Text.{SpellsSource, SpellsPrefix, Lacks, IsToken}
use Rattle.he_addr.proofs.AddressBytes.{address_bytes, bytes_lack, no_space, no_newline}
use Rattle.he_addr.proofs.AddressTexts.{source_in-spelled, prefix_in-spelled}
use Rattle.he_addr.proofs.NetTexts.{ip_in-spelled}
use Rattle.he_addr.proofs.Numbers.{numeral_in-spelled, decimal_spells, decimal_lacks}
use Rattle.he_addr.proofs.PrintedTexts.{printed_spells, printed_short, printed_some, IsPrinted_only, IsPrintedSource_only, IsPrintedPrefix_only}

lacks-append : (mark : ℕ) (xs ys : List ℕ) → Lacks mark xs → Lacks mark ys → Lacks mark (xs ++ ys)
lacks-append mark [] ys hx hy = hy
lacks-append mark (x ∷ xs) ys hx hy = (hx.0, lacks-append mark xs ys hx.1 hy)

pub one_number : SpellsOneNumber
one_number text m n h k = h.value ∙ sym k.value

pub one_address : SpellsOneAddress
one_address text a b h k = same_Some a b (sym (ip_in-spelled text a h) ∙ ip_in-spelled text b k)

pub one_source : SpellsOneSource
one_source text a b m n h k =
    let same = same_Some (a, m) (b, n) (sym (source_in-spelled text a m h) ∙ source_in-spelled text b n k) in
    (ap (λ (p : Ip × ℕ). p.0) same, ap (λ (p : Ip × ℕ). p.1) same)

pub one_prefix : SpellsOnePrefix
one_prefix text p q h k = same_Some p q (sym (prefix_in-spelled text p h) ∙ prefix_in-spelled text q k)

pub one_text : PrintsOneText
one_text ip text h = IsPrinted_only ip text h

pub one_source_text : PrintsOneSource
one_source_text ip len text h = IsPrintedSource_only ip len text h

pub one_prefix_text : PrintsOnePrefix
one_prefix_text is_dotted prefix text h = IsPrintedPrefix_only is_dotted prefix text h

pub numbers_read_back : NumbersReadBack
unfolding number_in
numbers_read_back n small =
    let spelled = decimal_spells 10 n (omega arith) (omega arith) small in
    (spelled, numeral_in-spelled 10 (decimal n) n spelled)

pub addresses_read_back : AddressesReadBack
addresses_read_back ip small = let spelled = printed_spells ip small in (spelled, ip_in-spelled (printed ip) ip spelled)

width_le : (ip : Ip) → width_of ip ≤ 128
width_le (V4 n) = omega arith
width_le (V6 n) = omega arith

source_spells : (ip : Ip) (len : ℕ) → InRange ip → len ≤ width_of ip → SpellsSource (source_text ip len) ip len
source_spells ip len small within = record {
  address = printed ip;
  digits = decimal len;
  parts = refl;
  spelled = printed_spells ip small;
  length = decimal_spells 3 len (omega arith) (omega arith) (omega (arith, within, width_le ip));
  within = within;
}

pub sources_read_back : SourcesReadBack
sources_read_back ip len small within = let spelled = source_spells ip len small within in (spelled, source_in-spelled (source_text ip len) ip len spelled)

-- the IPv4 form of a prefix
inside_v4 : (prefix : PrefixBits) → IsPrefix prefix.bits prefix.len → is_inside_mapped prefix ≡ true → SpellsPrefix (source_text (V4 (prefix.bits % 2 ^ 32)) (prefix.len - 96)) prefix
inside_v4 prefix h inside =
    let parts = and_parts (leb 96 prefix.len) (agrees 128 prefix.bits (65535 * 2 ^ 32) 96) inside in
    let long = leb-true 96 prefix.len parts.0 in
    let high : prefix.bits / 2 ^ 32 ≡ 65535 = eqb-true (prefix.bits / 2 ^ 32) 65535 parts.1 in
    let bits : prefix.bits ≡ 65535 * 2 ^ 32 + prefix.bits % 2 ^ 32 = omega arith in
    let len : prefix.len ≡ 96 + (prefix.len - 96) = omega arith in
    record {
      ip = V4 (prefix.bits % 2 ^ 32);
      len = prefix.len - 96;
      source = source_spells (V4 (prefix.bits % 2 ^ 32)) (prefix.len - 96) (omega arith) (omega (arith, h.short));
      value = ap (λ b. record { bits = b; len = prefix.len }) bits ∙ ap (λ l. record { bits = 65535 * 2 ^ 32 + prefix.bits % 2 ^ 32; len = l }) len;
      clear = h;
    }

as_v6 : (prefix : PrefixBits) → IsPrefix prefix.bits prefix.len → SpellsPrefix (source_text (V6 prefix.bits) prefix.len) prefix
as_v6 prefix h = record { ip = V6 prefix.bits; len = prefix.len; source = source_spells (V6 prefix.bits) prefix.len h.fits h.short; value = refl; clear = h }

prefix_spells : (is_dotted : Bool) (prefix : PrefixBits) → IsPrefix prefix.bits prefix.len → SpellsPrefix (prefix_text is_dotted prefix) prefix
prefix_spells is_dotted prefix h =
    cond_both (is_dotted && is_inside_mapped prefix) (source_text (V4 (prefix.bits % 2 ^ 32)) (prefix.len - 96)) (source_text (V6 prefix.bits) prefix.len) (λ text. SpellsPrefix text prefix)
    (λ both. inside_v4 prefix h (and_parts is_dotted (is_inside_mapped prefix) both).1)
    (λ _. as_v6 prefix h)

pub prefixes_read_back : PrefixesReadBack
prefixes_read_back is_dotted prefix h = let spelled = prefix_spells is_dotted prefix h in (spelled, prefix_in-spelled (prefix_text is_dotted prefix) prefix spelled)

pub numbers_are_tokens : NumbersAreTokens
numbers_are_tokens n small = record {
  some = decimal_nonempty n (omega arith);
  few = length-decimal-le 10 n (omega arith) small (omega arith);
  no_space = decimal_lacks 32 n (inl (omega arith)) (omega arith);
  no_newline = decimal_lacks 10 n (inl (omega arith)) (omega arith);
}

pub addresses_are_tokens : AddressesAreTokens
addresses_are_tokens ip small =
    let bytes = address_bytes (printed ip) ip (printed_spells ip small) in
    record {
      some = printed_some ip;
      few = printed_short ip;
      no_space = bytes_lack 32 (printed ip) no_space bytes;
      no_newline = bytes_lack 10 (printed ip) no_newline bytes;
    }

pub sources_are_tokens : SourcesAreTokens
sources_are_tokens ip len small within =
    let address = addresses_are_tokens ip small in
    let short : len < 256 = omega (arith, within, width_le ip) in
    let digits = length-decimal-le 3 len (omega arith) (omega arith) (omega arith) in
    let counted = length-append (printed ip) (47 ∷ decimal len) in
    record {
      some = omega (arith, counted);
      few = omega (arith, counted, digits, address.few);
      no_space = lacks-append 32 (printed ip) (47 ∷ decimal len) address.no_space (refl, decimal_lacks 32 len (inl (omega arith)) (omega arith));
      no_newline = lacks-append 10 (printed ip) (47 ∷ decimal len) address.no_newline (refl, decimal_lacks 10 len (inl (omega arith)) (omega arith));
    }

pub prefixes_are_tokens : PrefixesAreTokens
prefixes_are_tokens is_dotted prefix h =
    cond_both (is_dotted && is_inside_mapped prefix) (source_text (V4 (prefix.bits % 2 ^ 32)) (prefix.len - 96)) (source_text (V6 prefix.bits) prefix.len) (λ text. IsToken 43 text)
    (λ both. sources_are_tokens (V4 (prefix.bits % 2 ^ 32)) (prefix.len - 96) (omega arith) (omega (arith, h.short)))
    (λ _. sources_are_tokens (V6 prefix.bits) prefix.len h.fits h.short)
