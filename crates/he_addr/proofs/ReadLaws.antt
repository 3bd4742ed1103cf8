-- What a text spells is what the readers read of it, for the crates above to cite.
use Rattle.std.proofs.Common.{◌≡◌, ℕ, List, Some}
use Rattle.he_addr.specs.declared.ip.Ip.{Ip}
use Rattle.he_addr.specs.Prefix.{PrefixBits}
use Rattle.he_addr.specs.Reading.{number_in, ip_in, source_in, prefix_in}
use Rattle.he_addr.specs.Text.{SpellsNumber, Spells, SpellsSource, SpellsPrefix}
use Rattle.he_addr.proofs.AddressTexts.{source_in_some, source_in-spelled, prefix_in_some, prefix_in-spelled}
use Rattle.he_addr.proofs.NetTexts.{ip_in_some, ip_in-spelled}
use Rattle.he_addr.proofs.Numbers.{numeral_in_some, numeral_in-spelled}

pub read_number_spells : (text : List ℕ) (n : ℕ) → number_in text ≡ Some n → SpellsNumber text n
unfolding number_in
read_number_spells text n h = numeral_in_some 10 text n h

pub spelled_number_reads : (text : List ℕ) (n : ℕ) → SpellsNumber text n → number_in text ≡ Some n
unfolding number_in
spelled_number_reads text n h = numeral_in-spelled 10 text n h

pub read_address_spells : (text : List ℕ) (ip : Ip) → ip_in text ≡ Some ip → Spells text ip
read_address_spells text ip h = ip_in_some text ip h

pub spelled_address_reads : (text : List ℕ) (ip : Ip) → Spells text ip → ip_in text ≡ Some ip
spelled_address_reads text ip h = ip_in-spelled text ip h

pub read_source_spells : (text : List ℕ) (ip : Ip) (len : ℕ) → source_in text ≡ Some (ip, len) → SpellsSource text ip len
read_source_spells text ip len h = source_in_some text ip len h

pub spelled_source_reads : (text : List ℕ) (ip : Ip) (len : ℕ) → SpellsSource text ip len → source_in text ≡ Some (ip, len)
spelled_source_reads text ip len h = source_in-spelled text ip len h

pub read_prefix_spells : (text : List ℕ) (prefix : PrefixBits) → prefix_in text ≡ Some prefix → SpellsPrefix text prefix
read_prefix_spells text prefix h = prefix_in_some text prefix h

pub spelled_prefix_reads : (text : List ℕ) (prefix : PrefixBits) → SpellsPrefix text prefix → prefix_in text ≡ Some prefix
spelled_prefix_reads text prefix h = prefix_in-spelled text prefix h
