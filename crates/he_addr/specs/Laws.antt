-- Laws of the texts: what is written reads back, and which bytes a text consists of.
use Rattle.std.specs.Prelude.{◌≡◌, ℕ, ◌^◌, ◌<◌, ◌≤◌, Bool, List, Some, decimal}
use Rattle.he_addr.specs.declared.ip.Ip.{Ip}
use Rattle.he_addr.specs.Ip.{InRange}
use Rattle.he_addr.specs.Prefix.{PrefixBits, IsPrefix, width_of}
use Rattle.he_addr.specs.Printed.{IsPrinted, IsPrintedSource, IsPrintedPrefix}
use Rattle.he_addr.specs.Printing.{printed, source_text, prefix_text}
use Rattle.he_addr.specs.Ranges.{number_digits, address_text_len, prefix_text_len}
use Rattle.he_addr.specs.Reading.{number_in, ip_in, source_in, prefix_in}
use Rattle.he_addr.specs.Text.{SpellsNumber, Spells, SpellsSource, SpellsPrefix, IsToken}

-- a text spells at most one number, address, source and prefix
abbrev pub SpellsOneNumber : Type 0
SpellsOneNumber = (text : List ℕ) (m n : ℕ) → SpellsNumber text m → SpellsNumber text n → m ≡ n

abbrev pub SpellsOneAddress : Type 0
SpellsOneAddress = (text : List ℕ) (a b : Ip) → Spells text a → Spells text b → a ≡ b

abbrev pub SpellsOneSource : Type 0
SpellsOneSource =
    (text : List ℕ) (a b : Ip) (m n : ℕ) → SpellsSource text a m → SpellsSource text b n → (a ≡ b) × (m ≡ n)

abbrev pub SpellsOnePrefix : Type 0
SpellsOnePrefix = (text : List ℕ) (p q : PrefixBits) → SpellsPrefix text p → SpellsPrefix text q → p ≡ q

-- an address, a source and a prefix have one printed text
abbrev pub PrintsOneText : Type 0
PrintsOneText = (ip : Ip) (text : List ℕ) → IsPrinted ip text → text ≡ printed ip

abbrev pub PrintsOneSource : Type 0
PrintsOneSource = (ip : Ip) (len : ℕ) (text : List ℕ) → IsPrintedSource ip len text → text ≡ source_text ip len

abbrev pub PrintsOnePrefix : Type 0
PrintsOnePrefix =
    (is_dotted : Bool) (prefix : PrefixBits) (text : List ℕ) → IsPrintedPrefix is_dotted prefix text
    → text ≡ prefix_text is_dotted prefix

-- a written text spells its value and reads back as it
abbrev pub NumbersReadBack : Type 0
NumbersReadBack = (n : ℕ) → n < 10 ^ number_digits → SpellsNumber (decimal n) n × (number_in (decimal n) ≡ Some n)

abbrev pub AddressesReadBack : Type 0
AddressesReadBack = (ip : Ip) → InRange ip → Spells (printed ip) ip × (ip_in (printed ip) ≡ Some ip)

abbrev pub SourcesReadBack : Type 0
SourcesReadBack =
    (ip : Ip) (len : ℕ) → InRange ip → len ≤ width_of ip → SpellsSource (source_text ip len) ip len
    × (source_in (source_text ip len) ≡ Some (ip, len))

abbrev pub PrefixesReadBack : Type 0
PrefixesReadBack = (is_dotted : Bool) (prefix : PrefixBits) → IsPrefix prefix.bits prefix.len
    → SpellsPrefix (prefix_text is_dotted prefix) prefix × (prefix_in (prefix_text is_dotted prefix) ≡ Some prefix)

-- a written text can appear between spaces in a line
abbrev pub NumbersAreTokens : Type 0
NumbersAreTokens = (n : ℕ) → n < 10 ^ number_digits → IsToken number_digits (decimal n)

abbrev pub AddressesAreTokens : Type 0
AddressesAreTokens = (ip : Ip) → InRange ip → IsToken address_text_len (printed ip)

abbrev pub SourcesAreTokens : Type 0
SourcesAreTokens = (ip : Ip) (len : ℕ) → InRange ip → len ≤ width_of ip → IsToken prefix_text_len (source_text ip len)

abbrev pub PrefixesAreTokens : Type 0
PrefixesAreTokens =
    (is_dotted : Bool) (prefix : PrefixBits) → IsPrefix prefix.bits prefix.len
    → IsToken prefix_text_len (prefix_text is_dotted prefix)
