-- Laws of embedding.
use Rattle.std.specs.Prelude.{ℕ, ◌+◌, ◌%◌, ◌^◌, ◌<◌, ◌≡◌, IsTrue, Some}
use Rattle.he_nat64.specs.declared.length.Length.{Length}
use Rattle.he_nat64.specs.Discovery.{instances, shown}
use Rattle.he_nat64.specs.Embedding.{at_place, free_of, is_kept, leading, placed, rest_of}

-- the IPv6 address of an IPv4 host begins with the prefix and has the IPv4 address at its place, and all its other
-- bits are zero
pub record HasBoth (length : Length) (bits v4 : ℕ) : Type 0 where
  pub prefix : leading length (bits + placed length v4) ≡ bits
  pub host : at_place length (bits + placed length v4) ≡ v4
  pub kept : IsTrue (is_kept length (bits + placed length v4))
  pub rest : (bits + placed length v4) % rest_of length ≡ 0

abbrev pub EmbeddedIsExtracted : Type 0
EmbeddedIsExtracted =
    (length : Length) (bits v4 : ℕ) → bits % free_of length ≡ 0 → v4 < 2 ^ 32 → HasBoth length bits v4

-- an address of which all other bits are zero is that of the IPv4 host at its place, by the prefix with which it
-- begins
abbrev pub ExtractedIsEmbedded : Type 0
ExtractedIsEmbedded =
    (length : Length) (address : ℕ) → IsTrue (is_kept length address) → address % rest_of length ≡ 0
    → leading length address + placed length (at_place length address) ≡ address

-- any network's prefix is found, if its address has the known address once
abbrev pub PrefixIsShown : Type 0
PrefixIsShown =
    (length : Length) (bits v4 : ℕ) → bits % free_of length ≡ 0 → v4 < 2 ^ 32
    → instances v4 (bits + placed length v4) ≡ 1
    → shown v4 (bits + placed length v4) ≡ Some (record { bits = bits; length = length })
