-- The prefixes of all addresses of a family, as their texts spell them.
use Rattle.std.proofs.Common.{◌≡◌, ℕ, true, List, refl, sym, ◌∙◌, ap}
use Rattle.std.specs.Prelude.{codes}
use Rattle.std.specs.Net.Reader.{read_ipv4, read_ipv6, read_octet, read_number, read_segments, read_segment}
use Rattle.std.specs.Str.{bytes_eq}
use Rattle.std.proofs.lemmas.Slice.Eq.{bytes_eq-Decides}
use Rattle.he_addr.specs.Ip.{mapped_of}
use Rattle.he_addr.specs.declared.ip.Ip.TheVariants.{V4}
use Rattle.he_addr.specs.Reading.{prefix_in, source_in, cut_in, ip_in, v4_in, v6_in, numeral_in, digits_in, checked}

six_is : checked (record { bits = 0; len = 0 }) ≡ prefix_in (codes "::/0")
unfolding prefix_in source_in cut_in ip_in v4_in v6_in numeral_in digits_in read_ipv4 read_octet read_number read_ipv6 read_segments read_segment
six_is = refl

four_is : checked (record { bits = mapped_of (V4 0); len = 96 }) ≡ prefix_in (codes "0.0.0.0/0")
unfolding prefix_in source_in cut_in ip_in v4_in v6_in numeral_in digits_in read_ipv4 read_octet read_number read_ipv6 read_segments read_segment
four_is = refl

pub all_six : (token : List ℕ) → bytes_eq token (codes "::/0") ≡ true → checked (record { bits = 0; len = 0 }) ≡ prefix_in token
all_six token same = six_is ∙ ap prefix_in (sym ((bytes_eq-Decides token (codes "::/0")).0 same))

pub all_four : (token : List ℕ) → bytes_eq token (codes "0.0.0.0/0") ≡ true → checked (record { bits = mapped_of (V4 0); len = 96 }) ≡ prefix_in token
all_four token same = four_is ∙ ap prefix_in (sym ((bytes_eq-Decides token (codes "0.0.0.0/0")).0 same))
