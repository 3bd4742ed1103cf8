-- The numbers of the definitions. The law `laws::ranges` shows that the constants of the code equal them.
use Rattle.std.specs.Prelude.{ℕ}

-- the number of bits of an address of each family
abbrev pub v4_bits : ℕ
v4_bits = 32

abbrev pub v6_bits : ℕ
v6_bits = 128

-- the length of ::ffff:0:0/96, the prefix of the IPv4-mapped addresses (RFC 4291 section 2.5.5.2)
abbrev pub mapped_len : ℕ
mapped_len = 96

-- the scopes of RFC 6724 section 3.1
abbrev pub link_local_scope : ℕ
link_local_scope = 2

abbrev pub site_local_scope : ℕ
site_local_scope = 5

abbrev pub global_scope : ℕ
global_scope = 14

-- the maximum number of decimal digits of a number in a text, and of a prefix length
abbrev pub number_digits : ℕ
number_digits = 10

abbrev pub length_digits : ℕ
length_digits = 3

-- the maximum length in bytes of a printed address, and of a printed source or prefix
abbrev pub address_text_len : ℕ
address_text_len = 39

abbrev pub prefix_text_len : ℕ
prefix_text_len = 43
