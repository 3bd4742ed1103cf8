-- The standard policy table (RFC 6724 section 2.1).
use Rattle.std.specs.Prelude.{ℕ, ◌*◌, ◌^◌, ◌-◌, List, [], ◌∷◌}
use Rattle.he_select.specs.declared.policy.Row.{Row}

-- a row: the first `width` bits of the prefix as the number `groups`, its length, precedence and label
abbrev pub standard_row : ℕ → ℕ → ℕ → ℕ → ℕ → Row
standard_row groups width len precedence label =
    record { prefix = record { bits = groups * 2 ^ (128 - width); len = len }; precedence = precedence; label = label }

-- ::1/128, ::/0, ::ffff:0:0/96, 2002::/16, 2001::/32, fc00::/7, ::/96, fec0::/10, 3ffe::/16
abbrev pub standard_rows : List Row
standard_rows =
    standard_row 1 128 128 50 0
    ∷ standard_row 0 128 0 40 1
    ∷ standard_row 0xffff 96 96 35 4
    ∷ standard_row 0x2002 16 16 30 2
    ∷ standard_row 0x2001_0000 32 32 5 5
    ∷ standard_row 0xfc00 16 7 3 13
    ∷ standard_row 0 128 96 1 3
    ∷ standard_row 0xfec0 16 10 1 11
    ∷ standard_row 0x3ffe 16 16 1 12
    ∷ []
