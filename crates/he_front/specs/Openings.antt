-- The protocol that a client uses, by its first octet: the version of SOCKS (RFC 1928 section 3), or a letter of a
-- method (RFC 9110 section 9.1).
use Rattle.std.specs.Prelude.{ℕ, ◌==◌, if◌then◌else◌}
use Rattle.std.specs.Char.{is_ascii_alphabetic}
use Rattle.he_front.specs.declared.opening.Opening.{Opening}
use Rattle.he_front.specs.declared.opening.Opening.TheVariants as openings

abbrev pub opening_of : ℕ → Opening
opening_of first =
    if first == 5 then openings.Socks
    else (if first == 4 then openings.OldSocks
    else (if is_ascii_alphabetic first then openings.Http else openings.Other))
