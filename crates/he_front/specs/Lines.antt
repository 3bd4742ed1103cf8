-- The request line of octets, as far as they have one (RFC 9112 section 3).
use Rattle.std.specs.Prelude.{ℕ, List, []}
use Rattle.std.specs.Option.{option_map_or}
use Rattle.he_addr.specs.Reading.{cut_in}

-- the text before the first mark, all of it if there is none; and the text after it
abbrev pub before : ℕ → List ℕ → List ℕ
before mark text = option_map_or (λ parts. parts.0) (cut_in mark text) text

abbrev pub after : ℕ → List ℕ → List ℕ
after mark text = option_map_or (λ parts. parts.1) (cut_in mark text) []

-- the first line, without its CR LF or LF (section 2.2)
abbrev pub line_in : List ℕ → List ℕ
line_in octets = before 13 (before 10 octets)

-- method SP request-target SP HTTP-version
abbrev pub method_in : List ℕ → List ℕ
method_in octets = before 32 (line_in octets)

abbrev pub target_in : List ℕ → List ℕ
target_in octets = before 32 (after 32 (line_in octets))
