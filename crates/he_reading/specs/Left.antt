-- Mirrors the code: the rest of a text while it is read.
use Rattle.std.specs.Prelude.{ℕ, ◌≡◌, ◌+◌, ◌-◌, ◌^◌, ◌<◌, ◌≤◌, ◌==◌, if◌then◌else◌, length, take, List, [], Option, Some, None}
use Rattle.std.specs.Borrow.{Bor}
use Rattle.std.specs.Int.{w64, trailing_zeros}
use Rattle.he_words.specs.declared.limits.TheConstants.{TOKEN_END}
use Rattle.he_reading.specs.declared.lines.Lines.{Lines}
use Rattle.he_reading.specs.declared.parts.TextLine.{TextLine}
use Rattle.he_reading.specs.declared.parts.Tokens.{Tokens}
use Rattle.he_reading.specs.Parts.{pieces_of, lines_of}

-- a text without its last `behind` bytes
abbrev pub all_but : ℕ → List ℕ → List ℕ
all_but behind text = take (length text - behind) text

abbrev pub line_bytes : TextLine → List ℕ
line_bytes line = all_but line.behind line.text.now

abbrev pub parts_before : ℕ → ℕ → Option (Bor (List ℕ)) → List (List ℕ)
parts_before mark behind None = []
parts_before mark behind (Some rest) = pieces_of mark (all_but behind rest.now)

-- the tokens yet to be read
abbrev pub tokens_left : Tokens → List (List ℕ)
tokens_left tokens = parts_before TOKEN_END tokens.behind tokens.rest

-- the place of the lowest bit that is set among 32; 32 if none is
abbrev pub lowest_bit : ℕ → ℕ
lowest_bit bits = if bits == 0 then 32 else trailing_zeros w64 bits

-- the lines that are left, and then the text after the last one
abbrev pub lines_left : Lines → List (List ℕ)
lines_left lines = lines_of lines.rest.now

-- the number of the last line fits in 64 bits: each line has a byte
abbrev pub HasRoom : Lines → Type 0
HasRoom lines = lines.number + length lines.rest.now < 2 ^ 64

-- the rest is shorter by exactly the lines passed
abbrev pub IsAmong : Lines → Lines → Type 0
IsAmong old new =
    (old.number ≤ new.number) × (new.number + length (lines_left new) ≡ old.number + length (lines_left old))
