-- Mirrors the code: the bytes that its parts append to a text.
use Rattle.std.specs.Prelude.{ℕ, List, ◌∷◌, decimal}
use Rattle.std.specs.List.{flat_map}
use Rattle.he_addr.specs.declared.ip.Ip.TheVariants.{V6}
use Rattle.he_addr.specs.Printing.{printed, source_text}
use Rattle.he_record.specs.declared.writing.Token.{Token}
use Rattle.he_record.specs.declared.writing.Token.TheVariants as tokens

-- a token of a written line
abbrev pub token_text : Token → List ℕ
token_text (tokens.Word text) = text.now
token_text (tokens.Number n) = decimal n
token_text (tokens.Address ip) = printed ip
token_text (tokens.Prefix prefix) = source_text (V6 prefix.bits) prefix.len

-- tokens, each after a space
abbrev pub spaced : List (List ℕ) → List ℕ
spaced tokens = flat_map (λ token. 32 ∷ token) tokens
