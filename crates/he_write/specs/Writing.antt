-- Mirrors the code: the texts that its parts append.
use Rattle.std.specs.Prelude.{ℕ, ◌+◌, true, false, List, [], ◌∷◌, ◌++◌, decimal, Option, Some, None, codes}
use Rattle.std.specs.List.{flat_map}
use Rattle.he_addr.specs.Printing.{printed, source_text, prefix_text}
use Rattle.he_addr.specs.declared.ip.Ip.{Ip}
use Rattle.he_plan.specs.declared.transcript.Mark.{Mark}
use Rattle.he_plan.specs.declared.transcript.Mark.TheVariants as marks
use Rattle.he_select.specs.declared.attributes.Sourced.{Sourced}
use Rattle.he_select.specs.declared.attributes.DestinationAttributes.{DestinationAttributes}
use Rattle.he_select.specs.Attributes.{sourced_from}
use Rattle.he_write.specs.Written.{written_line}
use Rattle.he_write.specs.declared.writing.Token.{Token}
use Rattle.he_write.specs.declared.writing.Token.TheVariants as tokens

-- the text of a line's token
abbrev pub token_text : Token → List ℕ
token_text (tokens.Word text) = text.now
token_text (tokens.Number n) = decimal n
token_text (tokens.Address ip) = printed ip.now
token_text (tokens.Source source) = source_text source.now.ip source.now.plen
token_text (tokens.Prefix prefix) = prefix_text false prefix.now
token_text (tokens.Dotted prefix) = prefix_text true prefix.now

-- a label, a number and the line's end
abbrev pub last_text : List ℕ → ℕ → List ℕ
last_text label number = label ++ (decimal number ++ 10 ∷ [])

-- MARK TICK, after a space, and the line's end
abbrev pub mark_end : Mark → List ℕ
mark_end (marks.Won tick) = last_text (codes " won ") tick
mark_end (marks.Failed tick) = last_text (codes " failed ") tick
mark_end (marks.Cancelled tick) = last_text (codes " cancelled ") tick

-- attempt PLACE START, and the space after it
abbrev pub start_text : ℕ → ℕ → List ℕ
start_text place tick = codes "attempt " ++ (decimal place ++ 32 ∷ (decimal tick ++ 32 ∷ []))

-- won PLACE TICK, and the line's end
abbrev pub won_text : ℕ → ℕ → List ℕ
won_text place tick = codes "won " ++ (decimal place ++ last_text (codes " ") tick)

-- from SOURCE or from none, after a space, and the line's end
abbrev pub origin_text : Option Ip → List ℕ
origin_text None = codes " from none" ++ 10 ∷ []
origin_text (Some ip) = codes " from " ++ (printed ip ++ 10 ∷ [])

-- the address of a source, or `none`
abbrev pub source_ip_text : Option Ip → List ℕ
source_ip_text None = codes "none"
source_ip_text (Some ip) = printed ip

-- the line of a place in an order
abbrev pub sourced_line : ℕ → Sourced → List ℕ
sourced_line place sourced =
    written_line (decimal place ∷ printed sourced.ip ∷ codes "from" ∷ source_ip_text sourced.source ∷ [])

-- the lines of the places, counted from `place`
abbrev pub attributes_line : ℕ → DestinationAttributes → List ℕ
attributes_line place attributes = sourced_line place (sourced_from attributes)

abbrev pub attributes_lines : ℕ → List DestinationAttributes → List ℕ
attributes_lines place [] = []
attributes_lines place (first ∷ more) = attributes_line place first ++ attributes_lines (place + 1) more

-- tokens, each after a space
abbrev pub spaced : List (List ℕ) → List ℕ
spaced tokens = flat_map (λ token. 32 ∷ token) tokens
