-- The text of parts, and the facts that it states.
use Rattle.std.specs.Prelude.{ℕ, ◌≡◌, ◌+◌, ◌-◌, ◌++◌, List, [], ◌∷◌, codes, decimal, length}
use Rattle.std.specs.List.{flat_map, repeat}
use Rattle.he_addr.specs.Printing.{printed}
use Rattle.he_print.specs.declared.part.Fact.{Fact}
use Rattle.he_print.specs.declared.part.Fact.TheVariants as facts
use Rattle.he_print.specs.declared.part.Part.{Part}
use Rattle.he_print.specs.declared.part.Part.TheVariants as parts

-- a number, aligned right to this width with spaces
abbrev pub aligned : ℕ → ℕ → List ℕ
aligned width n = repeat (width - length (decimal n)) (codes " ") ++ decimal n

abbrev pub text_of : {S : Type 0} → Part S → List ℕ
text_of (parts.Words words) = words.now
text_of (parts.Says said words) = words.now
text_of (parts.Number n) = decimal n
text_of (parts.Aligned width n) = aligned width n
text_of (parts.Place place) = decimal (place + 1)
text_of (parts.Ip ip) = printed ip
text_of (parts.Byte byte) = byte ∷ []
text_of (parts.Repeated count words) = repeat count words.now

-- words without a meaning state nothing
abbrev pub fact_of : {S : Type 0} → Part S → List (Fact S)
fact_of (parts.Words words) = []
fact_of (parts.Says said words) = facts.Said said ∷ []
fact_of (parts.Number n) = facts.Number n ∷ []
fact_of (parts.Aligned width n) = facts.Number n ∷ []
fact_of (parts.Place place) = facts.Place place ∷ []
fact_of (parts.Ip ip) = facts.Ip ip ∷ []
fact_of (parts.Byte byte) = facts.Byte byte ∷ []
fact_of (parts.Repeated count words) = facts.Times count ∷ []

-- the text consists of parts with exactly these facts, in this order
abbrev pub States : {S : Type 0} → List (Fact S) → List ℕ → Type 0
States told text = (made : List (Part _)) × (flat_map fact_of made ≡ told) × (text ≡ flat_map text_of made)
