-- The texts that are written for records.
use Rattle.std.specs.Prelude.{ℕ, List, [], ◌∷◌, ◌++◌, decimal}
use Rattle.std.specs.List.{flat_map, join_with_byte}
use Rattle.he_addr.specs.declared.ip.Ip.TheVariants.{V6}
use Rattle.he_addr.specs.Printing.{printed, source_text}
use Rattle.he_words.specs.Ranges.{line_end, token_end}
use Rattle.he_record.specs.Moments.{moment_text}
use Rattle.he_record.specs.Said.{Said, AtSaid, ToSaid, FromSaid, LookupSaid, Nat64Said, ServerSaid, AttemptSaid, UntriedSaid, EndSaid, ticks_of, word_said}
use Rattle.he_record.specs.Words.{first_token, word_spelling, family_spelling, lookup_spelling, server_spelling, attempt_spelling}

-- the tokens after the word of a line
abbrev pub values_said : Said → List (List ℕ)
values_said (AtSaid moment) = moment_text moment ∷ []
values_said (ToSaid host port) = host ∷ decimal port ∷ []
values_said (FromSaid ip) = printed ip ∷ []
values_said (LookupSaid family reason) = family_spelling family ∷ lookup_spelling reason ∷ []
values_said (Nat64Said prefix) = source_text (V6 prefix.bits) prefix.len ∷ []
values_said (ServerSaid ip reason ticks) = printed ip ∷ server_spelling reason ∷ decimal ticks ∷ []
values_said (AttemptSaid ip reason) = printed ip ∷ attempt_spelling reason ∷ []
values_said (UntriedSaid ip) = printed ip ∷ []
values_said (EndSaid end) = decimal (ticks_of end) ∷ []

-- a line: its tokens with a single space between them, and a line end
abbrev pub said_text : Said → List ℕ
said_text said =
    join_with_byte token_end (first_token ∷ word_spelling (word_said said) ∷ values_said said) ++ line_end ∷ []

-- the text of a record: its lines in order
abbrev pub record_text : List Said → List ℕ
record_text said = flat_map said_text said
