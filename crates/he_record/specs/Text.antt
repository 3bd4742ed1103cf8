-- The texts of records: their lines and contents. No search.
use Rattle.std.specs.Prelude.{ℕ, ◌≡◌, ◌≤◌, ◌&&◌, Bool, true, IsTrue, List, [], ◌∷◌, ◌++◌, length, IfSome, nat_le, count_by}
use Rattle.std.specs.List.{AllByRecursion, AllZip}
use Rattle.he_addr.specs.declared.ip.Family.{Family}
use Rattle.he_addr.specs.declared.ip.Ip.{Ip}
use Rattle.he_addr.specs.Text.{Spells, SpellsPrefix}
use Rattle.he_timeline.specs.declared.limits.TheConstants.{MAX_TICK}
use Rattle.he_words.specs.Ranges.{most_line_bytes, most_u16}
use Rattle.he_reading.specs.Parts.{lines_of, tokens_of}
use Rattle.he_reading.specs.Text.{IsNumber}
use Rattle.he_record.specs.declared.words.RecordWord.{RecordWord}
use Rattle.he_record.specs.Faults.{lines_with}
use Rattle.he_record.specs.Moments.{is_moment, moment_text}
use Rattle.he_record.specs.Ranges.{least_port}
use Rattle.he_record.specs.Said.{Said, AtSaid, ToSaid, FromSaid, LookupSaid, Nat64Said, ServerSaid, AttemptSaid, UntriedSaid, EndSaid, MaySay, group_said, is_host, is_nat64, looks_up, tells_of, ticks_of, word_said}
use Rattle.he_record.specs.Words.{first_token, word_spelling, word_group, most_record_lines, family_spelling, lookup_spelling, server_spelling, attempt_spelling}

-- the tokens after the word of a line, and the line's contents
abbrev pub SaysAfterWord : List (List ℕ) → Said → Type 0
SaysAfterWord tokens (AtSaid moment) = (tokens ≡ moment_text moment ∷ []) × IsTrue (is_moment moment)
SaysAfterWord tokens (ToSaid host port) =
    (number : List ℕ) × (tokens ≡ host ∷ number ∷ []) × IsTrue (is_host host) × IsNumber least_port most_u16 number port
SaysAfterWord tokens (FromSaid ip) = (address : List ℕ) × (tokens ≡ address ∷ []) × Spells address ip
SaysAfterWord tokens (LookupSaid family reason) = tokens ≡ family_spelling family ∷ lookup_spelling reason ∷ []
SaysAfterWord tokens (Nat64Said prefix) =
    (text : List ℕ) × (tokens ≡ text ∷ []) × SpellsPrefix text prefix × IsTrue (is_nat64 prefix)
SaysAfterWord tokens (ServerSaid ip reason ticks) =
    (address : List ℕ) × (number : List ℕ) × (tokens ≡ address ∷ server_spelling reason ∷ number ∷ [])
    × Spells address ip × IsNumber 0 MAX_TICK number ticks
SaysAfterWord tokens (AttemptSaid ip reason) =
    (address : List ℕ) × (tokens ≡ address ∷ attempt_spelling reason ∷ []) × Spells address ip
SaysAfterWord tokens (UntriedSaid ip) = (address : List ℕ) × (tokens ≡ address ∷ []) × Spells address ip
SaysAfterWord tokens (EndSaid end) = (number : List ℕ) × (tokens ≡ number ∷ []) × IsNumber 0 MAX_TICK number (ticks_of end)

-- a line, by its tokens, and its contents
abbrev pub Says : List ℕ → Said → Type 0
Says line said =
    (tokens : List (List ℕ)) × (tokens_of line ≡ first_token ∷ word_spelling (word_said said) ∷ tokens)
    × SaysAfterWord tokens said

-- the groups never fall, from this one on
abbrev pub are_in_order : ℕ → List Said → Bool
are_in_order group [] = true
are_in_order group (said ∷ more) = nat_le group (group_said said) && are_in_order (group_said said) more

-- the lines are in order, no group has too many, and no line repeats a family or an address
pub record FitTogether (said : List Said) : Type 0 where
  pub order : IsTrue (are_in_order 0 said)
  pub few : (word : RecordWord) → IfSome (most_record_lines word) (λ most. lines_with (word_group word) said ≤ most.0)
  pub families : (family : Family) → count_by (looks_up family) said ≤ 1
  pub addresses : (ip : Ip) → count_by (tells_of ip) said ≤ 1

-- the value of a record
pub record IsRecord (said : List Said) : Type 0 where
  pub ranges : AllByRecursion MaySay said
  pub fit : FitTogether said

-- the lines of a record with these contents
pub record AreRecordLines (lines : List (List ℕ)) (said : List Said) : Type 0 where
  pub short : AllByRecursion (λ line. length line ≤ most_line_bytes) lines
  pub say : AllZip Says lines said
  pub fit : FitTogether said

-- The whole text is a record with these contents, maybe without lines. Each line has a line end, so the last part of
-- the text is empty.
pub record IsRecordText (text : List ℕ) (said : List Said) : Type 0 where
  pub lines : List (List ℕ)
  pub parts : lines_of text ≡ lines ++ [] ∷ []
  pub are : AreRecordLines lines said
