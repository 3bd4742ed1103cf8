-- The forms of record lines, checked from left to right: first the number of tokens, then each token. The first check
-- that fails is the fault.
use Rattle.std.specs.Prelude.{ℕ, Bool, false, List, [], ◌∷◌, Result, Ok, Err, if◌then◌else◌}
use Rattle.std.specs.Option.{ok_or}
use Rattle.std.specs.Str.{bytes_eq}
use Rattle.he_addr.specs.declared.ip.Ip.{Ip}
use Rattle.he_addr.specs.Reading.{ip_in, prefix_in}
use Rattle.he_timeline.specs.declared.limits.TheConstants.{MAX_TICK}
use Rattle.he_words.specs.Ranges.{most_u16}
use Rattle.he_words.specs.declared.fault.TextKind.{TextKind}
use Rattle.he_words.specs.declared.fault.TextKind.TheVariants as kinds
use Rattle.he_reading.specs.Forms.{◌>>=◌, number_from}
use Rattle.he_reading.specs.Parts.{tokens_of}
use Rattle.he_record.specs.declared.moment.Moment.{Moment}
use Rattle.he_record.specs.declared.reasons.ClientEnd.{ClientEnd}
use Rattle.he_record.specs.declared.reasons.ClientEnd.TheVariants as ends
use Rattle.he_record.specs.declared.words.RecordWord.{RecordWord}
use Rattle.he_record.specs.declared.words.RecordWord.TheVariants as words
use Rattle.he_record.specs.MomentParts.{parts_in}
use Rattle.he_record.specs.Moments.{is_moment, moment_text}
use Rattle.he_record.specs.Ranges.{least_port}
use Rattle.he_record.specs.Said.{Said, AtSaid, ToSaid, FromSaid, LookupSaid, Nat64Said, ServerSaid, AttemptSaid, UntriedSaid, EndSaid, is_host, is_nat64}
use Rattle.he_record.specs.Words.{first_token, record_word_in, family_in, lookup_in, server_in, attempt_in}

-- a time in another format is no number; a time that doesn't exist is out of range
unfoldable pub moment_in : List ℕ → Result Moment TextKind
moment_in token =
    if bytes_eq token (moment_text (parts_in token))
    then (if is_moment (parts_in token) then Ok (parts_in token) else Err kinds.Range)
    else Err kinds.Number

unfoldable pub address_in : List ℕ → Result Ip TextKind
address_in token = ok_or (ip_in token) kinds.Address

-- record at TIME
unfoldable pub at_in : List (List ℕ) → Result Said TextKind
at_in (time ∷ []) = do
  moment ← moment_in time
  Ok (AtSaid moment)
at_in _ = Err kinds.Word

-- record to HOST PORT
unfoldable pub to_in : List (List ℕ) → Result Said TextKind
to_in (host ∷ number ∷ []) =
    if is_host host then (do
      port ← number_from least_port most_u16 number
      Ok (ToSaid host port))
    else Err kinds.Word
to_in _ = Err kinds.Word

-- record from ADDRESS
unfoldable pub from_in : List (List ℕ) → Result Said TextKind
from_in (address ∷ []) = do
  ip ← address_in address
  Ok (FromSaid ip)
from_in _ = Err kinds.Word

-- record lookup aaaa REASON, record lookup a REASON
unfoldable pub look_up_in : List (List ℕ) → Result Said TextKind
look_up_in (first ∷ second ∷ []) = do
  family ← ok_or (family_in first) kinds.Word
  reason ← ok_or (lookup_in second) kinds.Word
  Ok (LookupSaid family reason)
look_up_in _ = Err kinds.Word

-- record nat64 PREFIX
unfoldable pub nat64_in : List (List ℕ) → Result Said TextKind
nat64_in (token ∷ []) = do
  prefix ← ok_or (prefix_in token) kinds.Prefix
  if is_nat64 prefix then Ok (Nat64Said prefix) else Err kinds.Range
nat64_in _ = Err kinds.Word

-- record server ADDRESS REASON N
unfoldable pub name_server_in : List (List ℕ) → Result Said TextKind
name_server_in (address ∷ second ∷ number ∷ []) = do
  ip ← address_in address
  reason ← ok_or (server_in second) kinds.Word
  ticks ← number_from 0 MAX_TICK number
  Ok (ServerSaid ip reason ticks)
name_server_in _ = Err kinds.Word

-- record attempt ADDRESS REASON
unfoldable pub failed_attempt_in : List (List ℕ) → Result Said TextKind
failed_attempt_in (address ∷ second ∷ []) = do
  ip ← address_in address
  reason ← ok_or (attempt_in second) kinds.Word
  Ok (AttemptSaid ip reason)
failed_attempt_in _ = Err kinds.Word

-- record untried ADDRESS
unfoldable pub untried_in : List (List ℕ) → Result Said TextKind
untried_in (address ∷ []) = do
  ip ← address_in address
  Ok (UntriedSaid ip)
untried_in _ = Err kinds.Word

-- record connected N, record gave-up N, record failed N
unfoldable pub end_in : (ℕ → ClientEnd) → List (List ℕ) → Result Said TextKind
end_in end (number ∷ []) = do
  ticks ← number_from 0 MAX_TICK number
  Ok (EndSaid (end ticks))
end_in end _ = Err kinds.Word

-- the line of this word, by the tokens after it
abbrev pub said_by : RecordWord → List (List ℕ) → Result Said TextKind
said_by words.At tokens = at_in tokens
said_by words.To tokens = to_in tokens
said_by words.From tokens = from_in tokens
said_by words.Lookup tokens = look_up_in tokens
said_by words.Nat64 tokens = nat64_in tokens
said_by words.Server tokens = name_server_in tokens
said_by words.Attempt tokens = failed_attempt_in tokens
said_by words.Untried tokens = untried_in tokens
said_by words.Connected tokens = end_in ends.Connected tokens
said_by words.GaveUp tokens = end_in ends.GaveUp tokens
said_by words.Failed tokens = end_in ends.Failed tokens

-- the line is a record line: its first token is `record`
unfoldable pub is_record_line : List (List ℕ) → Bool
is_record_line [] = false
is_record_line (first ∷ tokens) = bytes_eq first first_token

-- the word after `record`, and the tokens after that
unfoldable pub word_of : List (List ℕ) → Result (RecordWord × List (List ℕ)) TextKind
word_of (first ∷ token ∷ tokens) = ok_or (record_word_in token) kinds.Word >>= λ word. Ok (word, tokens)
word_of _ = Err kinds.Word

-- a record line, by its form
unfoldable pub said_in : List ℕ → Result Said TextKind
said_in line = word_of (tokens_of line) >>= λ parts. said_by parts.0 parts.1
