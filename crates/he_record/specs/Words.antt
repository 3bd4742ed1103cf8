-- The words of record lines: their spellings, and the order of the lines.
use Rattle.std.specs.Prelude.{ℕ, List, [], ◌∷◌, Option, Some, None, find, codes}
use Rattle.std.specs.Str.{bytes_eq}
use Rattle.he_addr.specs.declared.ip.Family.{Family}
use Rattle.he_addr.specs.declared.ip.Family.TheVariants.{V4, V6}
use Rattle.he_words.specs.declared.fault.TextKind.{TextKind}
use Rattle.he_words.specs.declared.fault.TextKind.TheVariants as kinds
use Rattle.he_record.specs.Ranges.{most_once, most_prefixes, most_servers, most_told}
use Rattle.he_record.specs.declared.words.RecordWord.{RecordWord}
use Rattle.he_record.specs.declared.words.RecordWord.TheVariants.{At, To, From, Lookup, Nat64, Server, Attempt, Untried, Connected, GaveUp, Failed}
use Rattle.he_record.specs.declared.reasons.LookupReason.{LookupReason}
use Rattle.he_record.specs.declared.reasons.LookupReason.TheVariants as lookups
use Rattle.he_record.specs.declared.reasons.ServerReason.{ServerReason}
use Rattle.he_record.specs.declared.reasons.ServerReason.TheVariants as servers
use Rattle.he_record.specs.declared.reasons.AttemptReason.{AttemptReason}
use Rattle.he_record.specs.declared.reasons.AttemptReason.TheVariants as attempts

-- the first token of each record line
abbrev pub first_token : List ℕ
first_token = codes "record"

-- the token after it
abbrev pub word_spelling : RecordWord → List ℕ
word_spelling At = codes "at"
word_spelling To = codes "to"
word_spelling From = codes "from"
word_spelling Lookup = codes "lookup"
word_spelling Nat64 = codes "nat64"
word_spelling Server = codes "server"
word_spelling Attempt = codes "attempt"
word_spelling Untried = codes "untried"
word_spelling Connected = codes "connected"
word_spelling GaveUp = codes "gave-up"
word_spelling Failed = codes "failed"

-- the groups, in the order of the lines. The client's result is one group: a record has one of its three lines at
-- most.
abbrev pub word_group : RecordWord → ℕ
word_group At = 1
word_group To = 2
word_group From = 3
word_group Lookup = 4
word_group Nat64 = 5
word_group Server = 6
word_group Attempt = 7
word_group Untried = 8
word_group Connected = 9
word_group GaveUp = 9
word_group Failed = 9

-- the maximum number of lines of the word's group, and the fault of one more; a look-up is limited to one of each
-- family
abbrev pub most_record_lines : RecordWord → Option (ℕ × TextKind)
most_record_lines Lookup = None
most_record_lines Nat64 = Some (most_prefixes, kinds.TooMany)
most_record_lines Server = Some (most_servers, kinds.TooMany)
most_record_lines Attempt = Some (most_told, kinds.TooMany)
most_record_lines Untried = Some (most_told, kinds.TooMany)
most_record_lines word = Some (most_once, kinds.Repeated)

-- the word that a token spells
unfoldable pub record_word_in : List ℕ → Option RecordWord
record_word_in token =
    find (λ word. bytes_eq token (word_spelling word))
    (At ∷ To ∷ From ∷ Lookup ∷ Nat64 ∷ Server ∷ Attempt ∷ Untried ∷ Connected ∷ GaveUp ∷ Failed ∷ [])

-- the families of look-ups
abbrev pub family_spelling : Family → List ℕ
family_spelling V6 = codes "aaaa"
family_spelling V4 = codes "a"

unfoldable pub family_in : List ℕ → Option Family
family_in token = find (λ family. bytes_eq token (family_spelling family)) (V6 ∷ V4 ∷ [])

-- the reason that a family has no address
abbrev pub lookup_spelling : LookupReason → List ℕ
lookup_spelling lookups.NoSuchName = codes "no-such-name"
lookup_spelling lookups.NoAddress = codes "no-address"
lookup_spelling lookups.NoAnswer = codes "no-answer"
lookup_spelling lookups.Refused = codes "refused"
lookup_spelling lookups.Failed = codes "failed"
lookup_spelling lookups.Malformed = codes "malformed"
lookup_spelling lookups.NotAsked = codes "not-asked"
lookup_spelling lookups.Nat64 = codes "nat64"

unfoldable pub lookup_in : List ℕ → Option LookupReason
lookup_in token =
    find (λ reason. bytes_eq token (lookup_spelling reason))
    (lookups.NoSuchName ∷ lookups.NoAddress ∷ lookups.NoAnswer ∷ lookups.Refused ∷ lookups.Failed ∷ lookups.Malformed
    ∷ lookups.NotAsked ∷ lookups.Nat64 ∷ [])

-- the reason that a name server was given up
abbrev pub server_spelling : ServerReason → List ℕ
server_spelling servers.Silent = codes "silent"
server_spelling servers.Refused = codes "refused"
server_spelling servers.Failed = codes "failed"
server_spelling servers.Unreachable = codes "unreachable"

unfoldable pub server_in : List ℕ → Option ServerReason
server_in token =
    find (λ reason. bytes_eq token (server_spelling reason))
    (servers.Silent ∷ servers.Refused ∷ servers.Failed ∷ servers.Unreachable ∷ [])

-- the reason that an attempt failed
abbrev pub attempt_spelling : AttemptReason → List ℕ
attempt_spelling attempts.Refused = codes "refused"
attempt_spelling attempts.Unreachable = codes "unreachable"
attempt_spelling attempts.TimedOut = codes "timed-out"
attempt_spelling attempts.Reset = codes "reset"
attempt_spelling attempts.Forbidden = codes "forbidden"
attempt_spelling attempts.NoSource = codes "no-source"
attempt_spelling attempts.Other = codes "other"

unfoldable pub attempt_in : List ℕ → Option AttemptReason
attempt_in token =
    find (λ reason. bytes_eq token (attempt_spelling reason))
    (attempts.Refused ∷ attempts.Unreachable ∷ attempts.TimedOut ∷ attempts.Reset ∷ attempts.Forbidden
    ∷ attempts.NoSource ∷ attempts.Other ∷ [])
