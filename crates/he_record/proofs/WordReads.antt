-- A word is what its spelling is read as, and what is read as a word is its spelling.
use Rattle.std.proofs.Common.{◌≡◌, ℕ, Bool, true, false, cond, List, Option, Some, None, refl, ◌∙◌, ap}
use Rattle.std.specs.Str.{bytes_eq}
use Rattle.std.proofs.lemmas.Slice.Eq.{bytes_eq-Decides}
use Rattle.he_addr.specs.declared.ip.Family.{Family}
use Rattle.he_addr.specs.declared.ip.Family.TheVariants as families
use Rattle.he_record.specs.declared.reasons.AttemptReason.{AttemptReason}
use Rattle.he_record.specs.declared.reasons.AttemptReason.TheVariants as attempts
use Rattle.he_record.specs.declared.reasons.LookupReason.{LookupReason}
use Rattle.he_record.specs.declared.reasons.LookupReason.TheVariants as lookups
use Rattle.he_record.specs.declared.reasons.ServerReason.{ServerReason}
use Rattle.he_record.specs.declared.reasons.ServerReason.TheVariants as servers
use Rattle.he_record.specs.declared.words.RecordWord.{RecordWord}
use Rattle.he_record.specs.declared.words.RecordWord.TheVariants as words
use Rattle.he_record.specs.Words.{word_spelling, record_word_in, family_spelling, family_in, lookup_spelling, lookup_in, server_spelling, server_in, attempt_spelling, attempt_in}

pub word_reads : (word : RecordWord) → record_word_in (word_spelling word) ≡ Some word
unfolding record_word_in
word_reads words.At = refl
word_reads words.To = refl
word_reads words.From = refl
word_reads words.Lookup = refl
word_reads words.Nat64 = refl
word_reads words.Server = refl
word_reads words.Attempt = refl
word_reads words.Untried = refl
word_reads words.Connected = refl
word_reads words.GaveUp = refl
word_reads words.Failed = refl

pub family_reads : (family : Family) → family_in (family_spelling family) ≡ Some family
unfolding family_in
family_reads families.V6 = refl
family_reads families.V4 = refl

pub lookup_reads : (reason : LookupReason) → lookup_in (lookup_spelling reason) ≡ Some reason
unfolding lookup_in
lookup_reads lookups.NoSuchName = refl
lookup_reads lookups.NoAddress = refl
lookup_reads lookups.NoAnswer = refl
lookup_reads lookups.Refused = refl
lookup_reads lookups.Failed = refl
lookup_reads lookups.Malformed = refl
lookup_reads lookups.NotAsked = refl
lookup_reads lookups.Nat64 = refl

pub server_reads : (reason : ServerReason) → server_in (server_spelling reason) ≡ Some reason
unfolding server_in
server_reads servers.Silent = refl
server_reads servers.Refused = refl
server_reads servers.Failed = refl
server_reads servers.Unreachable = refl

pub attempt_reads : (reason : AttemptReason) → attempt_in (attempt_spelling reason) ≡ Some reason
unfolding attempt_in
attempt_reads attempts.Refused = refl
attempt_reads attempts.Unreachable = refl
attempt_reads attempts.TimedOut = refl
attempt_reads attempts.Reset = refl
attempt_reads attempts.Forbidden = refl
attempt_reads attempts.NoSource = refl
attempt_reads attempts.Other = refl

-- the first of these words, or one of the others
spelled_or : {W : Type 0} (spelling : W → List ℕ) (token : List ℕ) (v w : W) (b : Bool) (rest : Option W) → bytes_eq token (spelling v) ≡ b → (rest ≡ Some w → token ≡ spelling w) → cond b (Some v) rest ≡ Some w → token ≡ spelling w
spelled_or spelling token v w true rest e later h =
    let same : v ≡ w = cc (h) in
    (bytes_eq-Decides token (spelling v)).0 e ∙ ap spelling same
spelled_or spelling token v w false rest e later h = later h

none_spelled : {W : Type 0} (spelling : W → List ℕ) (token : List ℕ) (w : W) → None ≡ Some w → token ≡ spelling w
none_spelled spelling token w h = cc

pub word_spelled : (token : List ℕ) (w : RecordWord) → record_word_in token ≡ Some w → token ≡ word_spelling w
unfolding record_word_in
word_spelled token w h =
    spelled_or word_spelling token words.At w _ _ refl
    (spelled_or word_spelling token words.To w _ _ refl
    (spelled_or word_spelling token words.From w _ _ refl
    (spelled_or word_spelling token words.Lookup w _ _ refl
    (spelled_or word_spelling token words.Nat64 w _ _ refl
    (spelled_or word_spelling token words.Server w _ _ refl
    (spelled_or word_spelling token words.Attempt w _ _ refl
    (spelled_or word_spelling token words.Untried w _ _ refl
    (spelled_or word_spelling token words.Connected w _ _ refl
    (spelled_or word_spelling token words.GaveUp w _ _ refl
    (spelled_or word_spelling token words.Failed w _ _ refl (none_spelled word_spelling token w)))))))))))
    h

pub family_spelled : (token : List ℕ) (w : Family) → family_in token ≡ Some w → token ≡ family_spelling w
unfolding family_in
family_spelled token w h =
    spelled_or family_spelling token families.V6 w _ _ refl
    (spelled_or family_spelling token families.V4 w _ _ refl (none_spelled family_spelling token w))
    h

pub lookup_spelled : (token : List ℕ) (w : LookupReason) → lookup_in token ≡ Some w → token ≡ lookup_spelling w
unfolding lookup_in
lookup_spelled token w h =
    spelled_or lookup_spelling token lookups.NoSuchName w _ _ refl
    (spelled_or lookup_spelling token lookups.NoAddress w _ _ refl
    (spelled_or lookup_spelling token lookups.NoAnswer w _ _ refl
    (spelled_or lookup_spelling token lookups.Refused w _ _ refl
    (spelled_or lookup_spelling token lookups.Failed w _ _ refl
    (spelled_or lookup_spelling token lookups.Malformed w _ _ refl
    (spelled_or lookup_spelling token lookups.NotAsked w _ _ refl
    (spelled_or lookup_spelling token lookups.Nat64 w _ _ refl (none_spelled lookup_spelling token w))))))))
    h

pub server_spelled : (token : List ℕ) (w : ServerReason) → server_in token ≡ Some w → token ≡ server_spelling w
unfolding server_in
server_spelled token w h =
    spelled_or server_spelling token servers.Silent w _ _ refl
    (spelled_or server_spelling token servers.Refused w _ _ refl
    (spelled_or server_spelling token servers.Failed w _ _ refl
    (spelled_or server_spelling token servers.Unreachable w _ _ refl (none_spelled server_spelling token w))))
    h

pub attempt_spelled : (token : List ℕ) (w : AttemptReason) → attempt_in token ≡ Some w → token ≡ attempt_spelling w
unfolding attempt_in
attempt_spelled token w h =
    spelled_or attempt_spelling token attempts.Refused w _ _ refl
    (spelled_or attempt_spelling token attempts.Unreachable w _ _ refl
    (spelled_or attempt_spelling token attempts.TimedOut w _ _ refl
    (spelled_or attempt_spelling token attempts.Reset w _ _ refl
    (spelled_or attempt_spelling token attempts.Forbidden w _ _ refl
    (spelled_or attempt_spelling token attempts.NoSource w _ _ refl
    (spelled_or attempt_spelling token attempts.Other w _ _ refl (none_spelled attempt_spelling token w)))))))
    h
