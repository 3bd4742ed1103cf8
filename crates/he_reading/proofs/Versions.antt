-- The words that a text of a version has are words.
use Rattle.std.proofs.Common.{◌≡◌, ℕ, Bool, true, false, cond, List, [], ◌∷◌, Option, Some, None, Result, Ok, Err, refl, sym, ◌∙◌, ap}
use Rattle.std.specs.Option.{ok_or}
use Rattle.he_words.specs.declared.fault.TextKind.{TextKind}
use Rattle.he_words.specs.declared.fault.TextKind.TheVariants as kinds
use Rattle.he_words.specs.declared.words.Version.{Version}
use Rattle.he_words.specs.declared.words.Version.TheVariants.{One, Two}
use Rattle.he_words.specs.declared.words.Word.{Word}
use Rattle.he_reading.specs.Forms.{◌>>=◌, is_added, of_version, version_word, word_of}
use Rattle.he_words.specs.Words.{word_in}
use Rattle.he_reading.proofs.Results.{bind_ok, not_stopped}

-- a word of the version is a word, and version 1 has none of those that version 2 added
pub plain_word : (v : Version) (line : List (List ℕ)) (parts : Word × List (List ℕ)) → version_word v line ≡ Ok parts → word_of line ≡ Ok parts
unfolding version_word
plain_word One line parts h =
    let read = bind_ok (word_of line) (of_version One) parts h in
    let kept = not_stopped (is_added read.0) (Ok read.0) kinds.Word parts read.2 in
    read.1 ∙ kept.1
plain_word Two line parts h =
    let read = bind_ok (word_of line) (of_version Two) parts h in
    read.1 ∙ read.2

pub not_added : (line : List (List ℕ)) (parts : Word × List (List ℕ)) → version_word One line ≡ Ok parts → is_added parts ≡ false
unfolding version_word
not_added line parts h =
    let read = bind_ok (word_of line) (of_version One) parts h in
    let kept = not_stopped (is_added read.0) (Ok read.0) kinds.Word parts read.2 in
    let same : read.0 ≡ parts = cc (kept.1) in
    ap is_added (sym same) ∙ kept.0

-- what version 2 didn't add is of both
pub kept_word : (v : Version) (line : List (List ℕ)) (parts : Word × List (List ℕ)) → is_added parts ≡ false → word_of line ≡ Ok parts → version_word v line ≡ Ok parts
unfolding version_word
kept_word One line parts old h = ap (λ w. w >>= of_version One) h ∙ ap (λ b. cond b (Err kinds.Word) (Ok parts)) old
kept_word Two line parts old h = ap (λ w. w >>= of_version Two) h

-- version 2 has all words
pub second_word : (line : List (List ℕ)) (parts : Word × List (List ℕ)) → word_of line ≡ Ok parts → version_word Two line ≡ Ok parts
unfolding version_word
second_word line parts h = ap (λ w. w >>= of_version Two) h

abbrev with_tokens : List (List ℕ) → Word → Result (Word × List (List ℕ)) TextKind
with_tokens tokens word = Ok (word, tokens)

plain_fault : (tokens : List (List ℕ)) (kind : TextKind) → word_of tokens ≡ Err kind → kind ≡ kinds.Word
unfolding word_of
plain_fault [] kind h = cc
plain_fault (token ∷ tokens) kind h = by_word (word_in token) h
  where
    by_word : (word : Option Word) → (ok_or word kinds.Word >>= with_tokens tokens) ≡ Err kind → kind ≡ kinds.Word
    by_word None e = cc
    by_word (Some word) e = cc

-- what is no word of the version has that fault
pub word_fault : (v : Version) (tokens : List (List ℕ)) (kind : TextKind) → version_word v tokens ≡ Err kind → kind ≡ kinds.Word
unfolding version_word
word_fault v tokens kind h = by_word v (word_of tokens) refl h
  where
    by_added : (b : Bool) (parts : Word × List (List ℕ)) → cond b (Err kinds.Word) (Ok parts) ≡ Err kind → kind ≡ kinds.Word
    by_added true parts e = cc
    by_added false parts e = cc

    by_word : (v : Version) (word : Result (Word × List (List ℕ)) TextKind) → word_of tokens ≡ word → (word >>= of_version v) ≡ Err kind → kind ≡ kinds.Word
    by_word v (Err k) e found = let same : k ≡ kind = cc (found) in sym same ∙ plain_fault tokens k e
    by_word One (Ok parts) e found = by_added (is_added parts) parts found
    by_word Two (Ok parts) e found = cc
