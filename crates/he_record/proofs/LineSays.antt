-- A record line says what is made of it.
use Rattle.std.proofs.Common.{◌≡◌, ℕ, true, List, [], ◌∷◌, Ok, sym, ◌∙◌, ap, subst}
use Rattle.std.specs.Option.{ok_or}
use Rattle.std.proofs.lemmas.Slice.Eq.{bytes_eq-Decides}
use Rattle.he_words.specs.declared.fault.TextKind.TheVariants as kinds
use Rattle.he_reading.specs.Forms.{◌>>=◌}
use Rattle.he_reading.specs.Parts.{tokens_of}
use Rattle.he_reading.proofs.Results.{bind_ok, ok_or_ok}
use Rattle.he_record.specs.declared.words.RecordWord.{RecordWord}
use Rattle.he_record.specs.Forms.{is_record_line, said_by, said_in, word_of}
use Rattle.he_record.specs.Said.{Said, word_said}
use Rattle.he_record.specs.Text.{Says}
use Rattle.he_record.specs.Words.{first_token, record_word_in, word_spelling}
use Rattle.he_record.proofs.FormReads.{form_reads}
use Rattle.he_record.proofs.FormSays.{form_says}
use Rattle.he_record.proofs.WordReads.{word_reads, word_spelled}

-- the first two tokens
word_tokens : (line : List (List ℕ)) (parts : RecordWord × List (List ℕ)) → word_of line ≡ Ok parts → is_record_line line ≡ true → line ≡ first_token ∷ word_spelling parts.0 ∷ parts.1
unfolding word_of is_record_line
word_tokens [] parts h begins = cc
word_tokens (a ∷ []) parts h begins = cc
word_tokens (first ∷ token ∷ tokens) parts h begins =
    let word = bind_ok (ok_or (record_word_in token) kinds.Word) (λ word. Ok (word, tokens)) parts h in
    let spelled : token ≡ word_spelling word.0 = word_spelled token word.0 (ok_or_ok (record_word_in token) kinds.Word word.0 word.1) in
    let same : (word.0, tokens) ≡ parts = cc (word.2) in
    let P : RecordWord × List (List ℕ) → Type 0 = λ p. first ∷ token ∷ tokens ≡ first_token ∷ word_spelling p.0 ∷ p.1 in
    subst P same (ap (λ t. t ∷ token ∷ tokens) ((bytes_eq-Decides first first_token).0 begins) ∙ ap (λ t. first_token ∷ t ∷ tokens) spelled)

-- a line that is read, by its word
pub said_as : (line : List ℕ) (parts : RecordWord × List (List ℕ)) (s : Said) → word_of (tokens_of line) ≡ Ok parts → said_in line ≡ Ok s → said_by parts.0 parts.1 ≡ Ok s
unfolding said_in
said_as line parts s word h = sym (ap (λ r. r >>= λ (p : RecordWord × List (List ℕ)). said_by p.0 p.1) word) ∙ h

pub line_says : (line : List ℕ) (s : Said) → is_record_line (tokens_of line) ≡ true → said_in line ≡ Ok s → Says line s
unfolding said_in
line_says line s begins h =
    let read = bind_ok (word_of (tokens_of line)) (λ (parts : RecordWord × List (List ℕ)). said_by parts.0 parts.1) s h in
    let is = form_says read.0.0 read.0.1 s read.2 in
    (read.0.1, word_tokens (tokens_of line) read.0 read.1 begins ∙ ap (λ w. first_token ∷ word_spelling w ∷ read.0.1) (sym is.0), is.1)

pub line_begins : (line : List ℕ) (s : Said) → Says line s → is_record_line (tokens_of line) ≡ true
unfolding is_record_line
line_begins line s h = ap is_record_line h.1

pub word_is : (line : List ℕ) (s : Said) → (h : Says line s) → word_of (tokens_of line) ≡ Ok (word_said s, h.0)
unfolding word_of
word_is line s h = ap word_of h.1 ∙ ap (λ o. ok_or o kinds.Word >>= λ word. Ok (word, h.0)) (word_reads (word_said s))

pub line_reads : (line : List ℕ) (s : Said) → Says line s → said_in line ≡ Ok s
unfolding said_in
line_reads line s h = ap (λ r. r >>= λ (p : RecordWord × List (List ℕ)). said_by p.0 p.1) (word_is line s h) ∙ form_reads h.0 s h.2
