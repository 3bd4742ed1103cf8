-- Whether the next line begins with a word.
use Rattle.std.proofs.Common.{◌≡◌, ℕ, ◌<◌, ◌≤◌, ◌==◌, ◌&&◌, Bool, true, false, cond, leb, ltb, List, [], ◌∷◌, ◌++◌, length, Result, Ok, Err, refl, sym, ◌∙◌, ap, arith, append_assoc, append-nil}
use Rattle.std.specs.List.{join_with_byte, starts_with}
use Rattle.std.proofs.lemmas.Bool.{eqb-true, le-leb, ltb-true, ltb-false, and_parts}
use Rattle.std.proofs.lemmas.Bool.Decides.{Decides-eqb}
use Rattle.std.proofs.lemmas.List.Splits.{join_with_byte-slice_split}
use Rattle.std.proofs.lemmas.Slice.Eq.{starts_is}
use Rattle.he_words.specs.declared.fault.TextKind.{TextKind}
use Rattle.he_words.specs.declared.fault.TextKind.TheVariants as kinds
use Rattle.he_words.specs.declared.limits.TheConstants.{MAX_LINE}
use Rattle.he_words.specs.declared.words.Word.{Word}
use Rattle.he_words.specs.declared.words.Word.TheVariants as words
use Rattle.he_reading.specs.Faults.{begins_with, is_next}
use Rattle.he_reading.specs.Forms.{word_of}
use Rattle.he_reading.specs.Parts.{lines_of, tokens_of}
use Rattle.he_reading.specs.Reading.{ended_by, wholeness}
use Rattle.he_words.specs.Words.{group_of, same_word, spelling_of}
use Rattle.he_reading.proofs.Results.{not_stopped}
use Rattle.he_reading.proofs.SaysLaws.{word_tokens}

-- the next line begins with the word where its word is that, if it is a whole one
pub next_begins : (w : Word) (lines after : List (List ℕ)) (line : List ℕ) → lines ≡ line ∷ after → wholeness lines ≡ Ok tt → is_next w lines ≡ begins_with w (word_of (tokens_of line))
unfolding wholeness
next_begins w lines after line is whole = ap (is_next w) is ∙ by_parts after (sym (ap wholeness is) ∙ whole)
  where
    by_parts : (parts : List (List ℕ)) → wholeness (line ∷ parts) ≡ Ok tt → is_next w (line ∷ parts) ≡ begins_with w (word_of (tokens_of line))
    by_parts [] h = let ended = (not_stopped (ltb MAX_LINE (length line)) (Err kinds.Unfinished) kinds.TooMany tt h).1 in cc
    by_parts (next ∷ more) h =
        let short : length line ≤ MAX_LINE = ltb-false MAX_LINE (length line) (not_stopped (ltb MAX_LINE (length line)) (ended_by (next ∷ more)) kinds.TooMany tt h).0 in
        ap (λ b. b && begins_with w (word_of (tokens_of line))) (le-leb (length line) MAX_LINE short)

longer : (m n : ℕ) → m < n → leb n m ≡ false
longer m n lt = grind arith

-- where it is no whole line, it isn't such a line
pub none_whole : (w : Word) (lines : List (List ℕ)) (kind : TextKind) → wholeness lines ≡ Err kind → is_next w lines ≡ false
unfolding wholeness
none_whole w [] kind wrong = refl
none_whole w (line ∷ []) kind wrong = refl
none_whole w (line ∷ next ∷ more) kind wrong = by_test (ltb MAX_LINE (length line)) refl wrong
  where
    by_test : (b : Bool) → ltb MAX_LINE (length line) ≡ b → cond b (Err kinds.TooMany) (ended_by (next ∷ more)) ≡ Err kind → is_next w (line ∷ next ∷ more) ≡ false
    by_test true e h = ap (λ b. b && begins_with w (word_of (tokens_of line))) (longer MAX_LINE (length line) (ltb-true MAX_LINE (length line) e))
    by_test false e h = cc

-- the word of the next line, where that begins with this one
pub next_word : (w : Word) (line : List ℕ) (after : List (List ℕ)) (word : Result (Word × List (List ℕ)) TextKind) → word_of (tokens_of line) ≡ word → is_next w (line ∷ after) ≡ true → begins_with w word ≡ true
next_word w line [] word e h = cc
next_word w line (next ∷ after) word e h = ap (begins_with w) (sym e) ∙ (and_parts (leb (length line) MAX_LINE) (begins_with w (word_of (tokens_of line))) h).1

-- words of one group are one
in_group : ℕ → Word
in_group n = cond (n == 1) words.Set (cond (n == 2) words.Policy (cond (n == 3) words.Source (cond (n == 4) words.Route (cond (n == 5) words.Aaaa (cond (n == 6) words.A (cond (n == 7) words.Rtt (cond (n == 8) words.Used (cond (n == 9) words.Connect (cond (n == 10) words.Pause words.End)))))))))

in_its_group : (w : Word) → in_group (group_of w) ≡ w
unfolding in_group
in_its_group words.Set = refl
in_its_group words.Policy = refl
in_its_group words.Source = refl
in_its_group words.Route = refl
in_its_group words.Aaaa = refl
in_its_group words.A = refl
in_its_group words.Rtt = refl
in_its_group words.Used = refl
in_its_group words.Connect = refl
in_its_group words.Pause = refl
in_its_group words.End = refl

pub one_word : (w word : Word) → same_word w word ≡ true → word ≡ w
one_word w word h = sym (in_its_group word) ∙ ap in_group (sym (eqb-true (group_of w) (group_of word) h)) ∙ in_its_group w

-- joined parts begin with the first of them
joined_begins : (mark : ℕ) (first : List ℕ) (more : List (List ℕ)) → (tail : List ℕ) × (join_with_byte mark (first ∷ more) ≡ first ++ tail)
joined_begins mark first [] = ([], sym (append-nil first))
joined_begins mark first (next ∷ more) = (mark ∷ join_with_byte mark (next ∷ more), refl)

line_begins : (w : Word) (line : List ℕ) → begins_with w (word_of (tokens_of line)) ≡ true → (tail : List ℕ) × (line ≡ spelling_of w ++ tail)
line_begins w line h = by_word (word_of (tokens_of line)) refl h
  where
    by_word : (word : Result (Word × List (List ℕ)) TextKind) → word_of (tokens_of line) ≡ word → begins_with w word ≡ true → (tail : List ℕ) × (line ≡ spelling_of w ++ tail)
    by_word (Err kind) e b = cc
    by_word (Ok parts) e b =
        let joined = joined_begins 32 (spelling_of w) parts.1 in (
          joined.0,
          sym (join_with_byte-slice_split 32 line)
              ∙ ap (join_with_byte 32) (word_tokens (tokens_of line) parts e ∙ ap (λ x. spelling_of x ∷ parts.1) (one_word w parts.0 b))
              ∙ joined.1,
        )

text_begins : (w : Word) (text : List ℕ) (lines : List (List ℕ)) → lines_of text ≡ lines → is_next w lines ≡ true → (tail : List ℕ) × (text ≡ spelling_of w ++ tail)
text_begins w text [] e h = cc
text_begins w text (line ∷ after) e h =
    let front = line_begins w line (next_word w line after (word_of (tokens_of line)) refl h) in
    let joined = joined_begins 10 line after in
    (front.0 ++ joined.0, sym (join_with_byte-slice_split 10 text) ∙ ap (join_with_byte 10) e ∙ joined.1 ∙ ap (λ l. l ++ joined.0) front.1 ∙ append_assoc (spelling_of w) front.0 joined.0)

-- a text that doesn't begin with the word has no such line first
pub none_begins : (w : Word) (text : List ℕ) → starts_with (λ a b. a == b) text (spelling_of w) ≡ false → is_next w (lines_of text) ≡ false
none_begins w text h = by_next (is_next w (lines_of text)) refl
  where
    both : (b : Bool) → b ≡ true → b ≡ false → ⊥
    both true t f = cc
    both false t f = cc

    by_next : (b : Bool) → is_next w (lines_of text) ≡ b → b ≡ false
    by_next false e = refl
    by_next true e =
        let begins = text_begins w text (lines_of text) refl e in
        absurd (both _ ((starts_is Decides-eqb text (spelling_of w) _ refl).1 begins.0 begins.1) h)
