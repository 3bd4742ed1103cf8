-- Lines that are written part by part.
use Rattle.std.proofs.Common.{◌≡◌, ℕ, ◌+◌, ◌<◌, ◌≤◌, List, [], ◌∷◌, ◌++◌, length, map, take, get_or, sym, ◌∙◌, ap, subst, append_assoc}
use Rattle.std.specs.Prelude.{Result, OnOk, OnErr}
use Rattle.std.specs.List.{flat_map, join_with_byte}
use Rattle.std.proofs.lemmas.List.{append-nil, flat_map_more, take_all, take_more}
use Rattle.std.proofs.lemmas.List.Folds.{flat_map-map}
use Rattle.he_words.specs.Appending.{AppendsText}
use Rattle.he_words.proofs.Appending.{appends, writes_then}
use Rattle.he_record.specs.declared.line.RecordLine.{RecordLine}
use Rattle.he_record.specs.Left.{said_of}
use Rattle.he_record.specs.Said.{Said, word_said}
use Rattle.he_record.specs.Words.{first_token, word_spelling}
use Rattle.he_record.specs.Writing.{spaced}
use Rattle.he_record.specs.Written.{record_text, said_text, values_said}

joined_spaced : (first : List ℕ) (others : List (List ℕ)) → join_with_byte 32 (first ∷ others) ≡ first ++ spaced others
joined_spaced first [] = sym (append-nil first)
joined_spaced first (next ∷ others) = ap (λ text. first ++ 32 ∷ text) (joined_spaced next others)

-- the first two tokens of a line, the others behind spaces, and the line end
line_is : (s : Said) → said_text s ≡ (first_token ++ 32 ∷ word_spelling (word_said s)) ++ (spaced (values_said s) ++ 10 ∷ [])
line_is s =
    ap (λ text. first_token ++ 32 ∷ text ++ 10 ∷ []) (joined_spaced (word_spelling (word_said s)) (values_said s))
    ∙ in_order first_token (word_spelling (word_said s)) (spaced (values_said s))
  where
    in_order : (first word values : List ℕ) → (first ++ 32 ∷ (word ++ values)) ++ 10 ∷ [] ≡ (first ++ 32 ∷ word) ++ (values ++ 10 ∷ [])
    in_order first word values = simp append_assoc

pub line_written : {E : Type 0} (s : Said) (old one two new : List ℕ) (result : Result (Unit {0}) E)
    → one ≡ old ++ (first_token ++ 32 ∷ word_spelling (word_said s)) → two ≡ one ++ spaced (values_said s) → OnOk result (new ≡ two ++ 10 ∷ []) → OnErr result (new ≡ two)
    → AppendsText result old new (said_text s)
line_written {E = E} s old one two new result head values ok err =
    let P : List ℕ → Type 0 = AppendsText result old new in
    subst P (sym (line_is s))
    (writes_then old one new (first_token ++ 32 ∷ word_spelling (word_said s)) (spaced (values_said s) ++ 10 ∷ []) result head
    (writes_then one two new (spaced (values_said s)) (10 ∷ []) result values (appends two new (10 ∷ []) result ok err)))

-- two tokens and one more
pub two_and_one : (one two three : List ℕ) → spaced (one ∷ two ∷ []) ++ 32 ∷ three ≡ spaced (one ∷ two ∷ three ∷ [])
two_and_one one two three =
    in_order one two three
    ∙ ap (λ (last : List ℕ). 32 ∷ (one ++ 32 ∷ (two ++ 32 ∷ last))) (sym (append-nil three))
  where
    in_order : (a b c : List ℕ) → (32 ∷ (a ++ 32 ∷ (b ++ []))) ++ 32 ∷ c ≡ 32 ∷ (a ++ 32 ∷ (b ++ 32 ∷ c))
    in_order a b c = simp (append_assoc, append-nil)

-- the lines of the program
abbrev pub line_text : RecordLine → List ℕ
line_text line = said_text (said_of line)

pub one_more_line : (lines : List RecordLine) (i : ℕ) (d : RecordLine) (old now new : List ℕ) → i < length lines
    → now ≡ old ++ flat_map line_text (take i lines) → new ≡ now ++ line_text (get_or lines i d) → new ≡ old ++ flat_map line_text (take (i + 1) lines)
one_more_line lines i d old now new within before after =
    after ∙ ap (λ text. text ++ line_text (get_or lines i d)) before ∙ flat_map_more line_text old (take i lines) (get_or lines i d)
    ∙ ap (λ ls. old ++ flat_map line_text ls) (sym (take_more lines i d within))

pub all_lines : (lines : List RecordLine) (i : ℕ) (old new : List ℕ) → length lines ≤ i → new ≡ old ++ flat_map line_text (take i lines) → new ≡ old ++ record_text (map said_of lines)
all_lines lines i old new past done =
    done ∙ ap (λ ls. old ++ flat_map line_text ls) (take_all i lines past) ∙ ap (λ text. old ++ text) (sym (flat_map-map said_text said_of lines))
