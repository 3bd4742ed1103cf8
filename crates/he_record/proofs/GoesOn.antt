-- A text begins with a record line exactly where its bytes begin with `record`, and after that the token ends.
use Rattle.std.proofs.Common.{◌≡◌, ℕ, ◌<◌, ◌≤◌, ◌==◌, Bool, true, false, eqb, List, [], ◌∷◌, ◌++◌, length, take, drop, refl, sym, ◌∙◌, ap, inl, inr, arith, append_assoc}
use Rattle.std.specs.Prelude.{◌⊎◌, codes}
use Rattle.std.specs.List.{join_with_byte, starts_with}
use Rattle.std.proofs.lemmas.Bool.{eqb-true, false_from_ne_true, false≢true, or_cases}
use Rattle.std.proofs.lemmas.Bool.Decides.{Decides-eqb}
use Rattle.std.proofs.lemmas.List.{append-nil}
use Rattle.std.proofs.lemmas.List.Elements.{All-from_recursion}
use Rattle.std.proofs.lemmas.List.Splits.{join_with_byte-slice_split, slice_split_at}
use Rattle.std.proofs.lemmas.Slice.Eq.{bytes_eq-Decides, starts_is}
use Rattle.he_reading.specs.Parts.{lines_of, pieces_of, tokens_of}
use Rattle.he_record.specs.Forms.{is_record_line}
use Rattle.he_record.specs.Fronts.{goes_on}
use Rattle.he_record.specs.Left.{ends_token}
use Rattle.he_record.specs.Words.{first_token}
use Rattle.he_record.proofs.Stands.{glued, parts_glued, some_parts}

-- a text, by its first part and what follows that
record Heads (mark : ℕ) (part text : List ℕ) : Type 0 where
  tail : List ℕ
  is : text ≡ part ++ tail
  cut : (tail ≡ []) ⊎ ((more : List ℕ) × (tail ≡ mark ∷ more))

heads : (mark : ℕ) (part text : List ℕ) (parts : List (List ℕ)) → pieces_of mark text ≡ part ∷ parts → Heads mark part text
heads mark part text [] e = record { tail = []; is = sym (join_with_byte-slice_split mark text) ∙ ap (join_with_byte mark) e ∙ sym (append-nil part); cut = inl refl }
heads mark part text (next ∷ parts) e = record {
  tail = mark ∷ join_with_byte mark (next ∷ parts);
  is = sym (join_with_byte-slice_split mark text) ∙ ap (join_with_byte mark) e;
  cut = inr (join_with_byte mark (next ∷ parts), refl);
}

-- the bytes of a text that begins with a record line
record BeginsAs (text : List ℕ) : Type 0 where
  rest : List ℕ
  is : text ≡ first_token ++ rest
  ends : ends_token rest ≡ true

ends_both : (one other : List ℕ) → (one ≡ []) ⊎ ((more : List ℕ) × (one ≡ 32 ∷ more)) → (other ≡ []) ⊎ ((more : List ℕ) × (other ≡ 10 ∷ more)) → ends_token (one ++ other) ≡ true
ends_both one other (inr cut) behind = ap (λ t. ends_token (t ++ other)) cut.1
ends_both one other (inl none) (inr cut) = ap (λ t. ends_token (t ++ other)) none ∙ ap ends_token cut.1
ends_both one other (inl none) (inl nothing) = ap (λ t. ends_token (t ++ other)) none ∙ ap ends_token nothing

begins_as : (text line : List ℕ) (after : List (List ℕ)) → lines_of text ≡ line ∷ after → is_record_line (tokens_of line) ≡ true → BeginsAs text
unfolding is_record_line
begins_as text line after e begins = by_tokens (tokens_of line) refl begins
  where
    by_tokens : (tokens : List (List ℕ)) → tokens_of line ≡ tokens → is_record_line tokens ≡ true → BeginsAs text
    by_tokens [] same h = cc
    by_tokens (first ∷ tokens) same h =
        let outer = heads 10 line text after e in
        let inner = heads 32 first line tokens same in
        record {
          rest = inner.tail ++ outer.tail;
          is = outer.is ∙ ap (λ t. t ++ outer.tail) (inner.is ∙ ap (λ t. t ++ inner.tail) ((bytes_eq-Decides first first_token).0 h)) ∙ append_assoc first_token inner.tail outer.tail;
          ends = ends_both inner.tail outer.tail inner.cut outer.cut;
        }

-- and back
cut_at_space : (rest : List ℕ) → tokens_of (first_token ++ 32 ∷ rest) ≡ first_token ∷ tokens_of rest
cut_at_space rest =
    slice_split_at (λ b. eqb b 32) first_token 32 rest (All-from_recursion (λ b. eqb b 32 ≡ false) first_token (refl, (refl, (refl, (refl, (refl, (refl, tt))))))) refl

cut_at_end : (rest : List ℕ) → lines_of (first_token ++ 10 ∷ rest) ≡ first_token ∷ lines_of rest
cut_at_end rest =
    slice_split_at (λ b. eqb b 10) first_token 10 rest (All-from_recursion (λ b. eqb b 10 ≡ false) first_token (refl, (refl, (refl, (refl, (refl, (refl, tt))))))) refl

behind_space : (rest : List ℕ) → goes_on (lines_of (first_token ++ 32 ∷ rest)) ≡ true
unfolding is_record_line
behind_space rest = ap goes_on (parts_glued 10 (codes "record ") rest) ∙ by_lines (lines_of rest) (some_parts 10 rest)
  where
    by_lines : (parts : List (List ℕ)) → 0 < length parts → goes_on (glued (codes "record " ∷ []) parts) ≡ true
    by_lines [] some = absurd (omega arith)
    by_lines (line ∷ after) some = ap is_record_line (cut_at_space line)

behind_end : (rest : List ℕ) → goes_on (lines_of (first_token ++ 10 ∷ rest)) ≡ true
unfolding is_record_line
behind_end rest = ap goes_on (cut_at_end rest)

as_begins : (rest : List ℕ) → ends_token rest ≡ true → goes_on (lines_of (first_token ++ rest)) ≡ true
unfolding is_record_line
as_begins [] h = refl
as_begins (byte ∷ more) h =
    elim (or_cases (eqb byte 32) (eqb byte 10) h) [
      | inl space ↦ ap (λ (b : ℕ). goes_on (lines_of (first_token ++ b ∷ more))) (eqb-true byte 32 space) ∙ behind_space more
      | inr end ↦ ap (λ (b : ℕ). goes_on (lines_of (first_token ++ b ∷ more))) (eqb-true byte 10 end) ∙ behind_end more
    ]

begins_from : (text : List ℕ) → goes_on (lines_of text) ≡ true → BeginsAs text
begins_from text h = by_lines (lines_of text) refl h
  where
    by_lines : (parts : List (List ℕ)) → lines_of text ≡ parts → goes_on parts ≡ true → BeginsAs text
    by_lines [] e h = cc
    by_lines (line ∷ after) e h = begins_as text line after e h

-- the test of the bytes
goes : (text : List ℕ) → starts_with (λ a b. a == b) text first_token ≡ true → ends_token (drop 6 text) ≡ true → goes_on (lines_of text) ≡ true
goes text starts ends =
    let front : text ≡ first_token ++ drop 6 text = (starts_is Decides-eqb text first_token _ refl).0 starts in
    ap (λ t. goes_on (lines_of t)) front ∙ as_begins (drop 6 text) ends

pub no_start : (text : List ℕ) → starts_with (λ a b. a == b) text first_token ≡ false → goes_on (lines_of text) ≡ false
no_start text starts = false_from_ne_true (goes_on (lines_of text)) (λ h.
    let is = begins_from text h in
    let yes : starts_with (λ a b. a == b) text first_token ≡ true = (starts_is Decides-eqb text first_token _ refl).1 is.rest is.is in
    false≢true (sym starts ∙ yes))

no_end : (text : List ℕ) → ends_token (drop 6 text) ≡ false → goes_on (lines_of text) ≡ false
no_end text ends = false_from_ne_true (goes_on (lines_of text)) (λ h.
    let is = begins_from text h in
    let same : drop 6 text ≡ is.rest = ap (drop 6) is.is in
    false≢true (sym ends ∙ ap ends_token same ∙ is.ends))

pub by_end : (text : List ℕ) → starts_with (λ a b. a == b) text first_token ≡ true → ends_token (drop 6 text) ≡ goes_on (lines_of text)
by_end text starts = by_test (ends_token (drop 6 text)) refl
  where
    by_test : (b : Bool) → ends_token (drop 6 text) ≡ b → b ≡ goes_on (lines_of text)
    by_test true e = sym (goes text starts e)
    by_test false e = sym (no_end text e)

-- seven bytes decide it
pub bytes_decide : (text more : List ℕ) → 7 ≤ length text → goes_on (lines_of (text ++ more)) ≡ goes_on (lines_of text)
bytes_decide [] more long = absurd (omega arith)
bytes_decide (a ∷ []) more long = absurd (omega arith)
bytes_decide (a ∷ b ∷ []) more long = absurd (omega arith)
bytes_decide (a ∷ b ∷ c ∷ []) more long = absurd (omega arith)
bytes_decide (a ∷ b ∷ c ∷ d ∷ []) more long = absurd (omega arith)
bytes_decide (a ∷ b ∷ c ∷ d ∷ e ∷ []) more long = absurd (omega arith)
bytes_decide (a ∷ b ∷ c ∷ d ∷ e ∷ f ∷ []) more long = absurd (omega arith)
bytes_decide (a ∷ b ∷ c ∷ d ∷ e ∷ f ∷ g ∷ text) more long = by_test (goes_on (lines_of whole)) refl
  where
    whole : List ℕ
    whole = a ∷ b ∷ c ∷ d ∷ e ∷ f ∷ g ∷ text

    by_test : (t : Bool) → goes_on (lines_of whole) ≡ t → goes_on (lines_of (whole ++ more)) ≡ goes_on (lines_of whole)
    by_test true h =
        let is = begins_from whole h in
        let rest : g ∷ text ≡ is.rest = ap (drop 6) is.is in
        let ends : ends_token (g ∷ text ++ more) ≡ true = ap ends_token rest ∙ is.ends in
        let front : whole ++ more ≡ first_token ++ (g ∷ text ++ more) = ap (λ t. t ++ more) (is.is ∙ ap (λ t. first_token ++ t) (sym rest)) in
        ap (λ t. goes_on (lines_of t)) front ∙ as_begins (g ∷ text ++ more) ends ∙ sym h
    by_test false h =
        false_from_ne_true (goes_on (lines_of (whole ++ more))) (λ yes.
        let is = begins_from (whole ++ more) yes in
        let rest : g ∷ text ++ more ≡ is.rest = ap (drop 6) is.is in
        let front : whole ≡ first_token ++ g ∷ text = ap (λ t. take 6 t ++ g ∷ text) is.is in
        let ends : ends_token (g ∷ text) ≡ true = ap ends_token rest ∙ is.ends in
        false≢true (sym h ∙ ap (λ t. goes_on (lines_of t)) front ∙ as_begins (g ∷ text) ends))
        ∙ sym h
