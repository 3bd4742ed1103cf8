-- Reading on, line by line.
use Rattle.std.proofs.Common.{◌≡◌, ◌==◌, ℕ, ◌+◌, ◌<◌, ◌≤◌, Bool, true, false, not, cond, List, [], ◌∷◌, length, Option, Some, None, Result, Ok, Err, Bor, refl, sym, ◌∙◌, ap, subst, inl, inr, arith}
use Rattle.std.specs.Prelude.{IfErr}
use Rattle.std.proofs.lemmas.Bool.{le-ltb, lt-ltb}
use Rattle.std.proofs.lemmas.List.Splits.{length-slice_split}
use Rattle.he_timeline.specs.Race.{Race}
use Rattle.he_reading.specs.declared.draft.LastGroup.{LastGroup}
use Rattle.he_words.specs.declared.fault.TextKind.{TextKind}
use Rattle.he_words.specs.declared.fault.TextKind.TheVariants as kinds
use Rattle.he_words.specs.declared.limits.TheConstants.{MAX_LINE}
use Rattle.he_words.specs.declared.words.Version.{Version}
use Rattle.he_words.specs.declared.words.Word.{Word}
use Rattle.he_reading.specs.Forms.{◌>>=◌}
use Rattle.he_reading.specs.Left.{lines_left, IsAmong}
use Rattle.he_reading.specs.Parts.{pieces_of, lines_of, tokens_of}
use Rattle.he_reading.specs.declared.lines.Lines.{Lines}
use Rattle.he_reading.specs.Reading.{Fails, FailsAt, at_line, ended_by, wholeness, take_line, read_body, HeadGiven, head_of, take_head, race_begun, settle, read_head, read_lines, group_at_start, no_head}
use Rattle.he_words.specs.Words.{header_in, is_end}
use Rattle.he_reading.specs.Text.{IsLineOf}

ended_by_some : (parts : List (List ℕ)) → 0 < length parts → ended_by parts ≡ Ok tt
ended_by_some [] some = absurd (omega arith)
ended_by_some (part ∷ parts) some = refl

-- a line that is short enough, with its line end after it
pub wholeness_of : (lines : List (List ℕ)) (line rest : List ℕ) (mark : ℕ) → lines ≡ line ∷ pieces_of mark rest → length line ≤ MAX_LINE → wholeness lines ≡ Ok tt
unfolding wholeness
wholeness_of lines line rest mark is short =
    let some : 0 < length (pieces_of mark rest) = omega (arith, length-slice_split (λ b. b == mark) rest) in
    ap wholeness is
    ∙ ap (λ b. cond b (Err kinds.TooMany) (ended_by (pieces_of mark rest))) (le-ltb MAX_LINE (length line) short)
    ∙ ended_by_some (pieces_of mark rest) some

-- a line that is too long
pub too_long : (lines after : List (List ℕ)) (line : List ℕ) → lines ≡ line ∷ after → MAX_LINE < length line → wholeness lines ≡ Err kinds.TooMany
unfolding wholeness
too_long lines after line is long = ap wholeness is ∙ ap (λ b. cond b (Err kinds.TooMany) (ended_by after)) (lt-ltb MAX_LINE (length line) long)

-- a short part with no line end
pub unended : (lines : List (List ℕ)) (line : List ℕ) → lines ≡ line ∷ [] → length line ≤ MAX_LINE → wholeness lines ≡ Err kinds.Unfinished
unfolding wholeness
unended lines line is short = ap wholeness is ∙ ap (λ b. cond b (Err kinds.TooMany) (Err kinds.Unfinished)) (le-ltb MAX_LINE (length line) short)

-- the other groups: what follows a line
abbrev body_after : (v : Version) → ℕ → List (List ℕ) → Result (Word × LastGroup × Race) TextKind → Result (Race × List (List ℕ)) (ℕ × TextKind)
body_after v n after taken = at_line n taken >>= λ next. cond (is_end next.0) (Ok (next.2, after)) (read_body v (n + 1) next.1 next.2 after)

pub body_unwhole : (v : Version) → (n : ℕ) (so_far : LastGroup) (race : Race) (lines : List (List ℕ)) (kind : TextKind) → wholeness lines ≡ Err kind → read_body v n so_far race lines ≡ Err (n, kind)
unfolding read_body wholeness
body_unwhole v n so_far race [] kind h = ap (λ w. at_line n w >>= λ _. Err (n, kinds.Unfinished)) h
body_unwhole v n so_far race (line ∷ after) kind h = ap (λ w. at_line n w >>= λ _. body_after v n after (take_line v (tokens_of line) so_far race)) h

pub body_whole : (v : Version) → (n : ℕ) (so_far : LastGroup) (race : Race) (lines after : List (List ℕ)) (line : List ℕ) → lines ≡ line ∷ after → wholeness lines ≡ Ok tt
    → read_body v n so_far race lines ≡ body_after v n after (take_line v (tokens_of line) so_far race)
unfolding read_body
body_whole v n so_far race lines after line is whole =
    ap (read_body v n so_far race) is
    ∙ ap (λ w. at_line n w >>= λ _. body_after v n after (take_line v (tokens_of line) so_far race)) (ap wholeness (sym is) ∙ whole)

pub body_wrong : (v : Version) → (n : ℕ) (so_far : LastGroup) (race : Race) (lines after : List (List ℕ)) (line : List ℕ) (kind : TextKind) → lines ≡ line ∷ after → wholeness lines ≡ Ok tt
    → take_line v (tokens_of line) so_far race ≡ Err kind → read_body v n so_far race lines ≡ Err (n, kind)
body_wrong v n so_far race lines after line kind is whole taken =
    body_whole v n so_far race lines after line is whole ∙ ap (body_after v n after) taken

pub body_ends : (v : Version) → (n : ℕ) (so_far next : LastGroup) (race told : Race) (word : Word) (lines after : List (List ℕ)) (line : List ℕ) → lines ≡ line ∷ after → wholeness lines ≡ Ok tt
    → take_line v (tokens_of line) so_far race ≡ Ok (word, next, told) → is_end word ≡ true → read_body v n so_far race lines ≡ Ok (told, after)
body_ends v n so_far next race told word lines after line is whole taken ends =
    body_whole v n so_far race lines after line is whole ∙ ap (body_after v n after) taken
    ∙ ap (λ b. cond b (Ok (told, after)) (read_body v (n + 1) next told after)) ends

pub body_more : (v : Version) → (n : ℕ) (so_far next : LastGroup) (race told : Race) (word : Word) (lines after : List (List ℕ)) (line : List ℕ) → lines ≡ line ∷ after → wholeness lines ≡ Ok tt
    → take_line v (tokens_of line) so_far race ≡ Ok (word, next, told) → is_end word ≡ false → read_body v n so_far race lines ≡ read_body v (n + 1) next told after
body_more v n so_far next race told word lines after line is whole taken ends =
    body_whole v n so_far race lines after line is whole ∙ ap (body_after v n after) taken
    ∙ ap (λ b. cond b (Ok (told, after)) (read_body v (n + 1) next told after)) ends

above_next : (n : ℕ) (read : Result (Race × List (List ℕ)) (ℕ × TextKind)) → IfErr read (λ fault. n + 1 ≤ fault.0) → IfErr read (λ fault. n ≤ fault.0)
above_next n (Ok x) h = tt
above_next n (Err fault) h = omega arith

not_before_after : (v : Version) → (n : ℕ) (after : List (List ℕ)) (taken : Result (Word × LastGroup × Race) TextKind)
    → ((so_far : LastGroup) (race : Race) → IfErr (read_body v (n + 1) so_far race after) (λ fault. n + 1 ≤ fault.0))
    → IfErr (body_after v n after taken) (λ fault. n ≤ fault.0)
not_before_after v n after (Err kind) later = omega arith
not_before_after v n after (Ok next) later = by_end (is_end next.0)
  where
    by_end : (b : Bool) → IfErr (cond b (Ok (next.2, after)) (read_body v (n + 1) next.1 next.2 after)) (λ fault. n ≤ fault.0)
    by_end true = tt
    by_end false = above_next n (read_body v (n + 1) next.1 next.2 after) (later next.1 next.2)

not_before_whole : (n : ℕ) (w : Result (Unit {0}) TextKind) (read : Result (Race × List (List ℕ)) (ℕ × TextKind))
    → IfErr read (λ fault. n ≤ fault.0) → IfErr (at_line n w >>= λ _. read) (λ fault. n ≤ fault.0)
not_before_whole n (Ok done) read h = h
not_before_whole n (Err kind) read h = omega arith

-- a fault isn't above the line from which is read
pub body_not_before : (v : Version) → (n : ℕ) (so_far : LastGroup) (race : Race) (lines : List (List ℕ)) → IfErr (read_body v n so_far race lines) (λ fault. n ≤ fault.0)
unfolding read_body
body_not_before v n so_far race [] = omega arith
body_not_before v n so_far race (line ∷ after) =
    not_before_whole n (wholeness (line ∷ after)) (body_after v n after (take_line v (tokens_of line) so_far race))
    (not_before_after v n after (take_line v (tokens_of line) so_far race) (λ next told. body_not_before v (n + 1) next told after))

-- the first four groups: what follows a whole line
abbrev pub head_after : (v : Version) → ℕ → LastGroup → HeadGiven → List (List ℕ) → List (List ℕ) → Option (Word × List (List ℕ)) → Result (Race × List (List ℕ)) (ℕ × TextKind)
head_after v n so_far given lines after head = elim head [
  | None ↦ settle v n so_far given lines
  | Some parts ↦ at_line n (take_head after parts so_far given) >>= λ next. read_head v (n + 1) next.0 next.1 after
]

pub head_unwhole : (v : Version) → (n : ℕ) (so_far : LastGroup) (given : HeadGiven) (lines : List (List ℕ)) (kind : TextKind) → wholeness lines ≡ Err kind → read_head v n so_far given lines ≡ Err (n, kind)
unfolding read_head wholeness
head_unwhole v n so_far given [] kind h = ap (λ w. at_line n w >>= λ _. Err (n, kinds.Unfinished)) h
head_unwhole v n so_far given (line ∷ after) kind h = ap (λ w. at_line n w >>= λ _. head_after v n so_far given (line ∷ after) after (head_of v (tokens_of line))) h

pub head_whole : (v : Version) → (n : ℕ) (so_far : LastGroup) (given : HeadGiven) (lines after : List (List ℕ)) (line : List ℕ) → lines ≡ line ∷ after → wholeness lines ≡ Ok tt
    → read_head v n so_far given lines ≡ head_after v n so_far given lines after (head_of v (tokens_of line))
unfolding read_head
head_whole v n so_far given lines after line is whole =
    ap (read_head v n so_far given) is
    ∙ ap (λ w. at_line n w >>= λ _. head_after v n so_far given (line ∷ after) after (head_of v (tokens_of line))) (ap wholeness (sym is) ∙ whole)
    ∙ ap (λ ls. head_after v n so_far given ls after (head_of v (tokens_of line))) (sym is)

pub head_settles : (v : Version) → (n : ℕ) (so_far : LastGroup) (given : HeadGiven) (lines after : List (List ℕ)) (line : List ℕ) → lines ≡ line ∷ after → wholeness lines ≡ Ok tt
    → head_of v (tokens_of line) ≡ None → read_head v n so_far given lines ≡ settle v n so_far given lines
head_settles v n so_far given lines after line is whole none =
    head_whole v n so_far given lines after line is whole ∙ ap (head_after v n so_far given lines after) none

pub head_wrong : (v : Version) → (n : ℕ) (so_far : LastGroup) (given : HeadGiven) (parts : Word × List (List ℕ)) (lines after : List (List ℕ)) (line : List ℕ) (kind : TextKind) → lines ≡ line ∷ after → wholeness lines ≡ Ok tt
    → head_of v (tokens_of line) ≡ Some parts → take_head after parts so_far given ≡ Err kind → read_head v n so_far given lines ≡ Err (n, kind)
head_wrong v n so_far given parts lines after line kind is whole some taken =
    head_whole v n so_far given lines after line is whole ∙ ap (head_after v n so_far given lines after) some
    ∙ ap (λ t. at_line n t >>= λ next. read_head v (n + 1) next.0 next.1 after) taken

pub head_more : (v : Version) → (n : ℕ) (so_far next : LastGroup) (given more : HeadGiven) (parts : Word × List (List ℕ)) (lines after : List (List ℕ)) (line : List ℕ) → lines ≡ line ∷ after → wholeness lines ≡ Ok tt
    → head_of v (tokens_of line) ≡ Some parts → take_head after parts so_far given ≡ Ok (next, more) → read_head v n so_far given lines ≡ read_head v (n + 1) next more after
head_more v n so_far next given more parts lines after line is whole some taken =
    head_whole v n so_far given lines after line is whole ∙ ap (head_after v n so_far given lines after) some
    ∙ ap (λ t. at_line n t >>= λ next. read_head v (n + 1) next.0 next.1 after) taken

settle_not_before : (v : Version) → (n : ℕ) (so_far : LastGroup) (lines : List (List ℕ)) (start : Result Race TextKind) → IfErr (at_line n start >>= λ race. read_body v n so_far race lines) (λ fault. n ≤ fault.0)
settle_not_before v n so_far lines (Ok race) = body_not_before v n so_far race lines
settle_not_before v n so_far lines (Err kind) = omega arith

taken_not_before : (v : Version) → (n : ℕ) (after : List (List ℕ)) (taken : Result (LastGroup × HeadGiven) TextKind) → ((so_far : LastGroup) (given : HeadGiven) → IfErr (read_head v (n + 1) so_far given after) (λ fault. n + 1 ≤ fault.0))
    → IfErr (at_line n taken >>= λ next. read_head v (n + 1) next.0 next.1 after) (λ fault. n ≤ fault.0)
taken_not_before v n after (Err kind) later = omega arith
taken_not_before v n after (Ok next) later = above_next n (read_head v (n + 1) next.0 next.1 after) (later next.0 next.1)

-- a fault of what the lines of the first groups begin isn't above the line from which is read
pub head_not_before : (v : Version) → (n : ℕ) (so_far : LastGroup) (given : HeadGiven) (lines : List (List ℕ)) → IfErr (read_head v n so_far given lines) (λ fault. n ≤ fault.0)
unfolding read_head settle
head_not_before v n so_far given [] = omega arith
head_not_before v n so_far given (line ∷ after) =
    not_before_whole n (wholeness (line ∷ after)) (head_after v n so_far given (line ∷ after) after (head_of v (tokens_of line)))
    (by_head (head_of v (tokens_of line)) (λ next more. head_not_before v (n + 1) next more after))
  where
    by_head : (head : Option (Word × List (List ℕ))) → ((next : LastGroup) (more : HeadGiven) → IfErr (read_head v (n + 1) next more after) (λ fault. n + 1 ≤ fault.0))
        → IfErr (head_after v n so_far given (line ∷ after) after head) (λ fault. n ≤ fault.0)
    by_head None later = settle_not_before v n so_far (line ∷ after) (race_begun given)
    by_head (Some parts) later = taken_not_before v n after (take_head after parts so_far given) later

-- a line of the first groups that is refused, for its fault or for memory
pub fails_head : (v : Version) → (n : ℕ) (so_far : LastGroup) (given : HeadGiven) (parts : Word × List (List ℕ)) (lines after : List (List ℕ)) (line : List ℕ) (kind : TextKind) (read : Result (Race × List (List ℕ)) (ℕ × TextKind))
    → read ≡ read_head v n so_far given lines → lines ≡ line ∷ after → wholeness lines ≡ Ok tt → head_of v (tokens_of line) ≡ Some parts
    → Fails kind (take_head after parts so_far given) → FailsAt n kind read
fails_head v n so_far given parts lines after line kind read reads is whole some (inl memory) =
    let P : Result (Race × List (List ℕ)) (ℕ × TextKind) → Type 0 = λ r. IfErr r (λ fault. n ≤ fault.0) in
    inl (memory, subst P (sym reads) (head_not_before v n so_far given lines))
fails_head v n so_far given parts lines after line kind read reads is whole some (inr wrong) =
    inr (reads ∙ head_wrong v n so_far given parts lines after line kind is whole some wrong)

-- a line of the other groups that is refused, for its fault or for memory
pub fails_body : (v : Version) → (n : ℕ) (so_far : LastGroup) (race : Race) (lines after : List (List ℕ)) (line : List ℕ) (kind : TextKind) (read : Result (Race × List (List ℕ)) (ℕ × TextKind))
    → read ≡ read_body v n so_far race lines → lines ≡ line ∷ after → wholeness lines ≡ Ok tt
    → Fails kind (take_line v (tokens_of line) so_far race) → FailsAt n kind read
fails_body v n so_far race lines after line kind read reads is whole (inl memory) =
    let P : Result (Race × List (List ℕ)) (ℕ × TextKind) → Type 0 = λ r. IfErr r (λ fault. n ≤ fault.0) in
    inl (memory, subst P (sym reads) (body_not_before v n so_far race lines))
fails_body v n so_far race lines after line kind read reads is whole (inr wrong) = inr (reads ∙ body_wrong v n so_far race lines after line kind is whole wrong)

-- what the lines of the first groups make
pub settle_reads : (v : Version) → (n : ℕ) (so_far : LastGroup) (given : HeadGiven) (lines : List (List ℕ)) (race : Race) → race_begun given ≡ Ok race → settle v n so_far given lines ≡ read_body v n so_far race lines
unfolding settle
settle_reads v n so_far given lines race h = ap (λ s. at_line n s >>= λ race. read_body v n so_far race lines) h

pub settle_wrong : (v : Version) → (n : ℕ) (so_far : LastGroup) (given : HeadGiven) (lines : List (List ℕ)) (kind : TextKind) → race_begun given ≡ Err kind → settle v n so_far given lines ≡ Err (n, kind)
unfolding settle
settle_wrong v n so_far given lines kind h = ap (λ s. at_line n s >>= λ race. read_body v n so_far race lines) h

settled_not_before : (v : Version) → (n : ℕ) (so_far : LastGroup) (given : HeadGiven) (lines : List (List ℕ)) → IfErr (settle v n so_far given lines) (λ fault. n ≤ fault.0)
unfolding settle
settled_not_before v n so_far given lines = settle_not_before v n so_far lines (race_begun given)

-- what the lines of the first groups give is refused, for its fault or for memory
pub fails_settle : (v : Version) → (n : ℕ) (so_far : LastGroup) (given : HeadGiven) (lines : List (List ℕ)) (kind : TextKind) → Fails kind (race_begun given) → FailsAt n kind (settle v n so_far given lines)
fails_settle v n so_far given lines kind (inl memory) = inl (memory, settled_not_before v n so_far given lines)
fails_settle v n so_far given lines kind (inr wrong) = inr (settle_wrong v n so_far given lines kind wrong)

-- the first line
abbrev pub begin : List (List ℕ) → Result Version TextKind → Result (Race × List (List ℕ)) (ℕ × TextKind)
begin after header = at_line 1 header >>= λ version. read_head version 2 group_at_start no_head after

pub lines_unwhole : (lines : List (List ℕ)) (kind : TextKind) → wholeness lines ≡ Err kind → read_lines lines ≡ Err (1, kind)
unfolding read_lines wholeness
lines_unwhole [] kind h = ap (λ w. at_line 1 w >>= λ _. Err (1, kinds.Unfinished)) h
lines_unwhole (line ∷ after) kind h = ap (λ w. at_line 1 w >>= λ _. begin after (header_in line)) h

pub lines_begin : (lines after : List (List ℕ)) (line : List ℕ) (header : Result Version TextKind) → lines ≡ line ∷ after → wholeness lines ≡ Ok tt → header_in line ≡ header → read_lines lines ≡ begin after header
unfolding read_lines
lines_begin lines after line header is whole read =
    ap read_lines is
    ∙ ap (λ w. at_line 1 w >>= λ _. begin after (header_in line)) (ap wholeness (sym is) ∙ whole)
    ∙ ap (begin after) read

-- a test that was denied
pub agrees : (b : Bool) → false ≡ not b → b ≡ true
agrees true h = refl
agrees false h = cc

pub differs : (b : Bool) → true ≡ not b → b ≡ false
differs true h = cc
differs false h = refl

pub not_both : (b : Bool) → b ≡ true → b ≡ false → ⊥
not_both true is other = cc
not_both false is other = cc

-- what stands after a line is no longer than the text
pub shrinks : (new rest old : Bor (List ℕ)) {n : ℕ} → new ≡ rest → length rest.now < length old.now → length old.now ≤ n → length new.now ≤ n
shrinks new rest old {n} same shorter within = let P : Bor (List ℕ) → Type 0 = λ r. length r.now ≤ n in subst P (sym same) (omega arith)

-- a line more was passed
pub among_more : (first old new : Lines) (line : List ℕ) (rest : Bor (List ℕ)) → IsAmong first old → lines_left old ≡ line ∷ lines_of rest.now → new.rest ≡ rest → new.number ≡ old.number + 1 → IsAmong first new
among_more first old new line rest among parts same number =
    let one : length (lines_left old) ≡ length (line ∷ lines_of rest.now) = ap length parts in
    let here : length (lines_left new) ≡ length (lines_of rest.now) = ap (λ (r : Bor (List ℕ)). length (lines_of r.now)) same in
    let above : first.number ≤ old.number = among.0 in
    let count : old.number + length (lines_left old) ≡ first.number + length (lines_left first) = among.1 in
    (omega arith, omega arith)

-- a line that is reached is one of the text
pub line_in : (text : Bor (List ℕ)) (first now : Lines) (n : ℕ) → IsAmong first now → first.rest ≡ text → first.number ≡ 1 → 1 ≤ n → n ≤ now.number → IsLineOf text.now n
line_in text first now n among same one least most =
    let some : 0 < length (lines_left now) = omega (arith, length-slice_split (λ b. b == 10) now.rest.now) in
    let count : now.number + length (lines_left now) ≡ first.number + length (lines_left first) = among.1 in
    let all : length (lines_left first) ≡ length (lines_of text.now) = ap (λ (r : Bor (List ℕ)). length (lines_of r.now)) same in
    (least, omega arith)

pub line_at : (text : Bor (List ℕ)) (first now : Lines) (n : ℕ) → IsAmong first now → first.rest ≡ text → first.number ≡ 1 → n ≡ now.number → IsLineOf text.now n
line_at text first now n among same one is =
    let above : first.number ≤ now.number = among.0 in
    line_in text first now n among same one (omega arith) (omega arith)

pub among_both : (first next now : Lines) → IsAmong first next → IsAmong next now → IsAmong first now
among_both first next now one other =
    let a : first.number ≤ next.number = one.0 in
    let b : next.number ≤ now.number = other.0 in
    (omega arith, other.1 ∙ one.1)
