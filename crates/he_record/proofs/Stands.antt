-- A record and its fault stand in each text that begins with the bytes of theirs.
use Rattle.std.proofs.Common.{◌≡◌, ℕ, ◌+◌, ◌<◌, ◌≤◌, Bool, true, false, cond, eqb, ltb, List, [], ◌∷◌, ◌++◌, length, Option, Some, None, Err, refl, sym, ◌∙◌, ap, subst, arith, length-append}
use Rattle.std.specs.Prelude.{◌≢◌, codes}
use Rattle.std.specs.List.{onto_first, join_with_byte}
use Rattle.std.proofs.lemmas.Bool.{ltb-true, lt-ltb}
use Rattle.std.proofs.lemmas.List.Splits.{join_with_byte-slice_split, length-slice_split}
use Rattle.std.proofs.lemmas.Slice.Eq.{bytes_eq-Decides}
use Rattle.he_words.specs.Ranges.{most_line_bytes}
use Rattle.he_words.specs.declared.fault.TextKind.{TextKind}
use Rattle.he_words.specs.declared.fault.TextKind.TheVariants as kinds
use Rattle.he_reading.specs.Faults.{first_fault, test, unfinished}
use Rattle.he_reading.specs.Parts.{lines_of, pieces_of, tokens_of}
use Rattle.he_reading.specs.Text.{IsRaceText}
use Rattle.he_timeline.specs.Race.{Race}
use Rattle.he_words.specs.Words.{header_of}
use Rattle.he_words.specs.declared.words.Version.{Version}
use Rattle.he_words.specs.declared.words.Version.TheVariants.{One, Two}
use Rattle.he_record.specs.Faults.{content_fault, line_fault}
use Rattle.he_record.specs.Forms.{is_record_line}
use Rattle.he_record.specs.FrontSearch.{Front, front_from, front_of}
use Rattle.he_record.specs.Fronts.{IsRecordFault, goes_on}
use Rattle.he_record.specs.Said.{Said}
use Rattle.he_record.specs.Text.{IsRecordText}
use Rattle.he_record.specs.Words.{first_token}
use Rattle.he_record.proofs.Closed.{IsClosed, IsOwnKind, content_closed}
use Rattle.he_record.proofs.FrontLaws.{all_pass, as_many, begins_found, fails_later, fault_is_first, first_is_fault}

pub some_parts : (mark : ℕ) (text : List ℕ) → 0 < length (pieces_of mark text)
some_parts mark text = omega (arith, length-slice_split (λ b. eqb b mark) text)

-- the parts of a text and those of what follows it: the last one and the first one are one part
abbrev pub glued : List (List ℕ) → List (List ℕ) → List (List ℕ)
glued [] others = others
glued (part ∷ []) [] = part ∷ []
glued (part ∷ []) (other ∷ others) = (part ++ other) ∷ others
glued (part ∷ next ∷ parts) others = part ∷ glued (next ∷ parts) others

glued_front : (parts others : List (List ℕ)) → 0 < length parts → glued ([] ∷ parts) others ≡ [] ∷ glued parts others
glued_front [] others some = absurd (omega arith)
glued_front (part ∷ parts) others some = refl

glued_onto : (x : ℕ) (parts others : List (List ℕ)) → 0 < length parts → glued (onto_first x parts) others ≡ onto_first x (glued parts others)
glued_onto x [] others some = absurd (omega arith)
glued_onto x (part ∷ []) [] some = refl
glued_onto x (part ∷ []) (other ∷ others) some = refl
glued_onto x (part ∷ next ∷ parts) others some = refl

glued_empty : (others : List (List ℕ)) → 0 < length others → glued ([] ∷ []) others ≡ others
glued_empty [] some = absurd (omega arith)
glued_empty (other ∷ others) some = refl

pub parts_glued : (mark : ℕ) (text more : List ℕ) → pieces_of mark (text ++ more) ≡ glued (pieces_of mark text) (pieces_of mark more)
parts_glued mark [] more = sym (glued_empty (pieces_of mark more) (some_parts mark more))
parts_glued mark (x ∷ text) more = by_test (eqb x mark) (parts_glued mark text more)
  where
    by_test : (b : Bool) → pieces_of mark (text ++ more) ≡ glued (pieces_of mark text) (pieces_of mark more)
        → cond b ([] ∷ pieces_of mark (text ++ more)) (onto_first x (pieces_of mark (text ++ more))) ≡ glued (cond b ([] ∷ pieces_of mark text) (onto_first x (pieces_of mark text))) (pieces_of mark more)
    by_test true h = ap (λ ps. [] ∷ ps) h ∙ sym (glued_front (pieces_of mark text) (pieces_of mark more) (some_parts mark text))
    by_test false h = ap (onto_first x) h ∙ sym (glued_onto x (pieces_of mark text) (pieces_of mark more) (some_parts mark text))

glued_behind : (front : List (List ℕ)) (part : List ℕ) (parts others : List (List ℕ)) → glued (front ++ part ∷ parts) others ≡ front ++ glued (part ∷ parts) others
glued_behind [] part parts others = refl
glued_behind (first ∷ []) part parts others = refl
glued_behind (first ∷ next ∷ front) part parts others = ap (λ ps. first ∷ ps) (glued_behind (next ∷ front) part parts others)

pub some_glued : (part : List ℕ) (parts others : List (List ℕ)) → 0 < length (glued (part ∷ parts) others)
some_glued part [] [] = omega arith
some_glued part [] (other ∷ others) = omega arith
some_glued part (next ∷ parts) others = omega arith

-- the lines of a record, and what follows them
pub behind_lines : (text more : List ℕ) (lines : List (List ℕ)) → lines_of text ≡ lines ++ [] ∷ [] → lines_of (text ++ more) ≡ lines ++ lines_of more
behind_lines text more lines parts =
    parts_glued 10 text more
    ∙ ap (λ ps. glued ps (lines_of more)) parts
    ∙ glued_behind lines [] [] (lines_of more)
    ∙ ap (λ ps. lines ++ ps) (glued_empty (lines_of more) (some_parts 10 more))

pub record_passes : (text more : List ℕ) (said : List Said) → IsRecordText text said → front_of (text ++ more) ≡ front_from (length said + 1) said (lines_of more)
record_passes text more said is =
    let count : 1 + length is.lines ≡ length said + 1 = omega (arith, as_many is.lines said is.are.say) in
    ap (front_from 1 []) (behind_lines text more is.lines is.parts)
    ∙ all_pass 1 [] is.lines said (lines_of more) is.are.say is.are.short is.are.fit (some_parts 10 more)
    ∙ ap (λ (n : ℕ). front_from n said (lines_of more)) count

-- the fault of a line that ends doesn't depend on what follows it
same_fault : (said : List Said) (line : List ℕ) (one other : List ℕ) (after others : List (List ℕ)) → line_fault said line (one ∷ after) ≡ line_fault said line (other ∷ others)
unfolding line_fault
same_fault said line one other after others = refl

-- a line that doesn't end is too long, or the text ends in it
two_ways : (b : Bool) (content : Option TextKind) (kind : TextKind) → first_fault (test b kinds.TooMany ∷ Some kinds.Unfinished ∷ content ∷ []) ≡ Some kind → kind ≢ kinds.Unfinished → (kind ≡ kinds.TooMany) × (b ≡ true)
two_ways true content kind h other = (cc, refl)
two_ways false content kind h other = absurd (other (cc))

open_fault : (said : List Said) (line : List ℕ) (kind : TextKind) → line_fault said line [] ≡ Some kind → kind ≢ kinds.Unfinished → (kind ≡ kinds.TooMany) × (most_line_bytes < length line)
unfolding line_fault
open_fault said line kind h other =
    let is = two_ways (ltb most_line_bytes (length line)) (content_fault said line) kind h other in
    (is.0, ltb-true most_line_bytes (length line) is.1)

-- a line that is too long is so however it goes on
long_fault : (said : List Said) (line : List ℕ) (after : List (List ℕ)) → most_line_bytes < length line → line_fault said line after ≡ Some kinds.TooMany
unfolding line_fault
long_fault said line after long =
    ap (λ b. first_fault (test b kinds.TooMany ∷ unfinished after ∷ content_fault said line ∷ [])) (lt-ltb most_line_bytes (length line) long)

still_begins : (line more : List ℕ) → is_record_line (tokens_of line) ≡ true → most_line_bytes < length line → is_record_line (tokens_of (line ++ more)) ≡ true
unfolding is_record_line
still_begins line more begins long = by_tokens (tokens_of line) refl begins
  where
    by_tokens : (tokens : List (List ℕ)) → tokens_of line ≡ tokens → is_record_line tokens ≡ true → is_record_line (tokens_of (line ++ more)) ≡ true
    by_tokens [] e h = cc
    by_tokens (first ∷ []) e h =
        let whole : line ≡ first = sym (join_with_byte-slice_split 32 line) ∙ ap (join_with_byte 32) e in
        let same : length line ≡ 6 = ap length (whole ∙ (bytes_eq-Decides first first_token).0 h) in
        absurd (omega arith)
    by_tokens (first ∷ next ∷ tokens) e h =
        ap is_record_line (parts_glued 32 line more ∙ ap (λ ts. glued ts (tokens_of more)) e) ∙ h

-- the lines of a text and what follows them
pub lines_glued : (text more : List ℕ) (front : List (List ℕ)) (part : List ℕ) (parts : List (List ℕ)) → lines_of text ≡ front ++ part ∷ parts → lines_of (text ++ more) ≡ front ++ glued (part ∷ parts) (lines_of more)
lines_glued text more front part parts e = parts_glued 10 text more ∙ ap (λ ps. glued ps (lines_of more)) e ∙ glued_behind front part parts (lines_of more)

-- a faulty line that ends has its fault however the text goes on
ended_fault : (text more : List ℕ) (n : ℕ) (kind : TextKind) → (is : IsRecordFault text n kind) → (next : List ℕ) (after : List (List ℕ)) → is.after ≡ next ∷ after → IsRecordFault (text ++ more) n kind
ended_fault text more n kind is next after e = by_glued (glued (next ∷ after) (lines_of more)) refl
  where
    by_glued : (parts : List (List ℕ)) → glued (next ∷ after) (lines_of more) ≡ parts → IsRecordFault (text ++ more) n kind
    by_glued [] same = absurd (omega (arith, ap length same, some_glued next after (lines_of more)))
    by_glued (other ∷ others) same = record {
      lines = is.lines;
      said = is.said;
      line = is.line;
      after = other ∷ others;
      parts = lines_glued text more is.lines is.line is.after is.parts ∙ ap (λ ps. is.lines ++ glued (is.line ∷ ps) (lines_of more)) e ∙ ap (λ ps. is.lines ++ is.line ∷ ps) same;
      number = is.number;
      are = is.are;
      goes = is.goes;
      fails = same_fault is.said is.line other next others after ∙ sym (ap (line_fault is.said is.line) e) ∙ is.fails;
    }

-- and so has one that is too long
open_line_fault : (text more : List ℕ) (n : ℕ) (kind : TextKind) → (is : IsRecordFault text n kind) → is.after ≡ [] → kind ≢ kinds.Unfinished → IsRecordFault (text ++ more) n kind
open_line_fault text more n kind is e other = by_more (lines_of more) refl
  where
    by_more : (parts : List (List ℕ)) → lines_of more ≡ parts → IsRecordFault (text ++ more) n kind
    by_more [] same = absurd (omega (arith, ap length same, some_parts 10 more))
    by_more (first ∷ others) same =
        let long = open_fault is.said is.line kind (sym (ap (line_fault is.said is.line) e) ∙ is.fails) other in
        let longer : most_line_bytes < length (is.line ++ first) = omega (arith, long.1, length-append is.line first) in
        record {
          lines = is.lines;
          said = is.said;
          line = is.line ++ first;
          after = others;
          parts = lines_glued text more is.lines is.line is.after is.parts ∙ ap (λ ps. is.lines ++ glued (is.line ∷ ps) (lines_of more)) e ∙ ap (λ ps. is.lines ++ glued (is.line ∷ []) ps) same;
          number = is.number;
          are = is.are;
          goes = still_begins is.line first is.goes long.1;
          fails = long_fault is.said (is.line ++ first) others longer ∙ ap Some (sym long.0);
        }

pub fault_stands : (text more : List ℕ) (n : ℕ) (kind : TextKind) → front_of text ≡ Err (n, kind) → kind ≢ kinds.Unfinished → front_of (text ++ more) ≡ Err (n, kind)
fault_stands text more n kind h other = let is = fault_is_first text n kind h in first_is_fault (text ++ more) n kind (by_after is is.after refl)
  where
    by_after : (is : IsRecordFault text n kind) → (after : List (List ℕ)) → is.after ≡ after → IsRecordFault (text ++ more) n kind
    by_after is [] e = open_line_fault text more n kind is e other
    by_after is (next ∷ after) e = ended_fault text more n kind is next after e

-- a line that ends is not unfinished, so an unfinished one is the text's last
closed_line : (b : Bool) (content : Option TextKind) → IsClosed content → first_fault (test b kinds.TooMany ∷ None ∷ content ∷ []) ≡ Some kinds.Unfinished → ⊥
closed_line true content h e = cc
closed_line false None h e = cc
closed_line false (Some kind) h e = let same : kind ≡ kinds.Unfinished = cc (e) in subst IsOwnKind same h

ended_closed : (said : List Said) (line next : List ℕ) (after : List (List ℕ)) → line_fault said line (next ∷ after) ≡ Some kinds.Unfinished → ⊥
unfolding line_fault
ended_closed said line next after h = closed_line (ltb most_line_bytes (length line)) (content_fault said line) (content_closed said line) h

pub unfinished_last : (text : List ℕ) (n : ℕ) → front_of text ≡ Err (n, kinds.Unfinished) → n ≡ length (lines_of text)
unfinished_last text n h = let is = fault_is_first text n kinds.Unfinished h in by_after is is.after refl
  where
    by_after : (is : IsRecordFault text n kinds.Unfinished) → (after : List (List ℕ)) → is.after ≡ after → n ≡ length (lines_of text)
    by_after is [] e =
        let count : length (lines_of text) ≡ length is.lines + length (is.line ∷ is.after) = ap length is.parts ∙ length-append is.lines (is.line ∷ is.after) in
        let last : length is.after ≡ 0 = ap length e in
        omega (arith, is.number)
    by_after is (next ∷ after) e = absurd (ended_closed is.said is.line next after (sym (ap (line_fault is.said is.line) e) ∙ is.fails))

-- a longer text has no fault on an earlier line
pub fault_no_earlier : (text more : List ℕ) (n m : ℕ) (kind other : TextKind) → front_of text ≡ Err (n, kind) → front_of (text ++ more) ≡ Err (m, other) → n ≤ m
fault_no_earlier text more n m kind other h later =
    let is = fault_is_first text n kind h in
    let behind : List (List ℕ) = glued (is.line ∷ is.after) (lines_of more) in
    let same : front_of (text ++ more) ≡ front_from (1 + length is.lines) is.said behind =
    ap (front_from 1 []) (lines_glued text more is.lines is.line is.after is.parts)
    ∙ all_pass 1 [] is.lines is.said behind is.are.say is.are.short is.are.fit (some_glued is.line is.after (lines_of more)) in
    let least : 1 + length is.lines ≤ m = fails_later (1 + length is.lines) is.said behind m other (sym same ∙ later) in
    omega (arith, is.number)

-- whether a record line comes first is decided by a first line that ends
pub first_line_decides : (text more line next : List ℕ) (after : List (List ℕ)) → lines_of text ≡ line ∷ next ∷ after → goes_on (lines_of (text ++ more)) ≡ goes_on (lines_of text)
first_line_decides text more line next after e = ap goes_on (lines_glued text more [] line (next ∷ after) e) ∙ sym (ap goes_on e)

-- no race's text begins with a record line
header_goes : (version : Version) → is_record_line (tokens_of (header_of version)) ≡ false
unfolding is_record_line
header_goes One = refl
header_goes Two = refl

pub race_is_no_record : (text more : List ℕ) (race : Race) → IsRaceText text race → goes_on (lines_of (text ++ more)) ≡ false
race_is_no_record text more race is = by_lines is.lines is.parts
  where
    by_lines : (lines : List (List ℕ)) → lines_of text ≡ header_of is.version ∷ lines ++ codes "end" ∷ [] ∷ [] → goes_on (lines_of (text ++ more)) ≡ false
    by_lines [] e = first_line_decides text more (header_of is.version) (codes "end") ([] ∷ []) e ∙ ap goes_on e ∙ header_goes is.version
    by_lines (line ∷ lines) e = first_line_decides text more (header_of is.version) line (lines ++ codes "end" ∷ [] ∷ []) e ∙ ap goes_on e ∙ header_goes is.version

-- nothing is no line
no_line : goes_on ([] ∷ []) ≡ false
unfolding is_record_line
no_line = refl

-- a text is one record's at most
pub one_value : (text : List ℕ) (said other : List Said) → IsRecordText text said → IsRecordText text other → said ≡ other
one_value text said other is also =
    let one = begins_found text said ([] ∷ []) (record { lines = is.lines; parts = is.parts; some = omega arith; are = is.are; ends = no_line }) in
    let two = begins_found text other ([] ∷ []) (record { lines = also.lines; parts = also.parts; some = omega arith; are = also.are; ends = no_line }) in
    let same : record { said = said; left = [] ∷ [] } ≡ record { said = other; left = [] ∷ [] } = cc (one, two) in
    ap (λ (f : Front). f.said) same
