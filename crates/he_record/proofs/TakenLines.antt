-- A record line is taken from the front of a text, or is the one on which the search fails.
use Rattle.std.proofs.Common.{◌≡◌, ℕ, ◌+◌, ◌-◌, ◌<◌, ◌≤◌, true, false, List, [], ◌∷◌, ◌++◌, length, take, drop, eqb, Option, Some, None, Result, Ok, Err, refl, sym, ◌∙◌, ap, subst, inl, inr, arith, append_assoc, length-append}
use Rattle.std.specs.Prelude.{◌⊎◌, IfErr}
use Rattle.std.specs.List.{AllByRecursion, AllZip, join_with_byte}
use Rattle.std.proofs.Math.Seq.{take-add}
use Rattle.std.proofs.lemmas.List.{drop-drop, length-drop, take_at}
use Rattle.std.proofs.lemmas.List.Elements.{All-from_recursion}
use Rattle.std.proofs.lemmas.List.Splits.{join_with_byte-slice_split, slice_split_at}
use Rattle.he_words.specs.Ranges.{most_line_bytes}
use Rattle.he_words.specs.declared.fault.TextKind.{TextKind}
use Rattle.he_words.specs.declared.fault.TextKind.TheVariants as kinds
use Rattle.he_reading.specs.Faults.{first_fault, too_long, unfinished}
use Rattle.he_reading.specs.Parts.{lines_of, tokens_of}
use Rattle.he_reading.specs.Text.{IsLineOf}
use Rattle.he_reading.proofs.PartLaws.{Lacks, parts_lack}
use Rattle.he_record.specs.Adding.{HasTypes}
use Rattle.he_record.specs.Faults.{content_fault, line_fault}
use Rattle.he_record.specs.Forms.{is_record_line, said_in}
use Rattle.he_record.specs.FrontSearch.{FailsFront, Front, PassesLine, ReadsFront, StopsOn, front_from, front_of}
use Rattle.he_record.specs.Fronts.{IsRecordFault, goes_on}
use Rattle.he_record.specs.Said.{Said}
use Rattle.he_record.specs.Text.{IsRecord, IsRecordText, Says}
use Rattle.he_record.proofs.FitLaws.{PassesAfter, fit_more, fit_none}
use Rattle.he_record.proofs.FrontLaws.{AreShort, content_passes, fails, fails_later, fault_is_first, none_too_long, passes, stops}
use Rattle.he_record.proofs.LineSays.{line_reads}
use Rattle.he_record.proofs.Stands.{behind_lines, some_parts}
use Rattle.he_record.proofs.Values.{read_more}

begins : (text line : List ℕ) (after : List (List ℕ)) → lines_of text ≡ line ∷ after → goes_on (lines_of text) ≡ true → is_record_line (tokens_of line) ≡ true
begins text line after parts goes = ap goes_on (sym parts) ∙ goes

-- the first two checks
first_two : (a b c : Option TextKind) (kind : TextKind) → first_fault (a ∷ b ∷ []) ≡ Some kind → first_fault (a ∷ b ∷ c ∷ []) ≡ Some kind
first_two (Some other) b c kind h = h
first_two None (Some other) c kind h = h
first_two None None c kind h = cc

early_fault : (told : List Said) (line : List ℕ) (after : List (List ℕ)) (kind : TextKind) → first_fault (too_long line ∷ unfinished after ∷ []) ≡ Some kind → line_fault told line after ≡ Some kind
unfolding line_fault
early_fault told line after kind h = first_two (too_long line) (unfinished after) (content_fault told line) kind h

pub stops_early : (text line : List ℕ) (told : List Said) (after : List (List ℕ)) (kind : TextKind) → goes_on (lines_of text) ≡ true → lines_of text ≡ line ∷ after → first_fault (too_long line ∷ unfinished after ∷ []) ≡ Some kind → StopsOn text told kind
stops_early text line told after kind goes parts wrong =
    λ n. ap (front_from n told) parts ∙ fails n told line after kind (begins text line after parts goes) (early_fault told line after kind wrong)

-- the others, of a line that is whole
some_after : (text : List ℕ) → unfinished (lines_of text) ≡ None
some_after text = by_parts (lines_of text) (some_parts 10 text)
  where
    by_parts : (parts : List (List ℕ)) → 0 < length parts → unfinished parts ≡ None
    by_parts [] some = absurd (omega arith)
    by_parts (part ∷ parts) some = refl

content_alone : (told : List Said) (line rest : List ℕ) → too_long line ≡ None → line_fault told line (lines_of rest) ≡ first_fault (content_fault told line ∷ [])
unfolding line_fault
content_alone told line rest short = let whole = some_after rest in rw (short, whole) refl

pub stops_late : (text line rest : List ℕ) (told : List Said) (kind : TextKind) → goes_on (lines_of text) ≡ true → lines_of text ≡ line ∷ lines_of rest → too_long line ≡ None → content_fault told line ≡ Some kind → StopsOn text told kind
stops_late text line rest told kind goes parts short wrong =
    λ n. ap (front_from n told) parts
    ∙ fails n told line (lines_of rest) kind (begins text line (lines_of rest) parts goes) (content_alone told line rest short ∙ ap (λ f. first_fault (f ∷ [])) wrong)

-- a line without a fault says what is made of it
said_right : (told : List Said) (line : List ℕ) (s : Said) → is_record_line (tokens_of line) ≡ true → content_fault told line ≡ None → said_in line ≡ Ok s → Says line s × PassesAfter told s
said_right told line s first none says =
    let is = content_passes told line first none in
    let read : said_in line ≡ Ok is.0 = line_reads line is.0 is.1 in
    let same : is.0 ≡ s = cc (read, says) in
    let P : Said → Type 0 = λ x. Says line x × PassesAfter told x in
    subst P same (is.1, is.2)

pub taken_fits : (text line rest : List ℕ) (told : List Said) (s : Said) → goes_on (lines_of text) ≡ true → lines_of text ≡ line ∷ lines_of rest → content_fault told line ≡ None → said_in line ≡ Ok s → IsRecord told → HasTypes s → IsRecord (told ++ s ∷ [])
taken_fits text line rest told s goes parts none says is types =
    let right = said_right told line s (begins text line (lines_of rest) parts goes) none says in
    read_more told line s is right.1 right.0 types

-- a record's text and one more line
joined : (line : List ℕ) (after : List (List ℕ)) → 0 < length after → (rest : List ℕ) × (join_with_byte 10 (line ∷ after) ≡ (line ++ 10 ∷ []) ++ rest)
joined line [] some = absurd (omega arith)
joined line (next ∷ after) some = (join_with_byte 10 (next ∷ after), sym (append_assoc line (10 ∷ []) (join_with_byte 10 (next ∷ after))))

front_bytes : (text line rest : List ℕ) → text ≡ (line ++ 10 ∷ []) ++ rest → take (length line + 1) text ≡ line ++ 10 ∷ []
front_bytes text line rest is =
    let size : length line + 1 ≡ length (line ++ 10 ∷ []) = sym (length-append line (10 ∷ [])) in
    ap (take (length line + 1)) is ∙ ap (λ (n : ℕ). take n ((line ++ 10 ∷ []) ++ rest)) size ∙ take_at (line ++ 10 ∷ []) rest (length (line ++ 10 ∷ [])) refl

line_bytes : (text line : List ℕ) (after : List (List ℕ)) → 0 < length after → lines_of text ≡ line ∷ after → take (length line + 1) text ≡ line ++ 10 ∷ []
line_bytes text line after some parts =
    let whole : text ≡ join_with_byte 10 (line ∷ after) = sym (join_with_byte-slice_split 10 text) ∙ ap (join_with_byte 10) parts in
    let cut = joined line after some in
    front_bytes text line cut.0 (whole ∙ cut.1)

one_line : (text line : List ℕ) (after : List (List ℕ)) → lines_of text ≡ line ∷ after → lines_of (line ++ 10 ∷ []) ≡ line ∷ [] ∷ []
one_line text line after parts =
    let P : List (List ℕ) → Type 0 = AllByRecursion (Lacks 10) in
    let lacks = subst P parts (parts_lack 10 text) in
    slice_split_at (λ b. eqb b 10) line 10 [] (All-from_recursion (λ b. eqb b 10 ≡ false) line lacks.0) refl

all_short : (lines : List (List ℕ)) (line : List ℕ) → AreShort lines → length line ≤ most_line_bytes → AreShort (lines ++ line ∷ [])
all_short [] line all here = (here, tt)
all_short (first ∷ lines) line all here = (all.0, all_short lines line all.1 here)

all_say : (lines : List (List ℕ)) (told : List Said) (line : List ℕ) (s : Said) → AllZip Says lines told → Says line s → AllZip Says (lines ++ line ∷ []) (told ++ s ∷ [])
all_say [] [] line s all here = (here, tt)
all_say [] (t ∷ told) line s all here = absurd all
all_say (first ∷ lines) [] line s all here = absurd all
all_say (first ∷ lines) (t ∷ told) line s all here = (all.0, all_say lines told line s all.1 here)

grows_by : (text line : List ℕ) (after : List (List ℕ)) (told : List Said) (s : Said) → 0 < length after → lines_of text ≡ line ∷ after → Says line s → PassesAfter told s → too_long line ≡ None
    → (front : List ℕ) → IsRecordText front told → IsRecordText (front ++ take (length line + 1) text) (told ++ s ∷ [])
grows_by text line after told s some parts says passes short front is = record {
  lines = is.lines ++ line ∷ [];
  parts = behind_lines front (take (length line + 1) text) is.lines is.parts
      ∙ ap (λ t. is.lines ++ lines_of t) (line_bytes text line after some parts)
      ∙ ap (λ ls. is.lines ++ ls) (one_line text line after parts)
      ∙ sym (append_assoc is.lines (line ∷ []) ([] ∷ []));
  are = record {
    short = all_short is.lines line is.are.short (none_too_long line short);
    say = all_say is.lines told line s is.are.say says;
    fit = fit_more told s is.are.fit passes;
  };
}

counted : (parts : List (List ℕ)) (line : List ℕ) (after : List (List ℕ)) → parts ≡ line ∷ after → length parts ≡ length after + 1
counted parts line after e = omega (arith, ap length e)

pub line_passes : (text line : List ℕ) (told new : List Said) (s : Said) → goes_on (lines_of text) ≡ true → length line < length text → lines_of text ≡ line ∷ lines_of (drop (length line + 1) text) → too_long line ≡ None
    → content_fault told line ≡ None → said_in line ≡ Ok s → new ≡ told ++ s ∷ [] → PassesLine text told new (length line + 1)
line_passes text line told new s goes shorter parts short none says is =
    let rest : List ℕ = drop (length line + 1) text in
    let right : line_fault told line (lines_of rest) ≡ None = content_alone told line rest short ∙ ap (λ f. first_fault (f ∷ [])) none in
    let first = begins text line (lines_of rest) parts goes in
    let content = said_right told line s first none says in
    let P : List Said → Type 0 = λ x. PassesLine text told x (length line + 1) in
    subst P (sym is) (record {
      some = omega arith;
      within = omega arith;
      more = length-append told (s ∷ []);
      fewer = counted (lines_of text) line (lines_of rest) parts;
      read = λ n. ap (front_from n told) parts ∙ passes n told line (lines_of rest) s first right says;
      grows = grows_by text line (lines_of rest) told s (some_parts 10 rest) parts content.0 content.1 short;
    })

-- a reading as far as it has come: so many bytes are passed, and so many lines
pub record IsSoFar (text : List ℕ) (told : List Said) (end : ℕ) : Type 0 where
  pub within : end ≤ length text
  pub front : IsRecordText (take end text) told
  pub read : front_from (length told + 1) told (lines_of (drop end text)) ≡ front_of text
  pub counted : length told + length (lines_of (drop end text)) ≡ length (lines_of text)

pub at_start : (text : List ℕ) → IsSoFar text [] 0
at_start text = record { within = omega arith; front = record { lines = []; parts = refl; are = record { short = tt; say = tt; fit = fit_none } }; read = refl; counted = zero_more (length (lines_of text)) }
  where
    zero_more : (n : ℕ) → 0 + n ≡ n
    zero_more n = omega arith

pub one_further : (text rest : List ℕ) (told new : List Said) (end len : ℕ) → IsSoFar text told end → rest ≡ drop end text → PassesLine rest told new len → IsSoFar text new (end + len)
one_further text rest told new end len is same passed =
    let behind : drop len rest ≡ drop (end + len) text = ap (drop len) same ∙ drop-drop len end text in
    let size : length rest ≡ length text - end = ap length same ∙ length-drop end text in
    let lines : length (lines_of rest) ≡ length (lines_of (drop end text)) = ap (λ t. length (lines_of t)) same in
    let after : length (lines_of (drop len rest)) ≡ length (lines_of (drop (end + len) text)) = ap (λ t. length (lines_of t)) behind in
    let next : (length told + 1) + 1 ≡ length new + 1 = omega (arith, passed.more) in
    let bytes : take (end + len) text ≡ take end text ++ take len rest = take-add end len text ∙ ap (λ t. take end text ++ take len t) (sym same) in
    let F : List ℕ → Type 0 = λ t. IsRecordText t new in
    record {
      within = omega (arith, is.within, passed.within);
      front = subst F (sym bytes) (passed.grows (take end text) is.front);
      read =
          sym (ap (λ (n : ℕ). front_from n new (lines_of (drop (end + len) text))) next)
          ∙ sym (ap (λ t. front_from ((length told + 1) + 1) new (lines_of t)) behind)
          ∙ sym (passed.read (length told + 1))
          ∙ ap (λ t. front_from (length told + 1) told (lines_of t)) same
          ∙ is.read;
      counted = omega (arith, is.counted, passed.more, passed.fewer);
    }

-- the record is over
pub ends_here : (text rest : List ℕ) (told : List Said) (end : ℕ) → IsSoFar text told end → rest ≡ drop end text → goes_on (lines_of rest) ≡ false → ReadsFront text told end
ends_here text rest told end is same none =
    sym is.read ∙ stops (length told + 1) told (lines_of (drop end text)) (ap (λ t. goes_on (lines_of t)) (sym same) ∙ none)

-- memory is refused at a line before which nothing is wrong
none_before : (n : ℕ) (told : List Said) (lines : List (List ℕ)) → IfErr (front_from n told lines) (λ fault. n ≤ fault.0)
none_before n told lines = by_read (front_from n told lines) refl
  where
    by_read : (read : Result Front (ℕ × TextKind)) → front_from n told lines ≡ read → IfErr read (λ fault. n ≤ fault.0)
    by_read (Ok front) e = tt
    by_read (Err fault) e = fails_later n told lines fault.0 fault.1 e

pub fails_here : (text rest : List ℕ) (told : List Said) (end line : ℕ) (kind : TextKind) → IsSoFar text told end → rest ≡ drop end text → line ≡ length told + 1 → (kind ≡ kinds.Memory) ⊎ StopsOn rest told kind → FailsFront text line kind
fails_here text rest told end line kind is same number (inl memory) =
    let P : Result Front (ℕ × TextKind) → Type 0 = λ read. IfErr read (λ fault. line ≤ fault.0) in
    let L : ℕ → Type 0 = λ n. IfErr (front_from (length told + 1) told (lines_of (drop end text))) (λ fault. n ≤ fault.0) in
    inl (memory, subst P is.read (subst L (sym number) (none_before (length told + 1) told (lines_of (drop end text)))))
fails_here text rest told end line kind is same number (inr stops) =
    inr (sym is.read ∙ ap (λ t. front_from (length told + 1) told (lines_of t)) (sym same) ∙ stops (length told + 1) ∙ ap (λ (n : ℕ). Err (n, kind)) (sym number))

pub fault_here : (text : List ℕ) (line : ℕ) (kind : TextKind) → FailsFront text line kind → (kind ≡ kinds.Memory) ⊎ IsRecordFault text line kind
fault_here text line kind (inl memory) = inl memory.0
fault_here text line kind (inr wrong) = inr (fault_is_first text line kind wrong)

pub is_line : (text : List ℕ) (told : List Said) (end line : ℕ) → IsSoFar text told end → line ≡ length told + 1 → IsLineOf text line
is_line text told end line is number = let some = some_parts 10 (drop end text) in (omega arith, omega (arith, is.counted))
