-- The fault of a text that begins with record lines: what is known of those of races is known of it.
use Rattle.std.proofs.Common.{◌≡◌, ℕ, ◌+◌, ◌<◌, ◌≤◌, Bool, true, false, ltb, List, [], ◌∷◌, ◌++◌, length, Option, Some, None, Result, Ok, Err, refl, sym, ◌∙◌, ap, subst, inl, inr, arith, append_assoc, length-append}
use Rattle.std.specs.Prelude.{◌⊎◌, ◌≢◌, option_map}
use Rattle.std.specs.List.{join_with_byte}
use Rattle.std.proofs.lemmas.Bool.{ltb-true}
use Rattle.std.proofs.lemmas.List.Splits.{join_with_byte-slice_split}
use Rattle.std.proofs.lemmas.List.Sums.{sum_by-append}
use Rattle.std.proofs.lemmas.Slice.Eq.{bytes_eq-Decides}
use Rattle.he_words.specs.declared.fault.TextKind.{TextKind}
use Rattle.he_words.specs.declared.fault.TextKind.TheVariants as kinds
use Rattle.he_words.specs.declared.limits.TheConstants.{MAX_LINE}
use Rattle.he_words.specs.Words.{word_in}
use Rattle.he_reading.specs.Faults.{anyone, test, first_fault, too_long, unfinished, wrong_header, version_on}
use Rattle.he_reading.specs.FaultSearch.{at_line_number, fault_from, fault_in, fault_of}
use Rattle.he_reading.specs.Forms.{said_from, word_of, word_of_setting}
use Rattle.he_reading.specs.Parts.{lines_of, tokens_of}
use Rattle.he_reading.proofs.PartLaws.{parts_counted}
use Rattle.he_record.specs.Forms.{is_record_line}
use Rattle.he_record.specs.FrontSearch.{Front, front_from, front_of}
use Rattle.he_record.specs.Fronts.{IsRecordFault, goes_on}
use Rattle.he_record.specs.Said.{Said}
use Rattle.he_record.specs.Words.{first_token}
use Rattle.he_record.proofs.Closed.{IsOwnKind, line_closed}
use Rattle.he_record.proofs.FrontLaws.{all_pass, as_many, begins_found, fails_later, fault_is_first, first_is_fault, found_begins, found_longer}
use Rattle.he_record.proofs.GoesOn.{bytes_decide}
use Rattle.he_record.proofs.Stands.{fault_stands, first_line_decides, glued, lines_glued, record_passes, some_glued, some_parts, unfinished_last}
use Rattle.he_inputs.specs.Beginnings.{FaultChanges, FaultStands, IsGroupFaultAtEnd, MayChange, awaited}
use Rattle.he_inputs.specs.Inputs.{line_count}
use Rattle.he_inputs.specs.Recorded.{IsFirstRecordedFault, fault_after, lines_on, recorded_fault}
use Rattle.he_inputs.proofs.Beginnings.{NotBefore, RaceFaultStands, by_kind, from_here, here_or_behind, not_earlier, number_is, stands, weaker}
use Rattle.he_inputs.proofs.FirstFaults.{first_fault_in, in_first_fault}
use Rattle.he_inputs.proofs.Mending.{RaceFaultChanges, group_changes, last_in}
use Rattle.he_inputs.proofs.RecordedTexts.{IsCut, cut_more, cut_record, past_record}

-- a fault whose line is counted from another one
abbrev IsOn : ℕ → Option (ℕ × TextKind) → ℕ → TextKind → Type 0
IsOn lines fault n kind = (m : ℕ) × (fault ≡ Some (m, kind)) × (n ≡ lines + m)

is_on : (lines : ℕ) (fault : Option (ℕ × TextKind)) (n : ℕ) (kind : TextKind) → option_map (lines_on lines) fault ≡ Some (n, kind) → IsOn lines fault n kind
is_on lines None n kind h = cc
is_on lines (Some (m, k)) n kind h = let is = number_is (lines + m) n k kind h in (m, ap (λ o. Some (m, o)) is.1, sym is.0)

-- the search for the record of a text finds its fault, or the record, and then what follows that has the fault
pub record IsAfter (text : List ℕ) (n : ℕ) (kind : TextKind) : Type 0 where
  pub front : Front
  pub found : front_of text ≡ Ok front
  pub cut : IsCut text front.said front.left
  pub ends : goes_on (lines_of cut.rest) ≡ false
  pub line : ℕ
  pub fails : fault_of cut.rest ≡ Some (line, kind)
  pub number : n ≡ length front.said + line

pub two_faults : (text : List ℕ) (n : ℕ) (kind : TextKind) → recorded_fault text ≡ Some (n, kind) → (front_of text ≡ Err (n, kind)) ⊎ IsAfter text n kind
two_faults text n kind h = by_front (front_of text) refl h
  where
    by_front : (found : Result Front (ℕ × TextKind)) → front_of text ≡ found → fault_after found ≡ Some (n, kind) → (front_of text ≡ Err (n, kind)) ⊎ IsAfter text n kind
    by_front (Err fault) e found = let same : ◌≡◌ {A = Result Front (ℕ × TextKind)} (Err fault) (Err (n, kind)) = cc (found) in inl (e ∙ same)
    by_front (Ok front) e found =
        let begins = found_begins text front.said front.left (some_parts 10 text) e in
        let cut = cut_record text front.said front.left begins in
        let on = is_on (length front.said) (fault_in front.left) n kind found in
        inr (record {
          front = front;
          found = e;
          cut = cut;
          ends = ap goes_on cut.behind ∙ begins.ends;
          line = on.0;
          fails = ap fault_in cut.behind ∙ on.1;
          number = on.2;
        })

-- the first line alone: its fault is that it is too long, or that the text ends in it
abbrev IsAlone : List ℕ → ℕ → TextKind → Type 0
IsAlone line n kind = (n ≡ 1) × ((kind ≡ kinds.Unfinished) ⊎ (MAX_LINE < length line))

alone : (line : List ℕ) (n : ℕ) (kind : TextKind) → fault_in (line ∷ []) ≡ Some (n, kind) → IsAlone line n kind
unfolding fault_in
alone line n kind h = by_test (ltb MAX_LINE (length line)) refl h
  where
    by_test : (b : Bool) → ltb MAX_LINE (length line) ≡ b
        → at_line_number 1 (first_fault (test b kinds.TooMany ∷ unfinished [] ∷ wrong_header line ∷ [])) (fault_from (version_on line) 2 [] []) ≡ Some (n, kind) → IsAlone line n kind
    by_test true e found = let is = number_is 1 n kinds.TooMany kind found in (sym is.0, inr (ltb-true MAX_LINE (length line) e))
    by_test false e found = let is = number_is 1 n kinds.Unfinished kind found in (sym is.0, inl (sym is.1))

-- the first line of a text ends in it, or is the whole text
abbrev FirstLine : List ℕ → Type 0
FirstLine text = (lines_of text ≡ text ∷ []) ⊎ ((line : List ℕ) × (next : List ℕ) × (after : List (List ℕ)) × (lines_of text ≡ line ∷ next ∷ after))

first_line : (text : List ℕ) → FirstLine text
first_line text = by_lines (lines_of text) refl
  where
    by_lines : (lines : List (List ℕ)) → lines_of text ≡ lines → FirstLine text
    by_lines [] e = absurd (omega (arith, ap length e, some_parts 10 text))
    by_lines (line ∷ []) e =
        let whole : text ≡ line = sym (join_with_byte-slice_split 10 text) ∙ ap (join_with_byte 10) e in
        inl (e ∙ ap (λ (l : List ℕ). l ∷ []) (sym whole))
    by_lines (line ∷ next ∷ after) e = inr (line, next, after, e)

-- where a text that is no record's is not unfinished, what follows it makes no record line of its first one
stays : (rest more : List ℕ) (n : ℕ) (kind : TextKind) → goes_on (lines_of rest) ≡ false → fault_of rest ≡ Some (n, kind) → kind ≢ kinds.Unfinished → goes_on (lines_of (rest ++ more)) ≡ false
stays rest more n kind ends h other = elim (first_line rest) [
  | inl whole ↦ elim (alone rest n kind (sym (ap fault_in whole) ∙ h)).1 [
    | inl unfinished ↦ absurd (other unfinished)
    | inr long ↦ bytes_decide rest more (omega (arith, long)) ∙ ends
  ]
  | inr part ↦ first_line_decides rest more part.0 part.1 part.2 part.3 ∙ ends
]

-- a fault of the race is one of the text, and waits alike for what may mend it
may_on : (text : List ℕ) (n : ℕ) (kind : TextKind) → (after : IsAfter text n kind) → MayChange after.cut.rest after.line kind → MayChange text n kind
may_on text n kind after (inl unfinished) = inl unfinished
may_on text n kind after (inr fault) =
    let lines : List (List ℕ) = after.cut.lines in
    let before : List (List ℕ) = fault.ends.0 in
    let last : List (List ℕ) = fault.line ∷ fault.rest ∷ [] in
    let all : lines_of text ≡ (lines ++ before) ++ last = after.cut.all ∙ ap (λ ls. lines ++ ls) fault.ends.1 ∙ sym (append_assoc lines before last) in
    let count : length before + 1 ≡ after.line = fault.ends.2 in
    inr (record {
      line = fault.line;
      rest = fault.rest;
      word = fault.word;
      ends = (lines ++ before, all, omega (arith, length-append lines before, after.cut.count, after.number, count));
      waits = fault.waits;
      may = fault.may;
    })

-- a fault that is not unfinished is that of every longer text, or may be mended
pub recorded_stands : (text : List ℕ) (n : ℕ) (kind : TextKind) → recorded_fault text ≡ Some (n, kind) → MayChange text n kind ⊎ FaultStands text n kind
recorded_stands text n kind h = elim (by_kind kind) [
  | inl unfinished ↦ inl (inl unfinished)
  | inr other ↦ elim (two_faults text n kind h) [
    | inl fault ↦ inr (λ more. ap fault_after (fault_stands text more n kind fault other))
    | inr after ↦ by_race other after (stands after.cut.rest after.line kind after.fails)
  ]
]
  where
    by_race : kind ≢ kinds.Unfinished → (after : IsAfter text n kind) → MayChange after.cut.rest after.line kind ⊎ RaceFaultStands after.cut.rest after.line kind → MayChange text n kind ⊎ FaultStands text n kind
    by_race other after (inl may) = inl (may_on text n kind after may)
    by_race other after (inr far) = inr (λ more.
        let said : List Said = after.front.said in
        ap recorded_fault (cut_more text more said after.front.left after.cut)
        ∙ past_record after.cut.front (after.cut.rest ++ more) said after.cut.told (stays after.cut.rest more after.line kind after.ends after.fails other)
        ∙ ap (option_map (lines_on (length said))) (far more)
        ∙ ap (λ (k : ℕ). Some (k, kind)) (sym after.number))

-- no fault comes before the line that a search begins with
from_one : (lines : List (List ℕ)) → NotBefore 1 (fault_in lines)
unfolding fault_in
from_one [] = omega arith
from_one (line ∷ after) =
    here_or_behind 1 1 (first_fault (too_long line ∷ unfinished after ∷ wrong_header line ∷ [])) (fault_from (version_on line) 2 [] after) (omega arith) (weaker 1 2 (fault_from (version_on line) 2 [] after) (omega arith) (from_here (version_on line) 2 [] after))

later_on : (n m lines : ℕ) (fault : Option (ℕ × TextKind)) → n ≤ lines + m → NotBefore m fault → NotBefore n (option_map (lines_on lines) fault)
later_on n m lines None le h = tt
later_on n m lines (Some fault) le h = omega arith

after_from : (n : ℕ) (told : List Said) (lines : List (List ℕ)) → n ≡ length told + 1 → NotBefore n (fault_after (front_from n told lines))
after_from n told lines count = by_front (front_from n told lines) refl
  where
    by_front : (found : Result Front (ℕ × TextKind)) → front_from n told lines ≡ found → NotBefore n (fault_after found)
    by_front (Err (m, kind)) e = fails_later n told lines m kind e
    by_front (Ok front) e = let longer = found_longer n told lines front e in later_on n 1 (length front.said) (fault_in front.left) (omega (arith, count, longer)) (from_one front.left)

-- what follows a text brings no fault on an earlier line
pub recorded_not_earlier : (text more : List ℕ) (n : ℕ) (kind : TextKind) → recorded_fault text ≡ Some (n, kind) → NotBefore n (recorded_fault (text ++ more))
recorded_not_earlier text more n kind h = elim (two_faults text n kind h) [
  | inl fault ↦ in_record (fault_is_first text n kind fault)
  | inr after ↦ in_race after (goes_on (lines_of (after.cut.rest ++ more))) refl
]
  where
    in_record : IsRecordFault text n kind → NotBefore n (recorded_fault (text ++ more))
    in_record is =
        let behind : List (List ℕ) = glued (is.line ∷ is.after) (lines_of more) in
        let same : front_of (text ++ more) ≡ front_from (1 + length is.lines) is.said behind =
        ap (front_from 1 []) (lines_glued text more is.lines is.line is.after is.parts)
        ∙ all_pass 1 [] is.lines is.said behind is.are.say is.are.short is.are.fit (some_glued is.line is.after (lines_of more)) in
        let count : 1 + length is.lines ≡ length is.said + 1 = omega (arith, as_many is.lines is.said is.are.say) in
        let B : Result Front (ℕ × TextKind) → Type 0 = λ found. NotBefore (1 + length is.lines) (fault_after found) in
        weaker n (1 + length is.lines) (recorded_fault (text ++ more)) (omega (arith, is.number)) (subst B (sym same) (after_from (1 + length is.lines) is.said behind count))

    in_race : (after : IsAfter text n kind) → (goes : Bool) → goes_on (lines_of (after.cut.rest ++ more)) ≡ goes → NotBefore n (recorded_fault (text ++ more))
    in_race after false e =
        let said : List Said = after.front.said in
        let same : recorded_fault (text ++ more) ≡ option_map (lines_on (length said)) (fault_of (after.cut.rest ++ more)) =
        ap recorded_fault (cut_more text more said after.front.left after.cut) ∙ past_record after.cut.front (after.cut.rest ++ more) said after.cut.told e in
        subst (NotBefore n) (sym same) (later_on n after.line (length said) (fault_of (after.cut.rest ++ more)) (omega (arith, after.number)) (not_earlier after.cut.rest more after.line kind after.fails))
    in_race after true e =
        let said : List Said = after.front.said in
        let same : front_of (text ++ more) ≡ front_from (length said + 1) said (lines_of (after.cut.rest ++ more)) =
        ap front_of (cut_more text more said after.front.left after.cut) ∙ record_passes after.cut.front (after.cut.rest ++ more) said after.cut.told in
        let B : Result Front (ℕ × TextKind) → Type 0 = λ found. NotBefore (length said + 1) (fault_after found) in
        let first : after.line ≡ 1 = elim (first_line after.cut.rest) [
          | inl whole ↦ (alone after.cut.rest after.line kind (sym (ap fault_in whole) ∙ after.fails)).0
          | inr part ↦ let wrong : true ≡ false = sym e ∙ first_line_decides after.cut.rest more part.0 part.1 part.2 part.3 ∙ after.ends in cc
        ] in
        weaker n (length said + 1) (recorded_fault (text ++ more)) (omega (arith, after.number, first)) (subst B (sym same) (after_from (length said + 1) said (lines_of (after.cut.rest ++ more)) refl))

-- a text that is unfinished is so on its last line
recorded_last : (text : List ℕ) (n : ℕ) → recorded_fault text ≡ Some (n, kinds.Unfinished) → n ≡ length (lines_of text)
recorded_last text n h = elim (two_faults text n kinds.Unfinished h) [
  | inl fault ↦ unfinished_last text n fault
  | inr after ↦
      let last : after.line ≡ length (lines_of after.cut.rest) = last_in (lines_of after.cut.rest) after.line (some_parts 10 after.cut.rest) after.fails in
      let all : length (lines_of text) ≡ length after.cut.lines + length (lines_of after.cut.rest) = ap length after.cut.all ∙ length-append after.cut.lines (lines_of after.cut.rest) in
      omega (arith, after.number, after.cut.count)
]

one_line_more : (text : List ℕ) → length (lines_of (text ++ 10 ∷ [])) ≡ length (lines_of text) + 1
one_line_more text =
    let some : line_count text + 1 ≡ length (lines_of text) = parts_counted 10 text in
    let more : line_count (text ++ 10 ∷ []) + 1 ≡ length (lines_of (text ++ 10 ∷ [])) = parts_counted 10 (text ++ 10 ∷ []) in
    let count : line_count (text ++ 10 ∷ []) ≡ line_count text + 1 = sum_by-append _ text (10 ∷ []) in
    omega arith

unfinished_changes : (text : List ℕ) (n : ℕ) → recorded_fault text ≡ Some (n, kinds.Unfinished) → FaultChanges text n kinds.Unfinished
unfinished_changes text n h = (
  10 ∷ [],
  λ same.
      let here = recorded_last text n h in
      let there = recorded_last (text ++ 10 ∷ []) n same in
      absurd (omega (arith, one_line_more text, here, there)),
)

-- a record line waits for no other
no_word : (tokens : List (List ℕ)) → is_record_line tokens ≡ true → word_of tokens ≡ Err kinds.Word
unfolding is_record_line word_of word_in
no_word [] h = cc
no_word (first ∷ tokens) h =
    let is : first ≡ first_token = (bytes_eq-Decides first first_token).0 h in
    ap (λ t. word_of (t ∷ tokens)) is

none_waited : (line : List ℕ) (kind : TextKind) → is_record_line (tokens_of line) ≡ true → IsOwnKind kind → awaited line kind ≡ None
none_waited line kinds.Range begins own = ap (λ w. word_of_setting (said_from anyone w)) (no_word (tokens_of line) begins)
none_waited line (kinds.Policy fault) begins own = absurd own
none_waited line kinds.Header begins own = refl
none_waited line kinds.Word begins own = refl
none_waited line kinds.Number begins own = refl
none_waited line kinds.Address begins own = refl
none_waited line kinds.Prefix begins own = refl
none_waited line kinds.Repeated begins own = refl
none_waited line kinds.TooMany begins own = refl
none_waited line kinds.Unfinished begins own = refl
none_waited line kinds.Memory begins own = refl

-- of two ways to part a list, the shorter front begins the longer one
front_of_front : (front rest other behind : List (List ℕ)) → length front ≤ length other → front ++ rest ≡ other ++ behind → (middle : List (List ℕ)) × (other ≡ front ++ middle) × (rest ≡ middle ++ behind)
front_of_front [] rest other behind le e = (other, refl, e)
front_of_front (line ∷ front) rest [] behind le e = absurd (omega arith)
front_of_front (line ∷ front) rest (first ∷ other) behind le e =
    let same : line ≡ first = cc (e) in
    let later : front ++ rest ≡ other ++ behind = cc (e) in
    let more = front_of_front front rest other behind (omega arith) later in
    (more.0, ap (λ ls. first ∷ ls) more.1 ∙ ap (λ l. l ∷ front ++ more.0) (sym same), more.2)

-- so its fault is not that of a group
record_waits : (text : List ℕ) (n : ℕ) (kind : TextKind) → IsRecordFault text n kind → IsGroupFaultAtEnd text n kind → ⊥
record_waits text n kind is fault =
    let before : List (List ℕ) = fault.ends.0 in
    let last : List (List ℕ) = fault.line ∷ fault.rest ∷ [] in
    let count : length before + 1 ≡ n = fault.ends.2 in
    let parted = front_of_front is.lines (is.line ∷ is.after) before last (omega (arith, count, is.number)) (sym is.parts ∙ fault.ends.1) in
    let size : length before ≡ length is.lines + length parted.0 = ap length parted.1 ∙ length-append is.lines parted.0 in
    let none : length parted.0 ≡ 0 = omega (arith, size, count, is.number) in
    by_middle parted.0 none parted.2
  where
    by_kinds : is.line ≡ fault.line → (kind ≡ kinds.Unfinished) ⊎ IsOwnKind kind → ⊥
    by_kinds same (inl unfinished) = let wrong : None ≡ Some fault.word = sym (ap (awaited fault.line) unfinished) ∙ fault.waits in cc
    by_kinds same (inr own) =
        let none : awaited is.line kind ≡ None = none_waited is.line kind is.goes own in
        let wrong : None ≡ Some fault.word = sym none ∙ ap (λ l. awaited l kind) same ∙ fault.waits in cc

    by_middle : (middle : List (List ℕ)) → length middle ≡ 0 → is.line ∷ is.after ≡ middle ++ fault.line ∷ fault.rest ∷ [] → ⊥
    by_middle [] none e = let same : is.line ≡ fault.line = cc (e) in by_kinds same (line_closed is.said is.line is.after kind is.fails)
    by_middle (part ∷ middle) none e = absurd (omega arith)

-- and the fault of a group of the race is one of the race's text
group_after : (text : List ℕ) (n : ℕ) (kind : TextKind) → (after : IsAfter text n kind) → IsGroupFaultAtEnd text n kind → IsGroupFaultAtEnd after.cut.rest after.line kind
group_after text n kind after fault =
    let before : List (List ℕ) = fault.ends.0 in
    let last : List (List ℕ) = fault.line ∷ fault.rest ∷ [] in
    let count : length before + 1 ≡ n = fault.ends.2 in
    let some : 1 ≤ after.line = subst (NotBefore 1) after.fails (from_one (lines_of after.cut.rest)) in
    let parted = front_of_front after.cut.lines (lines_of after.cut.rest) before last (omega (arith, count, after.number, after.cut.count, some)) (sym after.cut.all ∙ fault.ends.1) in
    let size : length before ≡ length after.cut.lines + length parted.0 = ap length parted.1 ∙ length-append after.cut.lines parted.0 in
    record {
      line = fault.line;
      rest = fault.rest;
      word = fault.word;
      ends = (parted.0, parted.2, omega (arith, size, count, after.number, after.cut.count));
      waits = fault.waits;
      may = fault.may;
    }

two_lines : (before : List (List ℕ)) (line rest : List ℕ) → (first : List ℕ) × (next : List ℕ) × (after : List (List ℕ)) × (before ++ line ∷ rest ∷ [] ≡ first ∷ next ∷ after)
two_lines [] line rest = (line, rest, [], refl)
two_lines (first ∷ []) line rest = (first, line, rest ∷ [], refl)
two_lines (first ∷ next ∷ before) line rest = (first, next, before ++ line ∷ rest ∷ [], refl)

-- what may follow a text mends a fault that may change
pub recorded_changes : (text : List ℕ) (n : ℕ) (kind : TextKind) → recorded_fault text ≡ Some (n, kind) → MayChange text n kind → FaultChanges text n kind
recorded_changes text n kind h (inl unfinished) =
    let F : TextKind → Type 0 = FaultChanges text n in
    subst F (sym unfinished) (unfinished_changes text n (h ∙ ap (λ k. Some (n, k)) unfinished))
recorded_changes text n kind h (inr fault) = elim (two_faults text n kind h) [
  | inl record_fault ↦ absurd (record_waits text n kind (fault_is_first text n kind record_fault) fault)
  | inr after ↦
      let said : List Said = after.front.said in
      let rest : List ℕ = after.cut.rest in
      let here = group_after text n kind after fault in
      let change : RaceFaultChanges rest after.line kind = group_changes rest after.line kind here after.fails in
      let lines = two_lines here.ends.0 here.line here.rest in
      let still : goes_on (lines_of (rest ++ change.0)) ≡ false = first_line_decides rest change.0 lines.0 lines.1 lines.2 (here.ends.1 ∙ lines.3) ∙ after.ends in (
        change.0,
        λ same.
            let told : option_map (lines_on (length said)) (fault_of (rest ++ change.0)) ≡ Some (n, kind) =
            sym (ap recorded_fault (cut_more text change.0 said after.front.left after.cut) ∙ past_record after.cut.front (rest ++ change.0) said after.cut.told still) ∙ same in
            let on = is_on (length said) (fault_of (rest ++ change.0)) n kind told in
            let line : on.0 ≡ after.line = omega (arith, on.2, after.number) in
            change.1 (on.1 ∙ ap (λ (k : ℕ). Some (k, kind)) line),
      )
]

-- the fault is that of the first check that fails on the first faulty line, of the record or of what follows it
pub first_recorded : (text : List ℕ) (n : ℕ) (kind : TextKind) → recorded_fault text ≡ Some (n, kind) → IsFirstRecordedFault text n kind
first_recorded text n kind h = by_front (front_of text) refl h
  where
    by_front : (found : Result Front (ℕ × TextKind)) → front_of text ≡ found → fault_after found ≡ Some (n, kind) → IsFirstRecordedFault text n kind
    by_front (Err fault) e found = let same : ◌≡◌ {A = Result Front (ℕ × TextKind)} (Err fault) (Err (n, kind)) = cc (found) in inl (fault_is_first text n kind (e ∙ same))
    by_front (Ok front) e found =
        let begins = found_begins text front.said front.left (some_parts 10 text) e in
        let on = is_on (length front.said) (fault_in front.left) n kind found in
        inr (record { said = front.said; left = front.left; line = on.0; begins = begins; number = on.2; fails = first_fault_in front.left on.0 kind begins.some on.1 })

pub recorded_first : (text : List ℕ) (n : ℕ) (kind : TextKind) → IsFirstRecordedFault text n kind → recorded_fault text ≡ Some (n, kind)
recorded_first text n kind (inl is) = ap fault_after (first_is_fault text n kind is)
recorded_first text n kind (inr is) =
    ap fault_after (begins_found text is.said is.left is.begins)
    ∙ ap (option_map (lines_on (length is.said))) (in_first_fault is.left is.line kind is.fails)
    ∙ ap (λ (k : ℕ). Some (k, kind)) (sym is.number)
