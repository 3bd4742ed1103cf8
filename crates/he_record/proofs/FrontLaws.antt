-- The search for the record with which a text begins finds it, or its first fault.
use Rattle.std.proofs.Common.{◌≡◌, ℕ, ◌+◌, ◌<◌, ◌≤◌, Bool, true, false, List, [], ◌∷◌, ◌++◌, length, Option, Some, None, Result, Ok, Err, refl, sym, ◌∙◌, ap, subst, inl, inr, arith, append_assoc}
use Rattle.std.specs.Prelude.{◌⊎◌}
use Rattle.std.specs.List.{AllByRecursion, AllZip}
use Rattle.std.specs.Result.{result_err}
use Rattle.std.proofs.lemmas.Bool.{le-ltb, ltb-false}
use Rattle.std.proofs.lemmas.List.{append-nil, length-append}
use Rattle.he_words.specs.Ranges.{most_line_bytes}
use Rattle.he_words.specs.declared.fault.TextKind.{TextKind}
use Rattle.he_words.specs.declared.fault.TextKind.TheVariants as kinds
use Rattle.he_reading.specs.Faults.{test, first_fault, too_long, unfinished}
use Rattle.he_reading.specs.Parts.{lines_of, tokens_of}
use Rattle.he_record.specs.declared.words.RecordWord.{RecordWord}
use Rattle.he_record.specs.Faults.{content_fault, line_fault, of_said, of_word, one_too_many, out_of_order, repeated}
use Rattle.he_record.specs.Forms.{is_record_line, said_in, word_of}
use Rattle.he_record.specs.FrontSearch.{Front, front_from, front_of}
use Rattle.he_record.specs.Fronts.{BeginsWithRecord, IsRecordFault, goes_on}
use Rattle.he_record.specs.Said.{Said, word_said}
use Rattle.he_record.specs.Text.{FitTogether, Says}
use Rattle.he_record.proofs.FitLaws.{PassesAfter, fit_more, fit_none, fit_passes}
use Rattle.he_record.proofs.FormSays.{form_says}
use Rattle.he_record.proofs.LineSays.{line_begins, line_reads, line_says, said_as, word_is}

abbrev pub AreShort : List (List ℕ) → Type 0
AreShort lines = AllByRecursion (λ line. length line ≤ most_line_bytes) lines

-- a line that passes each check, by what it says and what follows it
pub record IsRight (told : List Said) (line : List ℕ) (after : List (List ℕ)) (s : Said) : Type 0 where
  pub says : Says line s
  pub short : length line ≤ most_line_bytes
  pub followed : 0 < length after
  pub passes : PassesAfter told s

-- checks that find nothing
none_of : (a b c : Option TextKind) → a ≡ None → b ≡ None → c ≡ None → first_fault (a ∷ b ∷ c ∷ []) ≡ None
none_of a b c ha hb hc = rw (ha, hb, hc) refl

none_parts : (a b c : Option TextKind) → first_fault (a ∷ b ∷ c ∷ []) ≡ None → (a ≡ None) × (b ≡ None) × (c ≡ None)
none_parts (Some kind) b c h = cc
none_parts None (Some kind) c h = cc
none_parts None None (Some kind) h = cc
none_parts None None None h = (refl, refl, refl)

content_none : (order often : RecordWord → Option TextKind) (again : Said → Option TextKind) (w : Result (RecordWord × List (List ℕ)) TextKind) (r : Result Said TextKind) (parts : RecordWord × List (List ℕ)) (s : Said)
    → w ≡ Ok parts → r ≡ Ok s → order parts.0 ≡ None → often parts.0 ≡ None → again s ≡ None
    → first_fault (of_word order w ∷ of_word often w ∷ result_err r ∷ of_said again r ∷ []) ≡ None
content_none order often again w r parts s hw hr ho hm ha = rw (hw, hr, ho, hm, ha) refl

-- content without a fault
record HasContent (order often : RecordWord → Option TextKind) (again : Said → Option TextKind) (w : Result (RecordWord × List (List ℕ)) TextKind) (r : Result Said TextKind) : Type 0 where
  parts : RecordWord × List (List ℕ)
  said : Said
  word : w ≡ Ok parts
  reads : r ≡ Ok said
  in_order : order parts.0 ≡ None
  has_room : often parts.0 ≡ None
  is_new : again said ≡ None

four_parts : (a b c d : Option TextKind) → first_fault (a ∷ b ∷ c ∷ d ∷ []) ≡ None → (a ≡ None) × (b ≡ None) × (c ≡ None) × (d ≡ None)
four_parts (Some kind) b c d h = cc
four_parts None (Some kind) c d h = cc
four_parts None None (Some kind) d h = cc
four_parts None None None (Some kind) h = cc
four_parts None None None None h = (refl, refl, refl, refl)

content_has : (order often : RecordWord → Option TextKind) (again : Said → Option TextKind) (w : Result (RecordWord × List (List ℕ)) TextKind) (r : Result Said TextKind)
    → first_fault (of_word order w ∷ of_word often w ∷ result_err r ∷ of_said again r ∷ []) ≡ None → HasContent order often again w r
content_has order often again (Err kind) r h = cc
content_has order often again (Ok parts) (Err kind) h =
    let none = four_parts (order parts.0) (often parts.0) (Some kind) None h in
    let wrong : Some kind ≡ None = none.2 in cc
content_has order often again (Ok parts) (Ok s) h =
    let none = four_parts (order parts.0) (often parts.0) None (again s) h in
    record { parts = parts; said = s; word = refl; reads = refl; in_order = none.0; has_room = none.1; is_new = none.3 }

followed_by : (after : List (List ℕ)) → 0 < length after → unfinished after ≡ None
followed_by [] some = absurd (omega arith)
followed_by (part ∷ parts) some = refl

some_follow : (after : List (List ℕ)) → unfinished after ≡ None → 0 < length after
some_follow [] none = cc
some_follow (part ∷ parts) none = omega arith

pub too_long_none : (line : List ℕ) → length line ≤ most_line_bytes → too_long line ≡ None
too_long_none line short = ap (λ b. test b kinds.TooMany) (le-ltb most_line_bytes (length line) short)

pub none_too_long : (line : List ℕ) → too_long line ≡ None → length line ≤ most_line_bytes
none_too_long line none = ltb-false most_line_bytes (length line) (by_test _ none)
  where
    by_test : (b : Bool) → test b kinds.TooMany ≡ None → b ≡ false
    by_test true h = cc
    by_test false h = refl

-- a right line has no fault
pub right_none : (told : List Said) (line : List ℕ) (after : List (List ℕ)) (s : Said) → IsRight told line after s → line_fault told line after ≡ None
unfolding line_fault content_fault
right_none told line after s is =
    none_of (too_long line) (unfinished after) (content_fault told line) (too_long_none line is.short) (followed_by after is.followed)
    (content_none (out_of_order told) (one_too_many told) (repeated told) (word_of (tokens_of line)) (said_in line) (word_said s, is.says.0) s
    (word_is line s is.says) (line_reads line s is.says) is.passes.order is.passes.room is.passes.once)

-- content without a fault says something that passes each check
pub content_passes : (told : List Said) (line : List ℕ) → is_record_line (tokens_of line) ≡ true → content_fault told line ≡ None → (s : Said) × Says line s × PassesAfter told s
unfolding content_fault
content_passes told line begins none =
    let has = content_has (out_of_order told) (one_too_many told) (repeated told) (word_of (tokens_of line)) (said_in line) none in
    let word : word_said has.said ≡ has.parts.0 = (form_says has.parts.0 has.parts.1 has.said (said_as line has.parts has.said has.word has.reads)).0 in (
      has.said,
      line_says line has.said begins has.reads,
      record {
        order = ap (out_of_order told) word ∙ has.in_order;
        room = ap (one_too_many told) word ∙ has.has_room;
        once = has.is_new;
      },
    )

-- and a line without a fault is right
pub none_right : (told : List Said) (line : List ℕ) (after : List (List ℕ)) → is_record_line (tokens_of line) ≡ true → line_fault told line after ≡ None → (s : Said) × IsRight told line after s
unfolding line_fault
none_right told line after begins none =
    let parts = none_parts (too_long line) (unfinished after) (content_fault told line) none in
    let content = content_passes told line begins parts.2 in
    (content.0, record { says = content.1; short = none_too_long line parts.0; followed = some_follow after parts.1; passes = content.2 })

-- one step of the search: a line that is right is passed, what is no record line ends a record, a faulty line fails
pub passes : (n : ℕ) (told : List Said) (line : List ℕ) (after : List (List ℕ)) (s : Said) → is_record_line (tokens_of line) ≡ true → line_fault told line after ≡ None → said_in line ≡ Ok s
    → front_from n told (line ∷ after) ≡ front_from (n + 1) (told ++ s ∷ []) after
unfolding front_from
passes n told line after s begins right says = rw (begins, right, says) refl

pub stops : (n : ℕ) (told : List Said) (left : List (List ℕ)) → goes_on left ≡ false → front_from n told left ≡ Ok (record { said = told; left = left })
unfolding front_from
stops n told [] ends = refl
stops n told (line ∷ after) ends = rw ends refl

pub fails : (n : ℕ) (told : List Said) (line : List ℕ) (after : List (List ℕ)) (kind : TextKind) → is_record_line (tokens_of line) ≡ true → line_fault told line after ≡ Some kind → front_from n told (line ∷ after) ≡ Err (n, kind)
unfolding front_from
fails n told line after kind begins wrong = rw (begins, wrong) refl

-- how a search ends: the record is over, or its next line is faulty; and all that it passed before
abbrev Stops : List Said → List (List ℕ) → Result Front (ℕ × TextKind) → Type 0
Stops said left read = (goes_on left ≡ false) × (read ≡ Ok (record { said = said; left = left }))

abbrev Fails : ℕ → List Said → List (List ℕ) → Result Front (ℕ × TextKind) → Type 0
Fails n said left read =
    (line : List ℕ) × (after : List (List ℕ)) × (kind : TextKind) × (left ≡ line ∷ after) × (goes_on left ≡ true) × (line_fault said line after ≡ Some kind) × (read ≡ Err (n, kind))

record Passed (n : ℕ) (told : List Said) (lines : List (List ℕ)) (read : Result Front (ℕ × TextKind)) : Type 0 where
  passed : List (List ℕ)
  said : List Said
  left : List (List ℕ)
  parts : lines ≡ passed ++ left
  some : 0 < length lines → 0 < length left
  short : AreShort passed
  say : AllZip Says passed said
  fit : FitTogether told → FitTogether (told ++ said)
  ends : Stops (told ++ said) left read ⊎ Fails (n + length passed) (told ++ said) left read

nothing_passed : (n : ℕ) (told : List Said) (left : List (List ℕ)) (read : Result Front (ℕ × TextKind)) → Stops told left read ⊎ Fails n told left read → Passed n told left read
nothing_passed n told left read ends =
    let none : told ++ [] ≡ told = append-nil told in
    let here : n + 0 ≡ n = omega arith in
    let S : List Said → Type 0 = λ said. Stops said left read ⊎ Fails (n + 0) said left read in
    let N : ℕ → Type 0 = λ m. Stops told left read ⊎ Fails m told left read in
    record {
      passed = [];
      said = [];
      left = left;
      parts = refl;
      some = λ h. h;
      short = tt;
      say = tt;
      fit = λ h. subst FitTogether (sym none) h;
      ends = subst S (sym none) (subst N (sym here) ends);
    }

one_passed : (n : ℕ) (told : List Said) (line : List ℕ) (after : List (List ℕ)) (s : Said) (read : Result Front (ℕ × TextKind)) → IsRight told line after s → Passed (n + 1) (told ++ s ∷ []) after read → Passed n told (line ∷ after) read
one_passed n told line after s read is rest =
    let same : (told ++ s ∷ []) ++ rest.said ≡ told ++ s ∷ rest.said = append_assoc told (s ∷ []) rest.said in
    let count : (n + 1) + length rest.passed ≡ n + length (line ∷ rest.passed) = omega arith in
    let S : List Said → Type 0 = λ said. Stops said rest.left read ⊎ Fails ((n + 1) + length rest.passed) said rest.left read in
    let N : ℕ → Type 0 = λ m. Stops (told ++ s ∷ rest.said) rest.left read ⊎ Fails m (told ++ s ∷ rest.said) rest.left read in
    record {
      passed = line ∷ rest.passed;
      said = s ∷ rest.said;
      left = rest.left;
      parts = ap (λ ls. line ∷ ls) rest.parts;
      some = λ h. rest.some is.followed;
      short = (is.short, rest.short);
      say = (is.says, rest.say);
      fit = λ h. subst FitTogether same (rest.fit (fit_more told s h is.passes));
      ends = subst N count (subst S same rest.ends);
    }

search : (n : ℕ) (told : List Said) (lines : List (List ℕ)) → Passed n told lines (front_from n told lines)
unfolding front_from
search n told [] = nothing_passed n told [] (front_from n told []) (inl (refl, refl))
search n told (line ∷ after) = step n told line after (λ m more. search m more after)
  where
    step : (n : ℕ) (told : List Said) (line : List ℕ) (after : List (List ℕ)) → ((m : ℕ) (more : List Said) → Passed m more after (front_from m more after)) → Passed n told (line ∷ after) (front_from n told (line ∷ after))
    step n told line after later = by_test (is_record_line (tokens_of line)) refl
      where
        by_fault : is_record_line (tokens_of line) ≡ true → (fault : Option TextKind) → line_fault told line after ≡ fault → Passed n told (line ∷ after) (front_from n told (line ∷ after))
        by_fault begins (Some kind) wrong =
            nothing_passed n told (line ∷ after) (front_from n told (line ∷ after)) (inr (line, after, kind, refl, begins, wrong, fails n told line after kind begins wrong))
        by_fault begins None right =
            let is = none_right told line after begins right in
            let same = passes n told line after is.0 begins right (line_reads line is.0 is.1.says) in
            let P : Result Front (ℕ × TextKind) → Type 0 = Passed n told (line ∷ after) in
            subst P (sym same) (one_passed n told line after is.0 (front_from (n + 1) (told ++ is.0 ∷ []) after) is.1 (later (n + 1) (told ++ is.0 ∷ [])))

        by_test : (b : Bool) → is_record_line (tokens_of line) ≡ b → Passed n told (line ∷ after) (front_from n told (line ∷ after))
        by_test false ends = nothing_passed n told (line ∷ after) (front_from n told (line ∷ after)) (inl (ends, stops n told (line ∷ after) ends))
        by_test true begins = by_fault begins (line_fault told line after) refl

-- a search from line n on fails at this line or a later one
pub fails_later : (n : ℕ) (told : List Said) (lines : List (List ℕ)) (m : ℕ) (kind : TextKind) → front_from n told lines ≡ Err (m, kind) → n ≤ m
fails_later n told lines m kind h = by_end (search n told lines)
  where
    by_end : Passed n told lines (front_from n told lines) → n ≤ m
    by_end is = elim is.ends [
      | inl stop ↦ let wrong : ◌≡◌ {A = Result Front (ℕ × TextKind)} (Ok (record { said = told ++ is.said; left = is.left })) (Err (m, kind)) = sym stop.1 ∙ h in cc
      | inr fault ↦
          let same : ◌≡◌ {A = ℕ × TextKind} (n + length is.passed, fault.2) (m, kind) = cc (fault.6, h) in
          let line : n + length is.passed ≡ m = ap (λ (p : ℕ × TextKind). p.0) same in
          omega arith
    ]

-- a search finds all that was said before
pub found_longer : (n : ℕ) (told : List Said) (lines : List (List ℕ)) (front : Front) → front_from n told lines ≡ Ok front → length told ≤ length front.said
found_longer n told lines front h = by_end (search n told lines)
  where
    by_end : Passed n told lines (front_from n told lines) → length told ≤ length front.said
    by_end is = elim is.ends [
      | inl stop ↦
          let same : record { said = told ++ is.said; left = is.left } ≡ front = cc (stop.1, h) in
          let size : length (told ++ is.said) ≡ length front.said = ap (λ (f : Front). length f.said) same in
          omega (arith, length-append told is.said)
      | inr fault ↦ let wrong : ◌≡◌ {A = Result Front (ℕ × TextKind)} (Err (n + length is.passed, fault.2)) (Ok front) = sym fault.6 ∙ h in cc
    ]

-- right lines are passed, whatever follows them
some_behind : (lines rest : List (List ℕ)) → 0 < length rest → 0 < length (lines ++ rest)
some_behind [] rest some = some
some_behind (line ∷ lines) rest some = omega arith

pub all_pass : (n : ℕ) (told : List Said) (lines : List (List ℕ)) (said : List Said) (rest : List (List ℕ)) → AllZip Says lines said → AreShort lines → FitTogether (told ++ said) → 0 < length rest
    → front_from n told (lines ++ rest) ≡ front_from (n + length lines) (told ++ said) rest
all_pass n told [] [] rest say short fit some =
    ap (λ (m : ℕ). front_from m told rest) (sym (zero_more n)) ∙ ap (λ s. front_from (n + 0) s rest) (sym (append-nil told))
  where
    zero_more : (n : ℕ) → n + 0 ≡ n
    zero_more n = omega arith
all_pass n told [] (s ∷ said) rest say short fit some = absurd say
all_pass n told (line ∷ lines) [] rest say short fit some = absurd say
all_pass n told (line ∷ lines) (s ∷ said) rest say short fit some =
    let is : IsRight told line (lines ++ rest) s = record { says = say.0; short = short.0; followed = some_behind lines rest some; passes = fit_passes told said s fit } in
    let same : (told ++ s ∷ []) ++ said ≡ told ++ s ∷ said = append_assoc told (s ∷ []) said in
    let count : (n + 1) + length lines ≡ n + length (line ∷ lines) = omega arith in
    passes n told line (lines ++ rest) s (line_begins line s say.0) (right_none told line (lines ++ rest) s is) (line_reads line s say.0)
    ∙ all_pass (n + 1) (told ++ s ∷ []) lines said rest say.1 short.1 (subst FitTogether (sym same) fit) some
    ∙ ap (λ (m : ℕ). front_from m ((told ++ s ∷ []) ++ said) rest) count
    ∙ ap (λ x. front_from (n + length (line ∷ lines)) x rest) same

pub as_many : (lines : List (List ℕ)) (said : List Said) → AllZip Says lines said → length lines ≡ length said
as_many [] [] say = refl
as_many [] (s ∷ said) say = absurd say
as_many (line ∷ lines) [] say = absurd say
as_many (line ∷ lines) (s ∷ said) say = let more = as_many lines said say.1 in omega arith

-- a record that is found
pub found_begins : (text : List ℕ) (said : List Said) (left : List (List ℕ)) → 0 < length (lines_of text) → front_of text ≡ Ok (record { said = said; left = left }) → BeginsWithRecord text said left
found_begins text said left some h = by_end (search 1 [] (lines_of text))
  where
    by_end : Passed 1 [] (lines_of text) (front_of text) → BeginsWithRecord text said left
    by_end is = elim is.ends [
      | inl stop ↦
          let same : record { said = is.said; left = is.left } ≡ record { said = said; left = left } = cc (stop.1, h) in
          let P : Front → Type 0 = λ f. BeginsWithRecord text f.said f.left in
          subst P same (record { lines = is.passed; parts = is.parts; some = is.some some; are = record { short = is.short; say = is.say; fit = is.fit fit_none }; ends = stop.0 })
      | inr fault ↦
          let wrong : ◌≡◌ {A = Result Front (ℕ × TextKind)} (Err (1 + length is.passed, fault.2)) (Ok (record { said = said; left = left })) = sym fault.6 ∙ h in cc
    ]

pub begins_found : (text : List ℕ) (said : List Said) (left : List (List ℕ)) → BeginsWithRecord text said left → front_of text ≡ Ok (record { said = said; left = left })
begins_found text said left is =
    ap (front_from 1 []) is.parts
    ∙ all_pass 1 [] is.lines said left is.are.say is.are.short is.are.fit is.some
    ∙ stops (1 + length is.lines) said left is.ends

-- a fault that is found
pub fault_is_first : (text : List ℕ) (n : ℕ) (kind : TextKind) → front_of text ≡ Err (n, kind) → IsRecordFault text n kind
fault_is_first text n kind h = by_end (search 1 [] (lines_of text))
  where
    by_end : Passed 1 [] (lines_of text) (front_of text) → IsRecordFault text n kind
    by_end is = elim is.ends [
      | inl stop ↦ let wrong : ◌≡◌ {A = Result Front (ℕ × TextKind)} (Ok (record { said = is.said; left = is.left })) (Err (n, kind)) = sym stop.1 ∙ h in cc
      | inr fault ↦
          let same : (1 + length is.passed, fault.2) ≡ (n, kind) = cc (fault.6, h) in
          let P : ℕ × TextKind → Type 0 = λ f. IsRecordFault text f.0 f.1 in
          let goes : goes_on (fault.0 ∷ fault.1) ≡ true = ap goes_on (sym fault.3) ∙ fault.4 in
          subst P same (record {
            lines = is.passed;
            said = is.said;
            line = fault.0;
            after = fault.1;
            parts = is.parts ∙ ap (λ ls. is.passed ++ ls) fault.3;
            number = omega arith;
            are = record { short = is.short; say = is.say; fit = is.fit fit_none };
            goes = goes;
            fails = fault.5;
          })
    ]

pub first_is_fault : (text : List ℕ) (n : ℕ) (kind : TextKind) → IsRecordFault text n kind → front_of text ≡ Err (n, kind)
first_is_fault text n kind is =
    let count : 1 + length is.lines ≡ n = omega (arith, is.number) in
    ap (front_from 1 []) is.parts
    ∙ all_pass 1 [] is.lines is.said (is.line ∷ is.after) is.are.say is.are.short is.are.fit (omega arith)
    ∙ fails (1 + length is.lines) is.said is.line is.after kind is.goes is.fails
    ∙ ap (λ (m : ℕ). Err (m, kind)) count
