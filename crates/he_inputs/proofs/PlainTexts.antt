-- Record lines are nothing to a race: without them a right input has the same races, and a text that has none means
-- what it meant before there were any.
use Rattle.std.proofs.Common.{◌≡◌, ℕ, ◌+◌, ◌<◌, Bool, true, false, cond, not, List, [], ◌∷◌, ◌++◌, length, Option, Some, None, refl, sym, ◌∙◌, ap, subst, inl, inr, arith, append_assoc, length-append}
use Rattle.std.specs.Prelude.{◌↔◌, codes, option_map}
use Rattle.std.specs.List.{AllByRecursion, AllZip, filter, join_with_byte}
use Rattle.std.proofs.lemmas.List.{append-nil}
use Rattle.std.proofs.lemmas.List.Elements.{filter-append}
use Rattle.std.proofs.lemmas.List.Splits.{join_with_byte-slice_split}
use Rattle.he_timeline.specs.Race.{Race}
use Rattle.he_words.specs.declared.fault.TextKind.{TextKind}
use Rattle.he_words.specs.declared.words.Version.{Version}
use Rattle.he_words.specs.declared.words.Version.TheVariants.{One, Two}
use Rattle.he_words.specs.declared.words.Word.{Word}
use Rattle.he_words.specs.declared.words.Word.TheVariants as words
use Rattle.he_words.specs.Words.{header_of, spelling_of}
use Rattle.he_reading.specs.FaultSearch.{fault_of}
use Rattle.he_reading.specs.Parts.{lines_of, tokens_of}
use Rattle.he_reading.specs.Said.{Setting, PolicyRow, HostSource, HostRoute, Answer, RoundTrip, UsedBefore, OutcomeOf, Paused, Ended}
use Rattle.he_reading.specs.Said as races
use Rattle.he_reading.specs.Text.{IsRaceText}
use Rattle.he_reading.specs.Text as reading
use Rattle.he_record.specs.Forms.{is_record_line}
use Rattle.he_record.specs.Fronts.{goes_on}
use Rattle.he_record.specs.Said as records
use Rattle.he_record.specs.Text.{IsRecordText, Says}
use Rattle.he_record.proofs.FitLaws.{fit_none}
use Rattle.he_record.proofs.FrontLaws.{stops}
use Rattle.he_record.proofs.LineSays.{line_begins}
use Rattle.he_record.proofs.Stands.{behind_lines}
use Rattle.he_inputs.specs.Inputs.{AreRaceTexts, HasRaces, IsFaultBehind, line_count}
use Rattle.he_inputs.specs.Plain.{HasNoRecord, is_kept, without_records}
use Rattle.he_inputs.specs.Recorded.{IsRecordedAs, IsRecordedText, fault_after, lines_on, recorded_fault}
use Rattle.he_inputs.proofs.RecordedTexts.{joined, race_parts}

-- a record without a line
pub none_recorded : IsRecordText [] []
none_recorded = record { lines = []; parts = refl; are = record { short = tt; say = tt; fit = fit_none } }

pub plain_recorded : (text : List ℕ) (race : Race) → IsRaceText text race → IsRecordedText text race
plain_recorded text race is = ([], record { front = []; rest = text; parts = refl; told = none_recorded; is = is })

-- where no record line comes first, the fault is that of the race
same_on : (fault : Option (ℕ × TextKind)) → option_map (lines_on 0) fault ≡ fault
same_on None = refl
same_on (Some (m, kind)) = ap (λ (n : ℕ). Some (n, kind)) (none_more m)
  where
    none_more : (m : ℕ) → 0 + m ≡ m
    none_more m = omega arith

plain_front : (text : List ℕ) → goes_on (lines_of text) ≡ false → recorded_fault text ≡ fault_of text
plain_front text ends = ap fault_after (stops 1 [] (lines_of text) ends) ∙ same_on (fault_of text)

pub plain_fault : (text : List ℕ) → HasNoRecord text → recorded_fault text ≡ fault_of text
plain_fault text plain = plain_front text (by_lines (lines_of text) plain)
  where
    by_lines : (lines : List (List ℕ)) → AllByRecursion (λ line. is_record_line (tokens_of line) ≡ false) lines → goes_on lines ≡ false
    by_lines [] none = refl
    by_lines (line ∷ after) none = none.0

-- the text of a recorded race that has no record line is the race's
no_lines : (lines behind : List (List ℕ)) (said : List records.Said) → AllZip Says lines said → AllByRecursion (λ line. is_record_line (tokens_of line) ≡ false) (lines ++ behind) → lines ≡ []
no_lines [] behind said say none = refl
no_lines (line ∷ lines) behind [] say none = absurd say
no_lines (line ∷ lines) behind (s ∷ said) say none = let wrong : true ≡ false = sym (line_begins line s say.0) ∙ none.0 in cc

pub plain_race : (text : List ℕ) (race : Race) → HasNoRecord text → IsRecordedText text race ↔ IsRaceText text race
plain_race text race plain = (right, plain_recorded text race)
  where
    right : IsRecordedText text race → IsRaceText text race
    right (said, is) =
        let all : lines_of text ≡ is.told.lines ++ lines_of is.rest = ap lines_of is.parts ∙ behind_lines is.front is.rest is.told.lines is.told.parts in
        let N : List (List ℕ) → Type 0 = AllByRecursion (λ line. is_record_line (tokens_of line) ≡ false) in
        let none : is.told.lines ≡ [] = no_lines is.told.lines (lines_of is.rest) said is.told.are.say (subst N all plain) in
        let same : lines_of text ≡ lines_of is.rest = all ∙ ap (λ ls. ls ++ lines_of is.rest) none in
        let whole : text ≡ is.rest = sym (join_with_byte-slice_split 10 text) ∙ ap (join_with_byte 10) same ∙ join_with_byte-slice_split 10 is.rest in
        subst (λ (t : List ℕ). IsRaceText t race) (sym whole) is.is

-- the lines of a race are kept
word_kept : (word : Word) (tokens : List (List ℕ)) → is_record_line (spelling_of word ∷ tokens) ≡ false
unfolding is_record_line
word_kept words.Set tokens = refl
word_kept words.Policy tokens = refl
word_kept words.Source tokens = refl
word_kept words.Route tokens = refl
word_kept words.Aaaa tokens = refl
word_kept words.A tokens = refl
word_kept words.Rtt tokens = refl
word_kept words.Used tokens = refl
word_kept words.Connect tokens = refl
word_kept words.Pause tokens = refl
word_kept words.End tokens = refl

line_kept : (line : List ℕ) (s : races.Said) → reading.Says line s → is_record_line (tokens_of line) ≡ false
line_kept line (Setting name value) says = ap is_record_line says.1 ∙ word_kept words.Set _
line_kept line (PolicyRow row) says = ap is_record_line says.3 ∙ word_kept words.Policy _
line_kept line (HostSource source) says = ap is_record_line says.2 ∙ word_kept words.Source _
line_kept line (HostRoute route) says = ap is_record_line says.2 ∙ word_kept words.Route _
line_kept line (Answer family reply) says = ap is_record_line says.2 ∙ word_kept (reading.answer_word family) (says.0 ∷ says.1)
line_kept line (RoundTrip ip rtt) says = ap is_record_line says.2 ∙ word_kept words.Rtt _
line_kept line (UsedBefore ip) says = ap is_record_line says.1 ∙ word_kept words.Used _
line_kept line (OutcomeOf ip outcome) says = ap is_record_line says.2 ∙ word_kept words.Connect _
line_kept line (Paused from to) says = ap is_record_line says.2 ∙ word_kept words.Pause _
line_kept line Ended says = absurd says

header_kept : (version : Version) → is_record_line (tokens_of (header_of version)) ≡ false
unfolding is_record_line
header_kept One = refl
header_kept Two = refl

end_kept : is_record_line (tokens_of (codes "end")) ≡ false
unfolding is_record_line
end_kept = refl

nothing_kept : is_record_line (tokens_of []) ≡ false
unfolding is_record_line
nothing_kept = refl

kept_first : (line : List ℕ) (lines : List (List ℕ)) → is_record_line (tokens_of line) ≡ false → filter is_kept (line ∷ lines) ≡ line ∷ filter is_kept lines
kept_first line lines other = ap (λ b. cond (not b) (line ∷ filter is_kept lines) (filter is_kept lines)) other

left_out : (line : List ℕ) (lines : List (List ℕ)) → is_record_line (tokens_of line) ≡ true → filter is_kept (line ∷ lines) ≡ filter is_kept lines
left_out line lines is = ap (λ b. cond (not b) (line ∷ filter is_kept lines) (filter is_kept lines)) is

all_kept : (lines : List (List ℕ)) (said : List races.Said) → AllZip reading.Says lines said → filter is_kept lines ≡ lines
all_kept [] said say = refl
all_kept (line ∷ lines) [] say = absurd say
all_kept (line ∷ lines) (s ∷ said) say = kept_first line lines (line_kept line s say.0) ∙ ap (λ ls. line ∷ ls) (all_kept lines said say.1)

none_kept : (lines : List (List ℕ)) (said : List records.Said) → AllZip Says lines said → filter is_kept lines ≡ []
none_kept [] said say = refl
none_kept (line ∷ lines) [] say = absurd say
none_kept (line ∷ lines) (s ∷ said) say = left_out line lines (line_begins line s say.0) ∙ none_kept lines said say.1

-- the lines of a race's text, with their line ends
pub record RaceLines (text : List ℕ) : Type 0 where
  pub lines : List (List ℕ)
  pub parts : lines_of text ≡ lines ++ [] ∷ []
  pub kept : filter is_kept lines ≡ lines
  pub some : 0 < length lines

race_lines : (text : List ℕ) (race : Race) → IsRaceText text race → RaceLines text
race_lines text race is =
    let header : List ℕ = header_of is.version in
    let last : List (List ℕ) = codes "end" ∷ [] in
    let behind : filter is_kept (is.lines ++ last) ≡ is.lines ++ last =
    filter-append is_kept is.lines last ∙ ap (λ ls. ls ++ filter is_kept last) (all_kept is.lines is.said is.are.say) ∙ ap (λ ls. is.lines ++ ls) (kept_first (codes "end") [] end_kept) in
    record {
      lines = header ∷ is.lines ++ last;
      parts = is.parts ∙ ap (λ ls. header ∷ ls) (sym (append_assoc is.lines last ([] ∷ [])));
      kept = kept_first header (is.lines ++ last) (header_kept is.version) ∙ ap (λ ls. header ∷ ls) behind;
      some = omega arith;
    }

-- of a recorded race the lines of the race are left, and what follows
kept_of : (first more : List ℕ) (said : List records.Said) (race : Race) → (is : IsRecordedAs first said race) → (lines : RaceLines is.rest) → filter is_kept (lines_of (first ++ more)) ≡ lines.lines ++ filter is_kept (lines_of more)
kept_of first more said race is lines =
    let all : lines_of (first ++ more) ≡ is.told.lines ++ (lines.lines ++ lines_of more) =
    ap lines_of (race_parts first more said race is)
    ∙ behind_lines is.front (is.rest ++ more) is.told.lines is.told.parts
    ∙ ap (λ ls. is.told.lines ++ ls) (behind_lines is.rest more lines.lines lines.parts) in
    ap (filter is_kept) all
    ∙ filter-append is_kept is.told.lines (lines.lines ++ lines_of more)
    ∙ ap (λ ls. ls ++ filter is_kept (lines.lines ++ lines_of more)) (none_kept is.told.lines said is.told.are.say)
    ∙ filter-append is_kept lines.lines (lines_of more)
    ∙ ap (λ ls. ls ++ filter is_kept (lines_of more)) lines.kept

kept_end : filter is_kept (lines_of []) ≡ [] ∷ []
kept_end = kept_first [] [] nothing_kept

some_kept : (races : List Race) (text : List ℕ) → AreRaceTexts races text → 0 < length (filter is_kept (lines_of text))
some_kept [] text none =
    let size : length (filter is_kept (lines_of text)) ≡ 1 = ap (λ t. length (filter is_kept (lines_of t))) none ∙ ap length kept_end in
    omega arith
some_kept (race ∷ races) text (first, more, parts, (said, is), are) =
    let lines = race_lines is.rest race is.is in
    let size : length (filter is_kept (lines_of text)) ≡ length lines.lines + length (filter is_kept (lines_of more)) =
    ap (λ t. length (filter is_kept (lines_of t))) parts ∙ ap length (kept_of first more said race is lines) ∙ length-append lines.lines (filter is_kept (lines_of more)) in
    let some : 0 < length lines.lines = lines.some in
    omega arith

joined_race : (text : List ℕ) (lines : RaceLines text) (kept : List (List ℕ)) → 0 < length kept → join_with_byte 10 (lines.lines ++ kept) ≡ text ++ join_with_byte 10 kept
joined_race text lines [] some = absurd (omega arith)
joined_race text lines (line ∷ after) some =
    joined lines.lines line after
    ∙ ap (λ (t : List ℕ). t ++ join_with_byte 10 (line ∷ after)) (ap (join_with_byte 10) (sym lines.parts) ∙ join_with_byte-slice_split 10 text)

pub plain_texts : (races : List Race) (text : List ℕ) → AreRaceTexts races text → AreRaceTexts races (without_records text)
plain_texts [] text none = ap without_records none ∙ ap (join_with_byte 10) kept_end
plain_texts (race ∷ races) text (first, more, parts, (said, is), are) =
    let lines = race_lines is.rest race is.is in
    let split : without_records text ≡ is.rest ++ without_records more =
    ap without_records parts ∙ ap (join_with_byte 10) (kept_of first more said race is lines) ∙ joined_race is.rest lines (filter is_kept (lines_of more)) (some_kept races more are) in
    (is.rest, without_records more, split, plain_recorded is.rest race is.is, plain_texts races more are)

-- an input without a fault ends after its races
no_rest : (is_broken : Bool) (races lines : ℕ) (rest : List ℕ) → IsFaultBehind is_broken races lines rest None → (rest ≡ []) × ((other : ℕ) → IsFaultBehind is_broken races other [] None)
no_rest is_broken races lines [] is = (refl, λ other. is)
no_rest is_broken races lines (byte ∷ rest) (inl is) = let wrong = is.1 in cc
no_rest is_broken races lines (byte ∷ rest) (inr (few, found, is, told)) = cc

pub same_races : (input : List ℕ) (is_broken : Bool) (races : List Race) → HasRaces input is_broken races None → HasRaces (without_records input) is_broken races None
same_races input is_broken races has =
    let none = no_rest is_broken (length races) (line_count has.before) has.rest has.fault_is in
    let whole : input ≡ has.before = has.parts ∙ ap (λ r. has.before ++ r) none.0 ∙ append-nil has.before in
    record {
      before = without_records has.before;
      rest = [];
      parts = ap without_records whole ∙ sym (append-nil (without_records has.before));
      whole = plain_texts races has.before has.whole;
      few = has.few;
      fault_is = none.1 (line_count (without_records has.before));
    }
