-- How far a check has come after a step: a race that was passed, a fault, or bytes in which no part begins.
use Rattle.std.proofs.Common.{ℕ, ◌≡◌, ◌⊎◌, ◌+◌, ◌-◌, ◌<◌, ◌≤◌, Bool, true, false, List, [], ◌∷◌, ◌++◌, length, take, drop, Option, Some, None, IfSome, refl, sym, subst, subst₂, ◌∙◌, ap, append_assoc, append-nil, length-append, length-take, length-drop, take-append-drop, true≢false, eqb, arith, inl, inr}
use Rattle.std.specs.List.{slice_get, slice_range}
use Rattle.std.specs.Option.{option_or}
use Rattle.std.proofs.lemmas.List.{drop-append-le, drop-drop, take-append-le, take_all}
use Rattle.std.proofs.lemmas.List.Sums.{count_by-le-length}
use Rattle.std.proofs.Math.Seq.{take-add}
use Rattle.he_timeline.specs.Race.{Race}
use Rattle.he_inputs.specs.Recorded.{IsRecordedText}
use Rattle.he_reading.specs.Parts.{lines_of}
use Rattle.he_inputs.specs.Inputs.{AreRaceTexts, HasRaces, IsFaultBehind, line_count}
use Rattle.he_inputs.specs.RaceReading.{IsReaderFault, MayFollow, PassesRace}
use Rattle.he_inputs.specs.declared.input_fault.InputFault.TheVariants.{Text}
use Rattle.he_inputs.specs.declared.race_reader.Ending.{Ending}
use Rattle.he_inputs.specs.declared.race_reader.Ending.TheVariants as endings
use Rattle.he_inputs.specs.declared.race_reader.RaceReader.{RaceReader}
use Rattle.he_inputs.specs.declared.race_reader.RaceReaderFault.TheVariants as readers
use Rattle.he_inputs.proofs.RaceReadingLaws.{AreTexts-snoc, line_count-append}
use Rattle.he_words.specs.declared.fault.TextFault.{TextFault}
use Rattle.he_words.specs.declared.fault.TextKind.TheVariants as kinds
use Rattle.he_check.specs.AllFaults.{AreFaults, AreFaultsBehind, AreSaid, BeginsPart, IsNextPart, SeeksAfter, fault_text, said_text}
use Rattle.he_faults.specs.Clauses.{hint_of, is_of_words}
use Rattle.he_check.specs.Slips.{AreWarned, warnings_of}
use Rattle.he_check.specs.Steps.{AddsFault, AreFaultsAfter, AreFaultsPast, AreLeft, AreWhole, HasTold, IsAt, IsClean, IsEnough, IsFirstIn, IsNew, IsOpen, IsSound, PassesRecords, at_front}
use Rattle.he_faults.specs.Clauses.{hint_in}
use Rattle.he_check.specs.declared.counting.Counted.{Counted}
use Rattle.he_check.specs.declared.form.Form.{Form}
use Rattle.he_check.specs.declared.limits.TheConstants.{MOST_TOLD}
use Rattle.he_faults.specs.declared.meant.Meant.{Meant}
use Rattle.he_faults.specs.declared.rest.RestOfInput.{RestOfInput}
use Rattle.he_check.specs.declared.slips.Warning.{Warning}
use Rattle.he_check.proofs.FaultParts.{after_found, fault_stands, line_left, past_fault, past_race}
use Rattle.he_check.proofs.Hints.{FirstFaults, hint_there, words_behind}
use Rattle.he_check.proofs.NextParts.{after_more}
use Rattle.he_check.proofs.RecordLines.{seeks_more}
use Rattle.he_check.proofs.WholeLines.{whole_append, whole_race}

-- the bytes up to a place and those after it
pub parts_of : (before bytes : List ℕ) (end : ℕ) → (before ++ take end bytes) ++ drop end bytes ≡ before ++ bytes
parts_of before bytes end = append_assoc before (take end bytes) (drop end bytes) ∙ ap (λ (b : List ℕ). before ++ b) (take-append-drop end bytes)

some_as : {X : Type 0} (o : Option X) (P Q : X → Type 0) → ((x : X) → P x → Q x) → IfSome o P → IfSome o Q
some_as None P Q each is = tt
some_as (Some x) P Q each is = each x is

-- one race more after the others, with its warnings after theirs
warned_on : (lines : ℕ) (races : List Race) (text : List ℕ) (warnings : List Warning) → AreWarned lines races text warnings
    → (race : Race) (last : List ℕ) → (is : IsRecordedText last race) → (line : ℕ) → line ≡ lines + line_count text + 1
    → AreWarned lines (races ++ race ∷ []) (text ++ last) (warnings ++ warnings_of line is.0 race)
warned_on lines [] text warnings (none, nothing) race last is line at =
    let here : line ≡ lines + 1 = let no_line : line_count text ≡ 0 = ap line_count none in omega arith in (
      last,
      [],
      [],
      ap (λ (t : List ℕ). t ++ last) none ∙ sym (append-nil last),
      is,
      ap (λ (w : List Warning). w ++ warnings_of line is.0 race) nothing ∙ ap (λ (l : ℕ). warnings_of l is.0 race) here ∙ sym (append-nil (warnings_of (lines + 1) is.0 race)),
      (refl, refl),
    )
warned_on lines (one ∷ races) text warnings (first, more, later, split, read, warned, rest) race last is line at =
    let sum : line_count text ≡ line_count first + line_count more = ap line_count split ∙ line_count-append first more in
    let behind : line ≡ lines + line_count first + line_count more + 1 = omega arith in (
      first,
      more ++ last,
      later ++ warnings_of line is.0 race,
      ap (λ (t : List ℕ). t ++ last) split ∙ append_assoc first more last,
      read,
      ap (λ (w : List Warning). w ++ warnings_of line is.0 race) warned ∙ append_assoc (warnings_of (lines + 1) read.0 one) later (warnings_of line is.0 race),
      warned_on (lines + line_count first) races more later rest race last is line behind,
    )

-- one fault more is said
said_on : (form : Form) (input : List ℕ) (faults : List TextFault) (text new : List ℕ) (fault : TextFault) (said : List ℕ) → AreSaid form input faults text → new ≡ text ++ fault_text form input fault said
    → AreSaid form input (faults ++ fault ∷ []) new
said_on form input [] text new fault said none longer =
    let told = fault_text form input fault said in
    (said, [], longer ∙ ap (λ (t : List ℕ). t ++ told) none ∙ sym (append-nil told), refl)
said_on form input (one ∷ faults) text new fault said (words, later, is, are) longer =
    let told = fault_text form input fault said in
    (words, later ++ told, longer ∙ ap (λ (t : List ℕ). t ++ told) is ∙ append_assoc (fault_text form input one words) later told, said_on form input faults later (later ++ told) fault said are refl)

-- the first of the faults are said, one more among them where it is one of the first
first_said : (form : Form) (input : List ℕ) (faults : List TextFault) (fault : TextFault) (count : ℕ) (text new : List ℕ) (meant : Option Meant) → count ≡ length faults → meant ≡ hint_of input fault → AreSaid form input (take MOST_TOLD faults) text
    → ((count + 1 ≤ MOST_TOLD) × (said : List ℕ) × (new ≡ text ++ said_text form fault said meant)) ⊎ ((MOST_TOLD ≤ count) × (new ≡ text)) → AreSaid form input (take MOST_TOLD (faults ++ fault ∷ [])) new
first_said form input faults fault count text new meant counted hint said (inl (few, words, is)) =
    let longer = length-append faults (fault ∷ []) in
    let before : take MOST_TOLD faults ≡ faults = take_all MOST_TOLD faults (omega (arith, few, counted)) in
    let after : take MOST_TOLD (faults ++ fault ∷ []) ≡ faults ++ fault ∷ [] = take_all MOST_TOLD (faults ++ fault ∷ []) (omega (arith, few, counted, longer)) in
    let here : new ≡ text ++ fault_text form input fault words = is ∙ ap (λ (m : Option Meant). text ++ said_text form fault words m) hint in
    subst (λ (f : List TextFault). AreSaid form input f new) (sym after) (said_on form input faults text new fault words (subst (λ (f : List TextFault). AreSaid form input f text) before said) here)
first_said form input faults fault count text new meant counted hint said (inr (full, same)) =
    let before : take MOST_TOLD (faults ++ fault ∷ []) ≡ take MOST_TOLD faults = take-append-le MOST_TOLD faults (fault ∷ []) (omega (arith, full, counted)) in
    subst₂ (λ (f : List TextFault) (t : List ℕ). AreSaid form input f t) (sym before) (sym same) said

first_on : (faults : List TextFault) (fault : TextFault) → slice_get (faults ++ fault ∷ []) 0 ≡ option_or (slice_get faults 0) (Some fault)
first_on [] fault = refl
first_on (one ∷ faults) fault = refl

added : (o : Option TextFault) (fault : TextFault) (P : TextFault → Type 0) → IfSome o P → (o ≡ None → P fault) → IfSome (option_or o (Some fault)) P
added None fault P is own = own refl
added (Some one) fault P is own = is

pub never_none : (o : Option TextFault) (fault : TextFault) → option_or o (Some fault) ≡ None → ⊥
never_none None fault is = cc
never_none (Some one) fault is = cc

-- the line of a fault of its words is one after which another stands
words_left : FirstFaults → (races lines : ℕ) (text : List ℕ) (fault : TextFault) → IsFaultBehind false races lines text (Some (Text fault)) → is_of_words fault.kind ≡ true
    → fault.line - lines < length (lines_of text)
words_left first races lines [] fault is words = cc
words_left first races lines (byte ∷ rest) fault (inl (most, is)) words =
    let here : fault ≡ record { line = lines + 1; kind = kinds.TooMany } = cc in
    let wrong : true ≡ false = sym words ∙ ap (λ (f : TextFault). is_of_words f.kind) here in
    cc
words_left first races lines (byte ∷ rest) fault (inr (few, (line, kind), at, is)) words =
    let here : fault ≡ record { line = lines + line; kind = kind } = cc in
    let number : fault.line ≡ lines + line = ap (λ (f : TextFault). f.line) here in
    let short = words_behind first (byte ∷ rest) line kind at (sym (ap (λ (f : TextFault). is_of_words f.kind) here) ∙ words) in
    omega arith

-- whole lines of which none ends are no bytes
no_front : (front : List ℕ) → AreWhole front → line_count front ≡ 0 → front ≡ []
no_front front (inl none) zero = none
no_front front (inr (line, is)) zero =
    let some : line_count front ≡ line_count line + 1 = ap line_count is ∙ line_count-append line (10 ∷ []) in
    absurd (omega arith)

-- the bytes before the reader are no matter of what is left
behind_front : (seeking : Bool) (reader : RaceReader) (is_broken : Bool) (text : List ℕ) (others : List TextFault)
    → AreLeft seeking (record { end = 0; races = reader.races; lines = reader.lines }) is_broken text others → AreLeft seeking reader is_broken text others
behind_front true reader is_broken text others left = left
behind_front false reader is_broken text others left = left

nothing_follows : (ending : Ending) → (is_broken : Bool) × MayFollow ending [] is_broken
nothing_follows endings.Open = (false, tt)
nothing_follows endings.Whole = (false, (refl, refl))
nothing_follows endings.Broken = (true, (refl, refl))

-- a fault is on a line of what is left
pub fault_line : FirstFaults → (ending : Ending) (bytes : List ℕ) (reader : RaceReader) (fault : TextFault) → IsReaderFault bytes ending reader (readers.Input (Text fault))
    → (reader.lines + 1 ≤ fault.line) × (fault.line - reader.lines ≤ length (lines_of (drop reader.end bytes)))
fault_line first ending bytes reader fault wrong =
    let nothing = nothing_follows ending in
    let left : List ℕ = drop reader.end bytes in
    let is : IsFaultBehind nothing.0 reader.races reader.lines (left ++ []) (Some (Text fault)) = wrong [] nothing.0 nothing.1 in
    let Left : List ℕ → Type 0 = λ t. fault.line - reader.lines ≤ length (lines_of t) in
    (fault_stands first nothing.0 reader.races reader.lines (left ++ []) fault is, subst Left (append-nil left) (line_left first nothing.0 reader.races reader.lines (left ++ []) fault is))

module _ {A : Type 0} (counted : Counted A)
  where
    -- at the front of an input
    pub start_at : (is_all : Bool) (form : Form) → IsNew is_all form counted → (ending : Ending) (bytes : List ℕ) → IsAt ending [] bytes counted
    start_at is_all form new ending bytes =
        let end : counted.reader.end ≡ 0 = ap (λ (r : RaceReader). r.end) new.reader in
        let races : counted.reader.races ≡ 0 = ap (λ (r : RaceReader). r.races) new.reader in
        let lines : counted.reader.lines ≡ 0 = ap (λ (r : RaceReader). r.lines) new.reader in
        let front : take counted.reader.end bytes ≡ [] = ap (λ (n : ℕ). take n bytes) end in
        let zero : line_count [] ≡ 0 = refl in
        record {
          lined = lines ∙ sym zero ∙ sym (ap line_count front);
          whole = λ reads. inl front;
          clean = λ none. record { races = []; whole = front; counted = races; warned = (front, new.warned) };
          first = subst (λ (f : Option TextFault). IfSome f (IsFirstIn bytes ending)) (sym new.none) tt;
          alone = λ one. subst (λ (f : Option TextFault). IfSome f (λ fault. counted.reader.lines + 1 ≤ fault.line)) (sym new.none) tt;
          told = λ all. record {
            faults = [];
            first = new.none;
            number = new.zero;
            are = λ more is_broken others may left.
                let Left : Bool → Type 0 = λ s. AreLeft s counted.reader is_broken (drop counted.reader.end bytes ++ more) others in
                let past : AreFaultsPast is_broken counted.reader.races counted.reader.lines (drop counted.reader.end bytes ++ more) others = subst Left new.reads left in
                subst (λ (n : ℕ). AreFaultsBehind is_broken 0 (drop n bytes ++ more) others) end (past [] [] 0 refl (sym races) (let same : counted.reader.lines ≡ 0 + line_count [] = omega arith in same));
            said = λ more is_broken may. new.said;
          };
        }

    pub start_sound : (is_all : Bool) (form : Form) → IsNew is_all form counted → IsSound counted
    start_sound is_all form new =
        let races : counted.reader.races ≡ 0 = ap (λ (r : RaceReader). r.races) new.reader in
        let zero = new.zero in
        record { few = omega arith; count = λ _. omega arith; zero = λ _. new.zero; reads = λ _. new.reads; seeks = λ is. absurd (true≢false (sym is ∙ new.reads)) }

    -- each line of the bytes that were forgotten has a byte
    pub lines_few : (ending : Ending) (before bytes : List ℕ) → counted.reader.end ≡ 0 → IsAt ending before bytes counted → counted.reader.lines ≤ length before
    lines_few ending before bytes end at =
        let none : before ++ take counted.reader.end bytes ≡ before = ap (λ (n : ℕ). before ++ take n bytes) end ∙ append-nil before in
        let lined : counted.reader.lines ≡ line_count before = at.lined ∙ ap line_count none in
        let few = count_by-le-length (λ b. eqb b 10) before in
        omega arith

    -- more bytes are there
    pub more_at : (before bytes more : List ℕ) → counted.reader.end ≤ length bytes → IsAt endings.Open before bytes counted → IsAt endings.Open before (bytes ++ more) counted
    more_at before bytes more inside at =
        let end : ℕ = counted.reader.end in
        let front : take end (bytes ++ more) ≡ take end bytes = take-append-le end bytes more inside in
        record {
          lined = at.lined ∙ ap (λ (t : List ℕ). line_count (before ++ t)) (sym front);
          whole = λ reads. subst (λ (t : List ℕ). AreWhole (before ++ t)) (sym front) (at.whole reads);
          clean = λ none. subst (λ (t : List ℕ). IsClean (before ++ t) counted.reader counted.warnings.items) (sym front) (at.clean none);
          first = some_as counted.told.first (IsFirstIn (before ++ bytes) endings.Open) (IsFirstIn (before ++ (bytes ++ more)) endings.Open) first_more at.first;
          alone = at.alone;
          told = λ all.
              let told = at.told all in
              record {
                faults = told.faults;
                first = told.first;
                number = told.number;
                are = λ rest is_broken others may left.
                    subst (λ (i : List ℕ). AreFaults i is_broken (told.faults ++ others)) (joined rest)
                    (told.are (more ++ rest) is_broken others tt (subst (λ (l : List ℕ). AreLeft counted.is_seeking counted.reader is_broken l others) (behind rest) left));
                said = λ rest is_broken may. subst (λ (i : List ℕ). AreSaid counted.told.form i (take MOST_TOLD told.faults) counted.told.text.items) (joined rest) (told.said (more ++ rest) is_broken tt);
              };
        }
      where
        joined : (rest : List ℕ) → (before ++ bytes) ++ (more ++ rest) ≡ (before ++ (bytes ++ more)) ++ rest
        joined rest = sym (append_assoc (before ++ bytes) more rest) ∙ ap (λ (t : List ℕ). t ++ rest) (append_assoc before bytes more)

        behind : (rest : List ℕ) → drop counted.reader.end (bytes ++ more) ++ rest ≡ drop counted.reader.end bytes ++ (more ++ rest)
        behind rest = ap (λ (t : List ℕ). t ++ rest) (drop-append-le counted.reader.end bytes more inside) ∙ append_assoc (drop counted.reader.end bytes) more rest

        first_more : (fault : TextFault) → IsFirstIn (before ++ bytes) endings.Open fault → IsFirstIn (before ++ (bytes ++ more)) endings.Open fault
        first_more fault is rest is_broken may =
            let has = is (more ++ rest) is_broken tt in
            (has.0, subst (λ (i : List ℕ). HasRaces i is_broken has.0 (Some (Text fault))) (joined rest) has.1)

    -- what follows is known
    pub ending_at : (before bytes : List ℕ) (ending : Ending) → IsAt endings.Open before bytes counted → IsAt ending before bytes counted
    ending_at before bytes ending at = record {
      lined = at.lined;
      whole = at.whole;
      clean = at.clean;
      first = some_as counted.told.first (IsFirstIn (before ++ bytes) endings.Open) (IsFirstIn (before ++ bytes) ending) (λ fault is rest is_broken may. is rest is_broken tt) at.first;
      alone = at.alone;
      told = λ all.
          let told = at.told all in
          record {
            faults = told.faults;
            first = told.first;
            number = told.number;
            are = λ rest is_broken others may left. told.are rest is_broken others tt left;
            said = λ rest is_broken may. told.said rest is_broken tt;
          };
    }

    -- the bytes before the reader are there no more
    pub front_at : (before bytes : List ℕ) (ending : Ending) → IsAt ending before bytes counted → IsAt ending (before ++ take counted.reader.end bytes) (drop counted.reader.end bytes) (at_front counted)
    front_at before bytes ending at =
        let front : List ℕ = before ++ take counted.reader.end bytes in
        let all : before ++ bytes ≡ front ++ drop counted.reader.end bytes = sym (parts_of before bytes counted.reader.end) in
        record {
          lined = at.lined ∙ ap line_count (sym (append-nil front));
          whole = λ reads. subst AreWhole (sym (append-nil front)) (at.whole reads);
          clean = λ none.
              let clean = at.clean none in
              record {
                races = clean.races;
                whole = subst (AreRaceTexts clean.races) (sym (append-nil front)) clean.whole;
                counted = clean.counted;
                warned = subst (λ (t : List ℕ). AreWarned 0 clean.races t counted.warnings.items) (sym (append-nil front)) clean.warned;
              };
          first = subst (λ (i : List ℕ). IfSome counted.told.first (IsFirstIn i ending)) all at.first;
          alone = at.alone;
          told = λ is_all.
              let told = at.told is_all in
              record {
                faults = told.faults;
                first = told.first;
                number = told.number;
                are = λ rest is_broken others may left. subst (λ (i : List ℕ). AreFaults (i ++ rest) is_broken (told.faults ++ others)) all (told.are rest is_broken others may (behind_front counted.is_seeking counted.reader is_broken _ others left));
                said = λ rest is_broken may. subst (λ (i : List ℕ). AreSaid counted.told.form (i ++ rest) (take MOST_TOLD told.faults) counted.told.text.items) all (told.said rest is_broken may);
              };
        }

module _ {A : Type 0} (ending : Ending) (before bytes : List ℕ) (old new : Counted A) (at : IsAt ending before bytes old)
  where
    abbrev front : List ℕ
    front = before ++ take old.reader.end bytes

    abbrev left : List ℕ
    left = drop old.reader.end bytes

    -- a race was passed
    module _ (race : Race) (free : IsOpen old) (reads : old.is_seeking ≡ false) (passes : PassesRace bytes old.reader new.reader race)
        (warned : old.told.first ≡ None → new.warnings.items ≡ old.warnings.items ++ warnings_of (old.reader.lines + 1) passes.read.0 race)
      where
        abbrev own : List ℕ
        own = slice_range bytes old.reader.end new.reader.end

        sum : old.reader.end + (new.reader.end - old.reader.end) ≡ new.reader.end
        sum = let past = passes.past in omega arith

        longer : front ++ own ≡ before ++ take new.reader.end bytes
        longer =
            append_assoc before (take old.reader.end bytes) own
            ∙ ap (λ (t : List ℕ). before ++ t) (sym (take-add old.reader.end (new.reader.end - old.reader.end) bytes) ∙ ap (λ (n : ℕ). take n bytes) sum)

        shorter : own ++ drop new.reader.end bytes ≡ left
        shorter =
            ap (λ (t : List ℕ). own ++ t) (ap (λ (n : ℕ). drop n bytes) (sym sum) ∙ sym (drop-drop (new.reader.end - old.reader.end) old.reader.end bytes))
            ∙ take-append-drop (new.reader.end - old.reader.end) left

        clean_on : old.told.first ≡ None → IsClean (before ++ take new.reader.end bytes) new.reader new.warnings.items
        clean_on none =
            let clean = at.clean none in
            let races = clean.races ++ race ∷ [] in
            let lined = at.lined in
            let one = passes.counted in
            let counted = clean.counted in
            let size = length-append clean.races (race ∷ []) in
            record {
              races = races;
              whole = subst (AreRaceTexts races) longer (AreTexts-snoc IsRecordedText clean.races front clean.whole race own passes.read);
              counted = omega arith;
              warned = subst₂ (λ (t : List ℕ) (w : List Warning). AreWarned 0 races t w) longer (sym (warned none))
                  (warned_on 0 clean.races front old.warnings.items clean.warned race own passes.read (old.reader.lines + 1) (omega arith));
            }

        past : (is_broken : Bool) (more : List ℕ) (others : List TextFault) → AreLeft old.is_seeking new.reader is_broken (drop new.reader.end bytes ++ more) others
            → AreLeft old.is_seeking old.reader is_broken (left ++ more) others
        past is_broken more others are =
            let rest : List ℕ = drop new.reader.end bytes ++ more in
            let here : AreFaultsPast is_broken new.reader.races new.reader.lines rest others = subst (λ (s : Bool). AreLeft s new.reader is_broken rest others) reads are in
            let next : AreFaultsPast is_broken (old.reader.races + 1) (old.reader.lines + line_count own) rest others =
            subst₂ (λ (r l : ℕ). AreFaultsPast is_broken r l rest others) passes.counted passes.lined here in
            let text : own ++ rest ≡ left ++ more = sym (append_assoc own (drop new.reader.end bytes) more) ∙ ap (λ (t : List ℕ). t ++ more) shorter in
            let all : AreFaultsPast is_broken old.reader.races old.reader.lines (left ++ more) others =
            subst (λ (t : List ℕ). AreFaultsPast is_broken old.reader.races old.reader.lines t others) text (past_race is_broken old.reader.races old.reader.lines own race rest others passes.read next) in
            subst (λ (s : Bool). AreLeft s old.reader is_broken (left ++ more) others) (sym reads) all

        pub race_at : IsAt ending before bytes (record old { reader = new.reader; warnings = new.warnings })
        race_at = record {
          lined = passes.lined ∙ ap (λ (n : ℕ). n + line_count own) at.lined ∙ sym (line_count-append front own) ∙ ap line_count longer;
          whole = λ _. subst AreWhole longer (whole_append front own (at.whole reads) (whole_race own race passes.read));
          clean = clean_on;
          first = at.first;
          alone = λ one. subst (λ (f : Option TextFault). IfSome f (λ fault. new.reader.lines + 1 ≤ fault.line)) (sym (free one)) tt;
          told = λ all.
              let told = at.told all in
              record {
                faults = told.faults;
                first = told.first;
                number = told.number;
                are = λ more is_broken others may are. told.are more is_broken others may (past is_broken more others are);
                said = told.said;
              };
        }

    -- a fault was found
    module _ (first : FirstFaults) (fault : TextFault) (part : RestOfInput) (inside : old.reader.end ≤ length bytes) (sound : IsSound old) (enough : IsEnough ending bytes old) (reads : old.is_seeking ≡ false)
        (seeks : new.is_seeking ≡ new.told.is_all) (n more_lines : ℕ) (passes : PassesRecords new.told.is_all left (fault.line - old.reader.lines) n more_lines)
        (ends : new.reader.end ≡ old.reader.end + n) (lined_on : new.reader.lines ≡ old.reader.lines + more_lines) (wrong : IsReaderFault bytes ending old.reader (readers.Input (Text fault)))
        (adds : AddsFault part fault old.told new.told) (text : part.text.now ≡ left) (lines : part.lines ≡ old.reader.lines)
      where
        stands : old.reader.lines + 1 ≤ fault.line
        stands = (fault_line first ending bytes old.reader fault wrong).0

        there : fault.line - old.reader.lines ≤ length (lines_of left)
        there = (fault_line first ending bytes old.reader fault wrong).1

        further_on : before ++ take new.reader.end bytes ≡ front ++ take n left
        further_on =
            ap (λ (m : ℕ). before ++ take m bytes) ends ∙ ap (λ (t : List ℕ). before ++ t) (take-add old.reader.end n bytes) ∙ sym (append_assoc before (take old.reader.end bytes) (take n left))

        counted_on : new.reader.lines ≡ old.reader.lines + line_count (take n left)
        counted_on = lined_on ∙ ap (λ (m : ℕ). old.reader.lines + m) passes.lined

        rest_on : drop new.reader.end bytes ≡ drop n left
        rest_on = ap (λ (m : ℕ). drop m bytes) ends ∙ sym (drop-drop n old.reader.end bytes)

        front_on : new.told.is_all ≡ false → before ++ take new.reader.end bytes ≡ front
        front_on one = further_on ∙ ap (λ (m : ℕ). front ++ take m left) (passes.none one) ∙ append-nil front

        hint : (more : List ℕ) (is_broken : Bool) → MayFollow ending more is_broken → old.told.is_all ≡ true → hint_in part.lines part.text.now fault ≡ hint_of ((before ++ bytes) ++ more) fault
        hint more is_broken may all =
            ap (λ (n : ℕ). hint_in n part.text.now fault) lines ∙ ap (λ (t : List ℕ). hint_in old.reader.lines t fault) text
            ∙ hint_there front left more old.reader.lines fault (at.whole reads) at.lined stands (long ending may enough) (short ending may wrong)
            ∙ ap (λ (t : List ℕ). hint_of t fault) (sym (append_assoc front left more) ∙ ap (λ (t : List ℕ). t ++ more) (parts_of before bytes old.reader.end))
          where
            long : (e : Ending) → MayFollow e more is_broken → IsEnough e bytes old → fault.line ≡ 1 → (more ≡ []) ⊎ (6 ≤ length left)
            long endings.Whole follows bytes_enough one = inl follows.0
            long endings.Broken follows bytes_enough one = inl follows.0
            long endings.Open follows bytes_enough one =
                let lined = at.lined in
                let behind = stands in
                let none : front ≡ [] = no_front front (at.whole reads) (omega arith) in
                let size : length before + length (take old.reader.end bytes) ≡ 0 = sym (length-append before (take old.reader.end bytes)) ∙ ap length none in
                let enough_bytes : 6 ≤ length bytes = bytes_enough all refl in
                inr (omega (arith, size, inside, enough_bytes, length-take {A = ℕ}, length-drop {A = ℕ}))

            short : (e : Ending) → MayFollow e more is_broken → IsReaderFault bytes e old.reader (readers.Input (Text fault)) → is_of_words fault.kind ≡ true
                → (more ≡ []) ⊎ (fault.line - old.reader.lines < length (lines_of left))
            short endings.Whole follows is words = inl follows.0
            short endings.Broken follows is words = inl follows.0
            short endings.Open follows is words =
                let Rest : List ℕ → Type 0 = λ t. IsFaultBehind false old.reader.races old.reader.lines t (Some (Text fault)) in
                inr (words_left first old.reader.races old.reader.lines left fault (subst Rest (append-nil left) (is [] false tt)) words)

        own_first : old.told.first ≡ None → IsFirstIn (before ++ bytes) ending fault
        own_first none more is_broken may =
            let clean = at.clean none in
            let Count : ℕ → Type 0 = λ n. IsFaultBehind is_broken n old.reader.lines (left ++ more) (Some (Text fault)) in
            let Lines : ℕ → Type 0 = λ n. IsFaultBehind is_broken (length clean.races) n (left ++ more) (Some (Text fault)) in
            let few = sound.few in
            let counted = clean.counted in (
              clean.races,
              record {
                before = front;
                rest = left ++ more;
                parts = ap (λ (t : List ℕ). t ++ more) (sym (parts_of before bytes old.reader.end)) ∙ append_assoc front left more;
                whole = clean.whole;
                few = omega arith;
                fault_is = subst Lines at.lined (subst Count clean.counted (wrong more is_broken may));
              },
            )

        told_on : old.told.is_all ≡ true → new.told.is_all ≡ true → HasTold ending (before ++ bytes) (drop new.reader.end bytes) new
        told_on all all_on =
            let told = at.told all in
            let number = told.number in
            let one = adds.count in
            let size = length-append told.faults (fault ∷ []) in
            record {
              faults = told.faults ++ fault ∷ [];
              first = adds.first ∙ ap (λ (o : Option TextFault). option_or o (Some fault)) told.first ∙ sym (first_on told.faults fault);
              number = omega arith;
              are = λ more is_broken others may are.
                  let Left : Bool → Type 0 = λ s. AreLeft s new.reader is_broken (drop new.reader.end bytes ++ more) others in
                  let here : AreFaultsAfter is_broken new.reader.lines (drop new.reader.end bytes ++ more) others = subst Left (seeks ∙ all_on) are in
                  let after : AreFaultsAfter is_broken (old.reader.lines + line_count (take n left)) (drop n left ++ more) others =
                  subst₂ (λ (m : ℕ) (t : List ℕ). AreFaultsAfter is_broken m (t ++ more) others) counted_on rest_on here in
                  let seeks_at : SeeksAfter (left ++ more) (fault.line - old.reader.lines) (take n left) (drop n left ++ more) =
                  seeks_more left more (fault.line - old.reader.lines) (take n left) (drop n left) there (passes.seeks all_on) in
                  let past : AreFaultsPast is_broken old.reader.races old.reader.lines (left ++ more) (fault ∷ others) =
                  past_fault first is_broken old.reader.races old.reader.lines (left ++ more) (take n left) (drop n left ++ more) fault others sound.few (wrong more is_broken may) seeks_at after in
                  let Before : Bool → Type 0 = λ s. AreLeft s old.reader is_broken (left ++ more) (fault ∷ others) in
                  subst (AreFaults ((before ++ bytes) ++ more) is_broken) (sym (append_assoc told.faults (fault ∷ []) others)) (told.are more is_broken (fault ∷ others) may (subst Before (sym reads) past));
              said = λ more is_broken may.
                  subst (λ (f : Form). AreSaid f ((before ++ bytes) ++ more) (take MOST_TOLD (told.faults ++ fault ∷ [])) new.told.text.items) (sym adds.form)
                  (first_said old.told.form ((before ++ bytes) ++ more) told.faults fault old.told.count old.told.text.items new.told.text.items (hint_in part.lines part.text.now fault) told.number
                  (hint more is_broken may all) (told.said more is_broken may) (adds.said all));
            }

        pub fault_at : IsAt ending before bytes new
        fault_at = record {
          lined = counted_on ∙ ap (λ (m : ℕ). m + line_count (take n left)) at.lined ∙ sym (line_count-append front (take n left)) ∙ sym (ap line_count further_on);
          whole = λ stays. subst AreWhole (sym (front_on (sym seeks ∙ stays))) (at.whole reads);
          clean = λ none. absurd (never_none old.told.first fault (sym adds.first ∙ none));
          first = subst (λ (f : Option TextFault). IfSome f (IsFirstIn (before ++ bytes) ending)) (sym adds.first) (added old.told.first fault (IsFirstIn (before ++ bytes) ending) at.first own_first);
          alone = λ one.
              let Behind : TextFault → Type 0 = λ f. old.reader.lines + 1 ≤ f.line in
              let here = added old.told.first fault Behind (at.alone (sym adds.all ∙ one)) (λ none. stands) in
              let none : more_lines ≡ 0 = passes.lined ∙ ap (λ (m : ℕ). line_count (take m left)) (passes.none one) in
              let same : new.reader.lines ≡ old.reader.lines = omega (arith, lined_on, none) in
              subst (λ (m : ℕ). IfSome new.told.first (λ f. m + 1 ≤ f.line)) (sym same) (subst (λ (f : Option TextFault). IfSome f Behind) (sym adds.first) here);
          told = λ all. told_on (sym adds.all ∙ all) all;
        }

    -- bytes were passed in a search for the next part
    module _ (reader : RaceReader) (n : ℕ) (sound : IsSound old) (seeks : old.is_seeking ≡ true) (inside : n ≤ length left) (ends : reader.end ≡ old.reader.end + n)
        (lines : reader.lines ≡ old.reader.lines + line_count (take n left))
      where
        further : before ++ take reader.end bytes ≡ front ++ take n left
        further =
            ap (λ (m : ℕ). before ++ take m bytes) ends ∙ ap (λ (t : List ℕ). before ++ t) (take-add old.reader.end n bytes) ∙ sym (append_assoc before (take old.reader.end bytes) (take n left))

        behind : (more : List ℕ) → drop reader.end bytes ++ more ≡ drop n (left ++ more)
        behind more = ap (λ (m : ℕ). drop m bytes ++ more) ends ∙ ap (λ (t : List ℕ). t ++ more) (sym (drop-drop n old.reader.end bytes)) ∙ sym (drop-append-le n left more inside)

        counted : (more : List ℕ) → reader.lines ≡ old.reader.lines + line_count (take n (left ++ more))
        counted more = lines ∙ ap (λ (t : List ℕ). old.reader.lines + line_count t) (sym (take-append-le n left more inside))

        sought_at : (goes_on : Bool) → (goes_on ≡ false → AreWhole (before ++ take reader.end bytes))
            → ((is_broken : Bool) (more : List ℕ) (others : List TextFault) → AreLeft goes_on reader is_broken (drop reader.end bytes ++ more) others
            → AreFaultsAfter is_broken old.reader.lines (left ++ more) others) → IsAt ending before bytes (record old { reader = reader; is_seeking = goes_on })
        sought_at goes_on whole after = record {
          lined = lines ∙ ap (λ (m : ℕ). m + line_count (take n left)) at.lined ∙ sym (line_count-append front (take n left)) ∙ sym (ap line_count further);
          whole = whole;
          clean = λ none. absurd (true≢false (sym seeks ∙ sound.reads none));
          first = at.first;
          alone = λ one. absurd (true≢false (sym (sound.seeks seeks) ∙ one));
          told = λ all.
              let told = at.told all in
              record {
                faults = told.faults;
                first = told.first;
                number = told.number;
                are = λ more is_broken others may are.
                    told.are more is_broken others may (subst (λ (s : Bool). AreLeft s old.reader is_broken (left ++ more) others) (sym seeks) (after is_broken more others are));
                said = told.said;
              };
        }

        -- no part begins in them
        pub passed_at : ((more : List ℕ) (other : ℕ) → BeginsPart (left ++ more) other → n + 1 ≤ other) → IsAt ending before bytes (record old { reader = reader })
        passed_at none =
            subst (λ (s : Bool). IsAt ending before bytes (record old { reader = reader; is_seeking = s })) (sym seeks)
            (sought_at true (λ reads. absurd (true≢false reads))
            (λ is_broken more others are.
            let size = length-append left more in
            after_more is_broken old.reader.lines (left ++ more) n others (omega arith) (none more)
            (subst₂ (λ (m : ℕ) (t : List ℕ). AreFaultsAfter is_broken m t others) (counted more) (behind more) are)))

        -- the next part begins after them
        pub found_at : reader.races ≡ 0 → AreWhole (front ++ take n left) → ((more : List ℕ) → IsNextPart (left ++ more) n) → IsAt ending before bytes (record old { reader = reader; is_seeking = false })
        found_at races whole next =
            sought_at false (λ _. subst AreWhole (sym further) whole)
            (λ is_broken more others are.
            after_found is_broken old.reader.lines reader.lines (left ++ more) n others (next more) (counted more)
            (subst₂ (λ (r : ℕ) (t : List ℕ). AreFaultsPast is_broken r reader.lines t others) races (behind more) are))
