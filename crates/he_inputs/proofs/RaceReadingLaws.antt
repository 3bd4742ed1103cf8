-- Readers of an input: what they passed, and what is told where they stop.
use Rattle.std.proofs.Common.{ℕ, ◌≡◌, ◌⊎◌, ◌+◌, ◌-◌, ◌<◌, ◌≤◌, ◌==◌, ◌++◌, List, [], ◌∷◌, length, take, drop, Bool, true, false, Option, Some, None, Result, Ok, Err, sym, ◌∙◌, ap, subst, refl, arith, append_assoc, inl, inr, length-append, length-drop, take-append-drop}
use Rattle.std.specs.List.{slice_range}
use Rattle.std.specs.Prelude.{IfErr, IfOk, IsErr, IsErrAnd, map, option_map}
use Rattle.std.proofs.lemmas.List.{append-nil, length-map, length-take-le, take_rest}
use Rattle.std.proofs.lemmas.List.Splits.{length-slice_split}
use Rattle.std.proofs.lemmas.List.Sums.{count_by-le-length, sum_by-append}
use Rattle.std.proofs.Math.Seq.{take-add}
use Rattle.he_timeline.specs.Race.{Race}
use Rattle.he_inputs.specs.Beginnings.{FaultStands, MayChange, MayGoOn, awaited}
use Rattle.he_reading.specs.FaultSearch.{fault_of}
use Rattle.he_timeline.specs.Timeline.{IsRace}
use Rattle.he_inputs.specs.Inputs.{AreTexts, HasRaces, IsFaultBehind, IsNotOne, fault_at_end, fault_behind, line_count}
use Rattle.he_reading.specs.Parts.{lines_of}
use Rattle.he_words.specs.Ranges.{most_races}
use Rattle.he_reading.specs.Reading.{ReadsFirst}
use Rattle.he_reading.specs.Text.{IsLineOf, IsRaceText, TellsFault}
use Rattle.he_inputs.specs.RaceReadingSteps.{FailsRecorded, HasFirst, IsWrong, ReadsRecorded, breaks, not_one}
use Rattle.he_inputs.specs.RaceReading.{EndsAt, HasPassed, IsNextOf, IsReaderFault, IsWithin, MayFollow, PassesRace, ending_of}
use Rattle.he_words.specs.declared.fault.TextFault.{TextFault}
use Rattle.he_words.specs.declared.fault.TextKind.{TextKind}
use Rattle.he_words.specs.declared.fault.TextKind.TheVariants as kinds
use Rattle.he_inputs.specs.declared.input_fault.InputFault.{InputFault}
use Rattle.he_inputs.specs.declared.input_fault.InputFault.TheVariants.{Text, Read}
use Rattle.he_inputs.specs.declared.race_reader.Ending.{Ending}
use Rattle.he_inputs.specs.declared.race_reader.Ending.TheVariants as endings
use Rattle.he_inputs.specs.declared.race_reader.RaceReader.{RaceReader}
use Rattle.he_inputs.specs.declared.race_reader.RaceReaderFault.{RaceReaderFault}
use Rattle.he_inputs.specs.declared.race_reader.RaceReaderFault.TheVariants as faults
use Rattle.he_reading.proofs.FaultTexts.{race_at}
use Rattle.he_record.specs.FrontSearch.{FailsFront, ReadsFront}
use Rattle.he_record.specs.declared.line.RecordLine.{RecordLine}
use Rattle.he_record.specs.Left.{said_of}
use Rattle.he_record.specs.Said.{Said}
use Rattle.he_record.specs.Text.{IsRecordText}
use Rattle.he_record.proofs.FrontLaws.{as_many}
use Rattle.he_record.proofs.Stands.{behind_lines}
use Rattle.he_inputs.specs.Recorded.{IsRecordedAs, IsRecordedText, fault_after, lines_on, recorded_fault}
use Rattle.he_inputs.proofs.RecordedFaults.{recorded_changes}
use Rattle.he_inputs.proofs.RecordedTexts.{record_lines}
use Rattle.he_reading.proofs.PartLaws.{parts_counted}
use Rattle.he_reading.proofs.RaceTexts.{begins_with_race}

-- want of memory is no fault that what follows may mend
not_memory : (text : List ℕ) (n : ℕ) (kind : TextKind) → MayChange text n kind → kind ≡ kinds.Memory → ⊥
not_memory text n kind may memory =
    elim may [
      | inl unfinished ↦ let wrong : kinds.Unfinished ≡ kinds.Memory = sym unfinished ∙ memory in cc
      | inr fault ↦ let wrong : None ≡ Some fault.word = sym (ap (awaited fault.line) memory) ∙ fault.waits in cc
    ]

-- what is told of a text and may change depends on what follows
goes_on : (text : List ℕ) (line : ℕ) (kind : TextKind) → FailsRecorded text line kind → MayChange text line kind → MayGoOn text
goes_on text line kind (inl memory) may = absurd (not_memory text line kind may memory)
goes_on text line kind (inr is) may = inr (line, kind, is, recorded_changes text line kind is may)

pub AreTexts-append : (IsText : List ℕ → Race → Type 0) (races : List Race) (text : List ℕ) → AreTexts IsText races text
    → (others : List Race) (more : List ℕ) → AreTexts IsText others more → AreTexts IsText (races ++ others) (text ++ more)
AreTexts-append IsText [] text none others more are = subst (λ (t : List ℕ). AreTexts IsText others (t ++ more)) (sym none) are
AreTexts-append IsText (first ∷ races) text are others more more_are =
    (are.0, are.1 ++ more, ap (λ (before : List ℕ). before ++ more) are.2 ∙ append_assoc are.0 are.1 more, are.3, AreTexts-append IsText races are.1 are.4 others more more_are)

pub AreTexts-snoc : (IsText : List ℕ → Race → Type 0) (races : List Race) (text : List ℕ) → AreTexts IsText races text
    → (race : Race) (last : List ℕ) → IsText last race → AreTexts IsText (races ++ race ∷ []) (text ++ last)
AreTexts-snoc IsText races text are race last is = AreTexts-append IsText races text are (race ∷ []) last (last, [], sym (append-nil last), is, refl)

pub line_count-append : (front rest : List ℕ) → line_count (front ++ rest) ≡ line_count front + line_count rest
line_count-append front rest = sum_by-append _ front rest

-- up to the end of a range: up to its start, and the range
take_to : (input : List ℕ) (from end : ℕ) → from ≤ end → take end input ≡ take from input ++ slice_range input from end
take_to input from end le =
    let sum : end ≡ from + (end - from) = omega arith in
    ap (λ (n : ℕ). take n input) sum ∙ take-add from (end - from) input

-- nothing is passed yet
pub none_passed : (bytes : List ℕ) (races lines : ℕ) → HasPassed bytes races lines [] (record { end = 0; races = races; lines = lines })
none_passed bytes races lines = record { within = omega arith; whole = refl; counted = omega arith; lined = omega arith }

-- one more race is passed
pub passes_on : (bytes : List ℕ) (races_before lines_before : ℕ) (races : List Race) (old new : RaceReader) (race : Race)
    → HasPassed bytes races_before lines_before races old → PassesRace bytes old new race
    → HasPassed bytes races_before lines_before (races ++ race ∷ []) new
passes_on bytes races_before lines_before races old new race before passes =
    let front = take old.end bytes in
    let text = slice_range bytes old.end new.end in
    let split : take new.end bytes ≡ front ++ text = take_to bytes old.end new.end (let past = passes.past in omega arith) in
    let Are : List ℕ → Type 0 = AreTexts IsRecordedText (races ++ race ∷ []) in
    let more : line_count (take new.end bytes) ≡ line_count front + line_count text = ap line_count split ∙ line_count-append front text in
    let counted = before.counted in
    let lined = before.lined in
    let one = passes.counted in
    let lines = passes.lined in
    let longer = length-append races (race ∷ []) in
    record {
      within = passes.within;
      whole = subst Are (sym split) (AreTexts-snoc IsRecordedText races front before.whole race text passes.read);
      counted = omega arith;
      lined = omega arith;
    }

-- what an input has that goes on so after the races that are passed
pub has_races : (input more : List ℕ) (is_broken : Bool) (races : List Race) (reader : RaceReader) (fault : Option InputFault)
    → HasPassed input 0 0 races reader → reader.races ≤ most_races
    → IsFaultBehind is_broken reader.races reader.lines (drop reader.end input ++ more) fault → HasRaces (input ++ more) is_broken races fault
has_races input more is_broken races reader fault passed few is =
    let front = take reader.end input in
    let rest = drop reader.end input in
    let count : reader.races ≡ length races = let counted = passed.counted in omega arith in
    let lines : reader.lines ≡ line_count front = let lined = passed.lined in omega arith in
    let Count : ℕ → Type 0 = λ n. IsFaultBehind is_broken n reader.lines (rest ++ more) fault in
    let Lines : ℕ → Type 0 = λ n. IsFaultBehind is_broken (length races) n (rest ++ more) fault in
    record {
      before = front;
      rest = rest ++ more;
      parts = ap (λ (bytes : List ℕ). bytes ++ more) (sym (take-append-drop reader.end input)) ∙ append_assoc front rest more;
      whole = passed.whole;
      few = omega arith;
      fault_is = subst Lines lines (subst Count count is);
    }

-- a fault that isn't want of memory is the text's
told_fault : (text : List ℕ) (line : ℕ) (kind : TextKind) → FailsRecorded text line kind → (kind ≡ kinds.Memory → ⊥) → recorded_fault text ≡ Some (line, kind)
told_fault text line kind (inl memory) other = absurd (other memory)
told_fault text line kind (inr is) other = is

plain_fault : (is_broken : Bool) (lines line : ℕ) (kind : TextKind) → (is_broken ≡ true → kind ≡ kinds.Unfinished → ⊥)
    → fault_behind is_broken lines (line, kind) ≡ Text (record { line = lines + line; kind = kind })
plain_fault false lines line kind other = refl
plain_fault true lines line kinds.Header other = refl
plain_fault true lines line kinds.Word other = refl
plain_fault true lines line kinds.Number other = refl
plain_fault true lines line kinds.Address other = refl
plain_fault true lines line kinds.Prefix other = refl
plain_fault true lines line kinds.Repeated other = refl
plain_fault true lines line kinds.Range other = refl
plain_fault true lines line kinds.TooMany other = refl
plain_fault true lines line kinds.Unfinished other = absurd (other refl refl)
plain_fault true lines line (kinds.Policy fault) other = refl
plain_fault true lines line kinds.Memory other = refl

pub line_small : (rest : List ℕ) (line : ℕ) → IsLineOf rest line → line ≤ length rest + 1
line_small rest line is = let most = is.1 in omega (arith, length-slice_split (λ b. b == 10) rest, count_by-le-length (λ b. b == 10) rest)

-- what is wrong where a reader stops is the fault of an input with these bytes after it, where that fault stands
-- there and is told alike
fault_here : (is_broken breaks : Bool) (races lines : ℕ) (rest more : List ℕ) (fault : TextFault) → IsWrong races rest fault
    → (FailsRecorded rest fault.line fault.kind → recorded_fault (rest ++ more) ≡ Some (fault.line, fault.kind))
    → fault_behind breaks lines (fault.line, fault.kind) ≡ fault_behind is_broken lines (fault.line, fault.kind)
    → IsFaultBehind is_broken races lines (rest ++ more) (Some (fault_behind breaks lines (fault.line, fault.kind)))
fault_here is_broken breaks races lines [] more fault wrong stands alike = let some = wrong.some in absurd (omega arith)
fault_here is_broken breaks races lines (byte ∷ rest) more fault wrong stands alike = elim wrong.cause [
  | inl (most, same) ↦
      let plain = plain_fault breaks lines 1 kinds.TooMany (λ _ is. cc) in
      inl (most, ap (λ (f : TextFault). Some (fault_behind breaks lines (f.line, f.kind))) same ∙ ap (λ (f : InputFault). Some f) plain)
  | inr (few, tells) ↦ inr (few, (fault.line, fault.kind), stands tells, ap (λ (f : InputFault). Some f) alike)
]

-- what is wrong where a reader stops is the fault of each input that goes on so
pub fault_stops : ((text : List ℕ) (line : ℕ) (kind : TextKind) → recorded_fault text ≡ Some (line, kind) → MayChange text line kind ⊎ FaultStands text line kind)
    → (ending : Ending) (races lines : ℕ) (rest : List ℕ) (fault : TextFault) → IsWrong races rest fault → (fault.kind ≡ kinds.Memory → ⊥)
    → (ending ≡ endings.Open → MayChange rest fault.line fault.kind → ⊥) → (more : List ℕ) (is_broken : Bool) → MayFollow ending more is_broken
    → IsFaultBehind is_broken races lines (rest ++ more) (Some (fault_behind (breaks ending) lines (fault.line, fault.kind)))
fault_stops stand endings.Open races lines rest fault wrong other stays more is_broken follows =
    let stands : FailsRecorded rest fault.line fault.kind → recorded_fault (rest ++ more) ≡ Some (fault.line, fault.kind) = λ tells.
    elim (stand rest fault.line fault.kind (told_fault rest fault.line fault.kind tells other)) [
      | inl may ↦ absurd (stays refl may)
      | inr far ↦ far more
    ] in
    let plain : fault_behind is_broken lines (fault.line, fault.kind) ≡ _ = plain_fault is_broken lines fault.line fault.kind (λ _ unfinished. stays refl (inl unfinished)) in
    fault_here is_broken false races lines rest more fault wrong stands (sym plain)
fault_stops stand endings.Whole races lines rest fault wrong other stays more is_broken (none, whole) =
    let same : rest ++ more ≡ rest = ap (λ m. rest ++ m) none ∙ append-nil rest in
    fault_here is_broken false races lines rest more fault wrong (λ tells. ap recorded_fault same ∙ told_fault rest fault.line fault.kind tells other)
    (ap (λ b. fault_behind b lines (fault.line, fault.kind)) (sym whole))
fault_stops stand endings.Broken races lines rest fault wrong other stays more is_broken (none, broken) =
    let same : rest ++ more ≡ rest = ap (λ m. rest ++ m) none ∙ append-nil rest in
    fault_here is_broken true races lines rest more fault wrong (λ tells. ap recorded_fault same ∙ told_fault rest fault.line fault.kind tells other)
    (ap (λ b. fault_behind b lines (fault.line, fault.kind)) (sym broken))

-- an input that breaks off after whole races
pub input_breaks : (races lines : ℕ) (rest : List ℕ) → rest ≡ [] → (more : List ℕ) (is_broken : Bool) → MayFollow endings.Broken more is_broken
    → IsFaultBehind is_broken races lines (rest ++ more) (Some Read)
input_breaks races lines rest nothing more is_broken (none, broken) =
    let P : List ℕ → Type 0 = λ bytes. IsFaultBehind is_broken races lines bytes (Some Read) in
    subst P (sym (ap (λ r. r ++ more) nothing ∙ none)) (ap fault_at_end (sym broken))

-- what follows may mend what stands where a reader stops
pub race_goes_on : (races : ℕ) (rest : List ℕ) (fault : TextFault) → IsWrong races rest fault → MayChange rest fault.line fault.kind → MayGoOn rest
race_goes_on races rest fault wrong may = elim wrong.cause [
  | inl (most, same) ↦ absurd (never fault.kind (ap (λ (f : TextFault). f.kind) same) may)
  | inr (few, tells) ↦ goes_on rest fault.line fault.kind tells may
]
  where
    never : (kind : TextKind) → kind ≡ kinds.TooMany → MayChange rest fault.line kind → ⊥
    never kind is (inl unfinished) = let both : kinds.TooMany ≡ kinds.Unfinished = sym is ∙ unfinished in cc
    never kind is (inr group) = let both : None ≡ Some group.word = sym (ap (awaited group.line) is) ∙ group.waits in cc

-- a race that was read from the place on
pub record PassedHere (bytes : List ℕ) (end next lines : ℕ) (race : Race) : Type 0 where
  pub past : end < next
  pub within : next ≤ length bytes
  pub read : IsRaceText (slice_range bytes end next) race
  pub lined : lines ≡ line_count (slice_range bytes end next)
  pub few : lines + length (drop next bytes) ≤ length (drop end bytes)

pub passed_here : (bytes : List ℕ) (end left lines : ℕ) (race : Race) → end ≤ length bytes → ReadsFirst (take (length bytes - end) (drop end bytes)) race left lines → IsRace race
    → PassedHere bytes end (length bytes - left) lines race
passed_here bytes end left lines race inside read fits =
    let text = drop end bytes in
    let next = length bytes - left in
    let Reads : List ℕ → Type 0 = λ t. ReadsFirst t race left lines in
    let got : ReadsFirst text race left lines = subst Reads (take_rest bytes end) read in
    let at = race_at bytes got.rest race end left inside got.counted got.read fits in
    let split = (begins_with_race text got.rest race got.read fits).split in
    let size : length text ≡ length bytes - end = length-drop end bytes in
    let counted : length got.rest ≡ left = got.counted in
    let past : end < next = at.0 in
    let ends : next ≤ length bytes = at.1 in
    let same : length text - length got.rest ≡ next - end = omega arith in
    let front : List ℕ = slice_range bytes end next in
    let parts : text ≡ front ++ got.rest = split ∙ ap (λ n. take n text ++ got.rest) same in
    let all : line_count text ≡ line_count front + line_count got.rest = ap line_count parts ∙ line_count-append front got.rest in
    let whole : line_count text + 1 ≡ length (lines_of text) = parts_counted 10 text in
    let behind : line_count got.rest + 1 ≡ length (lines_of got.rest) = parts_counted 10 got.rest in
    let passed : lines + length (lines_of got.rest) ≡ length (lines_of text) = got.passed in
    let lined : lines ≡ line_count front = omega arith in
    let few : line_count front ≤ length front = count_by-le-length (λ b. b == 10) front in
    let longer : length text ≡ length front + length got.rest = ap length parts ∙ length-append front got.rest in
    let rest : length (drop next bytes) ≡ length bytes - next = length-drop next bytes in
    record { past = past; within = ends; read = at.2; lined = lined; few = omega arith }

-- a recorded race that was read at the front of a text, with its record
pub recorded_first : (text : List ℕ) (front left before lines : ℕ) (said : List Said) (race : Race) → front ≤ length text → IsRecordText (take front text) said → before ≡ length said
    → ReadsFirst (take (length text - front) (drop front text)) race left lines → IsRace race → ReadsRecorded text said race left (before + lines)
recorded_first text front left before lines said race within told count read fits =
    let here = passed_here text front left lines race within read fits in
    let end : ℕ = length text - left in
    let past : front < end = here.past in
    let split : take end text ≡ take front text ++ slice_range text front end = take_to text front end (omega arith) in
    let all : line_count (take end text) ≡ line_count (take front text) + line_count (slice_range text front end) = ap line_count split ∙ line_count-append (take front text) (slice_range text front end) in
    let first : line_count (take front text) ≡ length said = record_lines (take front text) said told in
    let second : lines ≡ line_count (slice_range text front end) = here.lined in
    record {
      shorter = omega arith;
      is = record { front = take front text; rest = slice_range text front end; parts = split; told = told; is = here.read };
      lined = omega arith;
    }

-- the faults of a reading
pub record_fails : (text : List ℕ) (line : ℕ) (kind : TextKind) → FailsFront text line kind → FailsRecorded text line kind
record_fails text line kind (inl memory) = inl memory.0
record_fails text line kind (inr is) = inr (ap fault_after is)

pub race_fails : (text : List ℕ) (front before line : ℕ) (said : List Said) (kind : TextKind) → ReadsFront text said front → before ≡ length said
    → TellsFault line kind (fault_of (drop front text)) → FailsRecorded text (before + line) kind
race_fails text front before line said kind read count (inl memory) = inl memory.0
race_fails text front before line said kind read count (inr is) =
    inr (ap fault_after read ∙ ap (option_map (lines_on (length said))) is ∙ ap (λ (n : ℕ). Some (n + line, kind)) (sym count))

pub line_on : (text : List ℕ) (front before line : ℕ) (said : List Said) → IsRecordText (take front text) said → before ≡ length said → IsLineOf (drop front text) line → IsLineOf text (before + line)
line_on text front before line said told count (some, most) =
    let all : lines_of text ≡ told.lines ++ lines_of (drop front text) =
    ap lines_of (sym (take-append-drop front text)) ∙ behind_lines (take front text) (drop front text) told.lines told.parts in
    let size : length (lines_of text) ≡ length told.lines + length (lines_of (drop front text)) = ap length all ∙ length-append told.lines (lines_of (drop front text)) in
    let same : length told.lines ≡ length said = as_many told.lines said told.are.say in
    (omega arith, omega arith)

-- a recorded race that was read from the place on
pub record RecordedHere (bytes : List ℕ) (end next lines : ℕ) (said : List Said) (race : Race) : Type 0 where
  pub past : end < next
  pub within : next ≤ length bytes
  pub read : IsRecordedAs (slice_range bytes end next) said race
  pub lined : lines ≡ line_count (slice_range bytes end next)
  pub few : lines + length (drop next bytes) ≤ length (drop end bytes)

pub recorded_here : (bytes : List ℕ) (end left lines : ℕ) (said : List Said) (race : Race) → end ≤ length bytes → ReadsRecorded (take (length bytes - end) (drop end bytes)) said race left lines
    → RecordedHere bytes end (length bytes - left) lines said race
recorded_here bytes end left lines said race inside read =
    let text = drop end bytes in
    let next = length bytes - left in
    let Reads : List ℕ → Type 0 = λ t. ReadsRecorded t said race left lines in
    let got : ReadsRecorded text said race left lines = subst Reads (take_rest bytes end) read in
    let size : length text ≡ length bytes - end = length-drop end bytes in
    let shorter : left < length text = got.shorter in
    let count : length text - left ≡ next - end = omega arith in
    let As : ℕ → Type 0 = λ n. IsRecordedAs (take n text) said race in
    let lined : lines ≡ line_count (slice_range bytes end next) = got.lined ∙ ap (λ (n : ℕ). line_count (take n text)) count in
    let few : line_count (slice_range bytes end next) ≤ length (slice_range bytes end next) = count_by-le-length (λ b. b == 10) (slice_range bytes end next) in
    let long : length (slice_range bytes end next) ≡ next - end = length-take-le (next - end) text (omega arith) in
    let rest : length (drop next bytes) ≡ length bytes - next = length-drop next bytes in
    record { past = omega arith; within = omega arith; read = subst As count got.is; lined = lined; few = omega arith }

-- so many lines
pub lines_said : (lines : List RecordLine) (said : List Said) → map said_of lines ≡ said → length lines ≡ length said
lines_said lines said same = sym (length-map lines said_of) ∙ ap length same

pub few_lines : (text : List ℕ) (said : List Said) (race : Race) (left lines : ℕ) → ReadsRecorded text said race left lines → lines ≤ length text
few_lines text said race left lines read =
    let front : List ℕ = take (length text - left) text in
    let few : line_count front ≤ length front = count_by-le-length (λ b. b == 10) front in
    let size : length front ≡ length text - left = length-take-le (length text - left) text (omega arith) in
    let lined : lines ≡ line_count front = read.lined in
    omega arith

-- a reader that found no race stands where it was
pub none_found : {F : Type 0} (race_in : F → Race) (result : Result (Option F) RaceReaderFault) (bytes rest : List ℕ) (ending : Ending) (reader : RaceReader) → rest ≡ drop reader.end bytes
    → IfOk result (λ found. (found ≡ None) × EndsAt ending rest) → IfOk result (λ found. IsNextOf bytes ending reader reader (option_map race_in found))
none_found race_in (Ok (Some found)) bytes rest ending reader same is = let wrong = is.0 in cc
none_found race_in (Ok None) bytes rest ending reader same is = (refl, subst (EndsAt ending) same is.1)
none_found race_in (Err fault) bytes rest ending reader same is = tt

pub fault_found : {F : Type 0} (result : Result (Option F) RaceReaderFault) (bytes rest : List ℕ) (ending : Ending) (reader : RaceReader) → rest ≡ drop reader.end bytes
    → IfErr result (IsReaderFault rest ending (record reader { end = 0 })) → IfErr result (IsReaderFault bytes ending reader)
fault_found (Ok found) bytes rest ending reader same is = tt
fault_found (Err faults.Memory) bytes rest ending reader same is = tt
fault_found (Err (faults.Input fault)) bytes rest ending reader same is = λ more is_broken follows.
    let Rest : List ℕ → Type 0 = λ text. IsFaultBehind is_broken reader.races reader.lines (text ++ more) (Some fault) in
    subst Rest same (is more is_broken follows)

-- what an input has that is all there
has_all : (input : List ℕ) (is_broken : Bool) (races : List Race) (reader : RaceReader) (fault : Option InputFault)
    → HasPassed input 0 0 races reader → reader.races ≤ most_races → IsFaultBehind is_broken reader.races reader.lines (drop reader.end input ++ []) fault
    → HasRaces input is_broken races fault
has_all input is_broken races reader fault passed few is =
    let P : List ℕ → Type 0 = λ bytes. HasRaces bytes is_broken races fault in
    subst P (append-nil input) (has_races input [] is_broken races reader fault passed few is)

nothing_follows : (is_broken : Bool) → MayFollow (ending_of is_broken) [] is_broken
nothing_follows true = (refl, refl)
nothing_follows false = (refl, refl)

-- a fault with which a reader of an input stops that is all there
pub has_fault : (input : List ℕ) (is_broken : Bool) (races : List Race) (reader : RaceReader) (fault : InputFault)
    → HasPassed input 0 0 races reader → reader.races ≤ most_races → IsReaderFault input (ending_of is_broken) reader (faults.Input fault)
    → HasRaces input is_broken races (Some fault)
has_fault input is_broken races reader fault passed few is = has_all input is_broken races reader (Some fault) passed few (is [] is_broken (nothing_follows is_broken))

-- a reader came to the end of an input that is all there
pub has_none : (input : List ℕ) (is_broken : Bool) (races : List Race) (reader : RaceReader)
    → HasPassed input 0 0 races reader → reader.races ≤ most_races → EndsAt (ending_of is_broken) (drop reader.end input)
    → HasRaces input is_broken races None
has_none input true races reader passed few ends = absurd ends
has_none input false races reader passed few ends =
    let P : List ℕ → Type 0 = λ rest. IsFaultBehind false reader.races reader.lines rest None in
    has_all input false races reader None passed few (subst P (sym (ap (λ r. r ++ []) ends)) refl)

-- the end of an input that is all there is its last byte
pub ends_whole : (bytes : List ℕ) (end : ℕ) (is_broken : Bool) → end ≤ length bytes → EndsAt (ending_of is_broken) (drop end bytes) → end ≡ length bytes
ends_whole bytes end true inside ends = absurd ends
ends_whole bytes end false inside ends = let none : length bytes - end ≡ 0 = sym (length-drop end bytes) ∙ ap length ends in omega arith

pub fault_not_one : (input : List ℕ) (is_broken : Bool) (races : List Race) (reader : RaceReader) (fault : RaceReaderFault) → HasPassed input 0 0 races reader → reader.races ≤ most_races
    → IsReaderFault input (ending_of is_broken) reader fault → IsNotOne input is_broken (not_one fault)
fault_not_one input is_broken races reader (faults.Input fault) passed few is = (races, has_fault input is_broken races reader fault passed few is)
fault_not_one input is_broken races reader faults.Memory passed few is = tt

pub err_handed : {A E : Type 0} (r : Result A E) (e : E) (Wrong : E → Type 0) → IsErr r × IsErrAnd r (λ k. k ≡ e) → Wrong e → IfErr r Wrong
err_handed (Ok x) e Wrong told wrong = tt
err_handed (Err k) e Wrong told wrong = subst Wrong (sym told.1) wrong

-- a fault that is handed on
pub handed : {A E : Type 0} (Tells : Result A E → Type 0) (r : Result A E) (e : E) → IsErr r × IsErrAnd r (λ k. k ≡ e) → Tells (Err e) → Tells r
handed Tells (Ok x) e told tells = absurd told.1
handed {E} Tells (Err k) e told tells = subst (λ (f : E). Tells (Err f)) (sym told.1) tells

-- one more race after the first one
pub more_behind : (input : List ℕ) (first old new : RaceReader) (race : Race) → HasFirst input first old → IsWithin input new → PassesRace input old new race → HasFirst input first new
more_behind input first old new race before within passes =
    let some : 1 ≤ old.races = before.some in
    let one : new.races ≡ old.races + 1 = passes.counted in
    record {
      races = before.races ++ race ∷ [];
      passed = passes_on input 0 0 before.races old new race before.passed passes;
      within = within;
      some = omega arith;
      alone = λ alone. absurd (omega arith);
    }

-- the first race of an input
pub first_passed : (input : List ℕ) (new : RaceReader) (race : Race) → IsWithin input new → PassesRace input (record { end = 0; races = 0; lines = 0 }) new race
    → HasPassed input 0 0 (race ∷ []) new × HasFirst input new new
first_passed input new race within passes =
    let passed = passes_on input 0 0 [] (record { end = 0; races = 0; lines = 0 }) new race (none_passed input 0 0) passes in
    let one : new.races ≡ 0 + 1 = passes.counted in
    (passed, record { races = race ∷ []; passed = passed; within = within; some = omega arith; alone = λ _. refl })

-- no race was answered
pub none_behind : (input : List ℕ) (is_broken : Bool) (old new : RaceReader) (found : Option Race) → IsNextOf input (ending_of is_broken) old new found
    → ((race : Race) → found ≡ Some race → ⊥) → (new ≡ old) × EndsAt (ending_of is_broken) (drop old.end input)
none_behind input is_broken old new None ends none = ends
none_behind input is_broken old new (Some race) passes none = absurd (none race refl)
