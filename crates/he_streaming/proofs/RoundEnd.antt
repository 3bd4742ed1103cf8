-- Races that were told as a reader passed them.
use Rattle.std.proofs.Common.{ℕ, ◌≡◌, ◌+◌, ◌-◌, ◌≤◌, ◌^◌, ◌++◌, ◌==◌, ◌∙◌, List, [], ◌∷◌, take, drop, length, sym, ap, subst, refl, arith, length-append, length-drop, length-take, take-take}
use Rattle.std.specs.List.{slice_range}
use Rattle.std.proofs.lemmas.List.{append-nil}
use Rattle.std.proofs.lemmas.List.Sums.{count_by-le-length}
use Rattle.std.proofs.Math.Seq.{take-add}
use Rattle.he_timeline.specs.Race.{Race}
use Rattle.he_record.specs.Said.{Said}
use Rattle.he_inputs.specs.declared.race_reader.Ending.{Ending}
use Rattle.he_inputs.specs.declared.race_reader.RaceReader.{RaceReader}
use Rattle.he_inputs.specs.Inputs.{line_count}
use Rattle.he_words.specs.Ranges.{most_races}
use Rattle.he_inputs.specs.RaceReading.{IsWithin, PassesRace}
use Rattle.he_inputs.specs.Recorded.{IsRecordedAs}
use Rattle.he_inputs.proofs.RaceReadingLaws.{line_count-append}
use Rattle.he_streaming.specs.declared.rounds.RoundEnd.{RoundEnd}
use Rattle.he_streaming.specs.Output.{AreTold, TextRelation}
use Rattle.he_streaming.specs.Pieces.{IsAnywhere}
use Rattle.he_streaming.specs.Rounds.{HasTold, Tells, TellsOn, WritesText}
use Rattle.he_streaming.proofs.RaceTexts.{AreTold-append, told_anywhere, told_at}

-- up to the end of a range: up to its start, and the range
take_to : (bytes : List ℕ) (from end : ℕ) → from ≤ end → take end bytes ≡ take from bytes ++ slice_range bytes from end
take_to bytes from end le =
    let sum : end ≡ from + (end - from) = omega arith in
    ap (λ (n : ℕ). take n bytes) sum ∙ take-add from (end - from) bytes

-- nothing is told yet
pub none_told : (IsText : TextRelation) (bytes : List ℕ) (reader : RaceReader) (text : List ℕ) → reader.end ≡ 0 → reader.races ≤ most_races → text ≡ []
    → HasTold IsText bytes reader.races reader.lines text reader
none_told IsText bytes reader text front few none =
    let lines : line_count (take reader.end bytes) ≡ 0 = ap (λ (n : ℕ). line_count (take n bytes)) front in
    record {
      races = [];
      within = omega arith;
      told = (ap (λ (n : ℕ). take n bytes) front, none);
      counted = omega arith;
      few = few;
      lined = omega arith;
    }

-- one race more
pub one_more_told : (IsText : TextRelation) (bytes from text new : List ℕ) (begun reader next : RaceReader) (said : List Said) (race : Race)
    → TellsOn IsText bytes begun from text reader → PassesRace bytes reader next race → IsRecordedAs (slice_range bytes reader.end next.end) said race → next.races ≤ most_races
    → WritesText (λ told. IsText (reader.races + 1) (reader.lines + 1) told said race) text new → TellsOn IsText bytes begun from new next
one_more_told IsText bytes from text new begun reader next said race on passes recorded few written = λ races lines before.
    let told = on races lines before in
    let front = take reader.end bytes in
    let own = slice_range bytes reader.end next.end in
    let split : take next.end bytes ≡ front ++ own = take_to bytes reader.end next.end (let past = passes.past in omega arith) in
    let more : line_count (take next.end bytes) ≡ line_count front + line_count own = ap line_count split ∙ line_count-append front own in
    let counted = told.counted in
    let lined = told.lined in
    let one = passes.counted in
    let line_ends = passes.lined in
    let longer = length-append told.races (race ∷ []) in
    let Bytes : List ℕ → Type 0 = λ b. AreTold IsText (races + 1) (lines + 1) (told.races ++ race ∷ []) b new in
    let Text : List ℕ → Type 0 = λ t. AreTold IsText (races + 1) (lines + 1) (told.races ++ race ∷ []) (front ++ own) t in
    let last : AreTold IsText (reader.races + 1) (reader.lines + 1) (race ∷ []) own written.told =
    (own, [], sym (append-nil own), (said, recorded), written.told, [], sym (append-nil written.told), written.is_told, (refl, refl)) in
    let placed = told_at IsText (race ∷ []) own written.told _ _ (races + 1 + length told.races) (lines + 1 + line_count front) (omega arith) (omega arith) last in
    record {
      races = told.races ++ race ∷ [];
      within = passes.within;
      told = subst Bytes (sym split) (subst Text (sym written.appended) (AreTold-append IsText _ _ told.races front text told.told (race ∷ []) own written.told placed));
      counted = omega arith;
      few = few;
      lined = omega arith;
    }

-- races more that were told from there on, whatever stood before them
pub more_told : (IsText : TextRelation) → IsAnywhere IsText → (bytes text other : List ℕ) (races lines : ℕ) (reader piece next : RaceReader) → HasTold IsText bytes races lines text reader
    → HasTold IsText (drop reader.end bytes) 0 0 other piece → next ≡ record { end = reader.end + piece.end; races = reader.races + piece.races; lines = reader.lines + piece.lines }
    → reader.races + piece.races ≤ most_races → HasTold IsText bytes races lines (text ++ other) next
more_told IsText anywhere bytes text other races lines reader piece next told on joined few =
    let RoundEnd : RaceReader → Type 0 = HasTold IsText bytes races lines (text ++ other) in
    let front = take reader.end bytes in
    let behind = take piece.end (drop reader.end bytes) in
    let split : take (reader.end + piece.end) bytes ≡ front ++ behind = take-add reader.end piece.end bytes in
    let Are : List ℕ → Type 0 = λ b. AreTold IsText (races + 1) (lines + 1) (told.races ++ on.races) b (text ++ other) in
    let count : line_count (take (reader.end + piece.end) bytes) ≡ line_count front + line_count behind = ap line_count split ∙ line_count-append front behind in
    let longer = length-append told.races on.races in
    let within = told.within in
    let beyond = on.within in
    let counted = told.counted in
    let counted_on = on.counted in
    let lined = told.lined in
    let lined_on = on.lined in
    let moved = told_anywhere IsText anywhere _ _ (races + 1 + length told.races) (lines + 1 + line_count front) on.races behind other on.told in
    subst RoundEnd (sym joined) (record {
      races = told.races ++ on.races;
      within = omega (arith, length-drop {A = ℕ});
      told = subst Are (sym split) (AreTold-append IsText _ _ told.races front text told.told on.races behind other moved);
      counted = omega arith;
      few = few;
      lined = omega arith;
    })

-- more bytes may follow
pub longer_told : (IsText : TextRelation) (bytes text : List ℕ) (size races lines : ℕ) (reader : RaceReader) → HasTold IsText (take size bytes) races lines text reader
    → HasTold IsText bytes races lines text reader
longer_told IsText bytes text size races lines reader told =
    let within = told.within in
    let same : take reader.end (take size bytes) ≡ take reader.end bytes = take-take reader.end size bytes (omega (arith, within, length-take {A = ℕ})) in
    let Are : List ℕ → Type 0 = λ front. AreTold IsText (races + 1) (lines + 1) told.races front text in
    let Lined : List ℕ → Type 0 = λ front. reader.lines ≡ lines + line_count front in
    record {
      races = told.races;
      within = omega (arith, within, length-take {A = ℕ});
      told = subst Are same told.told;
      counted = told.counted;
      few = told.few;
      lined = subst Lined same told.lined;
    }

-- where the reader stopped after what was told
pub told_by : (IsText : TextRelation) (ending : Ending) (bytes same old new : List ℕ) (races lines : ℕ) (begun reader : RaceReader) (told : RoundEnd) → same ≡ bytes
    → HasTold IsText bytes races lines old begun → Tells IsText ending same begun old new told → reader ≡ told.reader → HasTold IsText bytes races lines new reader
told_by IsText ending bytes same old new races lines begun reader told is before tells stopped =
    let On : List ℕ → Type 0 = λ b. TellsOn IsText b begun old new told.reader in
    subst (HasTold IsText bytes races lines new) (sym stopped) (subst On is tells.on races lines before)

-- there are no more lines than bytes
pub told_lines : (IsText : TextRelation) (bytes text : List ℕ) (races lines : ℕ) (reader : RaceReader) → HasTold IsText bytes races lines text reader → reader.lines ≤ lines + reader.end
told_lines IsText bytes text races lines reader told =
    let lined = told.lined in
    let few = count_by-le-length (λ byte. byte == 10) (take reader.end bytes) in
    omega (arith, lined, few, length-take {A = ℕ})

pub within_told : (IsText : TextRelation) (bytes text : List ℕ) (races lines : ℕ) (reader : RaceReader) → HasTold IsText bytes races lines text reader
    → lines + length bytes ≤ 2 ^ 63 → IsWithin bytes reader
within_told IsText bytes text races lines reader told most =
    let few = told_lines IsText bytes text races lines reader told in
    let place = told.within in
    record { place = place; few = told.few; room = omega (arith, few, place, most, length-drop {A = ℕ}) }
