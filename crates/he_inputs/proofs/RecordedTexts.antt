-- Races with their record lines: a text that begins with one begins with no other, and is cut after its record.
use Rattle.std.proofs.Common.{◌≡◌, ℕ, ◌+◌, ◌<◌, false, List, [], ◌∷◌, ◌++◌, length, Option, Some, None, Result, Ok, Err, refl, sym, ◌∙◌, ap, subst, arith, append_assoc, drop, length-append}
use Rattle.std.specs.Prelude.{◌↔◌, option_map}
use Rattle.std.specs.List.{AllByRecursion, join_with_byte}
use Rattle.std.proofs.lemmas.List.{append-nil, append_cancel_right}
use Rattle.std.proofs.lemmas.List.Splits.{join_with_byte-slice_split}
use Rattle.he_timeline.specs.Race.{Race}
use Rattle.he_words.specs.declared.fault.TextKind.{TextKind}
use Rattle.he_reading.specs.FaultSearch.{fault_in, fault_of}
use Rattle.he_reading.specs.Parts.{lines_of}
use Rattle.he_reading.specs.Text.{BeginsWithRace, IsRaceText}
use Rattle.he_reading.proofs.PartLaws.{Lacks, front_lacks, join_behind, joined_parts, lacks_more, parts_counted, parts_lack}
use Rattle.he_record.specs.FrontSearch.{Front, ReadsFront, front_of}
use Rattle.he_record.specs.Fronts.{BeginsWithRecord, goes_on}
use Rattle.he_record.specs.Said.{Said}
use Rattle.he_record.specs.Text.{IsRecordText}
use Rattle.he_record.proofs.FrontLaws.{as_many, found_begins, stops}
use Rattle.he_record.proofs.Stands.{race_is_no_record, record_passes, some_parts}
use Rattle.he_inputs.specs.Inputs.{line_count}
use Rattle.he_inputs.specs.Recorded.{BeginsRecorded, IsRecordedAs, IsRecordedText, fault_after, lines_on, recorded_fault}

-- where a right record ends, what follows it decides
pub past_record : (front rest : List ℕ) (said : List Said) → IsRecordText front said → goes_on (lines_of rest) ≡ false → recorded_fault (front ++ rest) ≡ option_map (lines_on (length said)) (fault_of rest)
past_record front rest said told ends = ap fault_after (record_passes front rest said told ∙ stops (length said + 1) said (lines_of rest) ends)

-- a record has as many lines as it says
pub record_lines : (front : List ℕ) (said : List Said) → IsRecordText front said → line_count front ≡ length said
record_lines front said told =
    let all : line_count front + 1 ≡ length (lines_of front) = parts_counted 10 front in
    let size : length (lines_of front) ≡ length told.lines + 1 = ap length told.parts ∙ length-append told.lines ([] ∷ []) in
    let same : length told.lines ≡ length said = as_many told.lines said told.are.say in
    omega arith

-- a text, cut after its record
pub record IsCut (text : List ℕ) (said : List Said) (left : List (List ℕ)) : Type 0 where
  pub lines : List (List ℕ)
  pub front : List ℕ
  pub rest : List ℕ
  pub parts : text ≡ front ++ rest
  pub told : IsRecordText front said
  pub all : lines_of text ≡ lines ++ lines_of rest
  pub count : length lines ≡ length said
  pub behind : lines_of rest ≡ left

rest_lacks : (front behind : List (List ℕ)) → AllByRecursion (Lacks 10) (front ++ behind) → AllByRecursion (Lacks 10) behind
rest_lacks [] behind all = all
rest_lacks (part ∷ front) behind all = rest_lacks front behind all.1

pub joined : (front : List (List ℕ)) (line : List ℕ) (after : List (List ℕ)) → join_with_byte 10 (front ++ line ∷ after) ≡ join_with_byte 10 (front ++ [] ∷ []) ++ join_with_byte 10 (line ∷ after)
joined [] line after = refl
joined (part ∷ front) line after =
    join_behind 10 part front line after
    ∙ sym (append_assoc (join_with_byte 10 (part ∷ front)) (10 ∷ []) (join_with_byte 10 (line ∷ after)))
    ∙ ap (λ (t : List ℕ). t ++ join_with_byte 10 (line ∷ after)) (sym (join_behind 10 part front [] []))

front_again : (front : List (List ℕ)) → AllByRecursion (Lacks 10) front → lines_of (join_with_byte 10 (front ++ [] ∷ [])) ≡ front ++ [] ∷ []
front_again [] lack = refl
front_again (part ∷ front) lack = joined_parts 10 part (front ++ [] ∷ []) (lacks_more 10 (part ∷ front) [] lack tt)

pub cut_record : (text : List ℕ) (said : List Said) (left : List (List ℕ)) → BeginsWithRecord text said left → IsCut text said left
cut_record text said left is = by_left left is.parts is.some
  where
    by_left : (behind : List (List ℕ)) → lines_of text ≡ is.lines ++ behind → 0 < length behind → IsCut text said behind
    by_left [] parts some = absurd (omega arith)
    by_left (line ∷ after) parts some =
        let lack : AllByRecursion (Lacks 10) (is.lines ++ line ∷ after) = subst (AllByRecursion (Lacks 10)) parts (parts_lack 10 text) in
        let again : lines_of (join_with_byte 10 (line ∷ after)) ≡ line ∷ after = joined_parts 10 line after (rest_lacks is.lines (line ∷ after) lack) in
        record {
          lines = is.lines;
          front = join_with_byte 10 (is.lines ++ [] ∷ []);
          rest = join_with_byte 10 (line ∷ after);
          parts = sym (join_with_byte-slice_split 10 text) ∙ ap (join_with_byte 10) parts ∙ joined is.lines line after;
          told = record { lines = is.lines; parts = front_again is.lines (front_lacks 10 is.lines (line ∷ after) lack); are = is.are };
          all = parts ∙ ap (λ ls. is.lines ++ ls) (sym again);
          count = as_many is.lines said is.are.say;
          behind = again;
        }

-- the text that goes on where the record ends
pub cut_more : (text more : List ℕ) (said : List Said) (left : List (List ℕ)) → (cut : IsCut text said left) → text ++ more ≡ cut.front ++ (cut.rest ++ more)
cut_more text more said left cut = ap (λ t. t ++ more) cut.parts ∙ append_assoc cut.front cut.rest more

-- what a recorded race's text begins with
pub race_parts : (text more : List ℕ) (said : List Said) (race : Race) → (is : IsRecordedAs text said race) → text ++ more ≡ is.front ++ (is.rest ++ more)
race_parts text more said race is = ap (λ t. t ++ more) is.parts ∙ append_assoc is.front is.rest more

race_front : (text more : List ℕ) (said : List Said) (race : Race) → (is : IsRecordedAs text said race) → front_of (text ++ more) ≡ Ok (record { said = said; left = lines_of (is.rest ++ more) })
race_front text more said race is =
    ap front_of (race_parts text more said race is)
    ∙ record_passes is.front (is.rest ++ more) said is.told
    ∙ stops (length said + 1) said (lines_of (is.rest ++ more)) (race_is_no_record is.rest more race is.is)

-- the search finds the record of a race's text
pub recorded_found : (text : List ℕ) (said : List Said) (race : Race) → (is : IsRecordedAs text said race) → front_of text ≡ Ok (record { said = said; left = lines_of is.rest })
recorded_found text said race is =
    ap front_of is.parts
    ∙ record_passes is.front is.rest said is.told
    ∙ stops (length said + 1) said (lines_of is.rest) (ap (λ (t : List ℕ). goes_on (lines_of t)) (sym (append-nil is.rest)) ∙ race_is_no_record is.rest [] race is.is)

-- what was read of a race's text is its record
pub read_is_said : (text : List ℕ) (told : List Said) (end : ℕ) → ReadsFront text told end → (said : List Said) (race : Race) → IsRecordedAs text said race → told ≡ said
read_is_said text told end reads said race is =
    let same : record { said = told; left = lines_of (drop end text) } ≡ record { said = said; left = lines_of is.rest } = cc (reads, recorded_found text said race is) in
    ap (λ (f : Front). f.said) same

lines_alike : (text other : List ℕ) → lines_of text ≡ lines_of other → text ≡ other
lines_alike text other same = sym (join_with_byte-slice_split 10 text) ∙ ap (join_with_byte 10) same ∙ join_with_byte-slice_split 10 other

-- the recorded race with which a text begins is one, and so is what its record says
pub one_recorded_first : ((front rest other_front other_rest : List ℕ) (race other : Race) → IsRaceText front race → IsRaceText other_front other → front ++ rest ≡ other_front ++ other_rest → (front ≡ other_front) × (race ≡ other))
    → (front rest other_front other_rest : List ℕ) (race other : Race) → IsRecordedText front race → IsRecordedText other_front other → front ++ rest ≡ other_front ++ other_rest
    → (front ≡ other_front) × (race ≡ other)
one_recorded_first one_first front rest other_front other_rest race other (said, is) (other_said, also) same =
    let found : record { said = said; left = lines_of (is.rest ++ rest) } ≡ record { said = other_said; left = lines_of (also.rest ++ other_rest) } =
    cc (race_front front rest said race is, ap front_of same, race_front other_front other_rest other_said other also) in
    let behind : is.rest ++ rest ≡ also.rest ++ other_rest = lines_alike (is.rest ++ rest) (also.rest ++ other_rest) (ap (λ (f : Front). f.left) found) in
    let one = one_first is.rest rest also.rest other_rest race other is.is also.is behind in
    let all : is.front ++ (is.rest ++ rest) ≡ also.front ++ (is.rest ++ rest) =
    sym (race_parts front rest said race is) ∙ same ∙ race_parts other_front other_rest other_said other also ∙ ap (λ t. also.front ++ t) (sym behind) in
    let record_is : is.front ≡ also.front = append_cancel_right is.front also.front (is.rest ++ rest) all in
    (is.parts ∙ ap (λ f. f ++ is.rest) record_is ∙ ap (λ r. also.front ++ r) one.0 ∙ sym also.parts, one.1)

-- a text begins with a recorded race exactly where nothing is wrong with it
none_on : (lines : ℕ) (fault : Option (ℕ × TextKind)) → option_map (lines_on lines) fault ≡ None → fault ≡ None
none_on lines None h = refl
none_on lines (Some fault) h = cc

pub begins_recorded : ((text : List ℕ) → BeginsWithRace text ↔ (fault_of text ≡ None)) → (text : List ℕ) → BeginsRecorded text ↔ (recorded_fault text ≡ None)
begins_recorded begins text = (right, back)
  where
    right : BeginsRecorded text → recorded_fault text ≡ None
    right (front, rest, race, parts, (said, is)) =
        let none : fault_of (is.rest ++ rest) ≡ None = (begins (is.rest ++ rest)).0 (is.rest, rest, race, refl, is.is) in
        ap recorded_fault (parts ∙ race_parts front rest said race is)
        ∙ past_record is.front (is.rest ++ rest) said is.told (race_is_no_record is.rest rest race is.is)
        ∙ ap (option_map (lines_on (length said))) none

    by_front : (found : Result Front (ℕ × TextKind)) → front_of text ≡ found → fault_after found ≡ None → BeginsRecorded text
    by_front (Err fault) e none = cc
    by_front (Ok front) e none =
        let is = found_begins text front.said front.left (some_parts 10 text) e in
        let cut = cut_record text front.said front.left is in
        let right : fault_of cut.rest ≡ None = ap fault_in cut.behind ∙ none_on (length front.said) (fault_in front.left) none in
        let first = (begins cut.rest).1 right in (
          cut.front ++ first.0,
          first.1,
          first.2,
          cut.parts ∙ ap (λ r. cut.front ++ r) first.3 ∙ sym (append_assoc cut.front first.0 first.1),
          (front.said, record { front = cut.front; rest = first.0; parts = refl; told = cut.told; is = first.4 }),
        )

    back : recorded_fault text ≡ None → BeginsRecorded text
    back none = by_front (front_of text) refl none
