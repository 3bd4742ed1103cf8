-- An input has one list of races and one fault, and one output where each race has one text.
use Rattle.std.proofs.Common.{ℕ, ◌≡◌, ◌++◌, List, Bool, true, Option, ap, sym, ◌∙◌, subst, true≢false}
use Rattle.he_timeline.specs.Changes.{ChangeValues, changed}
use Rattle.he_timeline.specs.Race.{Race}
use Rattle.he_plan.specs.Transcript.{Report, IsTranscript}
use Rattle.he_inputs.specs.declared.input_fault.InputFault.{InputFault}
use Rattle.he_inputs.specs.Inputs.{HasRaces}
use Rattle.he_inputs.specs.Recorded.{IsRecordedText}
use Rattle.he_json.specs.Documents.{Spot}
use Rattle.he_record.specs.Said.{Said}
use Rattle.he_write.specs.Written.{transcript_text}
use Rattle.he_streaming.specs.declared.race_texts.Content.{Content}
use Rattle.he_streaming.specs.declared.race_texts.Content.TheVariants as contents
use Rattle.he_streaming.specs.Output.{AreTold, IsOutput, IsTextOf, IsTextWith, is_exact}
use Rattle.he_streaming.proofs.RaceTexts.{one_told}

module _
    (one_input : (input : List ℕ) (is_broken : Bool) (races others : List Race) (fault other_fault : Option InputFault) → HasRaces input is_broken races fault → HasRaces input is_broken others other_fault → (races ≡ others) × (fault ≡ other_fault))
    (one_transcript : (race : Race) (x y : Report) → IsTranscript race x → IsTranscript race y → x ≡ y)
    (one_race_first : (front rest other_front other_rest : List ℕ) (race other : Race) → IsRecordedText front race → IsRecordedText other_front other → front ++ rest ≡ other_front ++ other_rest → (front ≡ other_front) × (race ≡ other))
  where
    one_text : (content : Content) → is_exact content ≡ true → (spot : Spot) (said other_said : List Said) (race : Race) (text other : List ℕ) → IsTextOf content spot text said race → IsTextOf content spot other other_said race → text ≡ other
    one_text contents.Transcript exact spot said other_said race text other (report, is, written) (other_report, other_is, other_written) =
        written ∙ ap transcript_text (one_transcript race report other_report is other_is) ∙ sym other_written
    one_text contents.Order exact spot said other_said race text other is other_is = is ∙ sym other_is
    one_text contents.TranscriptJson exact spot said other_said race text other is other_is = absurd (true≢false (sym exact))
    one_text contents.OrderJson exact spot said other_said race text other is other_is = absurd (true≢false (sym exact))
    one_text (contents.Course printer) exact spot said other_said race text other is other_is = absurd (true≢false (sym exact))

    pub one_output : (content : Content) (changes : ChangeValues) (file : Option (List ℕ)) (input : List ℕ) (is_broken : Bool) (text other : List ℕ) (fault other_fault : Option InputFault)
        → (output : IsOutput (IsTextWith content changes file) input is_broken text fault) → (same : IsOutput (IsTextWith content changes file) input is_broken other other_fault)
        → (output.races ≡ same.races) × (fault ≡ other_fault) × (is_exact content ≡ true → text ≡ other)
    one_output content changes file input is_broken text other fault other_fault x y =
        let same = one_input input is_broken x.races y.races fault other_fault x.has y.has in
        let Told : List Race → Type 0 = λ races. AreTold (IsTextWith content changes file) 1 1 races x.has.before text in (
          same.0,
          same.1,
          λ exact. one_told (IsTextWith content changes file) (λ number line said other_said race. one_text content exact (record { file = file; number = number; line = line }) said other_said (changed changes race)) one_race_first 1 1 y.races
              x.has.before x.has.rest y.has.before y.has.rest text other (sym x.has.parts ∙ y.has.parts) (subst Told same.0 x.told) y.told,
        )
