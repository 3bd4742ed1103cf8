-- A stream after one race more, and where it ends.
use Rattle.std.proofs.Common.{ℕ, ◌≡◌, ◌≢◌, ◌+◌, ◌-◌, ◌<◌, ◌≤◌, ◌++◌, ◌∙◌, Bool, true, false, List, [], ◌∷◌, length, drop, eqb, Option, Some, None, Result, Ok, Err, ap, append_assoc, sym, subst, refl, arith, inl, inr, length-append, take-append-drop}
use Rattle.std.specs.List.{slice_range}
use Rattle.std.proofs.lemmas.List.{append-nil, drop-drop}
use Rattle.std.proofs.lemmas.List.Sums.{count_by-le-length}
use Rattle.he_timeline.specs.Race.{Race}
use Rattle.he_inputs.specs.Recorded.{IsRecordedText}
use Rattle.he_words.specs.Ranges.{most_races}
use Rattle.he_words.specs.declared.fault.TextFault.{TextFault}
use Rattle.he_stream.specs.declared.stream.InputStream as inputs
use Rattle.he_stream.specs.Input.{Gives, GivesSoFar}
use Rattle.he_stream.specs.Limits.{most_reads}
use Rattle.he_inputs.specs.declared.input_fault.InputFault.{InputFault}
use Rattle.he_inputs.specs.declared.input_fault.InputFault.TheVariants as faults
use Rattle.he_inputs.specs.declared.race_reader.Ending.{Ending}
use Rattle.he_inputs.specs.declared.race_reader.Ending.TheVariants as endings
use Rattle.he_inputs.specs.declared.race_reader.RaceReader.{RaceReader}
use Rattle.he_inputs.specs.declared.race_reader.RaceReaderFault.{RaceReaderFault}
use Rattle.he_inputs.specs.declared.race_reader.RaceReaderFault.TheVariants as readers
use Rattle.he_inputs.specs.HeldInputs.{GivesBy, HeldBytes}
use Rattle.he_inputs.specs.Inputs.{IsFaultBehind, line_count}
use Rattle.he_inputs.specs.RaceReading.{EndsAt, IsWithin, MayFollow, PassesRace}
use Rattle.he_inputs.specs.RaceStreams.{EndsRaces, HandsNext, HasHanded, StopsRaces, StreamState, at_start}
use Rattle.he_inputs.specs.RaceStreamSteps.{GoesOn, IsStream, PassesHeld, PassesText, left_by, state_of}
use Rattle.he_inputs.proofs.HeldInputLaws.{gives_nothing, gives_so_far}
use Rattle.he_inputs.proofs.RaceReadingLaws.{AreTexts-snoc, line_count-append}

-- an input that did not break off has no such fault
pub no_break : (races lines : ℕ) (rest : List ℕ) → IsFaultBehind false races lines rest (Some faults.Read) → ⊥
no_break races lines [] is = cc
no_break races lines (byte ∷ rest) (inl most) = let is = most.1 in cc
no_break races lines (byte ∷ rest) (inr (few, (line, kind), found, is)) = cc

-- what stands after a place of the bytes, up to another place and from there on
parts_of : (bytes : List ℕ) (from end : ℕ) → from ≤ end → drop from bytes ≡ slice_range bytes from end ++ drop end bytes
parts_of bytes from end less =
    let sum : from + (end - from) ≡ end = omega arith in
    sym (take-append-drop (end - from) (drop from bytes)) ∙ ap (λ (l : List ℕ). slice_range bytes from end ++ l) (drop-drop (end - from) from bytes ∙ ap (λ (n : ℕ). drop n bytes) sum)

-- a reader passed a race of what is held
module _ (held : HeldBytes) (old new : RaceReader) (race : Race) (passes : PassesRace held.bytes old new race)
  where
    parts : drop old.end held.bytes ≡ slice_range held.bytes old.end new.end ++ drop new.end held.bytes
    parts = parts_of held.bytes old.end new.end (let past = passes.past in omega arith)

    pub stream_on : (start : ℕ) → IsStream held start old → IsWithin held.bytes new → IsStream held old.end new
    stream_on start is within =
        let size = is.size in
        let lines = passes.lined in
        let few = count_by-le-length (λ b. eqb b 10) (slice_range held.bytes old.end new.end) in
        let longer : length (drop old.end held.bytes) ≡ length (slice_range held.bytes old.end new.end) + length (drop new.end held.bytes) = ap length parts ∙ length-append (slice_range held.bytes old.end new.end) (drop new.end held.bytes) in
        record { begun = let past = passes.past in omega arith; within = within; few = is.few; size = omega arith }

    pub passes_text : (start : ℕ) (ending : Ending) → PassesText (state_of held start old ending) (state_of held old.end new ending) race
    passes_text start ending = record {
      is = passes.read;
      parts = parts;
      races = passes.counted;
      lines = passes.lined;
      ending = refl;
      steps = refl;
    }

-- no race is found
pub none_of : (found : Option Race) → ((race : Race) → found ≡ Some race → ⊥) → found ≡ None
none_of None none = refl
none_of (Some race) none = absurd (none race refl)

-- no race was passed
pub none_held : (old new : StreamState) (found : Option Race) → ((race : Race) → found ≡ Some race → ⊥) → PassesHeld old new (Ok found) → new ≡ old
none_held old new None none passes = passes.0
none_held old new (Some race) none passes = absurd (none race refl)

-- one step less is left
pub fewer_left : (old new : ℕ) (ending : Ending) → (ending ≡ endings.Open → (old < new) × (new ≤ most_reads)) → left_by ending (most_reads - new) < left_by endings.Open (most_reads - old)
fewer_left old new endings.Open less = let (later, few) = less refl in omega arith
fewer_left old new endings.Whole less = omega arith
fewer_left old new endings.Broken less = omega arith

module _ {I : Type 0} (input : inputs.Ghosts I) where
  -- nothing was taken
  pub nothing_on : (state : I) (stream : StreamState) → GoesOn input state state stream stream
  nothing_on state stream = record { races = refl; lines = refl; later = omega arith; gives = λ _ _ given. given }

  -- no race was handed out yet
  pub none_handed : (first : I) → HasHanded input first first at_start [] []
  none_handed first = record { whole = refl; counted = refl; lined = refl; given = gives_nothing input first }

  module _ (first last : I) (races : List Race) (front : List ℕ) (old : StreamState)
    where
      -- the input went on
      pub handed_on : (after : I) (new : StreamState) → HasHanded input first last old races front → GoesOn input last after old new → HasHanded input first after new races front
      handed_on after new has on = record {
        whole = has.whole;
        counted = on.races ∙ has.counted;
        lined = on.lines ∙ has.lined;
        given = on.gives first front has.given;
      }

      -- one race more
      pub hands_race : (new : StreamState) (race : Race) → HasHanded input first last old races front → PassesText old new race → HandsNext input first last new races front (Ok (Some race))
      hands_race new race has passes =
          let counted = has.counted in
          let lined = has.lined in
          let one = passes.races in
          let lines = passes.lines in
          let longer = length-append races (race ∷ []) in
          let more = line_count-append front new.text in
          let parts : front ++ old.rest ≡ (front ++ new.text) ++ new.rest = ap (λ (t : List ℕ). front ++ t) passes.parts ∙ sym (append_assoc front new.text new.rest) in
          let Gave : ℕ → Ending → List ℕ → Type 0 = GivesBy input first last in
          let Steps : ℕ → Type 0 = λ n. Gave n old.ending (front ++ old.rest) in
          let Ends : Ending → Type 0 = λ e. Gave new.steps e (front ++ old.rest) in (
            passes.is,
            record {
              whole = AreTexts-snoc IsRecordedText races front has.whole race new.text passes.is;
              counted = omega arith;
              lined = omega arith;
              given = subst (Gave new.steps new.ending) parts (subst Ends (sym passes.ending) (subst Steps (sym passes.steps) has.given));
            },
          )

      module _ (few : old.races ≤ most_races) (has : HasHanded input first last old races front)
        where
          -- the fault after the races
          fault_past : (is_broken : Bool) (rest : List ℕ) (fault : Option InputFault) → IsFaultBehind is_broken old.races old.lines rest fault
              → IsFaultBehind is_broken (length races) (line_count front) rest fault
          fault_past is_broken rest fault is =
              let Lined : ℕ → Type 0 = λ n. IsFaultBehind is_broken (length races) n rest fault in
              let Counted : ℕ → Type 0 = λ n. IsFaultBehind is_broken n old.lines rest fault in
              subst Lined has.lined (subst Counted has.counted is)

          -- the input was given to where it ended or broke off
          ends : (is_broken : Bool) (fault : Option InputFault) → Gives input.remaining input.takes first last (front ++ old.rest) is_broken
              → IsFaultBehind is_broken old.races old.lines old.rest fault → EndsRaces (Gives input.remaining input.takes first last) races front fault
          ends is_broken fault given is =
              let counted = has.counted in
              record {
                rest = old.rest;
                is_broken = is_broken;
                given = given;
                has = record {
                  before = front;
                  rest = old.rest;
                  parts = refl;
                  whole = has.whole;
                  few = omega arith;
                  fault_is = fault_past is_broken old.rest fault is;
                };
                texts = refl;
              }

          -- what follows changes nothing
          stops : (fault : InputFault) → GivesSoFar input.remaining input.takes first last (front ++ old.rest)
              → ((more : List ℕ) (is_broken : Bool) → IsFaultBehind is_broken old.races old.lines (old.rest ++ more) (Some fault))
              → StopsRaces (GivesSoFar input.remaining input.takes first last) races front fault
          stops fault taken is =
              let counted = has.counted in
              record {
                rest = old.rest;
                taken = taken;
                has = λ more is_broken. record {
                  before = front;
                  rest = old.rest ++ more;
                  parts = append_assoc front old.rest more;
                  whole = has.whole;
                  few = omega arith;
                  fault_is = fault_past is_broken (old.rest ++ more) (Some fault) (is more is_broken);
                };
                texts = λ more is_broken. refl;
              }

          -- nothing follows
          last_fault : (is_broken : Bool) (fault : InputFault) → IsFaultBehind is_broken old.races old.lines (old.rest ++ []) (Some fault)
              → IsFaultBehind is_broken old.races old.lines old.rest (Some fault)
          last_fault is_broken fault is =
              let Rest : List ℕ → Type 0 = λ rest. IsFaultBehind is_broken old.races old.lines rest (Some fault) in
              subst Rest (append-nil old.rest) is

          module _ (ending : Ending) (same : old.ending ≡ ending)
            where
              abbrev Gave : Ending → Type 0
              Gave e = GivesBy input first last old.steps e (front ++ old.rest)

              given : Gave ending
              given = subst Gave same has.given

          text_ends : (ending : Ending) → old.ending ≡ ending → (fault : TextFault)
              → ((more : List ℕ) (is_broken : Bool) → MayFollow ending more is_broken → IsFaultBehind is_broken old.races old.lines (old.rest ++ more) (Some (faults.Text fault)))
              → HandsNext input first last old races front (Err (readers.Input (faults.Text fault)))
          text_ends endings.Open same fault is =
              inr (stops (faults.Text fault) (gives_so_far input first last old.steps (front ++ old.rest) (given endings.Open same)) (λ more is_broken. is more is_broken tt))
          text_ends endings.Whole same fault is = inl (ends false (Some (faults.Text fault)) (given endings.Whole same) (last_fault false (faults.Text fault) (is [] false (refl, refl))))
          text_ends endings.Broken same fault is = inl (ends true (Some (faults.Text fault)) (given endings.Broken same) (last_fault true (faults.Text fault) (is [] true (refl, refl))))

          read_ends : (ending : Ending) → old.ending ≡ ending
              → ((more : List ℕ) (is_broken : Bool) → MayFollow ending more is_broken → IsFaultBehind is_broken old.races old.lines (old.rest ++ more) (Some faults.Read))
              → HandsNext input first last old races front (Err (readers.Input faults.Read))
          read_ends endings.Open same is = absurd (no_break old.races old.lines (old.rest ++ []) (is [] false tt))
          read_ends endings.Whole same is = absurd (no_break old.races old.lines (old.rest ++ []) (is [] false (refl, refl)))
          read_ends endings.Broken same is = ends true (Some faults.Read) (given endings.Broken same) (last_fault true faults.Read (is [] true (refl, refl)))

          -- a fault ends it
          pub hands_fault : (new : StreamState) (fault : RaceReaderFault) → PassesHeld old new (Err fault)
              → HandsNext input first last new races front (Err fault)
          hands_fault new (readers.Input (faults.Text fault)) (same, is) =
              subst (λ (s : StreamState). HandsNext input first last s races front (Err (readers.Input (faults.Text fault)))) (sym same) (text_ends old.ending refl fault is)
          hands_fault new (readers.Input faults.Read) (same, is) =
              subst (λ (s : StreamState). HandsNext input first last s races front (Err (readers.Input faults.Read))) (sym same) (read_ends old.ending refl is)
          hands_fault new readers.Memory same = subst (λ (s : StreamState). HasHanded input first last s races front) (sym same) has

          none_ends : (ending : Ending) → old.ending ≡ ending → EndsAt ending old.rest → ending ≢ endings.Open → HandsNext input first last old races front (Ok None)
          none_ends endings.Open same is closed = absurd (closed refl)
          none_ends endings.Whole same is closed =
              let Rest : List ℕ → Type 0 = λ rest. IsFaultBehind false old.races old.lines rest None in
              ends false None (given endings.Whole same) (subst Rest (sym is) refl)
          none_ends endings.Broken same is closed = absurd is

          -- nothing is left
          pub hands_none : (new : StreamState) → (old.ending ≡ endings.Open → ⊥) → PassesHeld old new (Ok None) → HandsNext input first last new races front (Ok None)
          hands_none new closed (same, inl may) = absurd (closed may)
          hands_none new closed (same, inr is) = subst (λ (s : StreamState). HandsNext input first last s races front (Ok None)) (sym same) (none_ends old.ending refl is closed)

          -- what is told where nothing may follow what is held
          pub hands : (new : StreamState) → (old.ending ≡ endings.Open → ⊥) → (result : Result (Option Race) RaceReaderFault) → PassesHeld old new result → HandsNext input first last new races front result
          hands new closed (Ok (Some race)) passes = hands_race new race has passes
          hands new closed (Ok None) passes = hands_none new closed passes
          hands new closed (Err fault) passes = hands_fault new fault passes
