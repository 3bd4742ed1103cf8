-- The parts of a page, put as their races come, and where that ends.
use Rattle.std.proofs.Common.{ℕ, suc, ◌≡◌, ◌+◌, ◌≤◌, ◌++◌, ◌∙◌, ◌⊎◌, Bool, true, false, List, [], ◌∷◌, length, Option, Some, None, Result, Ok, Err, IfErr, OnErr, OnOk, ap, append_assoc, sym, subst, refl, arith, inl, inr, length-append}
use Rattle.std.proofs.lemmas.List.{append-nil}
use Rattle.he_timeline.specs.Changes.{ChangeValues}
use Rattle.he_timeline.specs.Race.{Race}
use Rattle.he_words.specs.Ranges.{most_races}
use Rattle.he_words.specs.declared.fault.TextFault.{TextFault}
use Rattle.he_stream.specs.declared.stream.InputStream as inputs
use Rattle.he_stream.specs.declared.stream.OutputStream as outputs
use Rattle.he_inputs.specs.HeldInputs.{GivesBy}
use Rattle.he_inputs.specs.Inputs.{HasRaces, line_count}
use Rattle.he_inputs.specs.RaceStreams.{EndsRaces, HandsNext, StopsRaces, StreamState, at_start}
use Rattle.he_inputs.specs.StreamFaults.{fault_of_reader}
use Rattle.he_inputs.specs.declared.input_fault.InputFault.{InputFault}
use Rattle.he_inputs.specs.declared.input_fault.InputFault.TheVariants as faults
use Rattle.he_inputs.specs.declared.race_reader.Ending.{Ending}
use Rattle.he_inputs.specs.declared.race_reader.Ending.TheVariants as endings
use Rattle.he_inputs.specs.declared.race_reader.RaceReaderFault.{RaceReaderFault}
use Rattle.he_inputs.specs.declared.race_reader.RaceReaderFault.TheVariants as readers
use Rattle.he_inputs.specs.declared.stream_fault.StreamFault.{StreamFault}
use Rattle.he_inputs.specs.declared.stream_fault.StreamFault.TheVariants as streams
use Rattle.he_inputs.proofs.HeldInputLaws.{gives_so_far}
use Rattle.he_streaming.specs.Output.{AreTold, IsOutput, TextRelation}
use Rattle.he_streaming.specs.Rounds.{WritesText}
use Rattle.he_streaming.specs.Stream.{PutsSome, TellsSome}
use Rattle.he_streaming.proofs.Further.{round_failed}
use Rattle.he_streaming.proofs.RaceTexts.{AreTold-append, told_at}
use Rattle.he_totals.specs.Steps.{AddsRace}
use Rattle.he_totals.specs.Summed.{Sums}
use Rattle.he_totals.proofs.Walked.{all_added, none_read, one_more}
use Rattle.he_tasks.specs.Pages.{HasPut, IsPart, PutsAll, PutsParts, PutsRaces, PutsSections, PutsSure}
use Rattle.he_tasks.specs.Streams.{Gave, GaveSoFar, TookAll, TookPart, TookRounds, TookRoundsPart}

-- these bytes were taken of the input, or it gave them whole
pub given_so_far : {I : Type 0} (input : inputs.Ghosts I) (first last : I) (steps : ℕ) (ending : Ending) (bytes : List ℕ) → GivesBy input first last steps ending bytes
    → GaveSoFar input first last bytes ⊎ ((is_broken : Bool) × Gave input first last bytes is_broken)
given_so_far input first last steps endings.Open bytes given = inl (gives_so_far input first last steps bytes given)
given_so_far input first last steps endings.Whole bytes given = inr (false, given)
given_so_far input first last steps endings.Broken bytes given = inr (true, given)

module _ {I O : Type 0} (input : inputs.Ghosts I) (output : outputs.Ghosts O) (file : ℕ) (IsText : TextRelation) (first : I) (before : O) (old : Sums)
  where
    -- nothing was read
    pub nothing_put : HasPut input output file IsText first first at_start before before old old []
    unfolding none_read
    nothing_put = record { read = none_read file input first old; text = []; told = (refl, refl); put = (0, (refl, refl)) }

    module _ (last : I) (stream : StreamState) (after : O) (new : Sums) (left : List ℕ) (has : HasPut input output file IsText first last stream before after old new left)
      where
        -- one race more
        pub race_put : (next : I) (state : StreamState) (race : Race) → (hands : HandsNext input first next state has.read.races has.read.front (Ok (Some race))) → (number line : ℕ) → number ≡ state.races → line ≡ stream.lines + 1
            → (sums : Sums) → AddsRace hands.0.0 race (record { file = file; number = number; line = line }) new sums → (text : List ℕ) → WritesText (λ told. IsText number line told hands.0.0 race) left text
            → HasPut input output file IsText first next state before after old sums text
        unfolding one_more
        race_put next state race hands number line numbered lined sums adds text written =
            let counted = hands.1.counted in
            let before_it = has.read.handed.lined in
            let longer = length-append has.read.races (race ∷ []) in
            let one : AreTold IsText number line (race ∷ []) state.text written.told =
            (state.text, [], sym (append-nil state.text), hands.0, written.told, [], sym (append-nil written.told), written.is_told, (refl, refl)) in
            let placed = told_at IsText (race ∷ []) state.text written.told number line (1 + length has.read.races) (1 + line_count has.read.front) (omega arith) (omega arith) one in
            let all : (has.text ++ left) ++ written.told ≡ has.text ++ text = append_assoc has.text left written.told ∙ ap (λ (t : List ℕ). has.text ++ t) (sym written.appended) in
            record {
              read = one_more file input first last next stream state old new has.read race hands number line numbered lined sums adds;
              text = has.text;
              told = subst (AreTold IsText 1 1 (has.read.races ++ race ∷ []) (has.read.front ++ state.text)) all
                  (AreTold-append IsText 1 1 has.read.races has.read.front (has.text ++ left) has.told (race ∷ []) state.text written.told placed);
              put = has.put;
            }

        -- what is left of the text was put
        rounds : (end : O) → TookAll output after end left → TookRounds output before end (has.text ++ left)
        rounds end put = let so_far = has.put in (suc so_far.0, (has.text, left, after, refl, so_far.1, put))

        pub left_put : (end : O) → TookAll output after end left → HasPut input output file IsText first last stream before end old new []
        left_put end put = record {
          read = has.read;
          text = has.text ++ left;
          told = subst (AreTold IsText 1 1 has.read.races has.read.front) (sym (append-nil (has.text ++ left))) has.told;
          put = rounds end put;
        }

        -- the text of the races so far is the output of an input that has no others
        all_told : (whole : List ℕ) (is_broken : Bool) (fault : Option InputFault) (races : HasRaces whole is_broken has.read.races fault) → races.before ≡ has.read.front → IsOutput IsText whole is_broken (has.text ++ left) fault
        all_told whole is_broken fault races same = record {
          races = has.read.races;
          has = races;
          told = subst (λ (front : List ℕ). AreTold IsText 1 1 has.read.races front (has.text ++ left)) (sym same) has.told;
        }

        -- the input ended, or a fault stands whatever follows
        pub parts_end : (next : I) (end : O) → TookAll output after end left → (fault : Option InputFault) → EndsRaces (Gave input first next) has.read.races has.read.front fault
            → PutsAll file IsText (Gave input first next) (TookRounds output before end) old new fault
        parts_end next end put fault ends = record {
          input = has.read.front ++ ends.rest;
          is_broken = ends.is_broken;
          given = ends.given;
          text = has.text ++ left;
          output = all_told (has.read.front ++ ends.rest) ends.is_broken fault ends.has ends.texts;
          added = all_added file input first last next stream stream old new has.read (has.read.front ++ ends.rest) ends.is_broken ends.rest fault refl ends.has;
          put = rounds end put;
        }

        pub parts_stop : (next : I) (end : O) → TookAll output after end left → (fault : TextFault) → StopsRaces (GaveSoFar input first next) has.read.races has.read.front (faults.Text fault)
            → PutsSure file IsText (GaveSoFar input first next) (TookRounds output before end) old new fault
        parts_stop next end put fault stops = record {
          input = has.read.front ++ stops.rest;
          taken = stops.taken;
          text = has.text ++ left;
          output = λ more is_broken. all_told ((has.read.front ++ stops.rest) ++ more) is_broken (Some (faults.Text fault)) (stops.has more is_broken) (stops.texts more is_broken);
          added = λ more is_broken. all_added file input first last next stream stream old new has.read ((has.read.front ++ stops.rest) ++ more) is_broken (stops.rest ++ more) (Some (faults.Text fault))
              (append_assoc has.read.front stops.rest more) (stops.has more is_broken);
          put = rounds end put;
        }

        -- the texts so far are of some first races
        some_told : (rest : List ℕ) → stream.races ≤ most_races → TellsSome IsText (has.read.front ++ rest) (has.text ++ left)
        some_told rest few = record {
          races = has.read.races;
          before = has.read.front;
          rest = rest;
          parts = refl;
          few = let counted = has.read.handed.counted in omega arith;
          told = has.told;
        }

        -- the output failed, or memory was refused, once these bytes were taken of the input
        abbrev pub Took : I → List ℕ → Type 0
        Took next rest = GaveSoFar input first next (has.read.front ++ rest) ⊎ ((is_broken : Bool) × Gave input first next (has.read.front ++ rest) is_broken)

        pub parts_failed : stream.races ≤ most_races → (next : I) (rest : List ℕ) → Took next rest → (end : O) → TookPart output after end left
            → PutsSome IsText (Gave input first next) (GaveSoFar input first next) (TookRoundsPart output before end)
        parts_failed few next rest taken end failed = record {
          input = has.read.front ++ rest;
          text = has.text ++ left;
          taken = taken;
          told = some_told rest few;
          written = round_failed output.contents output.puts output.flushes before after end has.text left has.put failed;
        }

        pub parts_refused : stream.races ≤ most_races → (next : I) (rest : List ℕ) → Took next rest → (sums : Sums)
            → PutsRaces file IsText (Gave input first next) (GaveSoFar input first next) (TookRounds output before after) (TookRoundsPart output before after) old sums (Err streams.Memory)
        parts_refused few next rest taken sums = (
          has.text,
          left,
          record {
            input = has.read.front ++ rest;
            text = has.text ++ left;
            taken = taken;
            told = some_told rest few;
            written = (refl, has.put);
          },
        )

        -- what was taken when the stream had no other race
        taken_by : (next : I) (state : StreamState) (fault : RaceReaderFault) → HandsNext input first next state has.read.races has.read.front (Err fault) → (rest : List ℕ) × Took next rest
        taken_by next state (readers.Input (faults.Text fault)) (inl ends) = (ends.rest, inr (ends.is_broken, ends.given))
        taken_by next state (readers.Input (faults.Text fault)) (inr stops) = (stops.rest, inl stops.taken)
        taken_by next state (readers.Input faults.Read) ends = (ends.rest, inr (ends.is_broken, ends.given))
        taken_by next state readers.Memory kept = (state.rest, given_so_far input first next state.steps state.ending (has.read.front ++ state.rest) kept.given)

        -- the races end, and what is left of their text is put, or that fails
        pub parts_ended : stream.races ≤ most_races → (next : I) → EndsRaces (Gave input first next) has.read.races has.read.front None → (end : O) (result : Result (Unit {0}) StreamFault)
            → OnOk result (TookAll output after end left) → OnErr result (TookPart output after end left) → IfErr result (λ fault. fault ≡ streams.Write)
            → PutsRaces file IsText (Gave input first next) (GaveSoFar input first next) (TookRounds output before end) (TookRoundsPart output before end) old new result
        parts_ended few next ends end (Ok done) put failed is = parts_end next end put None ends
        parts_ended few next ends end (Err fault) put failed is =
            let Here : StreamFault → Type 0 = λ f. PutsRaces file IsText (Gave input first next) (GaveSoFar input first next) (TookRounds output before end) (TookRoundsPart output before end) old new (Err f) in
            subst Here (sym is) (parts_failed few next ends.rest (inr (ends.is_broken, ends.given)) end failed)

        pub parts_lost : stream.races ≤ most_races → (next : I) (state : StreamState) (fault : RaceReaderFault) → HandsNext input first next state has.read.races has.read.front (Err fault) → (end : O)
            → TookPart output after end left → PutsSome IsText (Gave input first next) (GaveSoFar input first next) (TookRoundsPart output before end)
        parts_lost few next state fault hands end failed = let by = taken_by next state fault hands in parts_failed few next by.0 by.1 end failed

    -- a fault, once what is left of the text is put
    module _ (last : I) (stream : StreamState) (after : O) (new : Sums) (left : List ℕ) (has : HasPut input output file IsText first last stream before after old new left)
      where
        pub parts_over : stream.races ≤ most_races → (next : I) (state : StreamState) (fault : RaceReaderFault) → HandsNext input first next state has.read.races has.read.front (Err fault) → (end : O)
            → TookAll output after end left → PutsRaces file IsText (Gave input first next) (GaveSoFar input first next) (TookRounds output before end) (TookRoundsPart output before end) old new (Err (fault_of_reader fault))
        unfolding left_put
        parts_over few next state (readers.Input (faults.Text fault)) (inl ends) end put = inl (parts_end last stream after new left has next end put (Some (faults.Text fault)) ends)
        parts_over few next state (readers.Input (faults.Text fault)) (inr stops) end put = inr (parts_stop last stream after new left has next end put fault stops)
        parts_over few next state (readers.Input faults.Read) ends end put = parts_end last stream after new left has next end put (Some faults.Read) ends
        parts_over few next state readers.Memory kept end put =
            parts_refused last stream end new [] (left_put last stream after new left has end put) few next state.rest (given_so_far input first next state.steps state.ending (has.read.front ++ state.rest) kept.given) new

-- the races of a text stay summed after such an end, or after no other
abbrev pub IsKept : Result (Unit {0}) StreamFault → Type 0
IsKept (Ok done) = Unit {0}
IsKept (Err (streams.Text fault)) = Unit {0}
IsKept (Err streams.Read) = Unit {0}
IsKept (Err streams.Write) = ⊥
IsKept (Err streams.Memory) = ⊥

abbrev pub IsKeptBy : StreamFault → Type 0
IsKeptBy fault = IsKept (Err fault)

abbrev pub IsLost : Result (Unit {0}) StreamFault → Type 0
IsLost result = IsKept result → ⊥

module _ {I O : Type 0} (input : inputs.Ghosts I) (output : outputs.Ghosts O) (changes : ChangeValues) (name : Option (List ℕ)) (first last : I) (before after : O) (place : ℕ) (sums : Option Sums) (old new : Sums) (some : sums ≡ Some old)
  where
    abbrev Puts : Result (Unit {0}) StreamFault → Type 0
    Puts = PutsParts input output place (IsPart place changes name) first last before after old new

    -- there were sums
    there_were : (later : Option Sums) (result : Result (Unit {0}) StreamFault) → PutsSections input output changes name first last (before, Some old) (after, later) result
        → PutsSections input output changes name first last (before, sums) (after, later) result
    there_were later result puts =
        let Here : Option Sums → Type 0 = λ s. PutsSections input output changes name first last (before, s) (after, later) result in
        subst Here (sym some) puts

    pub sections_kept : (result : Result (Unit {0}) StreamFault) → Puts result → IsKept result → PutsSections input output changes name first last (before, sums) (after, Some new) result
    sections_kept (Ok done) puts kept = there_were (Some new) (Ok done) (place, puts)
    sections_kept (Err (streams.Text fault)) puts kept = there_were (Some new) (Err (streams.Text fault)) (place, puts)
    sections_kept (Err streams.Read) puts kept = there_were (Some new) (Err streams.Read) (place, puts)
    sections_kept (Err streams.Write) puts kept = absurd kept
    sections_kept (Err streams.Memory) puts kept = absurd kept

    lost_by : (result : Result (Unit {0}) StreamFault) → Puts result → IsLost result → PutsSections input output changes name first last (before, sums) (after, None) result
    lost_by (Ok done) puts lost = absurd (lost tt)
    lost_by (Err (streams.Text fault)) puts lost = absurd (lost tt)
    lost_by (Err streams.Read) puts lost = absurd (lost tt)
    lost_by (Err streams.Write) puts lost = there_were None (Err streams.Write) (place, (new, puts))
    lost_by (Err streams.Memory) puts lost = there_were None (Err streams.Memory) (place, (new, puts))

    pub sections_lost : (later : Option Sums) → later ≡ None → (result : Result (Unit {0}) StreamFault) → Puts result → IsLost result
        → PutsSections input output changes name first last (before, sums) (after, later) result
    sections_lost later none result puts lost =
        let Here : Option Sums → Type 0 = λ s. PutsSections input output changes name first last (before, sums) (after, s) result in
        subst Here (sym none) (lost_by result puts lost)
