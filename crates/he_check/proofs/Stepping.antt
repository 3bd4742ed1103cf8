-- One step of a check in the bytes that are there: what it needs goes on, less is left to do, and where it goes no
-- further nothing is.
use Rattle.std.proofs.Common.{ℕ, ◌≡◌, ◌+◌, ◌-◌, ◌*◌, ◌≤◌, Bool, true, false, List, [], ◌++◌, length, take, drop, Some, None, refl, sym, subst, ◌∙◌, ap, append-nil, length-take, length-drop, true≢false, eqb, arith, inl, inr, if◌then◌else◌}
use Rattle.std.proofs.lemmas.List.Sums.{count_by-le-length}
use Rattle.he_timeline.specs.Race.{Race}
use Rattle.he_inputs.specs.Inputs.{IsFaultBehind, line_count}
use Rattle.he_inputs.specs.RaceReading.{EndsAt, IsReaderFault, IsWithin, PassesRace, ending_of}
use Rattle.he_inputs.specs.declared.input_fault.InputFault.TheVariants.{Text, Read}
use Rattle.he_inputs.specs.declared.race_reader.Ending.{Ending}
use Rattle.he_inputs.specs.declared.race_reader.RaceReader.{RaceReader}
use Rattle.he_inputs.specs.declared.race_reader.RaceReaderFault.TheVariants as readers
use Rattle.he_words.specs.declared.fault.TextFault.{TextFault}
use Rattle.he_check.specs.AllFaults.{BeginsPart, IsNextPart}
use Rattle.he_check.specs.Slips.{warnings_of}
use Rattle.he_check.specs.Steps.{AddsFault, AreFaultsPast, AreLeft, AreWhole, HasGone, HasStepped, HasStopped, IsAt, IsOpen, MayGo, PassesRecords, steps_left}
use Rattle.he_check.specs.declared.counting.Counted.{Counted}
use Rattle.he_faults.specs.declared.rest.RestOfInput.{RestOfInput}
use Rattle.he_check.proofs.Counts.{fault_at, found_at, never_none, passed_at, race_at}
use Rattle.he_check.proofs.FaultParts.{no_read, past_none, past_read}
use Rattle.he_check.proofs.Hints.{FirstFaults}
use Rattle.he_check.proofs.NextParts.{too_short}

-- nothing was done
pub gone_nowhere : {A : Type 0} (ending : Ending) (bytes : List ℕ) (old : Counted A) → MayGo ending bytes old → HasGone ending bytes old old
gone_nowhere ending bytes old may = record { may = may; all = refl; form = refl; on = λ before at. at }

pub gone_further : {A : Type 0} (ending : Ending) (bytes : List ℕ) (old new last : Counted A) → HasGone ending bytes old new → HasGone ending bytes new last → HasGone ending bytes old last
gone_further ending bytes old new last first second = record { may = second.may; all = second.all ∙ first.all; form = second.form ∙ first.form; on = λ before at. second.on before (first.on before at) }

-- a reader went on in the bytes
within_on : (bytes : List ℕ) (old new : RaceReader) (n : ℕ) → IsWithin bytes old → n ≤ length (drop old.end bytes) → new.end ≡ old.end + n → new.lines ≡ old.lines + line_count (take n (drop old.end bytes))
    → new.races ≤ old.races → IsWithin bytes new
within_on bytes old new n within inside ends lines races =
    let left : List ℕ = drop old.end bytes in
    let few = count_by-le-length (λ b. eqb b 10) (take n left) in
    let place = within.place in
    let room = within.room in
    let most = within.few in
    let before : length left ≡ length bytes - old.end = length-drop old.end bytes in
    let rest : length (drop new.end bytes) ≡ length bytes - new.end = length-drop new.end bytes in
    record { place = omega arith; few = omega arith; room = omega (arith, few, room, before, rest, ends, lines, inside, place, length-take {A = ℕ}) }

module _ {A : Type 0} (ending : Ending) (bytes : List ℕ) (old new : Counted A) (may : MayGo ending bytes old) (free : IsOpen old)
  where
    abbrev left : List ℕ
    left = drop old.reader.end bytes

    -- no race follows
    pub stopped_here : HasStopped ending bytes old → HasStepped ending bytes old old false
    stopped_here stopped = record {
      gone = gone_nowhere ending bytes old may;
      more = λ wrong. absurd (true≢false (sym wrong));
      less = λ wrong. absurd (true≢false (sym wrong));
      stopped = λ _. stopped;
    }

    reading : old.is_seeking ≡ false → (is_broken : Bool) → AreFaultsPast is_broken old.reader.races old.reader.lines left [] → AreLeft old.is_seeking old.reader is_broken left []
    reading reads is_broken past = subst (λ (s : Bool). AreLeft s old.reader is_broken left []) (sym reads) past

    pub none_follows : old.is_seeking ≡ false → EndsAt ending left → HasStopped ending bytes old
    none_follows reads ends = record { ends = λ _. inl ends; none = λ all is_broken is. reading reads is_broken (past is_broken (subst (λ (e : Ending). EndsAt e left) is ends)) }
      where
        past : (is_broken : Bool) → EndsAt (ending_of is_broken) left → AreFaultsPast is_broken old.reader.races old.reader.lines left []
        past true wrong = absurd wrong
        past false none = past_none old.reader.races old.reader.lines left may.sound.few none

    pub breaks_off : FirstFaults → old.is_seeking ≡ false → IsReaderFault bytes ending old.reader (readers.Input Read) → HasStopped ending bytes old
    breaks_off first reads wrong = record { ends = λ _. inr wrong; none = λ all is_broken is. reading reads is_broken (past is_broken (subst (λ (e : Ending). IsReaderFault bytes e old.reader (readers.Input Read)) is wrong)) }
      where
        past : (is_broken : Bool) → IsReaderFault bytes (ending_of is_broken) old.reader (readers.Input Read) → AreFaultsPast is_broken old.reader.races old.reader.lines left []
        past false is = absurd (no_read (left ++ []) old.reader.races old.reader.lines (is [] false (refl, refl)))
        past true is =
            let Rest : List ℕ → Type 0 = λ t. IsFaultBehind true old.reader.races old.reader.lines t (Some Read) in
            past_read first old.reader.races old.reader.lines left may.sound.few (subst Rest (append-nil left) (is [] true (refl, refl)))

    -- how many steps are left, and how many faults were found
    steps : (seeking : Bool) → old.is_seeking ≡ seeking → steps_left bytes old ≡ 2 * (length bytes - old.reader.end) + (if seeking then 0 else 1)
    steps seeking is = ap (λ (s : Bool). 2 * (length bytes - old.reader.end) + (if s then 0 else 1)) is

    found : old.told.is_all ≡ true → (seeking : Bool) → old.is_seeking ≡ seeking → old.told.count ≤ old.reader.lines + (if seeking then 1 else 0)
    found all seeking is = subst (λ (s : Bool). old.told.count ≤ old.reader.lines + (if s then 1 else 0)) is (may.sound.count all)

    -- a race was passed
    pub race_stepped : (race : Race) → old.is_seeking ≡ false → IsWithin bytes new.reader → (passes : PassesRace bytes old.reader new.reader race)
        → (old.told.first ≡ None → new.warnings.items ≡ old.warnings.items ++ warnings_of (old.reader.lines + 1) passes.read.0 race) → HasStepped ending bytes old (record old { reader = new.reader; warnings = new.warnings }) true
    race_stepped race reads within passes warned = record {
      gone = record {
        may = record {
          within = within;
          sound = record {
            few = within.few;
            count = λ all. let before = may.sound.count all in let lines = passes.lined in omega arith;
            zero = may.sound.zero;
            reads = may.sound.reads;
            seeks = may.sound.seeks;
          };
          enough = may.enough;
        };
        all = refl;
        form = refl;
        on = λ before at. race_at ending before bytes old new at race free reads passes warned;
      };
      more = λ _. free;
      less = λ _. let past = passes.past in let inside = passes.within in omega arith;
      stopped = λ wrong. absurd (true≢false wrong);
    }

    -- a fault was found
    pub fault_stepped : FirstFaults → (fault : TextFault) (part : RestOfInput) → old.is_seeking ≡ false → new.is_seeking ≡ new.told.is_all
        → (n more_lines : ℕ) → PassesRecords new.told.is_all left (fault.line - old.reader.lines) n more_lines → new.reader.end ≡ old.reader.end + n → new.reader.lines ≡ old.reader.lines + more_lines
        → new.reader.races ≡ old.reader.races → IsReaderFault bytes ending old.reader (readers.Input (Text fault)) → AddsFault part fault old.told new.told → part.text.now ≡ left → part.lines ≡ old.reader.lines
        → HasStepped ending bytes old new new.told.is_all
    fault_stepped first fault part reads seeks n more_lines passes ends lined same wrong adds text lines = record {
      gone = record {
        may = record {
          within = within_on bytes old.reader new.reader n may.within passes.inside ends (lined ∙ ap (λ (m : ℕ). old.reader.lines + m) passes.lined) (omega arith);
          sound = record {
            few = let few = may.sound.few in omega arith;
            count = λ all.
                let before : old.told.count ≤ old.reader.lines + 0 = found (sym adds.all ∙ all) false reads in
                let number = adds.count in
                let here : new.told.count ≤ new.reader.lines + 1 = omega arith in
                subst (λ (s : Bool). new.told.count ≤ new.reader.lines + (if s then 1 else 0)) (sym (seeks ∙ all)) here;
            zero = λ none. absurd (some none);
            reads = λ none. absurd (some none);
            seeks = λ is. sym seeks ∙ is;
          };
          enough = λ all. may.enough (sym adds.all ∙ all);
        };
        all = adds.all;
        form = adds.form;
        on = λ before at. fault_at ending before bytes old new at first fault part may.within.place may.sound may.enough reads seeks n more_lines passes ends lined wrong adds text lines;
      };
      more = λ all one. absurd (true≢false (sym all ∙ one));
      less = λ all.
          let before = steps false reads in
          let after : steps_left bytes new ≡ 2 * (length bytes - new.reader.end) + 0 = ap (λ (s : Bool). 2 * (length bytes - new.reader.end) + (if s then 0 else 1)) (seeks ∙ all) in
          omega arith;
      stopped = λ one. record { ends = λ none. absurd (some none); none = λ all. absurd (true≢false (sym all ∙ one)) };
    }
      where
        some : new.told.first ≡ None → ⊥
        some none = never_none old.told.first fault (sym adds.first ∙ none)

    -- the next part is sought, and so many bytes were passed
    module _ (reader : RaceReader) (seeks : old.is_seeking ≡ true) (n : ℕ) (inside : n ≤ length left) (ends : reader.end ≡ old.reader.end + n) (lines : reader.lines ≡ old.reader.lines + line_count (take n left))
        (races : reader.races ≤ old.reader.races)
      where
        all : old.told.is_all ≡ true
        all = may.sound.seeks seeks

        size : length left ≡ length bytes - old.reader.end
        size = length-drop old.reader.end bytes

        within : IsWithin bytes reader
        within = within_on bytes old.reader reader n may.within inside ends lines races

        faulty : old.told.first ≡ None → ⊥
        faulty none = true≢false (sym seeks ∙ may.sound.reads none)

        gone_on : (goes_on : Bool) → old.told.count ≤ reader.lines + (if goes_on then 1 else 0) → ((before : List ℕ) → IsAt ending before bytes old → IsAt ending before bytes (record old { reader = reader; is_seeking = goes_on }))
            → HasGone ending bytes old (record old { reader = reader; is_seeking = goes_on })
        gone_on goes_on count on = record {
          may = record {
            within = within;
            sound = record { few = within.few; count = λ _. count; zero = λ none. absurd (faulty none); reads = λ none. absurd (faulty none); seeks = λ _. all };
            enough = may.enough;
          };
          all = refl;
          form = refl;
          on = on;
        }

        -- no part begins in them
        pub passed_stepped : ((more : List ℕ) (other : ℕ) → BeginsPart (left ++ more) other → n + 1 ≤ other) → (goes_on : Bool)
            → (goes_on ≡ true → 1 ≤ n) → (goes_on ≡ false → length (drop reader.end bytes) ≤ 7) → HasStepped ending bytes old (record old { reader = reader }) goes_on
        passed_stepped none goes_on some short = record {
          gone = subst (λ (s : Bool). HasGone ending bytes old (record old { reader = reader; is_seeking = s })) (sym seeks)
              (gone_on true (let before : old.told.count ≤ old.reader.lines + 1 = found all true seeks in omega arith)
              (λ before at. subst (λ (s : Bool). IsAt ending before bytes (record old { reader = reader; is_seeking = s })) seeks (passed_at ending before bytes old old at reader n may.sound seeks inside ends lines none)));
          more = λ _. free;
          less = λ on. let one = some on in let before = size in omega arith;
          stopped = λ off. record {
            ends = λ first. absurd (faulty first);
            none = λ _ is_broken is. subst (λ (s : Bool). AreLeft s reader is_broken (drop reader.end bytes) []) (sym seeks) (inl (too_short (drop reader.end bytes) (short off), refl));
          };
        }

        -- the next part begins after them
        pub found_stepped : reader.races ≡ 0 → line_count (take n left) ≡ 1 → 1 ≤ n → ((before : List ℕ) → AreWhole (before ++ take n left)) → ((more : List ℕ) → IsNextPart (left ++ more) n)
            → HasStepped ending bytes old (record old { reader = reader; is_seeking = false }) true
        found_stepped none one some whole next = record {
          gone = gone_on false (let before : old.told.count ≤ old.reader.lines + 1 = found all true seeks in omega arith)
              (λ before at. found_at ending before bytes old old at reader n may.sound seeks inside ends lines none (whole (before ++ take old.reader.end bytes)) next);
          more = λ _. free;
          less = λ _. let before = size in let first = steps true seeks in omega arith;
          stopped = λ wrong. absurd (true≢false wrong);
        }
