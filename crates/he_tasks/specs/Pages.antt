-- A page: the parts of its texts, and the totals that end it.
use Rattle.std.specs.Prelude.{◌≡◌, ◌⊎◌, ◌-◌, ℕ, Bool, List, [], ◌∷◌, ◌++◌, map, Option, Some, None, option_map, Result, Ok, Err}
use Rattle.std.specs.Option.{option_map_or}
use Rattle.he_timeline.specs.Changes.{ChangeValues}
use Rattle.he_draw.specs.Page.{totals_facts}
use Rattle.he_draw.specs.declared.totals.Times.{Times}
use Rattle.he_draw.specs.declared.totals.Totals.{Totals as PageTotals}
use Rattle.he_words.specs.declared.fault.TextFault.{TextFault}
use Rattle.he_inputs.specs.declared.input_fault.InputFault.{InputFault}
use Rattle.he_inputs.specs.declared.stream_fault.StreamFault.{StreamFault}
use Rattle.he_inputs.specs.declared.input_fault.InputFault.TheVariants as faults
use Rattle.he_inputs.specs.declared.stream_fault.StreamFault.TheVariants.{Text, Read, Write, Memory}
use Rattle.he_print.specs.Parts.{States}
use Rattle.he_streaming.specs.Known.{Stands}
use Rattle.he_streaming.specs.Output.{AreTold, IsOutput, IsTextWith, TextRelation}
use Rattle.he_streaming.specs.Stream.{PutsSome}
use Rattle.he_streaming.specs.declared.race_texts.Content.TheVariants as contents
use Rattle.he_streaming.specs.declared.race_texts.Printer.TheVariants as printers
use Rattle.he_stream.specs.declared.stream.InputStream as inputs
use Rattle.he_stream.specs.declared.stream.OutputStream as outputs
use Rattle.he_inputs.specs.RaceStreams.{StreamState}
use Rattle.he_summary.specs.Figures.{greatest_of}
use Rattle.he_totals.specs.Steps.{HasRead}
use Rattle.he_totals.specs.Summed.{HasAdded, Sums}
use Rattle.he_totals.specs.Times.{IsSpread}
use Rattle.he_totals.specs.Totals.{AreTotals}
use Rattle.he_totals.specs.declared.kept.Ending.{Ending}
use Rattle.he_totals.specs.declared.kept.Ending.TheVariants as endings
use Rattle.he_totals.specs.declared.kept.Kept.{Kept}
use Rattle.he_totals.specs.declared.times.Spread.{Spread}
use Rattle.he_totals.specs.declared.totals.Totals.{Totals}
use Rattle.he_tasks.specs.Streams.{Gave, GaveSoFar, PutsText, TookRounds, TookRoundsPart}
use Rattle.he_tasks.specs.declared.reports.TheConstants.{FAULT}

-- the input was given, whole or up to where it broke off: a text of each of its races, up to its first fault, was
-- put, and these races were added, as those of this file
pub record PutsAll (file : ℕ) (IsText : TextRelation) (Given : List ℕ → Bool → Type 0) (Put : List ℕ → Type 0)
    (old new : Sums) (fault : Option InputFault) : Type 0 where
  pub input : List ℕ
  pub is_broken : Bool
  pub given : Given input is_broken
  pub text : List ℕ
  pub output : IsOutput IsText input is_broken text fault
  pub added : HasAdded file input is_broken old new fault
  pub put : Put text

-- these bytes of the input were taken, and no more: this holds of every input that begins with them
pub record PutsSure (file : ℕ) (IsText : TextRelation) (Taken : List ℕ → Type 0) (Put : List ℕ → Type 0)
    (old new : Sums) (fault : TextFault) : Type 0 where
  pub input : List ℕ
  pub taken : Taken input
  pub text : List ℕ
  pub output : Stands IsText input text fault
  pub added : (more : List ℕ) (is_broken : Bool)
      → HasAdded file (input ++ more) is_broken old new (Some (faults.Text fault))
  pub put : Put text

-- Given: the bytes that the input gave, and whether it broke off after them; Taken: the bytes taken of an input that
-- was not read further; Put and Part: the text that was put whole in rounds, or a first part until that failed. If
-- the output failed, or memory was refused, a first part of the texts of some first races was put.
abbrev pub PutsRaces : ℕ → TextRelation → (List ℕ → Bool → Type 0) → (List ℕ → Type 0) → (List ℕ → Type 0)
    → (List ℕ → Type 0) → Sums → Sums → Result (Unit {0}) StreamFault → Type 0
PutsRaces file IsText Given Taken Put Part old new (Ok done) = PutsAll file IsText Given Put old new None
PutsRaces file IsText Given Taken Put Part old new (Err (Text fault)) =
    PutsAll file IsText Given Put old new (Some (faults.Text fault)) ⊎ PutsSure file IsText Taken Put old new fault
PutsRaces file IsText Given Taken Put Part old new (Err Read) =
    PutsAll file IsText Given Put old new (Some faults.Read)
PutsRaces file IsText Given Taken Put Part old new (Err Write) = PutsSome IsText Given Taken Part
PutsRaces file IsText Given Taken Put Part old new (Err Memory) =
    (text left : List ℕ) × PutsSome IsText Given Taken (λ whole. (whole ≡ text ++ left) × Put text)

abbrev pub PutsParts : {I O : Type 0} → inputs.Ghosts I → outputs.Ghosts O → ℕ → TextRelation → I → I → O → O → Sums
    → Sums → Result (Unit {0}) StreamFault → Type 0
PutsParts input output file IsText first last before after =
    PutsRaces file IsText (Gave input first last) (GaveSoFar input first last) (TookRounds output before after)
    (TookRoundsPart output before after)

-- a race's part of a page, for the text of this place and this name, if it has one
abbrev pub IsPart : ℕ → ChangeValues → Option (List ℕ) → TextRelation
IsPart place changes name = IsTextWith (contents.Course (printers.Section place)) changes name

-- there are sums of the races, unless the output failed or memory was refused: then there are none from then on
abbrev pub KeepsSums : (Sums → Type 0) → Option Sums → Result (Unit {0}) StreamFault → Type 0
KeepsSums Put None (Err Write) = (new : Sums) × Put new
KeepsSums Put None (Err Memory) = (new : Sums) × Put new
KeepsSums Put None result = ⊥
KeepsSums Put (Some new) (Err Write) = ⊥
KeepsSums Put (Some new) (Err Memory) = ⊥
KeepsSums Put (Some new) result = Put new

-- the parts of the races of a text were put, and the races added; or there were no sums any more, and nothing was
-- done
abbrev pub PutsSections : {I O : Type 0} → inputs.Ghosts I → outputs.Ghosts O → ChangeValues → Option (List ℕ) → I → I
    → O × Option Sums → O × Option Sums → Result (Unit {0}) StreamFault → Type 0
PutsSections input output changes name first last (before, None) after result =
    (after ≡ (before, None)) × (last ≡ first) × (result ≡ Err Memory)
PutsSections input output changes name first last (before, Some old) after result =
    (place : ℕ)
    × KeepsSums
    (λ new. PutsParts input output place (IsPart place changes name) first last before after.0 old new result)
    after.1 result

-- Mirrors the code: the races that a stream gave are added, and of their text all but the end is put
pub record HasPut {I O : Type 0} (input : inputs.Ghosts I) (output : outputs.Ghosts O) (file : ℕ) (IsText : TextRelation)
    (first last : I) (stream : StreamState) (before after : O) (old new : Sums) (left : List ℕ) : Type 0 where
  pub read : HasRead file input first last stream old new
  pub text : List ℕ
  pub told : AreTold IsText 1 1 read.races read.front (text ++ left)
  pub put : TookRounds output before after text

abbrev pub end_of : Ending → ℕ
end_of (endings.Won ip tick) = tick
end_of (endings.Exhausted tick) = tick
end_of (endings.Limit tick) = tick

-- the least number within which 99 of 100 lie; 0 if there are none
abbrev pub p99_of : Option Spread → ℕ
p99_of spread = option_map_or (λ s. s.p99) spread 0

abbrev pub page_times : Option Spread → Option Times
page_times times = option_map (λ t. record { median = t.median; p90 = t.p90; p99 = t.p99 }) times

-- the totals of these races on a page, and of the ticks at which they end the one by which 99 of 100 have ended, and
-- the last
abbrev pub ArePageTotals : List Kept → PageTotals → Type 0
ArePageTotals kept told =
    (totals : Totals) × (ends : Option Spread) × AreTotals kept totals
    × IsSpread (map (λ race. end_of race.ending) kept) ends
    × (told
    ≡ record {
      races = totals.counts.races;
      by_v6 = totals.counts.by_v6;
      by_v4 = totals.counts.by_v4;
      not_won = totals.counts.races - totals.counts.won;
      times = page_times totals.times;
      end = p99_of ends;
      longest = greatest_of ends;
    })

abbrev pub IsTail : List Kept → List ℕ → Type 0
IsTail kept text = (totals : PageTotals) × ArePageTotals kept totals × States (totals_facts totals) text

-- the totals of these races were put into the output, or a first part of them; or there was no memory for them
abbrev pub PutsTail : {O : Type 0} → outputs.Ghosts O → Sums → O → O → ℕ → Type 0
PutsTail output sums before after status =
    ((status ≡ FAULT) × (after ≡ before))
    ⊎ ((text : List ℕ) × IsTail sums.kept text × PutsText output text before after status)
