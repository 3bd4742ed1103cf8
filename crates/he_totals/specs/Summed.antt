-- The races that are summed.
use Rattle.std.specs.Prelude.{ℕ, ◌≡◌, ◌⊎◌, ◌+◌, ◌++◌, ⊤, Bool, List, [], ◌∷◌, map, Option, Some, None, Result, Ok, Err}
use Rattle.std.specs.List.{flat_map, fold, zip}
use Rattle.he_addr.specs.declared.ip.Ip.{Ip}
use Rattle.he_timeline.specs.Changes.{ChangeValues, changed}
use Rattle.he_timeline.specs.Race.{Race}
use Rattle.he_plan.specs.Transcript.{IsTranscript}
use Rattle.he_record.specs.Said.{Said}
use Rattle.he_inputs.specs.Inputs.{HasRaces, line_count}
use Rattle.he_inputs.specs.declared.input_fault.InputFault.{InputFault}
use Rattle.he_inputs.specs.declared.input_fault.InputFault.TheVariants as inputs
use Rattle.he_inputs.specs.declared.stream_fault.StreamFault.{StreamFault}
use Rattle.he_inputs.specs.declared.stream_fault.StreamFault.TheVariants.{Text, Read, Write, Memory}
use Rattle.he_inputs.specs.Recorded.{IsRecordedText}
use Rattle.he_totals.specs.Hosts.{AreNamed, Named, host_said, pairs_at, with_pair}
use Rattle.he_totals.specs.Kept.{IsCharged, Run, kept_of}
use Rattle.he_totals.specs.Tries.{AreTallies, Try, servers_of, tries_of}
use Rattle.he_totals.specs.declared.kept.Kept.{Kept}
use Rattle.he_totals.specs.declared.kept.Place.{Place}
use Rattle.he_totals.specs.declared.tallies.Tally.{Tally}

-- the records of races, each with the settings of each row
pub record Sums : Type 0 where
  pub settings : List ChangeValues
  pub kept : List Kept
  pub tallies : List (Ip × Tally)
  pub servers : List (Ip × Tally)
  pub hosts : Named

-- all attempts of races
abbrev pub all_tries : List Run → List Try
all_tries runs = flat_map tries_of runs

-- the name servers of races that did not answer, once for each record line
abbrev pub all_servers : List Run → List Try
all_servers runs = flat_map servers_of runs

-- the requested host and port of a race, by its record
abbrev pub host_of : Run → List ℕ
host_of run = host_said run.said

-- the addresses that races tried, each with the place of the race's host, each such pair once: `places` has the place
-- of each race
abbrev pub pairs_of : List ℕ → List Run → List (Ip × ℕ)
pairs_of places runs =
    fold with_pair [] (flat_map (λ (placed : ℕ × Run). pairs_at placed.0 placed.1.said placed.1.report.lines) (zip places runs))

-- these races are summed
pub record HasSummed (sums : Sums) (runs : List Run) : Type 0 where
  pub kept : sums.kept ≡ map kept_of runs
  pub tallies : AreTallies (all_tries runs) sums.tallies
  pub servers : AreTallies (all_servers runs) sums.servers
  pub hosts : AreNamed (map host_of runs) sums.hosts
  pub pairs : sums.hosts.pairs ≡ pairs_of sums.hosts.places runs

-- a race with a row's changes of its settings, its record, its transcript and its account
pub record IsRow (said : List Said) (race : Race) (place : Place) (row : ℕ) (changes : ChangeValues)
    (run : Run) : Type 0 where
  pub row_is : run.row ≡ row
  pub place_is : run.place ≡ place
  pub said_is : run.said ≡ said
  pub race_is : run.race ≡ changed changes race
  pub transcript : IsTranscript run.race run.report
  pub account : IsCharged run

-- one for each of these rows, from this one on
abbrev pub AreRows : List Said → Race → Place → ℕ → List ChangeValues → List Run → Type 0
AreRows said race place row [] runs = runs ≡ []
AreRows said race place row (changes ∷ settings) [] = ⊥
AreRows said race place row (changes ∷ settings) (run ∷ runs) =
    IsRow said race place row changes run × AreRows said race place (row + 1) settings runs

-- after this number of races and lines of a file, the text is a text of each race in order; the runs are their rows
abbrev pub AreRuns : List ChangeValues → ℕ → ℕ → ℕ → List Race → List ℕ → List Run → Type 0
AreRuns settings file before lines [] text runs = (text ≡ []) × (runs ≡ [])
AreRuns settings file before lines (race ∷ races) text runs =
    (first more : List ℕ) × (rows later : List Run) × (text ≡ first ++ more) × (runs ≡ rows ++ later)
    × (is : IsRecordedText first race)
    × AreRows is.0 race (record { file = file; number = before + 1; line = lines + 1 }) 0 settings rows
    × AreRuns settings file (before + 1) (lines + line_count first) races more later

-- the races of the input up to its first fault are added to those summed before
pub record HasAdded (file : ℕ) (input : List ℕ) (is_broken : Bool) (old new : Sums)
    (fault : Option InputFault) : Type 0 where
  pub races : List Race
  pub has : HasRaces input is_broken races fault
  pub front : List ℕ
  pub rest : List ℕ
  pub parts : input ≡ front ++ rest
  pub added : List Run
  pub are : AreRuns old.settings file 0 0 races front added
  pub settings : new.settings ≡ old.settings
  pub sums : (before : List Run) → HasSummed old before → HasSummed new (before ++ added)

-- Given: the bytes that the input gave, and whether it broke off after them
abbrev pub AddsAll : ℕ → (List ℕ → Bool → Type 0) → Sums → Sums → Option InputFault → Type 0
AddsAll file Given old new fault =
    (input : List ℕ) × (is_broken : Bool) × Given input is_broken × HasAdded file input is_broken old new fault

-- Taken: the bytes taken of an input that was not read further. Every input that begins with them has these races and
-- this fault.
abbrev pub AddsSure : ℕ → (List ℕ → Type 0) → Sums → Sums → InputFault → Type 0
AddsSure file Taken old new fault =
    (input : List ℕ) × Taken input
    × ((more : List ℕ) (is_broken : Bool) → HasAdded file (input ++ more) is_broken old new (Some fault))

abbrev pub Adds : ℕ → (List ℕ → Bool → Type 0) → (List ℕ → Type 0) → Sums → Sums → Result (Unit {0}) StreamFault
    → Type 0
Adds file Given Taken old new (Ok done) = AddsAll file Given old new None
Adds file Given Taken old new (Err (Text fault)) =
    AddsAll file Given old new (Some (inputs.Text fault)) ⊎ AddsSure file Taken old new (inputs.Text fault)
Adds file Given Taken old new (Err Read) = AddsAll file Given old new (Some inputs.Read)
Adds file Given Taken old new (Err Write) = ⊥
Adds file Given Taken old new (Err Memory) = ⊤
