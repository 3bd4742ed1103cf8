-- One race more of an input is summed, and how its reading ends.
use Rattle.std.proofs.Common.{ℕ, ◌≡◌, ◌+◌, Bool, false, List, [], ◌∷◌, ◌++◌, length, map, Option, Some, None, Ok, Err, inl, inr, refl, sym, ◌∙◌, ap, subst, append_assoc, arith, length-append, sum}
use Rattle.std.proofs.lemmas.Grind.{flat_map-append}
use Rattle.std.proofs.lemmas.List.{append-nil, map-append}
use Rattle.he_timeline.specs.Changes.{ChangeValues}
use Rattle.he_timeline.specs.Race.{Race}
use Rattle.he_stream.specs.declared.stream.InputStream as inputs
use Rattle.he_stream.specs.Input.{Gives}
use Rattle.he_inputs.specs.Inputs.{HasRaces, line_count}
use Rattle.he_inputs.specs.RaceStreams.{EndsRaces, HandsNext, StreamState, at_start}
use Rattle.he_inputs.specs.StreamFaults.{fault_of_reader}
use Rattle.he_inputs.specs.declared.input_fault.InputFault.{InputFault}
use Rattle.he_inputs.specs.declared.input_fault.InputFault.TheVariants as faults
use Rattle.he_inputs.specs.declared.race_reader.RaceReaderFault.{RaceReaderFault}
use Rattle.he_inputs.specs.declared.race_reader.RaceReaderFault.TheVariants as readers
use Rattle.he_inputs.specs.Recorded.{IsRecordedText}
use Rattle.he_inputs.proofs.RaceReadingLaws.{line_count-append}
use Rattle.he_inputs.proofs.RaceStreamLaws.{none_handed}
use Rattle.he_record.specs.Said.{Said}
use Rattle.std.specs.List.{fold}
use Rattle.he_totals.proofs.Hosted.{pairs_on}
use Rattle.he_totals.specs.Hosts.{AreNamed, HasTried, pairs_at, with_pair}
use Rattle.he_addr.specs.declared.ip.Ip.{Ip}
use Rattle.he_course.proofs.AccountLaws.{account_times}
use Rattle.he_course.specs.Accounts.{IsAccount, end_of}
use Rattle.he_course.specs.Amounts.{lost_of, times_of}
use Rattle.he_course.specs.declared.accounts.Account.{Account}
use Rattle.he_course.specs.declared.owners.Owner.TheVariants as owners
use Rattle.he_plan.specs.Transcript.{Report}
use Rattle.he_record.specs.Given.{untried_given}
use Rattle.he_totals.specs.Kept.{IsCharged, Run, kept_of}
use Rattle.he_totals.specs.Steps.{AddsNext, AddsRace, AddsRuns, HasRead}
use Rattle.he_totals.specs.Summed.{AddsAll, AreRows, AreRuns, HasAdded, HasSummed, IsRow, Sums, all_servers, all_tries, host_of, pairs_of}
use Rattle.he_totals.specs.Tries.{AreTallies, Try, servers_of, tries_of}
use Rattle.he_totals.specs.declared.kept.Kept.{Kept}
use Rattle.he_totals.specs.declared.kept.Place.{Place}

-- one row more after the others
pub rows_on : (said : List Said) (race : Race) (place : Place) (row : ℕ) (settings : List ChangeValues) (runs : List Run) (changes : ChangeValues) (run : Run) → AreRows said race place row settings runs
    → IsRow said race place (row + length settings) changes run → AreRows said race place row (settings ++ changes ∷ []) (runs ++ run ∷ [])
rows_on said race place row [] runs changes run none is =
    subst (λ (rest : List Run). AreRows said race place row (changes ∷ []) (rest ++ run ∷ [])) (sym none)
    (record { row_is = let at = is.row_is in omega arith; place_is = is.place_is; said_is = is.said_is; race_is = is.race_is; transcript = is.transcript; account = is.account }, refl)
rows_on said race place row (one ∷ settings) [] changes run none is = absurd none
rows_on said race place row (one ∷ settings) (first ∷ runs) changes run are is = (
  are.0,
  rows_on said race place (row + 1) settings runs changes run are.1
      (record { row_is = let at = is.row_is in omega arith; place_is = is.place_is; said_is = is.said_is; race_is = is.race_is; transcript = is.transcript; account = is.account }),
)

-- the rows of one race more after those of the others
pub runs_on : (settings : List ChangeValues) (file before lines : ℕ) (races : List Race) (text : List ℕ) (runs : List Run) → AreRuns settings file before lines races text runs
    → (race : Race) (last : List ℕ) → (is : IsRecordedText last race) → (number line : ℕ) (rows : List Run) → number ≡ before + length races + 1 → line ≡ lines + line_count text + 1
    → AreRows is.0 race (record { file = file; number = number; line = line }) 0 settings rows → AreRuns settings file before lines (races ++ race ∷ []) (text ++ last) (runs ++ rows)
runs_on settings file before lines [] text runs (none, nothing) race last is number line rows numbered lined are =
    let here : line ≡ lines + 1 = let no_line : line_count text ≡ 0 = ap line_count none in omega arith in
    let first : number ≡ before + 1 = omega arith in (
      last,
      [],
      rows,
      [],
      ap (λ (t : List ℕ). t ++ last) none ∙ sym (append-nil last),
      ap (λ (r : List Run). r ++ rows) nothing ∙ sym (append-nil rows),
      is,
      subst (λ (p : Place). AreRows is.0 race p 0 settings rows) (λ i. record { file = file; number = first i; line = here i }) are,
      (refl, refl),
    )
runs_on settings file before lines (one ∷ races) text runs (first, more, front, later, split, ones, read, at, rest) race last is number line rows numbered lined are =
    let sum : line_count text ≡ line_count first + line_count more = ap line_count split ∙ line_count-append first more in
    let behind : line ≡ lines + line_count first + line_count more + 1 = omega arith in
    let next : number ≡ before + 1 + length races + 1 = omega arith in (
      first,
      more ++ last,
      front,
      later ++ rows,
      ap (λ (t : List ℕ). t ++ last) split ∙ append_assoc first more last,
      ap (λ (r : List Run). r ++ rows) ones ∙ append_assoc front later rows,
      read,
      at,
      runs_on settings file (before + 1) (lines + line_count first) races more later rest race last is number line rows next behind are,
    )

-- the account of a run
pub charged_run : {A : Type 0} (row : ℕ) (place : Place) (said : List Said) (race : Race) (report : Report) (untried : List Ip) (account : Account A) → untried ≡ untried_given said
    → IsAccount race report untried account → account.lost ≡ lost_of account
    → IsCharged (record { row = row; place = place; said = said; race = race; report = report; charges = account.tried.items; times = times_of (end_of report) account })
charged_run {A} row place said race report untried account same is lost =
    let own : IsAccount race report (untried_given said) account = subst (λ (ips : List Ip). IsAccount race report ips account) same is in
    record {
      as_many = own.as_many;
      each = λ at lt. own.each (owners.Tried at) lt;
      times = account_times race report (untried_given said) account own lost;
      lost = lost ∙ ap (λ n. sum account.tried.items + n) (own.each owners.Nobody tt);
    }

-- one run more
pub summed_on : (old new : Sums) (run : Run) (kept : Kept) (before : List Run) → new.kept ≡ old.kept ++ kept ∷ [] → kept ≡ kept_of run
    → ((tries : List Try) → AreTallies tries old.tallies → AreTallies (tries ++ tries_of run) new.tallies)
    → ((tries : List Try) → AreTallies tries old.servers → AreTallies (tries ++ servers_of run) new.servers)
    → ((texts : List (List ℕ)) → AreNamed texts old.hosts → AreNamed (texts ++ host_of run ∷ []) new.hosts) → HasTried run.said run.report.lines old.hosts new.hosts
    → HasSummed old before → HasSummed new (before ++ run ∷ [])
summed_on old new run kept before pushed is tallied served hosted (host, placed, paired) had =
    let servers : all_servers (before ++ run ∷ []) ≡ all_servers before ++ servers_of run =
    flat_map-append servers_of before (run ∷ []) ∙ ap (λ (t : List Try). all_servers before ++ t) (append-nil (servers_of run)) in
    let tries : all_tries (before ++ run ∷ []) ≡ all_tries before ++ tries_of run =
    flat_map-append tries_of before (run ∷ []) ∙ ap (λ (t : List Try). all_tries before ++ t) (append-nil (tries_of run)) in
    record {
      kept = pushed ∙ (λ i. had.kept i ++ is i ∷ []) ∙ sym (map-append kept_of before (run ∷ []));
      tallies = subst (λ (t : List Try). AreTallies t new.tallies) (sym tries) (tallied (all_tries before) had.tallies);
      servers = subst (λ (t : List Try). AreTallies t new.servers) (sym servers) (served (all_servers before) had.servers);
      hosts = subst (λ (t : List (List ℕ)). AreNamed t new.hosts) (sym (map-append host_of before (run ∷ []))) (hosted (map host_of before) had.hosts);
      pairs = paired ∙ ap (λ (pairs : List (Ip × ℕ)). fold with_pair pairs (pairs_at host run.said run.report.lines)) had.pairs
          ∙ sym (pairs_on old.hosts host before run had.hosts) ∙ ap (λ (places : List ℕ). pairs_of places (before ++ run ∷ [])) (sym placed);
    }

pub nothing_added : (sums : Sums) → AddsRuns [] sums sums
nothing_added sums = record { settings = refl; sums = λ before has. subst (HasSummed sums) (sym (append-nil before)) has }

pub adds_on : (front back : List Run) (first old new : Sums) → AddsRuns front first old → AddsRuns back old new → AddsRuns (front ++ back) first new
adds_on front back first old new some more = record {
  settings = more.settings ∙ some.settings;
  sums = λ before has. subst (HasSummed new) (append_assoc before front back) (more.sums (before ++ front) (some.sums before has));
}

module _ {I : Type 0} (file : ℕ) (input : inputs.Ghosts I) (first : I)
  where
    unfoldable pub none_read : (sums : Sums) → HasRead file input first first at_start sums sums
    none_read sums = record { races = []; front = []; added = []; handed = none_handed input first; are = (refl, refl); adds = nothing_added sums }

    module _ (before last : I) (stream next : StreamState) (start old : Sums) (read : HasRead file input first before stream start old)
      where
        -- one race more
        unfoldable pub one_more : (race : Race) → (hands : HandsNext input first last next read.races read.front (Ok (Some race))) → (number line : ℕ) → number ≡ next.races → line ≡ stream.lines + 1
            → (new : Sums) → AddsRace hands.0.0 race (record { file = file; number = number; line = line }) old new → HasRead file input first last next start new
        one_more race (is, handed) number line numbered lined new (rows, are, adds) =
            let counted = handed.counted in
            let before_it = read.handed.lined in
            let longer = length-append read.races (race ∷ []) in
            let rows_are = subst (λ (settings : List ChangeValues). AreRows is.0 race (record { file = file; number = number; line = line }) 0 settings rows) read.adds.settings are in
            record {
              races = read.races ++ race ∷ [];
              front = read.front ++ next.text;
              added = read.added ++ rows;
              handed = handed;
              are = runs_on start.settings file 0 0 read.races read.front read.added read.are race next.text is number line rows (omega arith) (omega arith) rows_are;
              adds = adds_on read.added rows start old new read.adds adds;
            }

        -- the races so far are all of an input
        pub all_added : (whole : List ℕ) (is_broken : Bool) (rest : List ℕ) (fault : Option InputFault) → whole ≡ read.front ++ rest → HasRaces whole is_broken read.races fault → HasAdded file whole is_broken start old fault
        all_added whole is_broken rest fault parts has = record {
          races = read.races;
          has = has;
          front = read.front;
          rest = rest;
          parts = parts;
          added = read.added;
          are = read.are;
          settings = read.adds.settings;
          sums = read.adds.sums;
        }

        ends_all : (fault : Option InputFault) → EndsRaces (Gives input.remaining input.takes first last) read.races read.front fault
            → AddsAll file (Gives input.remaining input.takes first last) start old fault
        ends_all fault ends = (read.front ++ ends.rest, ends.is_broken, ends.given, all_added (read.front ++ ends.rest) ends.is_broken ends.rest fault refl ends.has)

        -- nothing is left of it
        pub ends : HandsNext input first last next read.races read.front (Ok None) → AddsNext file input first last next start old (Ok false)
        ends none = ends_all None none

        -- a fault ends it
        pub fails : (fault : RaceReaderFault) → HandsNext input first last next read.races read.front (Err fault) → AddsNext file input first last next start old (Err (fault_of_reader fault))
        fails (readers.Input (faults.Text fault)) (inl ends) = inl (ends_all (Some (faults.Text fault)) ends)
        fails (readers.Input (faults.Text fault)) (inr stops) =
            inr (
              read.front ++ stops.rest,
              stops.taken,
              λ more is_broken.
                  all_added ((read.front ++ stops.rest) ++ more) is_broken (stops.rest ++ more) (Some (faults.Text fault)) (append_assoc read.front stops.rest more) (stops.has more is_broken),
            )
        fails (readers.Input faults.Read) ends = ends_all (Some faults.Read) ends
        fails readers.Memory handed = tt
