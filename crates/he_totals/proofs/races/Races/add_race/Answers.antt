use Rattle.std.proofs.Common.{◌≡◌, ◌+◌, ◌++◌, [], ◌∷◌, List, length, slice_get, take, Some, refl, sym, ◌∙◌, ap, subst, add-one, arith}
use Rattle.std.proofs.lemmas.List.{length-take-le, take_all}
use Rattle.he_timeline.specs.Changes.{ChangeValues, changed}
use Rattle.he_course.specs.Accounts.{end_of}
use Rattle.he_course.specs.Amounts.{times_of}
use Rattle.he_totals.specs.Kept.{Run}
use Rattle.he_totals.specs.Summed.{AreRows, IsRow, Sums}
use Rattle.he_totals.proofs.Loops.{taken_on}
use Rattle.he_totals.proofs.Walked.{adds_on, charged_run, nothing_added, rows_on}
use Rattle.he_totals.proofs.races.Races.add_race.Goals as goal

pub loop-row-init : goal.loop-row-init
loop-row-init g c = ([], refl, nothing_added c.args.self.now)

pub loop-row-preserved : goal.loop-row-preserved
loop-row-preserved g c =
    let (runs, rows, adds) = c.loop-row.invariant in
    let settings = c.args.self.now.settings in
    let same : length c.self.inside.settings.items ≡ length settings = ap (λ (s : Sums). length s.settings) c.self.view_is in
    let long : length (take c.loop-row.row settings) ≡ c.loop-row.row = length-take-le c.loop-row.row settings (omega arith) in
    let run : Run = record { row = c.loop-row.row; place = c.args.place; said = c.args.told.now; race = c.with_changes-changed.result; report = c.in_ok-transcript.transcript; charges = c.in_ok-account.account.tried.items; times = times_of (end_of c.in_ok-transcript.transcript) c.in_ok-account.account } in
    let is : IsRow c.args.told.now c.args.race.now c.args.place (0 + length (take c.loop-row.row settings)) c.settings_of.result run = record {
      row_is = omega arith;
      place_is = refl;
      said_is = refl;
      race_is = c.with_changes-changed.ensures ∙ ap (changed c.settings_of.result) c.in_ok-copy.ensures;
      transcript = c.in_ok-transcript.ensures;
      account = charged_run c.loop-row.row c.args.place c.args.told.now c.with_changes-changed.result c.in_ok-transcript.transcript c.as_slice.result.now c.in_ok-account.account (c.as_slice.ensures.value ∙ c.in_ok-untried.ensures) c.in_ok-account.ensures.account c.in_ok-account.ensures.lost;
    } in
    let longer : take (c.loop-row.row + 1) settings ≡ take c.loop-row.row settings ++ c.settings_of.result ∷ [] =
    rw add-one (taken_on settings c.loop-row.row c.settings_of.result (subst (λ (s : List ChangeValues). slice_get s c.loop-row.row ≡ Some c.settings_of.result) adds.settings c.settings_of.ensures)) in (
      runs ++ run ∷ [],
      subst (λ (s : List ChangeValues). AreRows c.args.told.now c.args.race.now c.args.place 0 s (runs ++ run ∷ [])) (sym longer) (rows_on c.args.told.now c.args.race.now c.args.place 0 (take c.loop-row.row settings) runs c.settings_of.result run rows is),
      adds_on runs (run ∷ []) c.args.self.now c.loop-row.self c.add_run.new.self adds c.in_ok-add_run.ensures,
    )

pub returns : goal.returns
returns g c =
    let (runs, rows, adds) = c.loop-row.invariant in
    let same : length c.self.inside.settings.items ≡ length c.args.self.now.settings = ap (λ (s : Sums). length s.settings) c.self.view_is in
    (runs, subst (λ (s : List ChangeValues). AreRows c.args.told.now c.args.race.now c.args.place 0 s runs) (take_all c.loop-row.row c.args.self.now.settings (omega arith)) rows, adds)
