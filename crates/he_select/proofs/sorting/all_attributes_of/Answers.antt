use Rattle.std.proofs.Common.{◌≡◌, sym, ◌∙◌, ap, map}
use Rattle.std.specs.List.{list_all}
use Rattle.std.proofs.lemmas.Result.{IfOk-weaker}
use Rattle.he_select.specs.declared.selection.LabelledSource.{LabelledSource}
use Rattle.he_select.specs.HostFaults.{is_sound_source}
use Rattle.he_select.specs.LabelledRules.{labelled_of}
use Rattle.he_select.specs.Selection.{SelectionInput}
use Rattle.he_select.specs.LookUps.{rows_of}
use Rattle.he_select.proofs.Chosen.{all_attributes_are, labelled_sound}
use Rattle.he_select.proofs.sorting.all_attributes_of.Goals as goal

pub all_attributes_by-requires : goal.all_attributes_by-requires
all_attributes_by-requires g c =
    let items : c.deref.result.now ≡ map (labelled_of (rows_of c.args.table)) c.args.sources.now = c.deref.ensures.value ∙ c.in_ok-labelled.ensures in
    ap (list_all (λ (labelled : LabelledSource). is_sound_source labelled.source)) items ∙ sym (labelled_sound (rows_of c.args.table) c.args.sources.now) ∙ c.requires

pub returns : goal.returns
returns g c =
    let input : SelectionInput = record { rows = rows_of c.args.table; sources = c.args.sources.now; routes = c.args.routes.now; known = c.args.known.now } in
    let labelled : c.deref.result.now ≡ map (labelled_of (rows_of c.args.table)) c.args.sources.now = c.deref.ensures.value ∙ c.in_ok-labelled.ensures in
    record {
      all_attributes = IfOk-weaker c.all_attributes_by.result _ _ (λ v e. all_attributes_are input c.args.addresses.now c.deref.result.now c.told.result.now v.items labelled c.told.ensures e) c.all_attributes_by.ensures.all_attributes;
      range = c.all_attributes_by.ensures.range;
    }
