use Rattle.std.proofs.Common.{OnOk, subst, ◌∙◌}
use Rattle.he_course.specs.Addresses.{all_attributes_of}
use Rattle.he_json.specs.Documents.{Appends, IsOrderJson, spot_of}
use Rattle.he_streaming.proofs.Printed.{written}
use Rattle.he_streaming.proofs.race_texts.write_order_object.Goals as goal

pub returns : goal.returns
unfolding all_attributes_of
returns g c =
    let spot = spot_of c.args.place in
    let old = c.args.text.now.items in
    let new = c.write_order_json.new.out.items in
    written c.write_order_json.result (IsOrderJson spot (all_attributes_of c.args.timeline.now)) old new
    (subst (λ sorted. OnOk c.write_order_json.result (Appends (IsOrderJson spot sorted) old new)) (c.deref.ensures.value ∙ c.in_ok-sorted.ensures) c.write_order_json.ensures.ok)
