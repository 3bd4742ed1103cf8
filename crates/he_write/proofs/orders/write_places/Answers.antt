use Rattle.std.proofs.Common.{rules, take, ◌++◌, ◌∙◌, ap}
use Rattle.he_select.specs.declared.attributes.Sourced.{Sourced}
use Rattle.he_words.specs.Appending.{Grows}
use Rattle.he_write.specs.Writing.{sourced_line, attributes_lines}
use Rattle.he_write.proofs.OrderTexts.{place_written}
use Rattle.he_words.proofs.Appending.{grows_after}
use Rattle.he_write.proofs.orders.write_places.Goals as goal

pub returns-in_err-write_place : goal.returns-in_err-write_place
returns-in_err-write_place g c =
    let kept : Grows c.args.out.now.items c.write_place.new.out.items =
    grows_after c.args.out.now.items (attributes_lines 0 (take c.loop-place.place c.args.sorted.now)) c.loop-place.out.items c.write_place.new.out.items c.loop-place.invariant c.in_err-write_place.ensures in
    search rules

pub loop-place-preserved : goal.loop-place-preserved
loop-place-preserved g c =
    place_written c.args.sorted.now c.loop-place.place _
    c.args.out.now.items c.loop-place.out.items c.write_place.new.out.items c.loop-place-test.true c.loop-place.invariant
    (c.in_ok-write_place.ensures ∙ ap (λ (sourced : Sourced). c.loop-place.out.items ++ sourced_line c.loop-place.place sourced) c.sourced.ensures)
