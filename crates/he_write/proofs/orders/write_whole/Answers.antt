use Rattle.std.proofs.Common.{◌∷◌, [], ◌∙◌}
use Rattle.std.specs.Prelude.{codes}
use Rattle.he_plan.specs.Attempts.{order}
use Rattle.he_timeline.specs.Race.{race_input, usable_addresses}
use Rattle.he_write.specs.Orders.{order_lines}
use Rattle.he_write.specs.Written.{written_line}
use Rattle.he_write.proofs.OrderTexts.{order_written}
use Rattle.he_words.proofs.Appending.{writes_then}
use Rattle.he_write.proofs.orders.write_whole.Goals as goal

pub returns : goal.returns
returns g c =
    let race = c.args.timeline.now in
    writes_then c.args.out.now.items c.write_places.new.out.items c.write_line.new.out.items
    (order_lines (race_input race) 0 (order race (usable_addresses race)))
    (written_line (codes "end" ∷ []))
    c.write_line.result
    (order_written race c.deref.result.now c.args.out.now.items c.write_places.new.out.items (c.deref.ensures.value ∙ c.in_ok-sorted.ensures) c.in_ok-write_places.ensures)
    c.write_line.ensures
