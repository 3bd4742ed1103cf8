use Rattle.std.proofs.Common.{ℕ, Option, subst}
use Rattle.he_words.specs.Appending.{AppendsText}
use Rattle.he_write.specs.Written.{bounds_text, floor_text}
use Rattle.he_words.proofs.Appending.{writes_then}
use Rattle.he_write.proofs.timelines.write_limits.Goals as goal

pub returns : goal.returns
returns g c =
    let P : Option ℕ → Type 0 = λ floor. AppendsText c.write_floor.result c.write_bounds.new.out.items c.write_floor.new.out.items (floor_text floor) in
    writes_then c.args.out.now.items c.write_bounds.new.out.items c.write_floor.new.out.items
    (bounds_text c.args.settings)
    (floor_text c.args.settings.floor)
    c.write_floor.result c.in_ok-write_bounds.ensures (subst P c.floor.ensures.value c.write_floor.ensures)
