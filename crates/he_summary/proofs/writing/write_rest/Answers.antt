use Rattle.std.proofs.Common.{List, subst, arith}
use Rattle.he_summary.specs.Written.{AreSlowest, HasWords}
use Rattle.he_totals.specs.declared.kept.Kept.{Kept}
use Rattle.he_summary.proofs.Told.{no_slowest, some_slowest}
use Rattle.he_summary.proofs.writing.write_rest.Goals as goal
use Rattle.he_summary.proofs.writing.write_rest.Goals.{then-slowest-gt0+in_ok-slow+in_ok-write_slowest, else-slowest-gt0}

pub returns : goal.returns
returns g c =
    let end : HasWords c.if-slowest-gt0.text.items c.extend_from_slice.new.self.items = (_, c.in_ok-extend_from_slice.ensures.items) in
    elim c.if-slowest-gt0.branch [
      | then-slowest-gt0+in_ok-slow+in_ok-write_slowest w ↦
          some_slowest c.args.form c.args.slowest c.args.races.now.kept w.in_ok-slow.slow.items c.args.text.now.items w.write_slowest.new.text.items c.extend_from_slice.new.self.items
          w.if-slowest-gt0.true (subst (λ (kept : List Kept). AreSlowest c.args.slowest kept w.in_ok-slow.slow.items) w.kept.ensures w.in_ok-slow.ensures)
          (rw w.as_slice.ensures.value at w.in_ok-write_slowest.ensures) (rw w.text-is at end)
      | else-slowest-gt0 w ↦ no_slowest c.args.form c.args.slowest c.args.races.now.kept c.args.text.now.items c.extend_from_slice.new.self.items (omega arith) (rw w.text-is at end)
    ]
