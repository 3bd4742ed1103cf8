use Rattle.std.proofs.Common.{◌+◌, sym, arith, inl, inr}
use Rattle.std.proofs.lemmas.Bool.{cases_lt}
use Rattle.he_course.proofs.CauseLaws.{never_before}
use Rattle.he_course.proofs.cause.is_seen_before.Goals as goal

pub returns-in_default : goal.returns-in_default
returns-in_default g c =
    sym (never_before c.args.timeline.now (c.args.from + c.args.delay) c.args.tick
    (elim (cases_lt (c.args.from + c.args.delay) 18446744073709551616) [
      | inl less ↦ absurd (c.in_default.ensures less)
      | inr more ↦ omega (arith, more, c.ranges.tick.fits)
    ]))
