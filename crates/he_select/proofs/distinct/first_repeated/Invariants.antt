use Rattle.std.proofs.Common.{◌≡◌, drop, take}
use Rattle.he_select.specs.Refusals.{first_repeat, repeat_from}
use Rattle.he_select.proofs.distinct.first_repeated.Given as goal

abbrev pub invariant-loop-i : goal.invariant-loop-i
invariant-loop-i g l = repeat_from g.T.Distinct.same (take l.i l.items) l.i (drop l.i l.items) ≡ first_repeat g.T.Distinct.same l.items
