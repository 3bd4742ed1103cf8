use Rattle.std.proofs.Common.{subst, sym, ◌+◌}
use Rattle.std.specs.declared.vec.Vec.{Vec}
use Rattle.std.specs.declared.alloc.Global.{Global}
use Rattle.he_users.specs.Lines.{pairs}
use Rattle.he_users.specs.declared.users.User.{User}
use Rattle.he_users.proofs.Reading.{IsSoFar, pushed, skipped_line, wrong_line}
use Rattle.he_users.proofs.lines.users_of.Goals as goal
use Rattle.he_users.proofs.lines.users_of.Goals.{in-Skipped, in-User+in_ok-user_of-in-User+in_ok-push-in-User}

pub returns-in-Wrong-clause-fault : goal.returns-in-Wrong-clause-fault
returns-in-Wrong-clause-fault c =
    wrong_line c.args.lines.now c.loop-at.at _ c.in-Wrong.fault c.loop-at-test.true c.loop-at.invariant.0 c.in-Wrong.ensures

pub loop-at-preserved : goal.loop-at-preserved
loop-at-preserved c = elim c.match-read_line.branch [
  | in-Skipped w ↦ subst (λ (v : Vec User Global). IsSoFar c.args.lines.now (c.loop-at.at + 1) (pairs v.items)) (sym w.users-is)
      (skipped_line c.args.lines.now c.loop-at.at _ _ c.loop-at-test.true w.in-Skipped.ensures c.loop-at.invariant)
  | in-User+in_ok-user_of-in-User+in_ok-push-in-User w ↦ subst (λ (v : Vec User Global). IsSoFar c.args.lines.now (c.loop-at.at + 1) (pairs v.items)) (sym w.users-is)
      (pushed c.args.lines.now c.loop-at.at _ c.loop-at.users.items w.push.new.self.items _ _ _ c.loop-at-test.true w.in_ok-push-in-User.ensures.items
      w.in-User.ensures w.in_ok-user_of-in-User.ensures c.loop-at.invariant)
]
