use Rattle.std.proofs.Common.{◌-◌, ◌≡◌, ◌≤◌, max}
use Rattle.he_course.specs.Amounts.{HasAtMost, HasGained}
use Rattle.he_course.specs.Owners.{owner_in}
use Rattle.he_course.proofs.accounts.Account.add_stage.Given as goal

abbrev pub invariant-loop-at : goal.invariant-loop-at
invariant-loop-at g l = record {
  later : max l.from l.to ≡ max l.at l.to;
  since : l.from ≤ l.at;
  room : HasAtMost l.at l.self;
  gained : HasGained (owner_in l.pauses l.stage) l.from l.at l.initial.self l.self;
}

abbrev pub decreases-loop-at : goal.decreases-loop-at
decreases-loop-at g l = l.to - l.at
