use Rattle.std.proofs.Common.{◌≡◌, ◌<◌, ◌≤◌, ◌++◌, ℕ, drop, length, take}
use Rattle.he_course.specs.declared.owners.Owner.{Owner}
use Rattle.he_course.specs.Accounts.{owner_at, started_by}
use Rattle.he_course.specs.Amounts.{amount_of}
use Rattle.he_course.specs.Owners.{IsOwner, ticks_of}
use Rattle.he_course.specs.Started.{AreStarted}
use Rattle.he_course.proofs.accounts.Account.counted.Given as goal

-- the account has the ticks before `at`, and the attempts of which it has gone past have started by each later one
abbrev pub invariant-loop-line : goal.invariant-loop-line
invariant-loop-line g l = record {
  started : AreStarted l.timeline l.started;
  first : l.started.lines.now ≡ take l.line-index l.lines;
  within : l.at ≤ l.end;
  passed : (t : ℕ) → l.at ≤ t → t < l.end
      → started_by t l.lines ≡ take l.line-index l.lines ++ started_by t (drop l.line-index l.lines);
  as_many : length l.account.tried.items ≡ length l.lines;
  each : (who : Owner) → IsOwner (length l.lines) who
      → amount_of l.account who ≡ ticks_of (owner_at l.timeline l.transcript l.untried) l.at who;
}
