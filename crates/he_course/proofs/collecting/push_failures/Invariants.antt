use Rattle.std.proofs.Common.{◌≡◌, ◌++◌, drop}
use Rattle.std.specs.List.{flat_map}
use Rattle.he_course.specs.Events.{failed_by}
use Rattle.he_course.proofs.collecting.push_failures.Given as goal

abbrev pub invariant-loop-line : goal.invariant-loop-line
invariant-loop-line g l =
    l.events.items ++ flat_map (λ line. failed_by line.place line.mark) (drop l.line-index l.lines)
    ≡ l.initial.events.items ++ flat_map (λ line. failed_by line.place line.mark) l.lines
