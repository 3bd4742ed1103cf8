use Rattle.std.proofs.Common.{◌≡◌, ◌++◌, drop}
use Rattle.std.specs.Prelude.{None, Some}
use Rattle.he_plan.specs.Planning.{interlaced_list}
use Rattle.he_course.specs.Events.{start_events}
use Rattle.he_course.proofs.collecting.push_starts.Given as goal

abbrev pub invariant-loop-line : goal.invariant-loop-line
invariant-loop-line g l =
    (l.list.ips.items ≡ interlaced_list l.timeline l.list.v6 l.list.v4)
    × (l.events.items ++ start_events l.timeline l.last l.failed (drop l.line-index l.lines)
    ≡ l.initial.events.items ++ start_events l.timeline None (Some 0) l.lines)
