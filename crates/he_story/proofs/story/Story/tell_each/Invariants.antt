use Rattle.std.proofs.Common.{◌≡◌, ◌++◌, drop}
use Rattle.std.specs.List.{flat_map}
use Rattle.he_story.specs.Lines.{event_facts, told}
use Rattle.he_story.proofs.story.Story.tell_each.Given as goal

abbrev pub invariant-loop-event : goal.invariant-loop-event
invariant-loop-event g l =
    told l.self ++ flat_map (event_facts l.recorded l.course) (drop l.event-index l.course.events.items)
    ≡ told l.fn.self ++ flat_map (event_facts l.recorded l.course) l.course.events.items
