use Rattle.std.proofs.Common.{◌≡◌, ◌++◌, drop}
use Rattle.std.specs.List.{flat_map}
use Rattle.he_story.specs.Lines.{told}
use Rattle.he_story.specs.Lost.{charge_facts}
use Rattle.he_story.proofs.story.Story.tell_first.Given as goal

abbrev pub invariant-loop-place : goal.invariant-loop-place
invariant-loop-place g l =
    told l.self ++ flat_map (charge_facts l.lost) (drop l.place l.charges)
    ≡ told l.fn.self ++ flat_map (charge_facts l.lost) l.charges
