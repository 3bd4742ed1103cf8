use Rattle.std.proofs.Common.{◌≡◌, ◌++◌, ◌+◌, drop}
use Rattle.std.specs.Prelude.{None}
use Rattle.he_story.specs.Lines.{address_lines, told}
use Rattle.he_story.proofs.story.Story.tell_addresses.Given as goal

abbrev pub invariant-loop-place : goal.invariant-loop-place
invariant-loop-place g l =
    told l.self ++ address_lines l.prefixes (l.place + 1) l.earlier (drop l.place l.addresses)
    ≡ told l.fn.self ++ address_lines l.prefixes 1 None l.addresses
