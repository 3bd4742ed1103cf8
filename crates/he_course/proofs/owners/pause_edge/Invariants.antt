use Rattle.std.proofs.Common.{◌≡◌, ◌<◌, ◌≤◌, ℕ, take}
use Rattle.he_course.specs.Owners.{is_asleep}
use Rattle.he_course.proofs.owners.pause_edge.Given as goal

abbrev pub invariant-loop-pause : goal.invariant-loop-pause
invariant-loop-pause l = record {
  later : l.tick < l.until;
  within : l.until ≤ l.end;
  same : (t : ℕ) → l.tick ≤ t → t < l.until
      → is_asleep (take l.pause-index l.pauses) t ≡ is_asleep (take l.pause-index l.pauses) l.tick;
}
