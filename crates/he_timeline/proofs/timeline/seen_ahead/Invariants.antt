use Rattle.std.proofs.Common.{◌≡◌, true, drop}
use Rattle.he_timeline.specs.Seen.{seen_past}
use Rattle.he_timeline.specs.Ahead.{are_ahead}
use Rattle.he_timeline.proofs.timeline.seen_ahead.Given as goal

abbrev pub invariant-loop-pause : goal.invariant-loop-pause
invariant-loop-pause l = record {
  same : seen_past (drop l.pause-index l.pauses) l.seen ≡ seen_past l.pauses l.tick;
  ahead : are_ahead l.seen (drop l.pause-index l.pauses) ≡ true;
}
