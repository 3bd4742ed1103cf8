use Rattle.std.proofs.Common.{◌≡◌, take}
use Rattle.he_timeline.specs.Timeline.{IsRace}
use Rattle.he_turns.specs.Heard.{with_known}
use Rattle.he_turns.proofs.learning.add_known.Given as goal

abbrev pub invariant-loop-ip : goal.invariant-loop-ip
invariant-loop-ip l = record {
  recorded : l.recorded ≡ with_known l.initial.recorded l.told (take l.ip-index l.addresses);
  valid : IsRace l.recorded;
}
