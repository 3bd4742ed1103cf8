use Rattle.std.proofs.Common.{◌≡◌, drop, not}
use Rattle.std.specs.List.{position_from}
use Rattle.he_select.specs.HostFaults.{is_sound_source}
use Rattle.he_select.proofs.host.first_unsound_source.Given as goal

abbrev pub invariant-loop-i : goal.invariant-loop-i
invariant-loop-i l = position_from (λ item. not (is_sound_source item)) l.i (drop l.i l.sources) ≡ position_from (λ item. not (is_sound_source item)) 0 l.sources
