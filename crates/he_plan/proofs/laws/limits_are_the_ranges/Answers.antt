use Rattle.std.proofs.Common.{refl}
use Rattle.he_plan.proofs.laws.limits_are_the_ranges.Goals as goal

pub returns : goal.returns
returns c = record {
  resolution_most = refl;
  resolution_default = refl;
  attempt_least = refl;
  attempt_most = refl;
  attempt_default = refl;
  floor_least = refl;
  count_least = refl;
  count_most = refl;
  count_default = refl;
  limit_least = refl;
  limit_most = refl;
  limit_default = refl;
  tick_most = refl;
  duration_least = refl;
  duration_most = refl;
  pause_end_most = refl;
  finish_most = refl;
  addresses_most = refl;
  attempts_most = refl;
  pauses_most = refl;
}
