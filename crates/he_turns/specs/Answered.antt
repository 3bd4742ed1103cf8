-- Mirrors the code: the results of private functions on the answers of a running race.
use Rattle.std.specs.Prelude.{ℕ, ◌&&◌, Bool, false, not, if◌then◌else◌, List, min, Option, Some, None, nat_le}
use Rattle.he_plan.specs.declared.attempts.Attempt.{Attempt}
use Rattle.he_timeline.specs.Race.{Reply}
use Rattle.he_plan.specs.Transcript.{is_tried_out}

abbrev pub is_taken : Option ℕ → ℕ → Bool
is_taken None tick = false
is_taken (Some turn) tick = nat_le tick turn

-- the tick of an answer that the turn did not take
abbrev pub untaken_tick : Option ℕ → Option Reply → Option ℕ
untaken_tick turn None = None
untaken_tick turn (Some reply) = if not (is_taken turn reply.tick) then Some reply.tick else None

abbrev pub earliest : ℕ → Option ℕ → ℕ
earliest due None = due
earliest due (Some tick) = min due tick

-- the answer has come by the tick, and each of its usable addresses was tried
abbrev pub is_tried_out_by : ℕ → List Attempt → Option Reply → Bool
is_tried_out_by now attempts None = false
is_tried_out_by now attempts (Some reply) = nat_le reply.tick now && is_tried_out attempts reply
