use Rattle.std.proofs.Common.{rules, ◌+◌, ◌≤◌, Fits, w64, vec_len, length, ℕ, arith, subst, drop, take-take, length-drop}
use Rattle.std.specs.Io.KnownBytes.{Consumes}
use Rattle.std.proofs.lemmas.List.{length-take}
use Rattle.std.proofs.lemmas.List.{places}
use Rattle.he_stream.specs.declared.limits.TheConstants.{INPUT_ROOM}
use Rattle.he_stream.proofs.Chains.{one_step_more}
use Rattle.he_stream.proofs.Filling.{filled_more, filled_same}
use Rattle.he_stream.proofs.input.fill.Goals as goal
use Rattle.he_stream.proofs.input.fill.Goals.{in-Bytes, in-Interrupted}

pub loop-steps-preserved : goal.loop-steps-preserved
loop-steps-preserved g c =
    let before = c.loop-steps.invariant in
    let within : c.loop-steps.filled ≤ length c.take_piece.new.bytes.items = search (rules, places) in
    elim c.match-taken.branch [
      | in-Bytes w ↦
          let step = rw w.in-Bytes.is at c.in-Ok.ensures.step in
          let read = step.0 in
          let small : w.in-Bytes.count ≤ INPUT_ROOM = omega (arith, read.1, length-take {A = ℕ}) in
          let room : c.loop-steps.filled + INPUT_ROOM ≤ length c.take_piece.new.bytes.items = search (rules, places) in
          let fits : c.loop-steps.filled + w.in-Bytes.count ≤ length c.take_piece.new.bytes.items = omega arith in
          let piece = take-take w.in-Bytes.count INPUT_ROOM (drop c.loop-steps.filled c.take_piece.new.bytes.items) small in
          let more = filled_more _ _ _ _ c.loop-steps.bytes.items c.take_piece.new.bytes.items c.loop-steps.filled w.in-Bytes.count within c.in-Ok.ensures.front before.1 before.2 (subst (Consumes _ _) piece read.2) in
          rw w.filled-is (search (rules, places), more.0, more.1, one_step_more _ _ _ _ _ _ _ before.3 tt step.1)
      | in-Interrupted w ↦
          let step = rw w.in-Interrupted.is at c.in-Ok.ensures.step in
          let same = filled_same _ _ _ _ c.loop-steps.bytes.items c.take_piece.new.bytes.items c.loop-steps.filled within c.in-Ok.ensures.front before.1 before.2 step.0 in
          rw w.filled-is (search (rules, places), same.0, same.1, one_step_more _ _ _ _ _ _ _ before.3 tt step.1)
    ]

pub returns-clause-told : goal.returns-clause-told
returns-clause-told g c = record {
  steps = c.loop-steps._steps;
  all = omega (arith, c.loop-steps-test.false, c.loop-steps.auto._steps-end);
  before = c.loop-steps.invariant.3;
}

pub overflow_add-filled : goal.overflow_add-filled
overflow_add-filled g c =
    let step = rw c.in-Bytes.is at c.in-Ok.ensures.step in
    let small : c.in-Bytes.count ≤ INPUT_ROOM = omega (arith, step.0.1, length-take {A = ℕ}) in
    let room : c.loop-steps.filled + INPUT_ROOM ≤ vec_len c.take_piece.new.bytes = c.in-Ok.ensures.room in
    let fits : Fits w64 (vec_len c.take_piece.new.bytes) = search rules in
    omega (arith, fits)

pub returns-in-End-clause-taken : goal.returns-in-End-clause-taken
returns-in-End-clause-taken g c =
    let before = c.loop-steps.invariant in
    let within : c.loop-steps.filled ≤ length c.take_piece.new.bytes.items = search (rules, places) in
    let step = rw c.in-End.is at c.in-Ok.ensures.step in
    let same = filled_same _ _ _ _ c.loop-steps.bytes.items c.take_piece.new.bytes.items c.loop-steps.filled within c.in-Ok.ensures.front before.1 before.2 step.0.0 in
    same.1

pub returns-in-End-clause-whole : goal.returns-in-End-clause-whole
returns-in-End-clause-whole g c =
    let step = rw c.in-End.is at c.in-Ok.ensures.step in
    let room : c.loop-steps.filled + INPUT_ROOM ≤ length c.take_piece.new.bytes.items = search (rules, places) in
    step.0.1 (omega (arith, length-take {A = ℕ}, length-drop {A = ℕ}))
