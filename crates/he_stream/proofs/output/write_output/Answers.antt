use Rattle.std.proofs.Common.{arith, inr, ℕ, List, ◌++◌, take, Bor, ap, sym, ◌∙◌}
use Rattle.std.proofs.KnownBytes.{Appends-trans, Appends-kept}
use Rattle.he_stream.proofs.Chains.{one_step_more}
use Rattle.he_stream.proofs.Parts.{part_grows}
use Rattle.he_stream.proofs.output.write_output.Goals as goal
use Rattle.he_stream.proofs.output.write_output.Goals.{in-Bytes, in-Interrupted}

pub loop-steps-preserved : goal.loop-steps-preserved
loop-steps-preserved g c =
    let (part, split, written) = c.loop-steps.invariant.0 in
    elim c.match-put.branch [
      | in-Bytes w ↦
          let more = part ++ take w.in-Bytes.count c.loop-steps.rest.now in
          let step = rw w.in-Bytes.is at c.put.ensures.step in
          let bytes = rw w.in-Bytes.is at c.put.ensures.bytes in (
            (
              more,
              part_grows c.args.text.now part c.loop-steps.rest.now w.in-Bytes.count split ∙ ap (λ (r : Bor (List ℕ)). more ++ r.now) (sym w.rest-is),
              Appends-trans _ _ _ _ _ written bytes.2,
            ),
            one_step_more _ _ _ _ _ _ _ c.loop-steps.invariant.1 tt step,
          )
      | in-Interrupted w ↦
          let step = rw w.in-Interrupted.is at c.put.ensures.step in
          let bytes = rw w.in-Interrupted.is at c.put.ensures.bytes in (
            (
              part,
              split ∙ ap (λ (r : Bor (List ℕ)). part ++ r.now) (sym w.rest-is),
              Appends-kept _ _ _ _ written bytes,
            ),
            one_step_more _ _ _ _ _ _ _ c.loop-steps.invariant.1 tt step,
          )
    ]

pub returns-else-is_empty-2-clause-fault : goal.returns-else-is_empty-2-clause-fault
returns-else-is_empty-2-clause-fault g c = inr (inr record {
  steps = c.loop-steps._steps;
  all = omega (arith, c.loop-steps-test.false, c.loop-steps.auto._steps-end);
  before = c.loop-steps.invariant.1;
})
