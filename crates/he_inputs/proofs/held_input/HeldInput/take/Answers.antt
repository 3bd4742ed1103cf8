use Rattle.std.proofs.Common.{sym, true≢false}
use Rattle.he_inputs.proofs.HeldInputLaws.{bound_reached, nothing_taken}
use Rattle.he_inputs.proofs.held_input.HeldInput.take.Goals as goal

pub loop-self-init : goal.loop-self-init
loop-self-init g c = nothing_taken g.I.InputStream c.args.input.now c.args.self.now

pub returns-clause-more : goal.returns-clause-more
returns-clause-more g c =
    bound_reached g.I.InputStream c.args.input.now c.loop-self.input c.args.self.now c.loop-self.self c.loop-self.invariant (λ more. absurd (true≢false (sym (c.loop-self-test.ensures.1 more))))
