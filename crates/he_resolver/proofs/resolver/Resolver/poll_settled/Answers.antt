use Rattle.std.proofs.Common.{rules}
use Rattle.he_resolver.specs.Needs.{other_of}
use Rattle.he_resolver.proofs.Waits.{other_waits}
use Rattle.he_resolver.proofs.resolver.Resolver.poll_settled.Goals as goal

pub returns-then-is_settled-clause-other : goal.returns-then-is_settled-clause-other
returns-then-is_settled-clause-other g c =
    other_waits c.args.cx.now c.poll_names-is_over.new.cx c.wake_if.new.cx c.args.self.now c.poll_names-is_over.new.self c.settle.new.self
    (other_of c.args.family) c.poll_names-is_over.result c.poll_names-is_over.ensures.waits c.settle.ensures.over
    c.settle.ensures.six c.settle.ensures.four (λ e. c.wake_if.ensures.woken (search rules)) c.poll_names-is_over.ensures.kept c.wake_if.ensures.kept
