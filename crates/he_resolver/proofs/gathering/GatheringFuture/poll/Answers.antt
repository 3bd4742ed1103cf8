use Rattle.std.proofs.Common.{rules}
use Rattle.he_addr.specs.declared.ip.Family.TheVariants as families
use Rattle.he_resolver.proofs.Waits.{both_heard, gathering_waits}
use Rattle.he_resolver.proofs.gathering.GatheringFuture.poll.Goals as goal

pub returns-else-are_told-clause-registered : goal.returns-else-are_told-clause-registered
returns-else-are_told-clause-registered g c =
    gathering_waits c.poll_for-2.new.cx c.poll_for-2.new.self
    (both_heard c.poll_for-2.new.cx c.poll_for-2.new.self (c.poll_for-2.ensures.other families.V6 (λ e. cc) c.poll_for.ensures.own) c.poll_for-2.ensures.own)
    (search rules)
