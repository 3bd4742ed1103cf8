use Rattle.std.proofs.Common.{rules}
use Rattle.he_resolver.proofs.Waits.{listens_kept, names_wait}
use Rattle.he_resolver.proofs.resolver.Resolver.poll_names.Goals as goal

pub returns-then-not-are_told-clause-waits : goal.returns-then-not-are_told-clause-waits
returns-then-not-are_told-clause-waits g c = λ pending.
    names_wait _ _ _ (listens_kept _ _ _ c.poll-in-loop.ensures.kept c.poll.ensures.listens) c.poll-in-loop.ensures.listens (search rules)
