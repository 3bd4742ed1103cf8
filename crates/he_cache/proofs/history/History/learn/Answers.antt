use Rattle.std.proofs.Common.{nat_eq}
use Rattle.std.specs.Cmp.{nat_eq_equiv}
use Rattle.lru.proofs.CallerLemmas.{lookup-put_entries}
use Rattle.he_addr.specs.Ip.{mapped_of}
use Rattle.he_cache.proofs.Putting.{other_number, put_apart, put_below}
use Rattle.he_cache.proofs.history.History.learn.Goals as goal

pub returns-clause-learnt : goal.returns-clause-learnt
returns-clause-learnt c =
    rw (c.in_ok-put.ensures.entries, c.mapped.ensures)
    (lookup-put_entries nat_eq c.args.self.now.seen (mapped_of c.args.seen.ip) c.args.seen nat_eq_equiv)

pub returns-clause-others : goal.returns-clause-others
returns-clause-others c = λ other apart.
    rw (c.in_ok-put.ensures.entries, c.mapped.ensures)
    (put_apart nat_eq c.args.self.now.seen (mapped_of c.args.seen.ip) c.args.seen _ apart
    (λ key is. other_number (mapped_of c.args.seen.ip) (mapped_of other) key apart is))

pub returns-clause-room : goal.returns-clause-room
returns-clause-room c = λ few other apart.
    rw (c.in_ok-put.ensures.entries, c.mapped.ensures)
    (put_below nat_eq c.args.self.now.seen (mapped_of c.args.seen.ip) c.args.seen _ few apart
    (λ key is. other_number (mapped_of c.args.seen.ip) (mapped_of other) key apart is))
