use Rattle.std.proofs.Common.{string_bytes}
use Rattle.std.specs.String.{string_eq, string_eq_equiv}
use Rattle.lru.proofs.CallerLemmas.{lookup-put_entries}
use Rattle.he_cache.proofs.Putting.{not_itself, other_bytes, put_apart, put_below}
use Rattle.he_cache.proofs.cache.put.Goals as goal

pub returns-clause-kept : goal.returns-clause-kept
returns-clause-kept g c =
    rw c.in_ok-put.ensures.entries (lookup-put_entries string_eq c.args.hosts.now c.args.host c.args.kept string_eq_equiv)

pub returns-clause-others : goal.returns-clause-others
returns-clause-others g c = λ other apart.
    rw c.in_ok-put.ensures.entries
    (put_apart string_eq c.args.hosts.now c.args.host c.args.kept _ (not_itself (string_bytes c.args.host) other apart)
    (λ key is. other_bytes (string_bytes c.args.host) other (string_bytes key) apart is))

pub returns-clause-room : goal.returns-clause-room
returns-clause-room g c = λ few other apart.
    rw c.in_ok-put.ensures.entries
    (put_below string_eq c.args.hosts.now c.args.host c.args.kept _ few (not_itself (string_bytes c.args.host) other apart)
    (λ key is. other_bytes (string_bytes c.args.host) other (string_bytes key) apart is))
