use Rattle.std.proofs.Common.{sym, arith}
use Rattle.he_dns.specs.Reading.{chain_end}
use Rattle.he_dns.proofs.Chained.{own_left, alias_left, least_kept, least_left, nothing_left}
use Rattle.he_dns.proofs.chain.chain_end.Goals as goal

pub returns-in-None-clause-host : goal.returns-in-None-clause-host
returns-in-None-clause-host c = own_left c.args.entries.now c.names.current.now c.names.passed (chain_end 17 c.args.entries.now c.args.name.now) (omega arith) c.names.invariant.0 (sym c.in-None.ensures.target)

pub returns-in-None-clause-ttl : goal.returns-in-None-clause-ttl
returns-in-None-clause-ttl c = least_kept c.args.entries.now c.names.current.now c.names.passed c.names.least _ (omega arith) c.names.invariant.1 (sym c.in-None.ensures.target)

pub names-preserved : goal.names-preserved
names-preserved c = (
  alias_left c.args.entries.now c.names.current.now c.in-Some.target.now c.names.passed (chain_end 17 c.args.entries.now c.args.name.now) (omega arith) c.names.invariant.0 (sym c.in-Some.ensures.target),
  least_left c.args.entries.now c.names.current.now c.in-Some.target.now c.names.passed c.in-Some.ttl c.names.least c.lesser-least.result _ (omega arith) c.names.invariant.1 (sym c.in-Some.ensures.target) (sym c.in-Some.ensures.ttl) c.lesser-least.ensures,
)

pub returns-clause-host : goal.returns-clause-host
returns-clause-host c = nothing_left c.args.entries.now c.names.current.now c.names.passed (chain_end 17 c.args.entries.now c.args.name.now) (omega arith) c.names.invariant.0
