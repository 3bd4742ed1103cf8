use Rattle.std.proofs.Common.{sym, ◌∙◌, ap}
use Rattle.he_addr.specs.contracts.ip.IpPartialEq.TheImpl.{eq-value}
use Rattle.he_timeline.specs.Race.{has_ip}
use Rattle.he_timeline.proofs.Addressed.{distinct_never, distinct_next, found_is, no_by, set_next, there_by}
use Rattle.he_timeline.proofs.ByAddress.{same_as}
use Rattle.he_timeline.proofs.addresses.set_of.Goals as goal

pub returns-then-not-branch-clause-none : goal.returns-then-not-branch-clause-none
returns-then-not-branch-clause-none g c =
    distinct_never c.args.ips.now c.loop-ip.ip-index _ c.loop-ip-test.true
    (ap (has_ip _) (sym c.loop-ip.invariant.keys) ∙ sym (found_is eq-value.it same_as _ c.loop-ip.found.keys) ∙ there_by _ _ c.in_ok-insert.ensures.added c.if-not-branch.true)

pub loop-ip-preserved : goal.loop-ip-preserved
loop-ip-preserved g c =
    let absent = no_by _ (sym c.in_ok-insert.ensures.added ∙ c.if-not-branch.false) in
    record {
      keys = set_next eq-value.it same_as c.loop-ip.found.keys _ c.args.ips.now c.loop-ip.ip-index _ c.loop-ip-test.true c.loop-ip.invariant.keys absent c.in_ok-insert.ensures.keys;
      distinct = distinct_next c.args.ips.now c.loop-ip.ip-index _ c.loop-ip-test.true c.loop-ip.invariant.distinct (ap (has_ip _) (sym c.loop-ip.invariant.keys) ∙ sym (found_is eq-value.it same_as _ c.loop-ip.found.keys) ∙ absent);
    }
