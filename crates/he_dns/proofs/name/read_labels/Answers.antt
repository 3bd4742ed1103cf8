use Rattle.std.proofs.Common.{◌≡◌, None, position, eqb}
use Rattle.he_dns.proofs.Labels.{left_on, left_last}
use Rattle.he_dns.proofs.name.read_labels.Goals as goal

pub loop-at-preserved : goal.loop-at-preserved
loop-at-preserved g c =
    left_on c.loop-at.octets.items c.append_label.new.octets.items c.loop-at.rest.now c.behind-rest.result.now c.args.body.now c.in-Some.at c.loop-at.invariant c.in-Some.ensures
    c.behind-rest.ensures c.in_ok-append_label.ensures.ok.0 c.in_ok-append_label.ensures.ok.1

pub returns-clause-ok : goal.returns-clause-ok
returns-clause-ok g c =
    let none : None ≡ position (λ b. eqb b 46) c.loop-at.rest.now = cc in
    left_last c.loop-at.octets.items c.append_label-2.new.octets.items c.loop-at.rest.now c.args.body.now c.loop-at.invariant none
    c.in_ok-append_label-2.ensures.ok.0 c.in_ok-append_label-2.ensures.ok.1
