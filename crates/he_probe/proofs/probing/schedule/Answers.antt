use Rattle.std.proofs.Common.{◌+◌, ap, map, subst, sym, take, ◌∙◌, arith, rules}
use Rattle.std.proofs.lemmas.List.{take_all}
use Rattle.he_addr.specs.declared.ip.Ip.TheVariants.{V4}
use Rattle.he_probe.specs.Probing.{AreReady, ip_of}
use Rattle.he_probe.proofs.Schedules.{one-more, scheduled-ips, scheduled-ready}
use Rattle.he_probe.proofs.probing.schedule.Goals as goal

pub loop-ip-preserved : goal.loop-ip-preserved
loop-ip-preserved g c = record {
  start = ap (λ k. k + c.args.pace) c.loop-ip.invariant.start ∙ omega arith;
  probes = c.in_ok-push.ensures.items ∙ one-more _ _ _ c.args.pace c.args.timeout c.args.addresses.now
      c.loop-ip.ip-index c.loop-ip.start c.len.result (V4 0) c.loop-ip.probes.items c.new.result c.loop-ip-test.true
      c.loop-ip.invariant.start c.loop-ip.invariant.probes (search rules) c.new.ensures.new;
}

pub returns-clause-ips : goal.returns-clause-ips
returns-clause-ips g c =
    ap (map ip_of) c.loop-ip.invariant.probes
    ∙ scheduled-ips _ _ _ c.args.pace c.args.timeout 0 (take c.loop-ip.ip-index c.args.addresses.now)
    ∙ take_all c.loop-ip.ip-index c.args.addresses.now c.loop-ip-test.false

pub returns-clause-ready : goal.returns-clause-ready
returns-clause-ready g c =
    subst (AreReady g.C.Connector g.C.Run.Trial) (sym c.loop-ip.invariant.probes)
    (scheduled-ready g.C.Connector g.C.Run.Trial c.args.pace c.args.timeout 0
    (take c.loop-ip.ip-index c.args.addresses.now))
