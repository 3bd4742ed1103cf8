use Rattle.he_proxy.proofs.Runs.{at_ok, wins_so}
use Rattle.he_proxy.proofs.racer.LoopRacer.begin.Goals as goal

pub returns-clause-wins : goal.returns-clause-wins
returns-clause-wins g c =
    at_ok _ _
    (λ race runs.
    wins_so c.args.self.now.request.now c.args.self.now.state.now.own.items c.args.client c.args.host.now c.args.port c.request_for-request.result c.in_ok-setup.setup c.reach_of.result _ c.request_for-request.ensures c.reach_of.ensures
    c.in_ok-setup.ensures.setup c.in_ok-setup.ensures.embeds runs)
    c.begin_from-begun.result (c.begin_from-begun.ensures.runs c.in_ok-setup.ensures.known)
