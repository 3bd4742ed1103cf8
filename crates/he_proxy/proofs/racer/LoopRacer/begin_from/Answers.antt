use Rattle.he_proxy.proofs.racer.LoopRacer.begin_from.Goals as goal

pub returns-clause-runs : goal.returns-clause-runs
returns-clause-runs g c = λ knows. rw c.new-2.ensures (c.in_ok-race.ensures.runs knows)
