use Rattle.he_proxy.proofs.racer.LoopRacerRacer.race.Goals as goal

pub returns-in-Ok-clause-answers : goal.returns-in-Ok-clause-answers
returns-in-Ok-clause-answers g c = λ end gives. c.in-Ok.ensures.wins end gives
