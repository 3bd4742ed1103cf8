use Rattle.he_check.proofs.counting.Counted.step.Goals as goal

pub returns-then-self : goal.returns-then-self
returns-then-self g c = c.seek.ensures c.args.ending c.requires.may
