use Rattle.std.proofs.Common.{inr}
use Rattle.he_race.proofs.Scripts.{script_waits}
use Rattle.he_race.proofs.scripted.ScriptedTrialTrial.poll_trial.Goals as goal

pub returns-in_default-clause-waits : goal.returns-in_default-clause-waits
returns-in_default-clause-waits c = inr (script_waits c.args.self.now)

pub returns-in_default-2-clause-waits : goal.returns-in_default-2-clause-waits
returns-in_default-2-clause-waits c = inr (script_waits c.args.self.now)

pub returns-in_default-3-clause-waits : goal.returns-in_default-3-clause-waits
returns-in_default-3-clause-waits c = inr (script_waits c.args.self.now)
