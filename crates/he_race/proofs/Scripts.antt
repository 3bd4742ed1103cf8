-- What a pending poll of a scripted trial waits for.
use Rattle.std.proofs.Common.{Some, None, Ok, Err, ◌∙◌}
use Rattle.futures.specs.declared.task.Poll.TheVariants.{Ready, Pending}
use Rattle.he_turns.specs.declared.faults.AttemptFault.TheVariants.{Failed}
use Rattle.he_race.specs.declared.scripted.ScriptedTrial.{ScriptedTrial}
use Rattle.he_race.specs.declared.scripted.ScriptedTrial.TheVariants.{Succeeds, Fails, Silent}
use Rattle.he_race.specs.Scripted.{ScriptPolls, tick_of}
use Rattle.he_turns.specs.Waiting.{WaitsForTick}
use Rattle.he_turns.proofs.Waits.{early, waits_still}

pub script_waits : (x : ScriptedTrial) → WaitsForTick ScriptPolls x (tick_of x)
script_waits (Succeeds tick) =
    waits_still ScriptPolls (Succeeds tick) (Some tick) (λ t r s' before p. (p.0 ∙ early Pending (Ready (Ok tt)) t tick before, p.1))
script_waits (Fails tick) =
    waits_still ScriptPolls (Fails tick) (Some tick) (λ t r s' before p. (p.0 ∙ early Pending (Ready (Err Failed)) t tick before, p.1))
script_waits Silent = waits_still ScriptPolls Silent None (λ t r s' before p. p)
