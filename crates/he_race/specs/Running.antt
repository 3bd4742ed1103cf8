-- An attempt of a recorded race that runs by itself.
use Rattle.std.specs.Prelude.{ℕ, ◌≡◌, ⊤, Result, Ok, Err}
use Rattle.he_addr.specs.declared.ip.Ip.{Ip}
use Rattle.he_plan.specs.declared.finish.Fate.{Fate}
use Rattle.he_plan.specs.declared.finish.Fate.TheVariants.{Succeeded, Failed}
use Rattle.he_timeline.specs.Race.{Race}
use Rattle.he_turns.specs.declared.attempt.Finish.{Finish}
use Rattle.he_turns.specs.declared.connector.Connector.{Ghosts as ConnectorOf}
use Rattle.he_turns.specs.declared.faults.AttemptFault.{AttemptFault}
use Rattle.he_race.specs.declared.scripted.ScriptedTrial.{ScriptedTrial}
use Rattle.he_turns.specs.declared.trial.Trial.{Ghosts as TrialOf}
use Rattle.he_race.specs.Scripted.{ScriptPolls, script_of, tick_of}

-- the connector begins only the trials of this race
pub record IsScripted {C : Type 0} (connector : ConnectorOf C (Unit {0}) ScriptedTrial) (race : Race)
    (c : C) : Type 0 where
  pub begins : (place : ℕ) (ip : Ip) (now : ℕ) (answer : Result ScriptedTrial AttemptFault) (left : C)
      → connector.begins c place ip now answer left → (answer ≡ Ok (script_of race ip now)) × (left ≡ c)

-- the contract of a scripted trial
abbrev pub scripted_trial : TrialOf ScriptedTrial (Unit {0})
scripted_trial = record {
  can_poll = λ _. ⊤;
  needs = λ _ _. ⊥;
  polls = ScriptPolls;
  due_tick = tick_of;
  may_give = λ _ _. ⊤;
}

-- the fate of an attempt that finished
abbrev pub result_at : ℕ → Result (Unit {0}) AttemptFault → Fate
result_at tick (Ok done) = Succeeded tick
result_at tick (Err fault) = Failed tick

abbrev pub fate_at : Finish (Unit {0}) → Fate
fate_at finish = result_at finish.tick finish.result
