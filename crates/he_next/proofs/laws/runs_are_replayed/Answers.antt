use Rattle.he_next.proofs.RunLaws.{replayed_end, runs_in_turn}
use Rattle.he_next.proofs.laws.runs_are_replayed.Goals as goal

pub returns-clause-in_turn : goal.returns-clause-in_turn
returns-clause-in_turn c first earlier state r runs = (runs_in_turn first earlier state r runs).1

pub returns-clause-replayed : goal.returns-clause-replayed
returns-clause-replayed c first earlier state report now r runs t over =
    let sound = runs_in_turn first earlier state r runs in
    replayed_end state.race report state.attempts now sound.0 sound.1 t over
