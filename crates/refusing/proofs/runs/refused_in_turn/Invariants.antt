use Rattle.refusing.specs.Runs.{Leads, RanWell}
use Rattle.refusing.proofs.runs.refused_in_turn.Given as goal

-- the runs so far, as many as the loop has turned, each of them right or refused
abbrev pub invariant-loop-refused : goal.invariant-loop-refused
invariant-loop-refused g l = goal.F-IsAlwaysCallable g l.make × Leads (RanWell (goal.F-step g)) l.refused l.fn.make l.make
