use Rattle.refusing.specs.Runs.{Leads}
use Rattle.refusing.proofs.runs.each_growth_refused.Given as goal

-- the runs so far, as many as the loop has turned
abbrev pub invariant-loop-refused : goal.invariant-loop-refused
invariant-loop-refused g l = goal.F-IsAlwaysCallable g l.run × Leads (λ state next. goal.F-step g state tt next) l.refused l.fn.run l.run
