-- The exit status that reports how a run ended.
use Rattle.std.specs.Prelude.{ℕ, zero, suc, Result, Ok, Err}
use Rattle.he_tasks.specs.declared.reports.TheConstants.{DONE, FAULT}

-- the first status, or the second one if the first is success
abbrev pub first_fault : ℕ → ℕ → ℕ
first_fault zero then = then
first_fault (suc first) then = suc first

-- the status that reports how a command ended
abbrev pub status_of : {Fault : Type 0} → Result (Unit {0}) Fault → ℕ
status_of (Ok done) = DONE
status_of (Err fault) = FAULT
