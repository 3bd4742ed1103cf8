-- The faults of a record that has no step.
use Rattle.std.specs.Prelude.{ℕ, ◌⊎◌, ⊤, List, false}
use Rattle.he_inputs.specs.declared.inputs.NotOneRace.{NotOneRace}
use Rattle.he_inputs.specs.declared.inputs.NotOneRace.TheVariants as ones
use Rattle.he_inputs.specs.Inputs.{IsNotOne}
use Rattle.he_next.specs.declared.fault.NextFault.{NextFault}
use Rattle.he_next.specs.declared.fault.NextFault.TheVariants as faults
use Rattle.he_next.specs.Steps.{IsLate, ended, with_pause}

-- the fault of a record that is not one race
abbrev pub next_fault : NotOneRace → NextFault
next_fault (ones.Fault fault) = faults.Record fault
next_fault ones.Count = faults.NotOne
next_fault ones.Memory = faults.Memory

-- the record with `end` added is not one race's text, for this reason; `Memory` is no such reason
abbrev pub IsFaultOf : List ℕ → NextFault → Type 0
IsFaultOf record_text (faults.Record fault) = IsNotOne (ended record_text) false (ones.Fault fault)
IsFaultOf record_text faults.NotOne = IsNotOne (ended record_text) false ones.Count
IsFaultOf record_text faults.Memory = ⊤

-- the record has this fault, or it has it with the pause that it must have
abbrev pub IsNextFault : List ℕ → ℕ → ℕ → NextFault → Type 0
IsNextFault record_text started now fault =
    IsFaultOf record_text fault
    ⊎ ((start : ℕ) × (until : ℕ) × IsLate record_text started now start until
    × IsFaultOf (with_pause record_text start until) fault)
