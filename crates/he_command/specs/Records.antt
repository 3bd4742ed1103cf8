-- The place of a race's record, and how it is written.
use Rattle.std.specs.Prelude.{◌≡◌, ◌≢◌, ◌⊎◌, ℕ, List, Option, Some, None, codes}
use Rattle.std.specs.Borrow.{Bor}
use Rattle.he_stream.specs.declared.stream.OutputStream as outputs
use Rattle.he_tasks.specs.Streams.{PutsText}
use Rattle.he_tasks.specs.declared.reports.TheConstants.{DONE, FAULT}
use Rattle.he_command.specs.declared.record.RecordPlace.{RecordPlace}
use Rattle.he_command.specs.declared.record.RecordPlace.TheVariants as places

-- the place for the path: none without a path, the output for `-`, otherwise a new file
abbrev pub IsPlaceOf : {F : Type 0} → Option (Bor (List ℕ)) → RecordPlace F → Type 0
IsPlaceOf path places.Nowhere = path ≡ None
IsPlaceOf path places.Output = (own : Bor (List ℕ)) × (path ≡ Some own) × (own.now ≡ codes "-")
IsPlaceOf path (places.File file name) = (own : Bor (List ℕ)) × (path ≡ Some own) × (own.now ≢ codes "-")

-- the record is written to the path's place: nowhere without a path, to the output for `-`, otherwise to a new file,
-- and then DONE means that the file took the whole text; or writing failed
abbrev pub KeepsRecord : {O : Type 0} → (List ℕ → Type 0) → outputs.Ghosts O → Option (Bor (List ℕ)) → List ℕ → O → O
    → ℕ → Type 0
KeepsRecord IsWritten output None text before after status = (status ≡ DONE) × (after ≡ before)
KeepsRecord IsWritten output (Some path) text before after status =
    ((path.now ≡ codes "-") × PutsText output text before after status)
    ⊎ ((path.now ≢ codes "-") × (after ≡ before) × (((status ≡ DONE) × IsWritten text) ⊎ (status ≡ FAULT)))
