-- How a check ends that is written as JSON, and how a sentence ends.
use Rattle.std.proofs.Common.{ℕ, ◌≡◌, ◌≢◌, ◌++◌, ◌∷◌, ◌∙◌, Bool, List, [], Option, Result, Ok, Err, append_assoc, refl, sym, ap}
use Rattle.he_inputs.specs.declared.stream_fault.StreamFault.{StreamFault}
use Rattle.he_inputs.specs.declared.stream_fault.StreamFault.TheVariants as checks
use Rattle.he_check.specs.Objects.{object_text, right_members}
use Rattle.he_faults.specs.Sentences.{clause_text, meant_text}
use Rattle.he_check.specs.Steps.{Puts, TakesWrong}
use Rattle.he_check.specs.Stream.{IsObject, PutsObject, TakesRight}
use Rattle.he_check.specs.declared.form.Form.TheVariants.{Json}
use Rattle.he_check.specs.declared.input.Checked.{Checked}
use Rattle.he_faults.specs.declared.meant.Meant.{Meant}
use Rattle.he_check.specs.declared.slips.Warning.{Warning}

module _ (Whole Part : List ℕ → Type 0) (Kept : Type 0) (is_all : Bool) (file : Option (List ℕ)) (Given : List ℕ → Bool → Type 0) (Taken : List ℕ → Type 0)
  where
    abbrev Is : Result (Unit {0}) StreamFault → List ℕ → Type 0
    Is = IsObject is_all file Given Taken

    -- of an input with which nothing is wrong
    pub right_put : (checked : Checked) (warnings : List Warning) → TakesRight Given checked warnings → (members : List ℕ) → members ≡ right_members checked warnings → (result : Result (Unit {0}) StreamFault)
        → Puts Whole Part Kept (object_text file members) result → PutsObject Whole Part Kept Is result
    right_put checked warnings right members is (Ok done) puts = (object_text file members, (checked, warnings, right, ap (object_text file) is), puts)
    right_put checked warnings right members is (Err checks.Write) puts = (Ok tt, object_text file members, (checked, warnings, right, ap (object_text file) is), puts)
    right_put checked warnings right members is (Err checks.Memory) puts = puts
    right_put checked warnings right members is (Err (checks.Text fault)) puts = absurd puts
    right_put checked warnings right members is (Err checks.Read) puts = absurd puts

    module _ (faults : List ℕ) (fault : StreamFault) (wrong : TakesWrong is_all Json Given Taken [] faults fault) (some : fault ≢ checks.Memory)
      where
        is_object : Is (Err fault) (object_text file faults)
        is_object = by_fault fault wrong some
          where
            by_fault : (f : StreamFault) → TakesWrong is_all Json Given Taken [] faults f → f ≢ checks.Memory → Is (Err f) (object_text file faults)
            by_fault (checks.Text one) found not = (found.0.0, faults, found.1, refl)
            by_fault checks.Read found not = (found.0.0, faults, found.1, refl)
            by_fault checks.Write found not = absurd found.0.2
            by_fault checks.Memory found not = absurd (not refl)

        -- of one that has a fault
        pub wrong_put : Whole (object_text file faults) → PutsObject Whole Part Kept Is (Err fault)
        wrong_put puts = by_fault fault is_object some
          where
            by_fault : (f : StreamFault) → Is (Err f) (object_text file faults) → f ≢ checks.Memory → PutsObject Whole Part Kept Is (Err f)
            by_fault (checks.Text one) is not = (object_text file faults, is, puts)
            by_fault checks.Read is not = (object_text file faults, is, puts)
            by_fault checks.Write is not = absurd is
            by_fault checks.Memory is not = absurd (not refl)

        -- of one whose object could not be put
        pub wrong_broke : (other : StreamFault) → Puts Whole Part Kept (object_text file faults) (Err other) → PutsObject Whole Part Kept Is (Err other)
        wrong_broke checks.Write puts = (Err fault, object_text file faults, is_object, puts)
        wrong_broke checks.Memory puts = puts
        wrong_broke (checks.Text one) puts = absurd puts
        wrong_broke checks.Read puts = absurd puts
