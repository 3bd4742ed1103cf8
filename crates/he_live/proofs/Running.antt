-- What a run of the race of an input comes to.
use Rattle.std.proofs.Common.{◌≡◌, inl, inr, sym, subst}
use Rattle.std.specs.Prelude.{ℕ, Bool, List, Result, Ok, Err, IsErr, IsErrAnd}
use Rattle.he_timeline.specs.Changes.{ChangeValues, changed}
use Rattle.he_timeline.specs.Race.{Race}
use Rattle.he_plan.specs.declared.transcript.Outcome3.{Outcome3}
use Rattle.he_inputs.specs.Inputs.{GivesOne}
use Rattle.he_live.specs.Live.{GivesText, IsLiveText, IsRunFault, Lives}
use Rattle.he_live.specs.declared.fault.LiveFault.{LiveFault}
use Rattle.he_live.specs.declared.fault.LiveFault.TheVariants as faults
use Rattle.he_live.specs.declared.recording.LiveOutput.{LiveOutput}
use Rattle.he_live.specs.declared.recording.LiveReport.{LiveReport}

pub gives_text : (Given : List ℕ → Bool → Type 0) (changes : ChangeValues) (own race : Race) (run : LiveOutput) (text : List ℕ)
    → text ≡ run.text.items → GivesOne Given own → race ≡ changed changes own → IsLiveText race run.text.items run.report run.ended
    → GivesText Given changes text run.report run.ended
gives_text Given changes own race run text e given is of = record {
  race = own;
  given = given;
  run = subst (λ (t : List ℕ). IsLiveText (changed changes own) t run.report run.ended) (sym e)
      (subst (λ (r : Race). IsLiveText r run.text.items run.report run.ended) is of);
}

-- a run that failed for itself
failed : (Given : List ℕ → Bool → Type 0) (Taken Whole Part : List ℕ → Type 0) (Kept : Type 0) (changes : ChangeValues) (own : Race) (told : LiveReport) (fault : LiveFault)
    → IsRunFault fault → GivesOne Given own → Kept → Lives Given Taken Whole Part Kept changes told (Err fault)
failed Given Taken Whole Part Kept changes own told fault (inl e) given kept =
    let at : Lives Given Taken Whole Part Kept changes told (Err faults.Runtime) = (own, given, kept) in
    subst (λ (f : LiveFault). Lives Given Taken Whole Part Kept changes told (Err f)) (sym e) at
failed Given Taken Whole Part Kept changes own told fault (inr (inl e)) given kept =
    let at : Lives Given Taken Whole Part Kept changes told (Err faults.Files) = (own, given, kept) in
    subst (λ (f : LiveFault). Lives Given Taken Whole Part Kept changes told (Err f)) (sym e) at
failed Given Taken Whole Part Kept changes own told fault (inr (inr e)) given kept =
    let at : Lives Given Taken Whole Part Kept changes told (Err faults.Memory) = kept in
    subst (λ (f : LiveFault). Lives Given Taken Whole Part Kept changes told (Err f)) (sym e) at

pub run_failed : (Given : List ℕ → Bool → Type 0) (Taken Whole Part : List ℕ → Type 0) (Kept : Type 0) (changes : ChangeValues) (own : Race) (told : LiveReport)
    (result : Result Outcome3 LiveFault) (fault : LiveFault)
    → IsErr result × IsErrAnd result (λ f. f ≡ fault) → IsRunFault fault → GivesOne Given own → Kept → Lives Given Taken Whole Part Kept changes told result
run_failed Given Taken Whole Part Kept changes own told (Ok ended) fault is of given kept = absurd is.1
run_failed Given Taken Whole Part Kept changes own told (Err found) fault is of given kept =
    subst (λ (f : LiveFault). Lives Given Taken Whole Part Kept changes told (Err f)) (sym is.1) (failed Given Taken Whole Part Kept changes own told fault of given kept)
