-- The bytes that an input gave and an output took between two of its states, by all that is known of it.
use Rattle.std.specs.Prelude.{◌≡◌, ◌⊎◌, ℕ, Bool, List}
use Rattle.he_stream.specs.Input.{Gives, GivesSoFar}
use Rattle.he_stream.specs.Output.{PutsAndEnds, PutsInRounds, PutsPart, PutsRoundsPart, PutsWhole}
use Rattle.he_stream.specs.declared.stream.InputStream as inputs
use Rattle.he_stream.specs.declared.stream.OutputStream as outputs
use Rattle.he_tasks.specs.declared.reports.TheConstants.{DONE, FAULT}

-- the input gave these bytes, and then ended or broke off; or it has done neither yet
abbrev pub Gave : {I : Type 0} → inputs.Ghosts I → I → I → List ℕ → Bool → Type 0
Gave input first last = Gives input.remaining input.takes first last

abbrev pub GaveSoFar : {I : Type 0} → inputs.Ghosts I → I → I → List ℕ → Type 0
GaveSoFar input first last = GivesSoFar input.remaining input.takes first last

-- the output took this text, and then it was flushed; or it took a first part until that failed
abbrev pub TookAll : {O : Type 0} → outputs.Ghosts O → O → O → List ℕ → Type 0
TookAll output before after = PutsWhole output.contents output.puts output.flushes before after

abbrev pub TookPart : {O : Type 0} → outputs.Ghosts O → O → O → List ℕ → Type 0
TookPart output before after = PutsPart output.contents output.puts output.flushes before after

-- the output took the text in rounds, each of which ends with a flush; with at least one of them; or it took a first
-- part in rounds
abbrev pub TookRounds : {O : Type 0} → outputs.Ghosts O → O → O → List ℕ → Type 0
TookRounds output before after = PutsInRounds output.contents output.puts output.flushes before after

abbrev pub TookToTheEnd : {O : Type 0} → outputs.Ghosts O → O → O → List ℕ → Type 0
TookToTheEnd output before after = PutsAndEnds output.contents output.puts output.flushes before after

abbrev pub TookRoundsPart : {O : Type 0} → outputs.Ghosts O → O → O → List ℕ → Type 0
TookRoundsPart output before after = PutsRoundsPart output.contents output.puts output.flushes before after

-- the output took the text, or a first part of it until that failed
abbrev pub PutsText : {O : Type 0} → outputs.Ghosts O → List ℕ → O → O → ℕ → Type 0
PutsText output text before after status =
    ((status ≡ DONE) × TookAll output before after text) ⊎ ((status ≡ FAULT) × TookPart output before after text)

-- the output took some text so, or nothing for want of memory
abbrev pub Shows : {O : Type 0} → outputs.Ghosts O → O → O → ℕ → Type 0
Shows {O} output before after status =
    ((text : List ℕ) × PutsText output text before after status) ⊎ ((status ≡ FAULT) × (after ≡ before))
