-- The file of a live race.
use Rattle.std.proofs.Common.{◌≡◌, ◌≢◌, ℕ, List, Option, Some, None, codes, inl, inr, refl, sym, subst}
use Rattle.std.specs.Borrow.{Bor}
use Rattle.he_request.specs.declared.live.Live.{Live}
use Rattle.he_stream.specs.declared.stream.InputStream as inputs
use Rattle.he_stream.specs.declared.stream.OutputStream as outputs
use Rattle.he_command.specs.Live.{RunsFile, RunsNamed, RunsRecorded}

pub of_file : {I F O : Type 0} (input : inputs.Ghosts I) (file : inputs.Ghosts F) (output : outputs.Ghosts O) (options : Live) (path : Bor (List ℕ)) (first : I) (between before after : O) (status : ℕ)
    → options.file ≡ Some path → path.now ≢ codes "-" → between ≡ before → RunsFile file output options between after status
    → RunsNamed input file output options options.file first first before after status
of_file {I} {F} {O} input file output options path first between before after status is other kept runs =
    subst (λ (name : Option (Bor (List ℕ))). RunsNamed input file output options name first first before after status) (sym is)
    (inr (other, refl, subst (λ (o : O). RunsFile file output options o after status) kept runs))

pub of_standard : {I F O : Type 0} (input : inputs.Ghosts I) (file : inputs.Ghosts F) (output : outputs.Ghosts O) (options : Live) (path : Bor (List ℕ)) (first last : I) (between before after : O) (status : ℕ)
    → options.file ≡ Some path → path.now ≡ codes "-" → between ≡ before → RunsRecorded input output options first last between after status
    → RunsNamed input file output options options.file first last before after status
of_standard {I} {F} {O} input file output options path first last between before after status is same kept runs =
    subst (λ (name : Option (Bor (List ℕ))). RunsNamed input file output options name first last before after status) (sym is)
    (inl (same, subst (λ (o : O). RunsRecorded input output options first last o after status) kept runs))

pub of_input : {I F O : Type 0} (input : inputs.Ghosts I) (file : inputs.Ghosts F) (output : outputs.Ghosts O) (options : Live) (first last : I) (between before after : O) (status : ℕ)
    → options.file ≡ None → between ≡ before → RunsRecorded input output options first last between after status
    → RunsNamed input file output options options.file first last before after status
of_input {I} {F} {O} input file output options first last between before after status is kept runs =
    subst (λ (name : Option (Bor (List ℕ))). RunsNamed input file output options name first last before after status) (sym is)
    (subst (λ (o : O). RunsRecorded input output options first last o after status) kept runs)
