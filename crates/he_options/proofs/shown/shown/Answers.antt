use Rattle.std.proofs.Common.{◌∙◌, sym, append-nil}
use Rattle.std.proofs.lemmas.Str.{IsUtf8-past_char}
use Rattle.std.proofs.StrCases.{chars_of_empty}
use Rattle.he_options.proofs.Showing.{shown_step}
use Rattle.he_options.proofs.shown.shown.Goals as goal

pub loop-c-preserved : goal.loop-c-preserved
loop-c-preserved c =
    let held = c.loop-c.invariant in
    let parts = c.in-Some.ensures.steps.0 in (
      IsUtf8-past_char _ _ c.in-Some.c held.0 parts,
      shown_step _ _ _ _ _ c.in-Some.c held.0 parts c.in_ok-append_char.ensures held.1,
    )

pub returns : goal.returns
returns c = sym (append-nil _) ∙ rw (chars_of_empty _ c.in-None.ensures.steps.0.0) at c.loop-c.invariant.1
