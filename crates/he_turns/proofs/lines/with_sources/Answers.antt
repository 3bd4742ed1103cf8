use Rattle.std.proofs.Common.{refl, sym, ◌∙◌, ap}
use Rattle.he_select.specs.Hosts.{same_source}
use Rattle.he_select.specs.declared.limits.TheConstants.{SOURCES}
use Rattle.he_turns.specs.Heard.{is_source_of}
use Rattle.he_turns.proofs.Widening.{source_alike, source_sym}
use Rattle.he_turns.proofs.Once.{new-left, new-next}
use Rattle.he_turns.proofs.lines.with_sources.Goals as goal
use Rattle.he_turns.proofs.lines.with_sources.Goals.{then-is_new_source+in_ok-push, else-is_new_source}

pub loop-source-preserved : goal.loop-source-preserved
loop-source-preserved c = elim c.if-is_new_source.branch [
  | then-is_new_source+in_ok-push w ↦ ap (λ v. v.items) w.all-is ∙ new-next same_source source_sym source_alike (is_source_of c.args.family) SOURCES c.args.has.now c.args.told.now c.loop-source.all.items c.loop-source.source-index _ _ refl c.loop-source-test.true c.loop-source.invariant _ (sym (rw c.deref.ensures.value at c.is_new_source.ensures) ∙ w.if-is_new_source.true) w.in_ok-push.ensures.items
  | else-is_new_source w ↦ ap (λ v. v.items) w.all-is ∙ new-left same_source source_sym source_alike (is_source_of c.args.family) SOURCES c.args.has.now c.args.told.now c.loop-source.all.items c.loop-source.source-index _ _ refl c.loop-source-test.true c.loop-source.invariant (sym (rw c.deref.ensures.value at c.is_new_source.ensures) ∙ w.if-is_new_source.false)
]
