use Rattle.std.proofs.Common.{◌≡◌, ◌∙◌, ◌++◌, ℕ, List, ap}
use Rattle.he_inputs.specs.declared.stream_fault.StreamFault.TheVariants as checks
use Rattle.he_stream.specs.Output.{PutsPart, PutsWhole}
use Rattle.he_check.specs.Steps.{TellsRight}
use Rattle.he_inputs.proofs.RaceReadingLaws.{handed}
use Rattle.he_check.proofs.checking.tell_right.Goals as goal

pub returns-in_err-write_whole-clause-told : goal.returns-in_err-write_whole-clause-told
returns-in_err-write_whole-clause-told g c =
    handed
    (TellsRight (PutsWhole g.O.OutputStream.contents g.O.OutputStream.puts g.O.OutputStream.flushes c.args.output.now c.write_whole.new.output)
    (PutsPart g.O.OutputStream.contents g.O.OutputStream.puts g.O.OutputStream.flushes c.args.output.now c.write_whole.new.output) (c.write_whole.new.output ≡ c.args.output.now) c.args.checked c.args.warnings.now
    c.args.explanation.now.items c.extend_from_slice.new.self.items) c.from_residual-in_err-write_whole.result checks.Write c.from_residual-in_err-write_whole.ensures (
      rw (c.as_slice-2.ensures.value ∙ c.in_ok-report.ensures) at c.in_err-write_whole.ensures.err,
      c.in_ok-extend_from_slice.ensures.items ∙ ap (λ (t : List ℕ). c.args.explanation.now.items ++ t) (c.as_slice.ensures.value ∙ c.in_ok-told.ensures),
    )
