use Rattle.std.proofs.Common.{◌+◌, ℕ, List, length, sym, ◌∙◌, ap, subst}
use Rattle.std.proofs.lemmas.List.{take_rest}
use Rattle.he_reading.specs.Parts.{lines_of}
use Rattle.he_record.specs.Fronts.{goes_on}
use Rattle.he_record.specs.Said.{Said}
use Rattle.he_record.proofs.Lines.{line_number}
use Rattle.he_record.proofs.TakenLines.{IsSoFar, at_start, ends_here, fails_here, fault_here, is_line, one_further}
use Rattle.he_record.proofs.reading.read_record.Goals as goal

pub loop-told-init : goal.loop-told-init
loop-told-init g c =
    let P : List Said → Type 0 = λ told. IsSoFar c.args.text.now told 0 in
    subst P (sym c.none-told.ensures) (at_start c.args.text.now)

pub loop-told-preserved : goal.loop-told-preserved
loop-told-preserved g c =
    one_further c.args.text.now _ c.loop-told.told c.take_line.new.told c.loop-told.end c.in-Ok.len c.loop-told.invariant (take_rest c.args.text.now c.loop-told.end) c.in-Ok.ensures.read

pub returns-in-Err-clause-read : goal.returns-in-Err-clause-read
returns-in-Err-clause-read g c =
    fails_here c.args.text.now _ c.loop-told.told c.loop-told.end (length c.lines.result.now + 1) c.in-Err.kind c.loop-told.invariant (take_rest c.args.text.now c.loop-told.end)
    (line_number c.lines.result.now c.take_line.new.told c.loop-told.told c.lines.ensures.value c.in-Err.ensures.same) c.in-Err.ensures.read

pub returns-in-Err-clause-fault : goal.returns-in-Err-clause-fault
returns-in-Err-clause-fault g c =
    fault_here c.args.text.now (length c.lines.result.now + 1) c.in-Err.kind
    (fails_here c.args.text.now _ c.loop-told.told c.loop-told.end (length c.lines.result.now + 1) c.in-Err.kind c.loop-told.invariant (take_rest c.args.text.now c.loop-told.end)
    (line_number c.lines.result.now c.take_line.new.told c.loop-told.told c.lines.ensures.value c.in-Err.ensures.same) c.in-Err.ensures.read)

pub returns-in-Err-clause-line : goal.returns-in-Err-clause-line
returns-in-Err-clause-line g c =
    is_line c.args.text.now c.loop-told.told c.loop-told.end (length c.lines.result.now + 1) c.loop-told.invariant
    (line_number c.lines.result.now c.take_line.new.told c.loop-told.told c.lines.ensures.value c.in-Err.ensures.same)

pub returns-clause-over : goal.returns-clause-over
returns-clause-over g c =
    ap (λ (t : List ℕ). goes_on (lines_of t)) (sym (take_rest c.args.text.now c.loop-told.end)) ∙ sym c.goes_on.ensures ∙ c.loop-told-test.false

pub returns-clause-read : goal.returns-clause-read
returns-clause-read g c =
    ends_here c.args.text.now _ c.loop-told.told c.loop-told.end c.loop-told.invariant (take_rest c.args.text.now c.loop-told.end) (sym c.goes_on.ensures ∙ c.loop-told-test.false)
