use Rattle.std.proofs.Common.{◌≡◌, ◌≤◌, ◌+◌, length, inl, inr, arith, sym, ◌∙◌}
use Rattle.he_inputs.specs.Beginnings.{EndsBehind}
use Rattle.he_inputs.specs.Inputs.{line_count}
use Rattle.he_inputs.proofs.EndLines.{fault_at_end, line_before, mended_at_end, none_awaited, open_shorter}
use Rattle.he_inputs.proofs.changes.may_be_mended.Goals as goal

pub returns-then-marks_in-fault : goal.returns-then-marks_in-fault
returns-then-marks_in-fault c = (
  λ t. cc,
  λ fault.
      let at_end = fault_at_end c.args.text.now c.open_line-rest.result.now c.args.fault.line (line_count c.args.text.now) c.args.fault.kind c.open_line-rest.ensures.end fault in
      elim c.then-marks_in-fault.either [
        | inl other ↦ absurd (other (c.marks_in.ensures.value ∙ at_end.0))
        | inr whole ↦ absurd (at_end.1 whole.1)
      ],
)

pub overflow_sub-text : goal.overflow_sub-text
overflow_sub-text c =
    let shorter : 1 + length c.open_line-rest.result.now ≤ length c.args.text.now =
    open_shorter c.args.text.now c.open_line-rest.result.now (line_count c.args.text.now) c.open_line-rest.ensures.end c.if-rest-text.false in
    omega arith

pub slice_bounds-open_line-count : goal.slice_bounds-open_line-count
slice_bounds-open_line-count c =
    let shorter : 1 + length c.open_line-rest.result.now ≤ length c.args.text.now =
    open_shorter c.args.text.now c.open_line-rest.result.now (line_count c.args.text.now) c.open_line-rest.ensures.end c.if-rest-text.false in
    omega arith

pub returns-in-Some : goal.returns-in-Some
returns-in-Some c =
    let behind : EndsBehind c.args.text.now (line_count c.args.text.now) c.open_line-line.result.now c.open_line-rest.result.now =
    line_before c.args.text.now c.open_line-rest.result.now c.open_line-line.result.now (line_count c.args.text.now) _ c.open_line-rest.ensures.end c.open_line-rest.ensures.line c.if-rest-text.false c.open_line-line.ensures.end in
    let count : line_count c.args.text.now ≡ c.args.fault.line = sym c.marks_in.ensures.value ∙ c.if-marks_in-fault.false in
    mended_at_end c.args.text.now c.open_line-line.result.now c.open_line-rest.result.now c.args.fault.line c.args.fault.kind c.in-Some.word c.may_become.result (behind.0, behind.1, behind.2 ∙ count)
    c.in-Some.ensures c.may_become.ensures

pub returns-in-None : goal.returns-in-None
returns-in-None c =
    let behind : EndsBehind c.args.text.now (line_count c.args.text.now) c.open_line-line.result.now c.open_line-rest.result.now =
    line_before c.args.text.now c.open_line-rest.result.now c.open_line-line.result.now (line_count c.args.text.now) _ c.open_line-rest.ensures.end c.open_line-rest.ensures.line c.if-rest-text.false c.open_line-line.ensures.end in
    let count : line_count c.args.text.now ≡ c.args.fault.line = sym c.marks_in.ensures.value ∙ c.if-marks_in-fault.false in
    (λ t. cc, λ fault. absurd (none_awaited c.args.text.now c.open_line-line.result.now c.open_line-rest.result.now c.args.fault.line c.args.fault.kind (behind.0, behind.1, behind.2 ∙ count) c.in-None.ensures fault))
