use Rattle.std.proofs.Common.{ℕ, ◌-◌, List, Some, None, arith, ap, sym, ◌∙◌, inl, inr, subst}
use Rattle.std.proofs.lemmas.List.{take_rest}
use Rattle.memchr.specs.Find.{IsFirstByte, is_byte}
use Rattle.he_reading.specs.Parts.{lines_of}
use Rattle.he_record.specs.Fronts.{goes_on}
use Rattle.he_check.proofs.RecordLines.{none_passed, passes_more, passes_none, passes_so, some_end}
use Rattle.he_check.proofs.parts.records_before.Goals as goal

pub loop-passed-init : goal.loop-passed-init
loop-passed-init c = (none_passed c.args.part.text.now, omega arith)

pub returns-then-not-is_all : goal.returns-then-not-is_all
returns-then-not-is_all c = passes_none c.args.is_all c.args.part.text.now (c.args.line - c.args.part.lines) c.if-not-is_all.true

pub returns-then-not-goes_on : goal.returns-then-not-goes_on
returns-then-not-goes_on c =
    let text = c.args.part.text.now in
    let passed = c.loop-passed.passed in
    let (is, few) = c.loop-passed.invariant in
    let above = c.requires.above in
    let over = ap (λ (t : List ℕ). goes_on (lines_of t)) (sym (take_rest text passed.bytes)) ∙ sym c.goes_on.ensures ∙ c.if-not-goes_on.true in
    passes_so c.args.is_all text (c.args.line - c.args.part.lines) passed.bytes passed.lines c.if-not-is_all.false is (omega (arith, few, above)) (inr over)

pub returns-in_default : goal.returns-in_default
returns-in_default c =
    let text = c.args.part.text.now in
    let passed = c.loop-passed.passed in
    let (is, few) = c.loop-passed.invariant in
    let before = c.loop-passed-test.true in
    let none = subst (λ (r : List ℕ). IsFirstByte (is_byte 10) r None) (take_rest text passed.bytes) (rw c.in_default.is at c.memchr.ensures) in
    absurd (some_end text (c.args.line - c.args.part.lines) passed.bytes passed.lines is c.requires.there (omega (arith, before)) none)

pub loop-passed-preserved : goal.loop-passed-preserved
loop-passed-preserved c =
    let text = c.args.part.text.now in
    let passed = c.loop-passed.passed in
    let (is, few) = c.loop-passed.invariant in
    let before = c.loop-passed-test.true in
    let goes = ap (λ (t : List ℕ). goes_on (lines_of t)) (sym (take_rest text passed.bytes)) ∙ sym c.goes_on.ensures ∙ c.if-not-goes_on.false in
    let found = subst (λ (r : List ℕ). IsFirstByte (is_byte 10) r (Some c.in-Some.at)) (take_rest text passed.bytes) (rw c.in-Some.is at c.memchr.ensures) in
    (passes_more text passed.bytes passed.lines c.in-Some.at is goes found, omega (arith, before))

pub returns : goal.returns
returns c =
    let text = c.args.part.text.now in
    let passed = c.loop-passed.passed in
    let (is, few) = c.loop-passed.invariant in
    let above = c.requires.above in
    let last = c.loop-passed-test.false in
    passes_so c.args.is_all text (c.args.line - c.args.part.lines) passed.bytes passed.lines c.if-not-is_all.false is (omega (arith, few, above)) (inl (omega (arith, few, above, last)))
