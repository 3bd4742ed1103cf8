use Rattle.std.proofs.Common.{rules, ◌≡◌, ℕ, List, Err, Bor, sym, ◌∙◌, ap}
use Rattle.he_reading.specs.Left.{line_bytes, lines_left, tokens_left}
use Rattle.he_reading.specs.Parts.{lines_of}
use Rattle.he_reading.specs.Reading.{FailsAt, read_head, group_at_start, no_head}
use Rattle.he_reading.proofs.ReadingLaws.{shrinks, among_more, head_unwhole, head_settles, fails_head, head_more}
use Rattle.he_reading.proofs.reading.read_head.Goals as goal

pub returns-in_err-line-clause-read : goal.returns-in_err-line-clause-read
returns-in_err-line-clause-read g c =
    let wrong : read_head c.args.version c.args.lines.now.number group_at_start no_head (lines_left c.args.lines.now) ≡ Err (c.loop-head.lines.number, c.in_err-line.field-0.0) =
    c.loop-head.invariant.0
    ∙ head_unwhole c.args.version c.loop-head.lines.number c.loop-head.so_far c.loop-head.head (lines_left c.loop-head.lines) c.in_err-line.field-0.0 c.in_err-line.ensures.whole in
    search rules

pub returns-in_default-clause-read : goal.returns-in_default-clause-read
returns-in_default-clause-read g c =
    c.loop-head.invariant.0
    ∙ head_settles c.args.version c.loop-head.lines.number c.loop-head.so_far c.loop-head.head (lines_left c.loop-head.lines) (lines_of c.in_ok-line.rest.now) (line_bytes c.in_ok-line.line)
    c.in_ok-line.ensures.parts c.in_ok-line.ensures.whole c.in_default.ensures

pub returns-in_err-so_far-clause-read : goal.returns-in_err-so_far-clause-read
returns-in_err-so_far-clause-read g c =
    let wrong : FailsAt c.loop-head.lines.number c.in_err-so_far.field-0.0 (read_head c.args.version c.args.lines.now.number group_at_start no_head (lines_left c.args.lines.now)) =
    fails_head c.args.version c.loop-head.lines.number c.loop-head.so_far c.loop-head.head (c.in-Some.word, tokens_left c.in-Some.tokens) (lines_left c.loop-head.lines) (lines_of c.in_ok-line.rest.now) (line_bytes c.in_ok-line.line) c.in_err-so_far.field-0.0
    (read_head c.args.version c.args.lines.now.number group_at_start no_head (lines_left c.args.lines.now))
    c.loop-head.invariant.0 c.in_ok-line.ensures.parts c.in_ok-line.ensures.whole c.in-Some.ensures c.in_err-so_far.ensures in
    search rules

pub loop-head-preserved : goal.loop-head-preserved
loop-head-preserved g c = (
  c.loop-head.invariant.0
      ∙ head_more c.args.version c.loop-head.lines.number c.loop-head.so_far c.in_ok-so_far.so_far c.loop-head.head c.take_given.new.head (c.in-Some.word, tokens_left c.in-Some.tokens) (lines_left c.loop-head.lines) (lines_of c.in_ok-line.rest.now) (line_bytes c.in_ok-line.line)
      c.in_ok-line.ensures.parts c.in_ok-line.ensures.whole c.in-Some.ensures c.in_ok-so_far.ensures
      ∙ ap (λ (n : ℕ). read_head c.args.version n c.in_ok-so_far.so_far c.take_given.new.head (lines_of c.in_ok-line.rest.now)) (sym c.pass.ensures.number)
      ∙ ap (λ (rest : Bor (List ℕ)). read_head c.args.version c.pass.new.self.number c.in_ok-so_far.so_far c.take_given.new.head (lines_of rest.now)) (sym c.pass.ensures.rest),
  c.pass.ensures.room,
  shrinks c.pass.new.self.rest c.in_ok-line.rest c.loop-head.lines.rest c.pass.ensures.rest c.in_ok-line.ensures.shorter c.loop-head.invariant.2,
  among_more c.args.lines.now c.loop-head.lines c.pass.new.self (line_bytes c.in_ok-line.line) c.in_ok-line.rest c.loop-head.invariant.3 c.in_ok-line.ensures.parts c.pass.ensures.rest c.pass.ensures.number,
)
