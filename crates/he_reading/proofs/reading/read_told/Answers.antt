use Rattle.std.proofs.Common.{rules, ◌≡◌, ℕ, List, Ok, Err, Bor, sym, ◌∙◌, ap}
use Rattle.he_words.specs.declared.fault.TextKind.{TextKind}
use Rattle.he_reading.specs.Left.{line_bytes, lines_left}
use Rattle.he_reading.specs.Parts.{lines_of}
use Rattle.he_reading.specs.Reading.{FailsAt, read_body}
use Rattle.he_reading.proofs.Results.{handed_on}
use Rattle.he_reading.proofs.ReadingLaws.{shrinks, among_more, body_unwhole, body_ends, body_more, fails_body}
use Rattle.he_reading.proofs.reading.read_told.Goals as goal

pub returns-in_err-line-clause-read : goal.returns-in_err-line-clause-read
returns-in_err-line-clause-read g c =
    let wrong : read_body c.args.version c.args.lines.now.number c.args.first c.args.race.now (lines_left c.args.lines.now) ≡ Err (c.loop-line.lines.number, c.in_err-line.field-0.0) =
    c.loop-line.invariant.0
    ∙ body_unwhole c.args.version c.loop-line.lines.number c.loop-line.so_far c.loop-line.race (lines_left c.loop-line.lines) c.in_err-line.field-0.0 c.in_err-line.ensures.whole in
    search rules

pub returns-in_err-word-clause-read : goal.returns-in_err-word-clause-read
returns-in_err-word-clause-read g c =
    let wrong : FailsAt c.loop-line.lines.number c.in_err-word.field-0.0 (read_body c.args.version c.args.lines.now.number c.args.first c.args.race.now (lines_left c.args.lines.now)) =
    fails_body c.args.version c.loop-line.lines.number c.loop-line.so_far c.loop-line.race (lines_left c.loop-line.lines) (lines_of c.in_ok-line.rest.now) (line_bytes c.in_ok-line.line) c.in_err-word.field-0.0
    (read_body c.args.version c.args.lines.now.number c.args.first c.args.race.now (lines_left c.args.lines.now))
    c.loop-line.invariant.0 c.in_ok-line.ensures.parts c.in_ok-line.ensures.whole c.in_err-word.ensures in
    handed_on c.from_residual-in_err-word.result c.in_err-word.field-0.0
    (λ done. read_body c.args.version c.args.lines.now.number c.args.first c.args.race.now (lines_left c.args.lines.now) ≡ Ok (c.take_told.new.race, lines_left c.loop-line.lines))
    (λ (kind : TextKind). FailsAt c.loop-line.lines.number kind (read_body c.args.version c.args.lines.now.number c.args.first c.args.race.now (lines_left c.args.lines.now)))
    c.from_residual-in_err-word.ensures wrong

pub returns-then-is_end-clause-read : goal.returns-then-is_end-clause-read
returns-then-is_end-clause-read g c =
    let read : read_body c.args.version c.args.lines.now.number c.args.first c.args.race.now (lines_left c.args.lines.now) ≡ Ok (c.take_told.new.race, lines_of c.in_ok-line.rest.now) =
    c.loop-line.invariant.0
    ∙ body_ends c.args.version c.loop-line.lines.number c.loop-line.so_far c.in_ok-word.next c.loop-line.race c.take_told.new.race c.in_ok-word.word (lines_left c.loop-line.lines) (lines_of c.in_ok-line.rest.now) (line_bytes c.in_ok-line.line)
    c.in_ok-line.ensures.parts c.in_ok-line.ensures.whole c.in_ok-word.ensures (search rules) in
    read ∙ ap (λ (rest : Bor (List ℕ)). Ok (c.take_told.new.race, lines_of rest.now)) (sym c.pass.ensures.rest)

pub loop-line-preserved : goal.loop-line-preserved
loop-line-preserved g c = (
  c.loop-line.invariant.0
      ∙ body_more c.args.version c.loop-line.lines.number c.loop-line.so_far c.in_ok-word.next c.loop-line.race c.take_told.new.race c.in_ok-word.word (lines_left c.loop-line.lines) (lines_of c.in_ok-line.rest.now) (line_bytes c.in_ok-line.line)
      c.in_ok-line.ensures.parts c.in_ok-line.ensures.whole c.in_ok-word.ensures (search rules)
      ∙ ap (λ (n : ℕ). read_body c.args.version n c.in_ok-word.next c.take_told.new.race (lines_of c.in_ok-line.rest.now)) (sym c.pass.ensures.number)
      ∙ ap (λ (rest : Bor (List ℕ)). read_body c.args.version c.pass.new.self.number c.in_ok-word.next c.take_told.new.race (lines_of rest.now)) (sym c.pass.ensures.rest),
  c.pass.ensures.room,
  shrinks c.pass.new.self.rest c.in_ok-line.rest c.loop-line.lines.rest c.pass.ensures.rest c.in_ok-line.ensures.shorter c.loop-line.invariant.2,
  among_more c.args.lines.now c.loop-line.lines c.pass.new.self (line_bytes c.in_ok-line.line) c.in_ok-line.rest c.loop-line.invariant.3 c.in_ok-line.ensures.parts c.pass.ensures.rest c.pass.ensures.number,
)
