use Rattle.std.proofs.Common.{rules, ◌≡◌, ◌+◌, ℕ, List, Ok, Err, Bor, sym, ◌∙◌, ap}
use Rattle.he_words.specs.declared.words.Version.{Version}
use Rattle.he_reading.specs.Left.{line_bytes, lines_left}
use Rattle.he_reading.specs.Parts.{lines_of}
use Rattle.he_words.specs.Words.{header_in}
use Rattle.he_reading.specs.Reading.{read_head, read_lines, group_at_start, no_head}
use Rattle.he_reading.proofs.ReadingLaws.{lines_unwhole, lines_begin}
use Rattle.he_reading.proofs.reading.read_header.Goals as goal

pub returns-in_err-line-clause-read : goal.returns-in_err-line-clause-read
returns-in_err-line-clause-read c =
    let wrong : read_lines (lines_left c.args.lines.now) ≡ Err (c.args.lines.now.number, c.in_err-line.field-0.0) =
    lines_unwhole (lines_left c.args.lines.now) c.in_err-line.field-0.0 c.in_err-line.ensures.whole
    ∙ ap (λ (n : ℕ). Err (n, c.in_err-line.field-0.0)) (sym c.requires.first) in
    search rules

pub returns-in_err-version-clause-read : goal.returns-in_err-version-clause-read
returns-in_err-version-clause-read c =
    let read : header_in (line_bytes c.in_ok-line.line) ≡ Err c.in_err-version.field-0.0 = ap header_in (sym c.bytes.ensures) ∙ sym c.in_err-version.ensures in
    let wrong : read_lines (lines_left c.args.lines.now) ≡ Err (c.args.lines.now.number, c.in_err-version.field-0.0) =
    lines_begin (lines_left c.args.lines.now) (lines_of c.in_ok-line.rest.now) (line_bytes c.in_ok-line.line) (Err c.in_err-version.field-0.0) c.in_ok-line.ensures.parts c.in_ok-line.ensures.whole read
    ∙ ap (λ (n : ℕ). Err (n, c.in_err-version.field-0.0)) (sym c.requires.first) in
    search rules

pub returns-clause-read : goal.returns-clause-read
returns-clause-read c =
    let version : Version = c.in_ok-version.version in
    let read : header_in (line_bytes c.in_ok-line.line) ≡ Ok version = ap header_in (sym c.bytes.ensures) ∙ sym c.in_ok-version.ensures in
    let number : c.pass.new.self.number ≡ 2 = c.pass.ensures.number ∙ ap (λ (n : ℕ). n + 1) c.requires.first in
    lines_begin (lines_left c.args.lines.now) (lines_of c.in_ok-line.rest.now) (line_bytes c.in_ok-line.line) (Ok version) c.in_ok-line.ensures.parts c.in_ok-line.ensures.whole read
    ∙ ap (λ (n : ℕ). read_head version n group_at_start no_head (lines_of c.in_ok-line.rest.now)) (sym number)
    ∙ ap (λ (rest : Bor (List ℕ)). read_head version c.pass.new.self.number group_at_start no_head (lines_of rest.now)) (sym c.pass.ensures.rest)
