use Rattle.std.proofs.Common.{◌≡◌, ℕ, List, Result, Ok, sym, ◌∙◌, ap, subst}
use Rattle.he_timeline.specs.Building.{empty_race}
use Rattle.he_timeline.specs.Race.{Race}
use Rattle.he_words.specs.declared.fault.TextKind.{TextKind}
use Rattle.he_reading.specs.Left.{lines_left}
use Rattle.he_reading.specs.Reading.{FailsAt, read_body, read_lines}
use Rattle.he_reading.proofs.ReadingLaws.{fails_settle, settle_reads}
use Rattle.he_reading.proofs.Results.{handed_on}
use Rattle.he_reading.proofs.reading.read_whole.Goals as goal

pub returns-in_err-scene-clause-read : goal.returns-in_err-scene-clause-read
returns-in_err-scene-clause-read g c =
    let n = c.read_head.new.lines.number in
    let P : Result (Race × List (List ℕ)) (ℕ × TextKind) → Type 0 = λ read. FailsAt n c.in_err-scene.field-0.0 read in
    let same = c.in_ok-version.ensures.read ∙ c.in_ok-so_far.ensures.read in
    let wrong : P (read_lines (lines_left c.args.lines.now)) =
    subst P (sym same) (fails_settle c.in_ok-version.version n c.in_ok-so_far.so_far c.in_ok-so_far.head (lines_left c.read_head.new.lines) c.in_err-scene.field-0.0 c.in_err-scene.ensures) in
    handed_on c.from_residual-in_err-scene.result c.in_err-scene.field-0.0
    (λ told. read_lines (lines_left c.args.lines.now) ≡ Ok (told, lines_left c.read_head.new.lines))
    (λ (kind : TextKind). FailsAt n kind (read_lines (lines_left c.args.lines.now)))
    c.from_residual-in_err-scene.ensures wrong

pub returns-in-Ok-clause-read : goal.returns-in-Ok-clause-read
returns-in-Ok-clause-read g c =
    let scene = empty_race c.in_ok-scene.scene.settings c.in_ok-scene.scene.policy c.in_ok-scene.scene.host in
    c.in_ok-version.ensures.read
    ∙ c.in_ok-so_far.ensures.read
    ∙ settle_reads c.in_ok-version.version c.read_head.new.lines.number c.in_ok-so_far.so_far c.in_ok-so_far.head (lines_left c.read_head.new.lines) scene c.in_ok-scene.ensures
    ∙ ap (λ race. read_body c.in_ok-version.version c.read_head.new.lines.number c.in_ok-so_far.so_far race (lines_left c.read_head.new.lines)) (sym c.new-race.ensures.value)
    ∙ c.in-Ok.ensures.read
    ∙ ap (λ told. Ok (told, lines_left c.read_told.new.lines)) (sym c.finish.ensures.value)

pub returns-in-Err-clause-read : goal.returns-in-Err-clause-read
returns-in-Err-clause-read g c =
    let scene = empty_race c.in_ok-scene.scene.settings c.in_ok-scene.scene.policy c.in_ok-scene.scene.host in
    let same = c.in_ok-version.ensures.read
    ∙ c.in_ok-so_far.ensures.read
    ∙ settle_reads c.in_ok-version.version c.read_head.new.lines.number c.in_ok-so_far.so_far c.in_ok-so_far.head (lines_left c.read_head.new.lines) scene c.in_ok-scene.ensures
    ∙ ap (λ race. read_body c.in_ok-version.version c.read_head.new.lines.number c.in_ok-so_far.so_far race (lines_left c.read_head.new.lines)) (sym c.new-race.ensures.value) in
    let P : Result (Race × List (List ℕ)) (ℕ × TextKind) → Type 0 = λ read. FailsAt c.read_told.new.lines.number c.in-Err.kind read in
    subst P (sym same) c.in-Err.ensures.read
