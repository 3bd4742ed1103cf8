use Rattle.std.proofs.Common.{◌≡◌, ◌+◌, length, drop, List, ℕ, Some, None, sym, ◌∙◌, ap, inr}
use Rattle.he_record.specs.Faults.{content_fault}
use Rattle.he_record.specs.Left.{said_of}
use Rattle.he_record.specs.Said.{Said}
use Rattle.he_record.proofs.TakenLines.{line_passes, stops_early, stops_late, taken_fits}
use Rattle.he_record.proofs.reading.take_line.Goals as goal

pub returns-in-Err-clause-read : goal.returns-in-Err-clause-read
returns-in-Err-clause-read g c =
    let is = c.in-Err.ensures in
    inr (stops_early c.args.text.now is.0 c.args.told.now is.1 c.in-Err.kind c.requires is.2 is.3)

pub returns-in-Err-read_line-clause-read : goal.returns-in-Err-read_line-clause-read
returns-in-Err-read_line-clause-read g c =
    let is = c.in-Ok.ensures in
    let line : List ℕ = c.in-Ok.line.now in
    let wrong : content_fault c.args.told.now line ≡ Some c.in-Err-read_line.kind =
    ap (λ (told : List Said). content_fault told line) (sym c.lines.ensures.value) ∙ c.in-Err-read_line.ensures in
    inr (stops_late c.args.text.now line (drop (length line + 1) c.args.text.now) c.args.told.now c.in-Err-read_line.kind c.requires is.1 is.2 wrong)

pub push-requires : goal.push-requires
push-requires g c =
    let line : List ℕ = c.in-Ok.line.now in
    let told = c.in-Ok-read_line.ensures in
    let right : content_fault c.args.told.now line ≡ None = ap (λ (told : List Said). content_fault told line) (sym c.lines.ensures.value) ∙ told.0 in
    taken_fits c.args.text.now line (drop (length line + 1) c.args.text.now) c.args.told.now (said_of c.in-Ok-read_line.found) c.requires c.in-Ok.ensures.1 right told.1 c.lines.ensures.valid c.has_types.ensures

pub returns-in-Ok-push-clause-read : goal.returns-in-Ok-push-clause-read
returns-in-Ok-push-clause-read g c =
    let is = c.in-Ok.ensures in
    let line : List ℕ = c.in-Ok.line.now in
    let told = c.in-Ok-read_line.ensures in
    let right : content_fault c.args.told.now line ≡ None = ap (λ (told : List Said). content_fault told line) (sym c.lines.ensures.value) ∙ told.0 in
    line_passes c.args.text.now line c.args.told.now c.push.new.self (said_of c.in-Ok-read_line.found) c.requires is.0 is.1 is.2 right told.1 c.in-Ok-push.ensures.ok
