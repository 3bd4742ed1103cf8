use Rattle.std.proofs.Common.{ℕ, ◌+◌, ◌∙◌, ap}
use Rattle.he_reading.proofs.PartLaws.{parts_counted}
use Rattle.he_reading.proofs.parts.count.Goals as goal

pub returns-clause-marks : goal.returns-clause-marks
returns-clause-marks c = ap (λ (n : ℕ). n + 1) c.marks_in.ensures.value ∙ parts_counted c.args.mark c.args.text.now
