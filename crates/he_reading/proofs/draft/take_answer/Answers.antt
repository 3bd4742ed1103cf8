use Rattle.std.proofs.Common.{rules, ◌≡◌, Err}
use Rattle.he_reading.specs.Left.{tokens_left}
use Rattle.he_reading.specs.Reading.{take_answer}
use Rattle.he_reading.proofs.FormLaws.{answer_wrong}
use Rattle.he_reading.proofs.draft.take_answer.Goals as goal

pub returns-in_err-given : goal.returns-in_err-given
returns-in_err-given g c =
    let wrong : take_answer c.args.family (tokens_left c.args.tokens) c.args.race.now ≡ Err c.in_err-given.field-0.0 =
    answer_wrong c.args.family (tokens_left c.args.tokens) c.in_err-given.field-0.0 c.args.race.now (c.in_err-given.ensures.read c.args.family) in
    search rules
