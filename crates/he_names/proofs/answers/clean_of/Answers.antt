use Rattle.std.proofs.Common.{◌∙◌}
use Rattle.he_names.proofs.Cleaned.{answer_is}
use Rattle.he_names.proofs.answers.clean_of.Goals as goal

pub returns-clause-answer : goal.returns-clause-answer
returns-clause-answer g c =
    answer_is c.args.family c.args.ips.now _ _ (c.deref.ensures.value ∙ c.in_ok-own.ensures) c.in_ok-kept.ensures
