use Rattle.std.proofs.Common.{sym, ◌∙◌, ap}
use Rattle.he_select.specs.Attributes.{rule_between, attributes_of}
use Rattle.he_select.proofs.DecidedRules.{deciding_is}
use Rattle.he_select.proofs.deciding.DestinationRule.between.Goals as goal

pub returns-clause-deciding : goal.returns-clause-deciding
returns-clause-deciding c input a b earlier later =
    c.first_apart.ensures ∙ ap (λ s. rule_between s c.args.later.now) earlier ∙ ap (rule_between (attributes_of input a)) later ∙ sym (deciding_is input a b)
