use Rattle.std.proofs.Common.{sym, ◌∙◌}
use Rattle.std.proofs.lemmas.Option.{none-some}
use Rattle.he_addr.specs.Text.{SpellsNumber}
use Rattle.he_addr.proofs.Numbers.{numeral_in_some, numeral_in-spelled}
use Rattle.he_addr.proofs.Options.{if_some, if_none}
use Rattle.he_addr.proofs.decimal.read_number.Goals as goal

pub returns-clause-found : goal.returns-clause-found
returns-clause-found c =
    if_some c.read_numeral.result (λ n. SpellsNumber c.args.text.now n) (λ n h. numeral_in_some 10 c.args.text.now n (sym c.read_numeral.ensures ∙ h))

pub returns-clause-none : goal.returns-clause-none
returns-clause-none c =
    if_none c.read_numeral.result _ (λ h n spelled. none-some n (sym h ∙ c.read_numeral.ensures ∙ numeral_in-spelled 10 c.args.text.now n spelled))
