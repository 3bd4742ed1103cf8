use Rattle.std.proofs.Common.{sym, ◌∙◌}
use Rattle.std.proofs.lemmas.Option.{none-some}
use Rattle.he_addr.specs.Text.{SpellsPrefix}
use Rattle.he_addr.proofs.AddressTexts.{prefix_in_some, prefix_in-spelled}
use Rattle.he_addr.proofs.Options.{if_some, if_none}
use Rattle.he_addr.proofs.reading.read_prefix.Goals as goal

pub returns-clause-found : goal.returns-clause-found
returns-clause-found c =
    if_some c.parse_prefix.result (λ prefix. SpellsPrefix c.args.text.now prefix) (λ prefix h. prefix_in_some c.args.text.now prefix (sym c.parse_prefix.ensures ∙ h))

pub returns-clause-none : goal.returns-clause-none
returns-clause-none c =
    if_none c.parse_prefix.result _ (λ h prefix spelled. none-some prefix (sym h ∙ c.parse_prefix.ensures ∙ prefix_in-spelled c.args.text.now prefix spelled))
