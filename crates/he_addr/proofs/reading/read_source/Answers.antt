use Rattle.std.proofs.Common.{sym, ◌∙◌}
use Rattle.std.proofs.lemmas.Option.{none-some}
use Rattle.he_addr.specs.Text.{SpellsSource}
use Rattle.he_addr.proofs.AddressTexts.{source_in_some, source_in-spelled}
use Rattle.he_addr.proofs.Options.{if_some, if_none}
use Rattle.he_addr.proofs.reading.read_source.Goals as goal

pub returns-clause-found : goal.returns-clause-found
returns-clause-found c =
    if_some c.parse_source.result (λ source. SpellsSource c.args.text.now source.0 source.1) (λ source h. source_in_some c.args.text.now source.0 source.1 (sym c.parse_source.ensures.value ∙ h))

pub returns-clause-none : goal.returns-clause-none
returns-clause-none c =
    if_none c.parse_source.result _ (λ h ip len spelled. none-some (ip, len) (sym h ∙ c.parse_source.ensures.value ∙ source_in-spelled c.args.text.now ip len spelled))
