use Rattle.std.proofs.Common.{◌≡◌, sym, ◌∙◌}
use Rattle.std.proofs.lemmas.Option.{none-some}
use Rattle.he_addr.specs.Ip.{family_of}
use Rattle.he_addr.specs.Text.{Spells}
use Rattle.he_addr.proofs.NetTexts.{ip_of_in_some, ip_of_in-spelled}
use Rattle.he_addr.proofs.Options.{if_some, if_none}
use Rattle.he_addr.proofs.reading.read_ip_of.Goals as goal

pub returns-clause-found : goal.returns-clause-found
returns-clause-found c =
    if_some c.parse_ip_of.result (λ ip. Spells c.args.text.now ip × (family_of ip ≡ c.args.family)) (λ ip h. ip_of_in_some c.args.family c.args.text.now ip (sym c.parse_ip_of.ensures.value ∙ h))

pub returns-clause-none : goal.returns-clause-none
returns-clause-none c =
    if_none c.parse_ip_of.result _ (λ h ip spelled family. none-some ip (sym h ∙ c.parse_ip_of.ensures.value ∙ ip_of_in-spelled c.args.family c.args.text.now ip spelled family))
