use Rattle.he_addr.proofs.TextLaws.{one_text, one_source_text, one_prefix_text}
use Rattle.he_addr.proofs.laws.one_text.Goals as goal

pub returns-clause-address : goal.returns-clause-address
returns-clause-address c = one_text

pub returns-clause-source : goal.returns-clause-source
returns-clause-source c = one_source_text

pub returns-clause-prefix : goal.returns-clause-prefix
returns-clause-prefix c = one_prefix_text
