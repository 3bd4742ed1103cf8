use Rattle.he_addr.proofs.TextLaws.{one_number, one_address, one_source, one_prefix}
use Rattle.he_addr.proofs.laws.one_meaning.Goals as goal

pub returns-clause-number : goal.returns-clause-number
returns-clause-number c = one_number

pub returns-clause-address : goal.returns-clause-address
returns-clause-address c = one_address

pub returns-clause-source : goal.returns-clause-source
returns-clause-source c = one_source

pub returns-clause-prefix : goal.returns-clause-prefix
returns-clause-prefix c = one_prefix
