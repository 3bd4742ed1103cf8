use Rattle.he_addr.proofs.TextLaws.{numbers_read_back, addresses_read_back, sources_read_back, prefixes_read_back}
use Rattle.he_addr.proofs.laws.reads_back.Goals as goal

pub returns-clause-number : goal.returns-clause-number
returns-clause-number c = numbers_read_back

pub returns-clause-address : goal.returns-clause-address
returns-clause-address c = addresses_read_back

pub returns-clause-source : goal.returns-clause-source
returns-clause-source c = sources_read_back

pub returns-clause-prefix : goal.returns-clause-prefix
returns-clause-prefix c = prefixes_read_back
