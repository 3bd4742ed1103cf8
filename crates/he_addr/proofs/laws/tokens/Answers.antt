use Rattle.he_addr.proofs.TextLaws.{numbers_are_tokens, addresses_are_tokens, sources_are_tokens, prefixes_are_tokens}
use Rattle.he_addr.proofs.laws.tokens.Goals as goal

pub returns-clause-number : goal.returns-clause-number
returns-clause-number c = numbers_are_tokens

pub returns-clause-address : goal.returns-clause-address
returns-clause-address c = addresses_are_tokens

pub returns-clause-source : goal.returns-clause-source
returns-clause-source c = sources_are_tokens

pub returns-clause-prefix : goal.returns-clause-prefix
returns-clause-prefix c = prefixes_are_tokens
