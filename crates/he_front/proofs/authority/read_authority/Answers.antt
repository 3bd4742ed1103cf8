use Rattle.he_front.proofs.Authorities.{none_named, result_found}
use Rattle.he_front.proofs.authority.read_authority.Goals as goal

pub returns-clause-found : goal.returns-clause-found
returns-clause-found c = result_found c.args.text.now c.parse.result c.parse.ensures

pub returns-clause-none : goal.returns-clause-none
returns-clause-none c = none_named c.args.text.now c.parse.result c.parse.ensures
