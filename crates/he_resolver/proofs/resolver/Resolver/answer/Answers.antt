use Rattle.he_resolver.specs.Heard.{heard_of, names_of}
use Rattle.he_resolver.proofs.Owned.{answer_own, heard_part, own_addresses, tells_own}
use Rattle.he_resolver.proofs.resolver.Resolver.answer.Goals as goal

pub returns-clause-told : goal.returns-clause-told
returns-clause-told g c = λ faithful.
    tells_own (names_of c.args.self.now) c.args.family (heard_of c.args.self.now c.args.family) c.answer_of.result
    (heard_part c.args.self.now c.args.family faithful)
    (answer_own c.args.self.now c.args.family _ _ c.answer_of.result c.asking.ensures c.told.ensures c.answer_of.ensures.own)

pub returns-clause-own : goal.returns-clause-own
returns-clause-own g c =
    own_addresses (heard_of c.args.self.now c.args.family) c.args.family c.answer_of.result
    (answer_own c.args.self.now c.args.family _ _ c.answer_of.result c.asking.ensures c.told.ensures c.answer_of.ensures.own)
