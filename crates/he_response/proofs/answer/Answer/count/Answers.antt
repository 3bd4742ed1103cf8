use Rattle.std.proofs.Common.{[], drop, refl, subst, sym, take}
use Rattle.std.proofs.lemmas.List.{take-append-drop}
use Rattle.he_body.specs.declared.body.Body.{Body}
use Rattle.he_bounded.specs.Goes.{Goes}
use Rattle.he_bounded.specs.InOrder.{goes_counted}
use Rattle.he_response.proofs.Coming.{counts, goes_broken}
use Rattle.he_response.proofs.answer.Answer.count.Goals as goal

pub returns-in-Ok-clause-taken : goal.returns-in-Ok-clause-taken
returns-in-Ok-clause-taken c =
    let octets = c.args.octets.now in
    let count = c.in-Ok.count in
    counts c.args.self.now _ refl c.args.body c.take-taken.new.self octets (take count octets) (drop count octets) c.requires.part refl
    c.requires.none c.requires.none (sym (take-append-drop count octets))
    (goes_counted c.args.body c.take-taken.new.self octets count c.in-Ok.ensures.taken)

pub returns-in-Err-clause-never : goal.returns-in-Err-clause-never
returns-in-Err-clause-never c =
    let octets = c.args.octets.now in
    counts c.args.self.now _ refl c.args.body c.take-taken.new.self octets [] octets c.requires.part refl c.requires.none c.requires.none
    refl
    (subst (λ (b : Body). Goes c.args.body [] octets b) (sym c.in-Err.ensures.broken) (goes_broken c.args.body octets))
