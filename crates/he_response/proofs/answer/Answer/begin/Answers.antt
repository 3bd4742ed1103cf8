use Rattle.std.proofs.Common.{◌≡◌, List, ℕ, ◌++◌, ◌-◌, ◌∙◌, ap, drop, length, refl, subst, take}
use Rattle.he_response.specs.Answers.{IsBegun}
use Rattle.he_response.proofs.Coming.{opens, tail_all}
use Rattle.he_response.proofs.answer.Answer.begin.Goals as goal

pub returns-in-Ok-clause-goes : goal.returns-in-Ok-clause-goes
returns-in-Ok-clause-goes c =
    let head : List ℕ = c.args.response.head.items in
    let len : ℕ = c.args.response.len in
    let come : List ℕ = c.deref.result.now in
    let rest : take (length come - len) (drop len come) ≡ drop len c.args.self.now.come.items = tail_all come len ∙ ap (drop len) c.deref.ensures.value in
    opens c.args.self.now _ refl c.requires.head c.args.response c.requires.none c.requires.reads c.in-Some.part c.in-Some.count
    c.requires.last
    (subst (λ (t : List ℕ). IsBegun c.args.response.framing t c.in-Some.part c.in-Some.count) rest c.in-Some.ensures.begun) refl
    (c.in-Ok.ensures.items ∙ ap (λ (t : List ℕ). head ++ take c.in-Some.count t) rest)
