use Rattle.std.proofs.Common.{◌∙◌, ap, drop, refl}
use Rattle.he_response.proofs.Coming.{passes, tail_all}
use Rattle.he_response.proofs.answer.Answer.pass.Goals as goal

pub returns-in-Ok-clause-goes : goal.returns-in-Ok-clause-goes
returns-in-Ok-clause-goes c =
    passes c.args.self.now _ refl c.requires.head c.args.response c.requires.none c.requires.reads c.requires.interim c.requires.head
    (c.in-Ok.ensures.items ∙ tail_all c.deref.result.now c.args.response.len ∙ ap (drop c.args.response.len) c.deref.ensures.value)
    refl
