use Rattle.std.proofs.Common.{ap, arith, length}
use Rattle.std.proofs.lemmas.Bool.Decides.{nat_tests}
use Rattle.std.proofs.lemmas.Grind.{common_steps}
use Rattle.std.proofs.lemmas.List.{length-drop}
use Rattle.he_response.proofs.answer.Answer.holds.Goals as goal

pub returns-clause-some : goal.returns-clause-some
returns-clause-some c = λ some nothing.
    let left = length-drop c.args.self.now.given c.args.self.now.out.items in
    let none = ap length nothing in
    grind (arith, nat_tests, common_steps, some, c.len.ensures, left, none)
