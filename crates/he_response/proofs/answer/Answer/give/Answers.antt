use Rattle.std.proofs.Common.{arith, refl}
use Rattle.std.proofs.lemmas.Grind.{common_steps}
use Rattle.he_response.proofs.Coming.{gave_all, gives}
use Rattle.he_response.proofs.answer.Answer.give.Goals as goal

pub returns-clause-goes : goal.returns-clause-goes
returns-clause-goes c =
    let out = c.args.self.now.out.items in
    let given = c.args.self.now.given in
    let within = c.args.self.now.within in
    gives c.args.self.now _ refl _ refl refl
    (gave_all out c.args.room.now c.copy_from_slice.new.self given c.min-count.result (omega (arith, within))
    (grind (arith, common_steps, c.min-count.ensures, c.len.ensures, within))
    (grind (arith, common_steps, c.copy_from_slice.ensures.after, c.deref.ensures.value)))
