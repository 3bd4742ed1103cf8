use Rattle.std.proofs.Common.{refl}
use Rattle.he_response.proofs.Coming.{begins}
use Rattle.he_response.proofs.answer.Answer.new.Goals as goal

pub returns : goal.returns
returns c = begins c.args.to_head _ refl refl c.new.ensures.items c.new-2.ensures.items
