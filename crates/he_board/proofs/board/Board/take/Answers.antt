use Rattle.std.proofs.Common.{nat_eq, ap, ◌∙◌}
use Rattle.he_board.specs.declared.view.View.{View}
use Rattle.he_board.proofs.Lists.{cond-taken}
use Rattle.he_board.proofs.board.Board.take.Goals as goal

pub returns-clause-noted : goal.returns-clause-noted
returns-clause-noted g c = c.swap_job.ensures.noted

pub returns-clause-taken : goal.returns-clause-taken
returns-clause-taken g c = ap (λ (v : View). v.taken) c.swap_job.ensures.noted ∙ cond-taken (nat_eq c.swap_job.result 0) c.args.job c.args.pass.now.seat.me.0
