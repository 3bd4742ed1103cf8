use Rattle.std.proofs.Common.{rules, nat_eq, refl, ap, ◌∙◌}
use Rattle.he_board.specs.declared.view.View.{View}
use Rattle.he_board.specs.Notes.{are_keys}
use Rattle.he_board.proofs.Allowed.{may_swap}
use Rattle.he_board.proofs.Lists.{cond-parts, cond-offers}
use Rattle.he_board.proofs.board.Board.swap_job.Goals as goal

pub swap-requires : goal.swap-requires
swap-requires g c = (search rules, search rules, may_swap _ _ _ _ (search rules) _ c.requires.job)

pub invariant_of-pass : goal.invariant_of-pass
invariant_of-pass g c =
    let told = c.swap.ensures.2 c.args.job refl in
    let free = nat_eq c.swap.result 0 in
    record {
      counted = ap (λ (v : View). v.parts) told.0 ∙ cond-parts free c.args.job c.args.pass.now.seat.me.0 ∙ c.args.pass.now.counted;
      active = c.args.pass.now.active;
      bare = told.1 ∙ c.args.pass.now.bare;
      keys = ap (λ (v : View). are_keys v.offers) told.0 ∙ ap are_keys (cond-offers free c.args.job c.args.pass.now.seat.me.0) ∙ c.args.pass.now.keys;
    }

pub returns-clause-noted : goal.returns-clause-noted
returns-clause-noted g c = (c.swap.ensures.2 c.args.job refl).0
