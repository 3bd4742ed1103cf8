use Rattle.std.proofs.Common.{rules, ap, ◌∙◌}
use Rattle.he_board.specs.declared.view.View.{View}
use Rattle.he_board.specs.Notes.{are_keys}
use Rattle.he_board.proofs.Allowed.{may_count}
use Rattle.he_board.proofs.board.Board.count_parts.Goals as goal

pub load-requires : goal.load-requires
load-requires g c = (search rules, search rules, may_count _ _ _ _ (search rules))

pub invariant_of-pass : goal.invariant_of-pass
invariant_of-pass g c =
    let told = c.load.ensures.2 in
    record {
      counted = ap (λ (v : View). v.parts) told.0 ∙ c.args.pass.now.counted;
      active = c.args.pass.now.active;
      bare = told.1 ∙ c.args.pass.now.bare;
      keys = ap (λ (v : View). are_keys v.offers) told.0 ∙ c.args.pass.now.keys;
    }
