use Rattle.std.proofs.Common.{rules, refl, ap, ◌∙◌}
use Rattle.he_board.specs.declared.view.View.{View}
use Rattle.he_board.specs.Notes.{are_keys}
use Rattle.he_board.proofs.Allowed.{may_look}
use Rattle.he_board.proofs.board.Board.load_winner.Goals as goal

pub load-requires : goal.load-requires
load-requires g c = (search rules, search rules, may_look _ _ _ _ (search rules) _ c.requires.race)

pub invariant_of-pass : goal.invariant_of-pass
invariant_of-pass g c =
    let told = c.load.ensures.2 c.args.race refl in
    record {
      counted = ap (λ (v : View). v.parts) told.0 ∙ c.args.pass.now.counted;
      active = c.args.pass.now.active;
      bare = told.1 ∙ c.args.pass.now.bare;
      keys = ap (λ (v : View). are_keys v.offers) told.0 ∙ c.args.pass.now.keys;
    }

pub returns-clause-noted : goal.returns-clause-noted
returns-clause-noted g c = (c.load.ensures.2 c.args.race refl).0

pub returns-clause-below : goal.returns-clause-below
returns-clause-below g c = (c.load.ensures.2 c.args.race refl).2

pub returns-clause-decided : goal.returns-clause-decided
returns-clause-decided g c = (c.load.ensures.2 c.args.race refl).3
