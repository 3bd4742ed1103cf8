use Rattle.std.proofs.Common.{rules, [], ◌∷◌, refl, ap, ◌∙◌}
use Rattle.he_board.specs.declared.view.View.{View}
use Rattle.he_board.specs.Notes.{are_keys}
use Rattle.he_board.proofs.Allowed.{may_lower}
use Rattle.he_board.proofs.Lists.{are_keys-append, one_key}
use Rattle.he_board.proofs.board.Board.lower_winner.Goals as goal

pub fetch_min-requires : goal.fetch_min-requires
fetch_min-requires g c = (search rules, search rules, may_lower _ _ _ _ (search rules) _ _ c.requires.race c.requires.key)

pub invariant_of-pass : goal.invariant_of-pass
invariant_of-pass g c =
    let told = c.fetch_min.ensures.2 c.args.race refl in
    record {
      counted = ap (λ (v : View). v.parts) told.0 ∙ c.args.pass.now.counted;
      active = c.args.pass.now.active;
      bare = told.1 ∙ c.args.pass.now.bare;
      keys = ap (λ (v : View). are_keys v.offers) told.0
          ∙ are_keys-append c.args.pass.now.seat.me.0.offers ((c.args.race, c.args.key) ∷ []) c.args.pass.now.keys (one_key c.args.race c.args.key c.requires.key);
    }

pub returns-clause-noted : goal.returns-clause-noted
returns-clause-noted g c = (c.fetch_min.ensures.2 c.args.race refl).0

pub returns-clause-below : goal.returns-clause-below
returns-clause-below g c = (c.fetch_min.ensures.2 c.args.race refl).2
