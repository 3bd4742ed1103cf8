use Rattle.std.proofs.Common.{◌≡◌, ◌+◌, rules, ap, ◌∙◌, arith}
use Rattle.atomic_table.specs.Table.{Me}
use Rattle.he_board.specs.declared.view.View.{View}
use Rattle.he_board.specs.Notes.{are_keys}
use Rattle.he_board.proofs.Allowed.{may_rejoin, may_count}
use Rattle.he_board.proofs.Lists.{are_keys-append}
use Rattle.he_board.proofs.board.Board.merge.Goals as goal

pub join_seat-requires : goal.join_seat-requires
join_seat-requires g c = (search rules, search rules, search rules, search rules, may_rejoin _ _ _ _ _ (search rules))

pub load-requires : goal.load-requires
load-requires g c =
    let sum : c.join_seat.new.seat.me.0.parts ≡ c.args.first.seat.me.0.parts + c.args.second.seat.me.0.parts = ap (λ (m : Me (Unit {0}) View). m.0.parts) c.join_seat.ensures.2 in
    let counted = c.args.first.counted in
    let active = c.args.first.active in
    (search rules, search rules, may_count _ _ _ _ (omega arith))

pub invariant_of-result : goal.invariant_of-result
invariant_of-result g c =
    let told = c.load.ensures.2 in
    let joined_to = c.join_seat.ensures.2 in
    let sum : c.load.new.seat.me.0.parts ≡ c.args.first.seat.me.0.parts + c.args.second.seat.me.0.parts = ap (λ (v : View). v.parts) told.0 ∙ ap (λ (m : Me (Unit {0}) View). m.0.parts) joined_to in
    let first = c.args.first.counted in
    let second = c.args.second.counted in
    let active = c.args.first.active in
    record {
      counted = omega arith;
      active = omega arith;
      bare = told.1 ∙ ap (λ (m : Me (Unit {0}) View). m.1) joined_to ∙ c.args.first.bare;
      keys = ap (λ (v : View). are_keys v.offers) told.0 ∙ ap (λ (m : Me (Unit {0}) View). are_keys m.0.offers) joined_to
          ∙ are_keys-append c.args.first.seat.me.0.offers c.args.second.seat.me.0.offers c.args.first.keys c.args.second.keys;
    }
