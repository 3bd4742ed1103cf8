use Rattle.std.proofs.Common.{arith, ap, ◌≡◌, ◌∙◌, ◌-◌, ◌/◌}
use borrow.Author.Rules.{rules, lives}
use Rattle.he_board.specs.declared.view.View.{View}
use Rattle.he_board.specs.Passes.{notes}
use Rattle.he_pool.proofs.pool.+workers.Goals as goal

pub run_range-returns-clause-done : goal.run_range-returns-clause-done
run_range-returns-clause-done g t c =
    let left : (notes c.run_halves-left.result.0.0).parts ≡ (notes c.args.pass).parts - (notes c.args.pass).parts / 2 = c.run_halves-left.ensures.first.whole ∙ ap (λ (v : View). v.parts) c.fork-p.ensures.noted.0 in
    let right : (notes c.run_halves-left.result.1.0).parts ≡ (notes c.args.pass).parts / 2 = c.run_halves-left.ensures.second.whole ∙ ap (λ (v : View). v.parts) c.fork-p.ensures.noted.1 in
    let both = c.join_halves.ensures.parts in
    record {
      own = c.join_halves.ensures.own;
      whole = omega arith;
      real = c.join_halves.ensures.real c.args.timelines.now c.run_halves-left.ensures.first.real c.run_halves-left.ensures.second.real;
    }

pub run_range-returns-clause-worked : goal.run_range-returns-clause-worked
run_range-returns-clause-worked g t c = c.join_halves.ensures.worked c.args.timelines.now c.run_halves-left.ensures.first_worked c.run_halves-left.ensures.second_worked

pub fn::run_halves::join+arg2+FnOnce::call_once-join+arg2-requires :
    goal.fn::run_halves::join+arg2+FnOnce::call_once-join+arg2-requires
fn::run_halves::join+arg2+FnOnce::call_once-join+arg2-requires g t c κs within = search (rules, lives, within) depth 24 fits 20000

pub fn::run_halves::join+arg3+FnOnce::call_once-join+arg3-requires :
    goal.fn::run_halves::join+arg3+FnOnce::call_once-join+arg3-requires
fn::run_halves::join+arg3+FnOnce::call_once-join+arg3-requires g t c κs within = search (rules, lives, within) depth 24 fits 20000
