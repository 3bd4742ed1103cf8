use borrow.Author.Rules.{rules, lives}
use Rattle.he_streaming.proofs.pieces.+workers.Goals as goal

pub fn::run_halves::join+arg2+FnOnce::call_once-join+arg2-requires :
    goal.fn::run_halves::join+arg2+FnOnce::call_once-join+arg2-requires
fn::run_halves::join+arg2+FnOnce::call_once-join+arg2-requires g t c κs within = search (rules, lives, within) depth 24 fits 20000

pub fn::run_halves::join+arg3+FnOnce::call_once-join+arg3-requires :
    goal.fn::run_halves::join+arg3+FnOnce::call_once-join+arg3-requires
fn::run_halves::join+arg3+FnOnce::call_once-join+arg3-requires g t c κs within = search (rules, lives, within) depth 24 fits 20000
