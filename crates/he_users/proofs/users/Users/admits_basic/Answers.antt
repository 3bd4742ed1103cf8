use Rattle.std.proofs.Common.{ℕ, Option, IfSome, subst, sym}
use Rattle.std.specs.declared.alloc.Global.{Global}
use Rattle.std.specs.declared.vec.Vec.{Vec}
use Rattle.he_users.specs.Basic.{IsTextOf}
use Rattle.he_users.proofs.Pairs.{named_ok, unnamed_ok}
use Rattle.he_users.proofs.users.Users.admits_basic.Goals as goal

pub returns-in-Some-2-clause-named : goal.returns-in-Some-2-clause-named
returns-in-Some-2-clause-named c =
    named_ok c.args.self.now c.args.value.now c.in-Some.token.now c.in-Some-2.pair.items c.deref.result.now c.name_in.result (sym c.in-Some.ensures)
    (subst (λ (o : Option (Vec ℕ Global)). IfSome o (λ pair. IsTextOf c.in-Some.token.now pair.items)) c.in-Some-2.is c.in_ok-pair.ensures.pair) c.deref.ensures.value c.name_in.ensures

pub returns-in-Some-2-clause-none : goal.returns-in-Some-2-clause-none
returns-in-Some-2-clause-none c =
    unnamed_ok c.args.self.now c.args.value.now c.in-Some.token.now c.in-Some-2.pair.items c.deref.result.now c.name_in.result (sym c.in-Some.ensures)
    (subst (λ (o : Option (Vec ℕ Global)). IfSome o (λ pair. IsTextOf c.in-Some.token.now pair.items)) c.in-Some-2.is c.in_ok-pair.ensures.pair) c.deref.ensures.value c.name_in.ensures
