use Rattle.std.proofs.Common.{inr, refl}
use Rattle.he_proxy_request.specs.Rules.{NamesNoRule}
use Rattle.he_proxy_request.proofs.Refusing.{any_at}
use Rattle.he_proxy_request.proofs.Ruled.{one_ruled}
use Rattle.he_proxy_request.proofs.rules.rules_in.Goals as goal

pub loop-word-preserved : goal.loop-word-preserved
loop-word-preserved c =
    one_ruled c.args.words.now c.loop-word.word-index _ c.loop-word.rules.items c.push.new.self.items _ c.in-Ok.ensures.items
    c.loop-word-test.true c.loop-word.invariant refl c.in-Some.ensures.some

pub returns-in_default-clause-err : goal.returns-in_default-clause-err
returns-in_default-clause-err c =
    inr (
      refl,
      any_at (λ word. NamesNoRule word.text.now) c.args.words.now c.loop-word.word-index _
          c.loop-word-test.true c.in_default.ensures.none,
    )
