use Rattle.std.proofs.Common.{refl}
use Rattle.he_proxy_request.proofs.Ruled.{one_added}
use Rattle.he_proxy_request.proofs.rules.add_words.Goals as goal

pub loop-i-preserved : goal.loop-i-preserved
loop-i-preserved c =
    one_added c.args.allows c.unwrap_or-places.result.now c.unwrap_or-texts.result.now c.loop-i.i _ c.args.words.now.items
    c.loop-i.words.items c.push.new.self.items _ c.in_ok-push.ensures.items c.loop-i-test.true c.loop-i.invariant refl refl
    c.place_in.ensures
