use Rattle.he_proxy_request.specs.Listening.{NamesListen}
use Rattle.he_proxy_request.proofs.Named.{all_named, one_named}
use Rattle.he_proxy_request.proofs.listen.words_in.Goals as goal

pub loop-text-preserved : goal.loop-text-preserved
loop-text-preserved c =
    one_named NamesListen c.args.texts.now c.loop-text.text-index _ c.loop-text.words.items _ c.as_bytes.result.now c.in-Some.word c.loop-text-test.true c.loop-text.invariant c.as_bytes.ensures.value c.in-Some.ensures.some c.in-Ok.ensures.items

pub returns : goal.returns
returns c = all_named NamesListen c.args.texts.now c.loop-text.text-index c.loop-text.words.items c.loop-text-test.false c.loop-text.invariant
