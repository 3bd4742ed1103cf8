use Rattle.std.proofs.Common.{arith}
use Rattle.he_print.proofs.RepeatLaws.{repeated_all, repeated_more}
use Rattle.he_print.proofs.part.write_repeated.Goals as goal

pub loop-preserved : goal.loop-preserved
loop-preserved g c =
    repeated_more c.args.words.now c.args.text.now.items c.loop.text.items c.write_words.new.text.items c.args.count c.loop.counter
    (omega (arith, c.loop-test.true)) c.in_ok-write_words.ensures c.loop.invariant

pub returns : goal.returns
returns g c =
    repeated_all c.args.words.now c.args.text.now.items c.loop.text.items c.args.count c.loop.counter (omega (arith, c.loop-test.false))
    c.loop.invariant
