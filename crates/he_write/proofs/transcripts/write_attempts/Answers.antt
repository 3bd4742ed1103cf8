use Rattle.std.proofs.Common.{rules, take}
use Rattle.he_words.specs.Appending.{Grows}
use Rattle.he_write.specs.Written.{attempt_text, attempts_text}
use Rattle.he_write.proofs.LoopLaws.{one_more_at, all_done}
use Rattle.he_words.proofs.Appending.{grows_after}
use Rattle.he_write.proofs.transcripts.write_attempts.Goals as goal

pub returns-in_err-write_attempt : goal.returns-in_err-write_attempt
returns-in_err-write_attempt g c =
    let kept : Grows c.args.out.now.items c.write_attempt.new.out.items =
    grows_after c.args.out.now.items (attempts_text (take c.loop-line.line-index c.args.lines.now)) c.loop-line.out.items c.write_attempt.new.out.items c.loop-line.invariant c.in_err-write_attempt.ensures in
    search rules

pub loop-line-preserved : goal.loop-line-preserved
loop-line-preserved g c =
    one_more_at attempt_text c.args.lines.now c.loop-line.line-index _ c.args.out.now.items c.loop-line.out.items c.write_attempt.new.out.items
    c.loop-line-test.true c.loop-line.invariant c.in_ok-write_attempt.ensures

pub returns : goal.returns
returns g c = all_done attempt_text c.args.lines.now c.loop-line.line-index c.args.out.now.items c.loop-line.out.items c.loop-line-test.false c.loop-line.invariant
