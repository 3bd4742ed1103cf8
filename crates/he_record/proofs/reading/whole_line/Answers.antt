use Rattle.std.proofs.Common.{arith}
use Rattle.he_record.proofs.WholeLines.{found, missed, open_end}
use Rattle.he_record.proofs.reading.whole_line.Goals as goal

pub returns-in-Some : goal.returns-in-Some
returns-in-Some c =
    let is = found c.args.text.now c.min-near.result c.in-Some.at c.memchr.result (omega (arith, c.min-near.ensures)) (omega (arith, c.min-near.ensures)) c.memchr.ensures c.in-Some.is in
    (is.shorter, is.parts, is.short)

pub returns-in-None : goal.returns-in-None
returns-in-None c =
    missed c.args.text.now c.min-near.result c.memchr.result (omega (arith, c.min-near.ensures)) (omega (arith, c.min-near.ensures, c.if-text-gt-MAX_LINE.true)) c.memchr.ensures c.in-None.is

pub returns-in-None-2 : goal.returns-in-None-2
returns-in-None-2 c =
    open_end c.args.text.now c.min-near.result c.memchr.result (omega (arith, c.min-near.ensures, c.if-text-gt-MAX_LINE.false)) (omega (arith, c.if-text-gt-MAX_LINE.false)) c.memchr.ensures c.in-None-2.is
