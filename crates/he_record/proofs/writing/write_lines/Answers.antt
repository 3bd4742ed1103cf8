use Rattle.std.proofs.Common.{rules, take}
use Rattle.std.specs.List.{flat_map}
use Rattle.he_words.specs.Appending.{Grows}
use Rattle.he_words.proofs.Appending.{grows_after}
use Rattle.he_record.proofs.WrittenLines.{all_lines, line_text, one_more_line}
use Rattle.he_record.proofs.writing.write_lines.Goals as goal

pub returns-in_err-write_line : goal.returns-in_err-write_line
returns-in_err-write_line g c =
    let kept : Grows c.args.out.now.items c.write_line.new.out.items =
    grows_after c.args.out.now.items (flat_map line_text (take c.loop-line.line-index c.args.lines.now)) c.loop-line.out.items c.write_line.new.out.items c.loop-line.invariant c.in_err-write_line.ensures in
    search rules

pub loop-line-preserved : goal.loop-line-preserved
loop-line-preserved g c =
    one_more_line c.args.lines.now c.loop-line.line-index _ c.args.out.now.items c.loop-line.out.items c.write_line.new.out.items c.loop-line-test.true c.loop-line.invariant c.in_ok-write_line.ensures

pub returns : goal.returns
returns g c = all_lines c.args.lines.now c.loop-line.line-index c.args.out.now.items c.loop-line.out.items c.loop-line-test.false c.loop-line.invariant
