use Rattle.std.proofs.Common.{map}
use Rattle.he_write.specs.Writing.{token_text}
use Rattle.he_write.proofs.WrittenLines.{line_written}
use Rattle.he_write.proofs.writing.write_line.Goals as goal

pub returns : goal.returns
returns g c =
    line_written c.args.out.now.items c.write_bytes.new.out.items c.write_tokens.new.out.items c.write_byte.new.out.items c.args.word.now (map token_text c.args.others.now) c.write_byte.result
    c.in_ok-write_bytes.ensures.ok c.in_ok-write_tokens.ensures c.write_byte.ensures.ok c.write_byte.ensures.err
