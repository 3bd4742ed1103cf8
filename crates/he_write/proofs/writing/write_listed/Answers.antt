use Rattle.std.proofs.Common.{decimal, map}
use Rattle.he_addr.specs.Printing.{printed}
use Rattle.he_write.proofs.WrittenLines.{listed_written}
use Rattle.he_write.proofs.writing.write_listed.Goals as goal

pub returns : goal.returns
returns g c =
    listed_written c.args.out.now.items c.write_word.new.out.items c.write_addresses.new.out.items c.write_byte.new.out.items c.args.word.now (decimal c.args.number) (map printed c.args.ips.now) c.write_byte.result
    c.in_ok-write_word.ensures c.in_ok-write_addresses.ensures c.write_byte.ensures.ok c.write_byte.ensures.err
