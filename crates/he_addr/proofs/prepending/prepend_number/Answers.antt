use Rattle.std.proofs.Common.{arith}
use Rattle.std.proofs.lemmas.Fmt.{length-decimal-le}
use Rattle.he_addr.proofs.prepending.prepend_number.Goals as goal

pub write_digits-requires : goal.write_digits-requires
write_digits-requires c = let most = length-decimal-le 20 c.args.number (omega arith) (omega arith) (omega arith) in (omega (arith, most), c.requires.1)

pub returns-clause-near : goal.returns-clause-near
returns-clause-near c = let most = length-decimal-le 20 c.args.number (omega arith) (omega arith) (omega arith) in omega (arith, most, c.write_digits.ensures.start)
