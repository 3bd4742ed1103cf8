use Rattle.std.proofs.Common.{arith}
use Rattle.std.proofs.lemmas.Fmt.{length-decimal-le}
use Rattle.he_addr.proofs.printing.prepend_small.Goals as goal

pub write_digits-requires : goal.write_digits-requires
write_digits-requires c = let three = length-decimal-le 3 c.from.result (omega arith) (omega arith) (omega arith) in (omega (arith, three), c.requires.1)

pub returns-clause-near : goal.returns-clause-near
returns-clause-near c = let three = length-decimal-le 3 c.from.result (omega arith) (omega arith) (omega arith) in omega (arith, three, c.write_digits.ensures.start)
