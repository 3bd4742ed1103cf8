use Rattle.std.proofs.Common.{sym}
use Rattle.he_addr.proofs.NetTexts.{v6_in_no_text}
use Rattle.he_addr.proofs.reading.read_v6.Goals as goal

pub returns-in-Err : goal.returns-in-Err
returns-in-Err c = sym (v6_in_no_text c.args.text.now c.in-Err.ensures)
