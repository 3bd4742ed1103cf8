use Rattle.he_addr.proofs.SideTexts.{side_none}
use Rattle.he_addr.proofs.groups.read_side.Goals as goal

pub returns-then-ends : goal.returns-then-ends
returns-then-ends c = side_none c.args.text.now
