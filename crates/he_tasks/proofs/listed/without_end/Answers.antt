use Rattle.std.proofs.Common.{refl}
use Rattle.he_tasks.proofs.Lists.{ended}
use Rattle.he_tasks.proofs.listed.without_end.Goals as goal

pub returns : goal.returns
returns c = ended c.args.list c.unwrap_or.result _ c.strip_suffix.result c.strip_suffix.ensures.cases refl c.unwrap_or.ensures
