use Rattle.he_timeline.proofs.Seen.{IsSeen-seen}
use Rattle.he_plan.proofs.due.seen_is_least.Goals as goal

pub returns : goal.returns
returns c = IsSeen-seen
