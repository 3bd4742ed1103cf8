use Rattle.he_cache.proofs.ReadBack.{reads_back}
use Rattle.he_cache.proofs.history_text.reads_back.Goals as goal

pub returns : goal.returns
returns c = reads_back
