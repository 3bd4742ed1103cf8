use Rattle.he_text.proofs.RereadTexts.{written_is_read}
use Rattle.he_text.proofs.laws.timeline_reads_back.Goals as goal

pub returns : goal.returns
returns g c = written_is_read c.args.timeline.now c.answer-race.ensures.race c.timeline_range.ensures
