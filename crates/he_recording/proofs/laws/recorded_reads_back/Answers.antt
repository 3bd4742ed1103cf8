use Rattle.std.proofs.Common.{refl}
use Rattle.he_record.specs.Written.{record_text}
use Rattle.he_write.specs.Written.{timeline_text}
use Rattle.he_recording.proofs.laws.recorded_reads_back.Goals as goal

pub returns-clause-says : goal.returns-clause-says
returns-clause-says c = record {
  front = record_text c.args.told.now;
  rest = timeline_text c.args.race.now;
  parts = refl;
  told = c.record_reads_back.ensures;
  is = c.timeline_reads_back.ensures;
}

pub returns-clause-text : goal.returns-clause-text
returns-clause-text c = (
  c.args.told.now,
  record {
    front = record_text c.args.told.now;
    rest = timeline_text c.args.race.now;
    parts = refl;
    told = c.record_reads_back.ensures;
    is = c.timeline_reads_back.ensures;
  },
)
