use Rattle.he_inputs.specs.RaceReading.{PassesRace}
use Rattle.he_inputs.specs.Recorded.{IsRecordedAs}
use Rattle.std.proofs.Common.{slice_range}
use Rattle.he_streaming.specs.Rounds.{IsAsked}
use Rattle.he_streaming.proofs.RoundEnd.{one_more_told}
use Rattle.he_streaming.proofs.rounds.tell_races.Goals as goal

pub loop-part-preserved : goal.loop-part-preserved
loop-part-preserved g c =
    let said = c.in-Ok-Some.found.0 in
    let race = c.in-Ok-Some.found.1 in
    let passes : PassesRace c.args.bytes.now c.loop-part.reader c.next_recorded.new.self race = rw c.in-Ok-Some.field-0-is at c.in-Ok-Some.ensures.found in
    let recorded : IsRecordedAs (slice_range c.args.bytes.now c.loop-part.reader.end c.next_recorded.new.self.end) said race = rw c.in-Ok-Some.field-0-is at c.in-Ok-Some.ensures.record in
    let within = c.in-Ok-Some.ensures.within in (
      within,
      one_more_told (IsAsked c.args.asked.now) c.args.bytes.now c.args.text.now.items c.loop-part.text.items c.write.new.text.items c.args.part.begun c.loop-part.reader c.next_recorded.new.self said race
          c.loop-part.invariant.1 passes recorded within.few c.in_ok-write-in-Ok-Some.ensures,
    )
