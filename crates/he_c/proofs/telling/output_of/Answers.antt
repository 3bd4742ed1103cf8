use Rattle.std.specs.List.{slice_range}
use Rattle.he_inputs.specs.RaceReading.{PassesRace}
use Rattle.he_inputs.specs.Recorded.{IsRecordedAs}
use Rattle.he_c.specs.Outputs.{IsTextOf}
use Rattle.he_c.proofs.OneMore.{end_told, fault_told, one_more_told}
use Rattle.he_c.proofs.telling.output_of.Goals as goal

pub loop-found-preserved : goal.loop-found-preserved
loop-found-preserved c =
    let said = c.in-Ok-Some.found.0 in
    let race = c.in-Ok-Some.found.1 in
    let passes : PassesRace c.args.input.now c.loop-found.reader c.next_recorded.new.self race = rw c.in-Ok-Some.field-0-is at c.in-Ok-Some.ensures.found in
    let recorded : IsRecordedAs (slice_range c.args.input.now c.loop-found.reader.end c.next_recorded.new.self.end) said race = rw c.in-Ok-Some.field-0-is at c.in-Ok-Some.ensures.record in
    one_more_told (IsTextOf c.args.content) c.args.input.now c.loop-found.text.items c.write.new.text.items c.loop-found.reader c.next_recorded.new.self said race
    c.loop-found.invariant passes recorded c.in-Ok-Some.ensures.within c.in_ok-write-in-Ok-Some.ensures

pub returns-in-Ok-None : goal.returns-in-Ok-None
returns-in-Ok-None c =
    end_told (IsTextOf c.args.content) c.args.input.now c.loop-found.text.items c.loop-found.reader c.next_recorded.new.self c.loop-found.invariant
    (rw c.in-Ok-None.field-0-is at c.in-Ok-None.ensures.found)

pub returns-in-Err-Input : goal.returns-in-Err-Input
returns-in-Err-Input c =
    rw c.in-Err-Input.field-0-is
    (fault_told (IsTextOf c.args.content) c.args.input.now c.loop-found.text.items c.loop-found.reader c.in-Err-Input.fault c.loop-found.invariant
    (rw c.in-Err-Input.field-0-is at c.in-Err-Input.ensures.fault))
