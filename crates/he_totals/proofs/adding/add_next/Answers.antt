use Rattle.std.proofs.Common.{◌+◌, ap}
use Rattle.he_inputs.proofs.RaceReadingLaws.{handed}
use Rattle.he_inputs.specs.Recorded.{IsRecordedAs, IsRecordedText}
use Rattle.he_inputs.specs.StreamFaults.{fault_of_reader}
use Rattle.he_totals.specs.Steps.{AddsNext}
use Rattle.he_totals.proofs.Walked.{fails, one_more}
use Rattle.he_totals.proofs.adding.add_next.Goals as goal

pub returns-in_err-race-clause-added : goal.returns-in_err-race-clause-added
returns-in_err-race-clause-added g c = λ first start read.
    handed (AddsNext c.args.file g.I.InputStream first c.next.new.input c.next.new.self start c.args.races.now) c.from_residual.result (fault_of_reader c.in_err-race.field-0.0) c.from_residual.ensures
    (fails c.args.file g.I.InputStream first c.args.input.now c.next.new.input c.args.stream.now c.next.new.self start c.args.races.now read c.in_err-race.field-0.0
    (c.in_err-race.ensures.next first read.races read.front read.handed))

pub returns-in-Ok-clause-added : goal.returns-in-Ok-clause-added
returns-in-Ok-clause-added g c = λ first start read.
    let hands = c.in_ok-race.ensures.next first read.races read.front read.handed in
    let handed = rw c.in-Some.is at hands in
    let is : IsRecordedText c.next.new.self.text c.in-Some.race = handed.0 in
    let text : IsRecordedAs c.text.result.now is.0 c.in-Some.race = rw c.text.ensures is.1 in
    let said = c.in_ok-told.ensures is.0 c.in-Some.race text in
    one_more c.args.file g.I.InputStream first c.args.input.now c.next.new.input c.args.stream.now c.next.new.self start c.args.races.now read c.in-Some.race handed
    c.races.result (c.lines-line.result + 1) c.races.ensures (ap (λ n. n + 1) c.lines-line.ensures.lines) c.add_race-added.new.self (rw said at c.in-Ok.ensures)
