use Rattle.std.proofs.Common.{subst}
use Rattle.he_inputs.specs.RaceStreamSteps.{PassesText, state_of}
use Rattle.he_inputs.specs.RaceStreams.{StreamState}
use Rattle.he_inputs.proofs.RaceStreamLaws.{passes_text, stream_on}
use Rattle.he_inputs.proofs.race_stream.RaceStream.next_held.Goals as goal

pub invariant_of-self-in-Some : goal.invariant_of-self-in-Some
invariant_of-self-in-Some g c =
    let fields = c.self.inside in
    let passes = rw c.bytes-bytes.ensures at rw c.in-Some.is at c.in_ok-race.ensures.found in
    stream_on fields.held fields.reader c.next.new.self c.in-Some.race passes fields.start c.self.invariant (rw c.bytes-bytes.ensures at c.in_ok-race.ensures.within)

pub returns-in-Some-clause-passes : goal.returns-in-Some-clause-passes
returns-in-Some-clause-passes g c =
    let fields = c.self.inside in
    let passes = rw c.bytes-bytes.ensures at rw c.in-Some.is at c.in_ok-race.ensures.found in
    subst (λ (old : StreamState). PassesText old (state_of fields.held fields.reader.end c.next.new.self fields.ending) c.in-Some.race) c.self.view_is (passes_text fields.held fields.reader c.next.new.self c.in-Some.race passes fields.start fields.ending)
