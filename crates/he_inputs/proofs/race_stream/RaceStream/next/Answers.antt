use Rattle.std.proofs.Common.{◌-◌, ◌<◌, ap, arith, refl, subst, sym, true≢false}
use Rattle.he_stream.specs.Limits.{most_reads}
use Rattle.he_inputs.specs.RaceStreamSteps.{left_by}
use Rattle.he_inputs.specs.declared.race_reader.Ending.{Ending}
use Rattle.he_inputs.specs.RaceStreams.{HandsNext, StreamState}
use Rattle.he_inputs.proofs.RaceReadingLaws.{handed}
use Rattle.he_inputs.proofs.RaceStreamLaws.{fewer_left, handed_on, hands, hands_fault, hands_race, none_held, nothing_on}
use Rattle.he_inputs.proofs.race_stream.RaceStream.next.Goals as goal

pub loop-self-init : goal.loop-self-init
loop-self-init g c = nothing_on g.I.InputStream c.args.input.now c.args.self.now

pub returns-in_err-race-clause-next : goal.returns-in_err-race-clause-next
returns-in_err-race-clause-next g c = λ first races front has.
    let here = handed_on g.I.InputStream first c.args.input.now races front c.args.self.now c.loop-self.input c.loop-self.self has c.loop-self.invariant in
    handed (HandsNext g.I.InputStream first c.loop-self.input c.next_held.new.self races front) c.from_residual.result c.in_err-race.field-0.0 c.from_residual.ensures
    (hands_fault g.I.InputStream first c.loop-self.input races front c.loop-self.self c.in_err-race.ensures.few.0 here c.next_held.new.self c.in_err-race.field-0.0 c.in_err-race.ensures.passes)

pub returns-in-Some-clause-next : goal.returns-in-Some-clause-next
returns-in-Some-clause-next g c = λ first races front has.
    let here = handed_on g.I.InputStream first c.args.input.now races front c.args.self.now c.loop-self.input c.loop-self.self has c.loop-self.invariant in
    hands_race g.I.InputStream first c.loop-self.input races front c.loop-self.self c.next_held.new.self c.in-Some.race here (rw c.in-Some.is at c.in_ok-race.ensures.passes)

pub returns-clause-next : goal.returns-clause-next
returns-clause-next g c = λ first races front has.
    let here = handed_on g.I.InputStream first c.args.input.now races front c.args.self.now c.loop-self.input c.loop-self.self has c.loop-self.invariant in
    hands g.I.InputStream first c.loop-self.input races front c.loop-self.self c.next_held-2.ensures.few.0 here c.next_held-2.new.self (λ may. true≢false (sym (c.loop-self-test.ensures.1 may))) c.next_held-2.result
    c.next_held-2.ensures.passes

pub loop-self-smaller : goal.loop-self-smaller
loop-self-smaller g c =
    let old = c.loop-self.self in
    let new = c.take.new.self in
    let same = ap (λ (s : StreamState). s.steps) (none_held old c.next_held.new.self c.in_ok-race.field-0 c.in_default.not-Some c.in_ok-race.ensures.passes) in
    let Fewer : Ending → Type 0 = λ e. left_by new.ending (most_reads - new.steps) < left_by e (most_reads - old.steps) in
    subst Fewer (sym (c.loop-self-test.ensures.0 refl)) (fewer_left old.steps new.steps new.ending (λ may. let further = c.in_ok-take.ensures.further may in (omega (arith, same, further), further.1)))
