use Rattle.std.proofs.Common.{◌+◌, ◌≤◌, ◌++◌, ℕ, List, [], Result, Err, ap, append_assoc, sym, subst, arith}
use Rattle.he_words.specs.Ranges.{most_races}
use Rattle.he_inputs.specs.HeldInputs.{GivesBy}
use Rattle.he_inputs.specs.RaceStreams.{StreamState, at_start}
use Rattle.he_inputs.specs.Recorded.{IsRecordedAs}
use Rattle.he_inputs.specs.declared.race_reader.Ending.TheVariants as endings
use Rattle.he_inputs.specs.declared.stream_fault.StreamFault.{StreamFault}
use Rattle.he_inputs.specs.declared.stream_fault.StreamFault.TheVariants as faults
use Rattle.he_inputs.proofs.RaceReadingLaws.{handed}
use Rattle.he_record.specs.Said.{Said}
use Rattle.he_streaming.specs.Rounds.{IsAsked, WritesText}
use Rattle.he_totals.specs.Steps.{AddsRace}
use Rattle.he_totals.specs.declared.kept.Place.{Place}
use Rattle.he_tasks.specs.Pages.{HasPut, PutsParts}
use Rattle.he_tasks.proofs.PageParts.{given_so_far, left_put, nothing_put, parts_ended, parts_failed, parts_lost, parts_over, parts_refused, race_put}
use Rattle.he_tasks.proofs.page.put_parts.Goals as goal
use Rattle.he_tasks.proofs.page.put_parts.Goals.{then-len-ge-PARTS_BYTES+in_ok-put_text, else-len-ge-PARTS_BYTES}

pub returns-in_err-arena : goal.returns-in_err-arena
returns-in_err-arena g c =
    let input = g.I.InputStream in
    let output = g.O.OutputStream in
    let Asked = IsAsked c.args.asked.now in
    let first = c.args.input.now in
    let before = c.args.session.now.output in
    let old = c.args.races.now in
    let has = nothing_put input output c.args.file Asked first before old in
    handed (PutsParts input output c.args.file Asked first first before before old old) c.from_residual.result faults.Memory c.from_residual.ensures
    (parts_refused input output c.args.file Asked first before old first at_start before old [] has (omega arith) first [] (given_so_far input first first 0 endings.Open (has.read.front ++ []) has.read.handed.given) old)

pub loop-race-init : goal.loop-race-init
loop-race-init g c =
    let input = g.I.InputStream in
    let output = g.O.OutputStream in
    let Asked = IsAsked c.args.asked.now in
    let first = c.args.input.now in
    let before = c.args.session.now.output in
    let old = c.args.races.now in
    let Left : List ℕ → Type 0 = λ left. HasPut input output c.args.file Asked first first at_start before before old old left in
    let Here : StreamState → Type 0 = λ stream. HasPut input output c.args.file Asked first first stream before before old old c.new-text.result.items × (stream.races ≤ most_races) in
    subst Here (sym c.restart.ensures) (subst Left (sym c.new-text.ensures.items) (nothing_put input output c.args.file Asked first before old), omega arith)

pub returns-in_err-add_race-in-Ok-Some : goal.returns-in_err-add_race-in-Ok-Some
returns-in_err-add_race-in-Ok-Some g c =
    let input = g.I.InputStream in
    let output = g.O.OutputStream in
    let Asked = IsAsked c.args.asked.now in
    let first = c.args.input.now in
    let before = c.args.session.now.output in
    let old = c.args.races.now in
    let next = c.next.new.input in
    let state = c.next.new.self in
    let has = c.loop-race.invariant.0 in
    let hands = rw c.in-Ok-Some.field-0-is at (c.in-Ok-Some.ensures.next first has.read.races has.read.front has.read.handed) in
    let given = subst (GivesBy input first next state.steps state.ending) (append_assoc has.read.front state.text state.rest) hands.1.given in
    handed (PutsParts input output c.args.file Asked first next before c.loop-race.session.output old c.add_race.new.self) c.from_residual-in_err-add_race-in-Ok-Some.result faults.Memory c.from_residual-in_err-add_race-in-Ok-Some.ensures
    (parts_refused input output c.args.file Asked first before old c.loop-race.input c.loop-race.session.stream c.loop-race.session.output c.loop-race.races c.loop-race.text.items has c.loop-race.invariant.1 next (state.text ++ state.rest)
    (given_so_far input first next state.steps state.ending (has.read.front ++ (state.text ++ state.rest)) given) c.add_race.new.self)

pub returns-in_err-recorded-in-Ok-Some : goal.returns-in_err-recorded-in-Ok-Some
returns-in_err-recorded-in-Ok-Some g c =
    let input = g.I.InputStream in
    let output = g.O.OutputStream in
    let Asked = IsAsked c.args.asked.now in
    let first = c.args.input.now in
    let before = c.args.session.now.output in
    let old = c.args.races.now in
    let next = c.next.new.input in
    let state = c.next.new.self in
    let has = c.loop-race.invariant.0 in
    let hands = rw c.in-Ok-Some.field-0-is at (c.in-Ok-Some.ensures.next first has.read.races has.read.front has.read.handed) in
    let given = subst (GivesBy input first next state.steps state.ending) (append_assoc has.read.front state.text state.rest) hands.1.given in
    handed (PutsParts input output c.args.file Asked first next before c.loop-race.session.output old c.loop-race.races) c.from_residual-in_err-recorded-in-Ok-Some.result faults.Memory c.from_residual-in_err-recorded-in-Ok-Some.ensures
    (parts_refused input output c.args.file Asked first before old c.loop-race.input c.loop-race.session.stream c.loop-race.session.output c.loop-race.races c.loop-race.text.items has c.loop-race.invariant.1 next (state.text ++ state.rest)
    (given_so_far input first next state.steps state.ending (has.read.front ++ (state.text ++ state.rest)) given) c.loop-race.races)

pub returns-in_err-write-in-Ok-Some : goal.returns-in_err-write-in-Ok-Some
returns-in_err-write-in-Ok-Some g c =
    let input = g.I.InputStream in
    let output = g.O.OutputStream in
    let Asked = IsAsked c.args.asked.now in
    let first = c.args.input.now in
    let before = c.args.session.now.output in
    let old = c.args.races.now in
    let next = c.next.new.input in
    let state = c.next.new.self in
    let has = c.loop-race.invariant.0 in
    let hands = rw c.in-Ok-Some.field-0-is at (c.in-Ok-Some.ensures.next first has.read.races has.read.front has.read.handed) in
    let given = subst (GivesBy input first next state.steps state.ending) (append_assoc has.read.front state.text state.rest) hands.1.given in
    handed (PutsParts input output c.args.file Asked first next before c.loop-race.session.output old c.add_race.new.self) c.from_residual-in_err-write-in-Ok-Some.result faults.Memory c.from_residual-in_err-write-in-Ok-Some.ensures
    (parts_refused input output c.args.file Asked first before old c.loop-race.input c.loop-race.session.stream c.loop-race.session.output c.loop-race.races c.loop-race.text.items has c.loop-race.invariant.1 next (state.text ++ state.rest)
    (given_so_far input first next state.steps state.ending (has.read.front ++ (state.text ++ state.rest)) given) c.add_race.new.self)

pub returns-in-Ok-None : goal.returns-in-Ok-None
returns-in-Ok-None g c =
    let input = g.I.InputStream in
    let output = g.O.OutputStream in
    let has = c.loop-race.invariant.0 in
    let ends = rw c.in-Ok-None.field-0-is at (c.in-Ok-None.ensures.next c.args.input.now has.read.races has.read.front has.read.handed) in
    parts_ended input output c.args.file (IsAsked c.args.asked.now) c.args.input.now c.args.session.now.output c.args.races.now c.loop-race.input c.loop-race.session.stream c.loop-race.session.output c.loop-race.races c.loop-race.text.items has c.loop-race.invariant.1
    c.next.new.input ends c.put_text.new.output c.put_text.result (rw c.deref.ensures.value at c.put_text.ensures.ok) (rw c.deref.ensures.value at c.put_text.ensures.err) c.put_text.ensures.fault

pub returns-in_err-put_text-in-Err : goal.returns-in_err-put_text-in-Err
returns-in_err-put_text-in-Err g c =
    let input = g.I.InputStream in
    let output = g.O.OutputStream in
    let Asked = IsAsked c.args.asked.now in
    let has = c.loop-race.invariant.0 in
    let hands = c.in-Err.ensures.next c.args.input.now has.read.races has.read.front has.read.handed in
    let Ends : Result (Unit {0}) StreamFault → Type 0 = PutsParts input output c.args.file Asked c.args.input.now c.next.new.input c.args.session.now.output c.put_text-in-Err.new.output c.args.races.now c.loop-race.races in
    let Here : StreamFault → Type 0 = λ f. Ends (Err f) in
    handed Ends c.from_residual-in_err-put_text-in-Err.result c.in_err-put_text-in-Err.field-0.0 c.from_residual-in_err-put_text-in-Err.ensures
    (subst Here (sym c.in_err-put_text-in-Err.ensures.fault)
    (parts_lost input output c.args.file Asked c.args.input.now c.args.session.now.output c.args.races.now c.loop-race.input c.loop-race.session.stream c.loop-race.session.output c.loop-race.races c.loop-race.text.items has c.loop-race.invariant.1
    c.next.new.input c.next.new.self c.in-Err.fault hands c.put_text-in-Err.new.output (rw c.deref-in-Err.ensures.value at c.in_err-put_text-in-Err.ensures.err)))

pub returns-in-Err : goal.returns-in-Err
returns-in-Err g c =
    let input = g.I.InputStream in
    let output = g.O.OutputStream in
    let Asked = IsAsked c.args.asked.now in
    let has = c.loop-race.invariant.0 in
    let hands = c.in-Err.ensures.next c.args.input.now has.read.races has.read.front has.read.handed in
    let Here : StreamFault → Type 0 = λ f. PutsParts input output c.args.file Asked c.args.input.now c.next.new.input c.args.session.now.output c.put_text-in-Err.new.output c.args.races.now c.loop-race.races (Err f) in
    subst Here (sym c.into.ensures)
    (parts_over input output c.args.file Asked c.args.input.now c.args.session.now.output c.args.races.now c.loop-race.input c.loop-race.session.stream c.loop-race.session.output c.loop-race.races c.loop-race.text.items has c.loop-race.invariant.1
    c.next.new.input c.next.new.self c.in-Err.fault hands c.put_text-in-Err.new.output (rw c.deref-in-Err.ensures.value at c.in_ok-put_text-in-Err.ensures.ok))

pub returns-in_err-put_text : goal.returns-in_err-put_text
returns-in_err-put_text g c =
    let input = g.I.InputStream in
    let output = g.O.OutputStream in
    let Asked = IsAsked c.args.asked.now in
    let first = c.args.input.now in
    let before = c.args.session.now.output in
    let old = c.args.races.now in
    let next = c.next.new.input in
    let state = c.next.new.self in
    let has = c.loop-race.invariant.0 in
    let hands = rw c.in-Ok-Some.field-0-is at (c.in-Ok-Some.ensures.next first has.read.races has.read.front has.read.handed) in
    let said = c.in_ok-recorded-in-Ok-Some.ensures hands.0.0 c.in-Ok-Some.race (subst (λ (t : List ℕ). IsRecordedAs t hands.0.0 c.in-Ok-Some.race) (sym c.text.ensures) hands.0.1) in
    let Written : List Said → Type 0 = λ s. WritesText (λ told. Asked c.races-number.result (c.lines-line.result + 1) told s c.in-Ok-Some.race) c.loop-race.text.items c.write.new.text.items in
    let written = subst Written said c.in_ok-write-in-Ok-Some.ensures in
    let place : Place = record { file = c.args.file; number = c.races-number.result; line = c.lines-line.result + 1 } in
    let adds = subst (λ (s : List Said). AddsRace s c.in-Ok-Some.race place c.loop-race.races c.add_race.new.self) said c.in_ok-add_race-in-Ok-Some.ensures in
    let now = race_put input output c.args.file Asked first before old c.loop-race.input c.loop-race.session.stream c.loop-race.session.output c.loop-race.races c.loop-race.text.items has next state c.in-Ok-Some.race hands c.races-number.result (c.lines-line.result + 1)
    c.races-number.ensures (ap (λ (n : ℕ). n + 1) c.lines-line.ensures.lines) c.add_race.new.self adds c.write.new.text.items written in
    let Ends : Result (Unit {0}) StreamFault → Type 0 = PutsParts input output c.args.file Asked first next before c.put_text-then-len-ge-PARTS_BYTES.new.output old c.add_race.new.self in
    let Here : StreamFault → Type 0 = λ f. Ends (Err f) in
    handed Ends c.from_residual-in_err-put_text.result c.in_err-put_text.field-0.0 c.from_residual-in_err-put_text.ensures
    (subst Here (sym c.in_err-put_text.ensures.fault)
    (parts_failed input output c.args.file Asked first before old next state c.loop-race.session.output c.add_race.new.self c.write.new.text.items now c.in-Ok-Some.ensures.few next state.rest
    (given_so_far input first next state.steps state.ending (now.read.front ++ state.rest) now.read.handed.given) c.put_text-then-len-ge-PARTS_BYTES.new.output (rw c.deref-then-len-ge-PARTS_BYTES.ensures.value at c.in_err-put_text.ensures.err)))

pub loop-race-preserved : goal.loop-race-preserved
loop-race-preserved g c =
    let input = g.I.InputStream in
    let output = g.O.OutputStream in
    let Asked = IsAsked c.args.asked.now in
    let first = c.args.input.now in
    let before = c.args.session.now.output in
    let old = c.args.races.now in
    let next = c.next.new.input in
    let state = c.next.new.self in
    let has = c.loop-race.invariant.0 in
    let hands = rw c.in-Ok-Some.field-0-is at (c.in-Ok-Some.ensures.next first has.read.races has.read.front has.read.handed) in
    let said = c.in_ok-recorded-in-Ok-Some.ensures hands.0.0 c.in-Ok-Some.race (subst (λ (t : List ℕ). IsRecordedAs t hands.0.0 c.in-Ok-Some.race) (sym c.text.ensures) hands.0.1) in
    let Written : List Said → Type 0 = λ s. WritesText (λ told. Asked c.races-number.result (c.lines-line.result + 1) told s c.in-Ok-Some.race) c.loop-race.text.items c.write.new.text.items in
    let written = subst Written said c.in_ok-write-in-Ok-Some.ensures in
    let place : Place = record { file = c.args.file; number = c.races-number.result; line = c.lines-line.result + 1 } in
    let adds = subst (λ (s : List Said). AddsRace s c.in-Ok-Some.race place c.loop-race.races c.add_race.new.self) said c.in_ok-add_race-in-Ok-Some.ensures in
    let now = race_put input output c.args.file Asked first before old c.loop-race.input c.loop-race.session.stream c.loop-race.session.output c.loop-race.races c.loop-race.text.items has next state c.in-Ok-Some.race hands c.races-number.result (c.lines-line.result + 1)
    c.races-number.ensures (ap (λ (n : ℕ). n + 1) c.lines-line.ensures.lines) c.add_race.new.self adds c.write.new.text.items written in
    elim c.if-len-ge-PARTS_BYTES.branch [
      | then-len-ge-PARTS_BYTES+in_ok-put_text w ↦
          let end = w.put_text-then-len-ge-PARTS_BYTES.new.output in
          let put = left_put input output c.args.file Asked first before old next state c.loop-race.session.output c.add_race.new.self c.write.new.text.items now end (rw w.deref-then-len-ge-PARTS_BYTES.ensures.value at w.in_ok-put_text.ensures.ok) in
          let Left : List ℕ → Type 0 = λ left. HasPut input output c.args.file Asked first next state before end old c.add_race.new.self left in
          rw w.session-is (rw w.text-is (subst Left (sym w.clear.ensures.items) put, c.in-Ok-Some.ensures.few))
      | else-len-ge-PARTS_BYTES w ↦ rw w.session-is (rw w.text-is (now, c.in-Ok-Some.ensures.few))
    ]
