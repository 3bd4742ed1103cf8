use Rattle.std.proofs.Common.{◌≡◌, ◌+◌, ◌*◌, ◌≤◌, ◌∙◌, ℕ, List, length, sym, subst, refl, arith, true≢false, length-append}
use Rattle.he_stream.specs.Input.{Gives, GivesSoFar}
use Rattle.he_stream.specs.Limits.{read_size}
use Rattle.he_stream.specs.Output.{PutsInRounds}
use Rattle.he_inputs.specs.HeldInputs.{GivesBy}
use Rattle.he_inputs.specs.declared.race_reader.Ending.{Ending}
use Rattle.he_inputs.specs.declared.race_reader.Ending.TheVariants as endings
use Rattle.he_inputs.specs.declared.stream_fault.StreamFault.TheVariants as faults
use Rattle.he_inputs.proofs.HeldInputLaws.{gives_ended, gives_so_far}
use Rattle.he_streaming.specs.Rounds.{IsAsked, IsAt}
use Rattle.he_streaming.proofs.Ends.{at_more, at_round, ends_given, ends_handed, ends_refused, ends_told}
use Rattle.he_streaming.proofs.streaming.stream_races.Goals as goal

pub returns-in_err-ending : goal.returns-in_err-ending
returns-in_err-ending g c =
    let input = g.I.InputStream in
    let first = c.args.input.now in
    let last = c.take.new.input in
    let at = at_more (IsAsked c.args.asked.now) _ input first c.loop-text.input last c.loop-text.held.input c.take.new.self endings.Open c.loop-text.held.reader c.in_err-ending.ensures.more c.loop-text.invariant.1 in
    ends_handed _ _ _ _ _ _ c.from_residual.result faults.Memory c.from_residual.ensures
    (ends_refused (IsAsked c.args.asked.now) _ _ _ _ _ _ _ _ _ at (Gives input.remaining input.takes first last) (GivesSoFar input.remaining input.takes first last) (gives_so_far input first last c.take.new.self.steps) refl)

pub returns-then-not-is_open : goal.returns-then-not-is_open
returns-then-not-is_open g c =
    let input = g.I.InputStream in
    let first = c.args.input.now in
    let last = c.take.new.input in
    let steps = c.take.new.self.steps in
    let at = at_more (IsAsked c.args.asked.now) _ input first c.loop-text.input last c.loop-text.held.input c.take.new.self c.in_ok-ending.ending c.loop-text.held.reader c.in_ok-ending.ensures.more c.loop-text.invariant.1 in
    let given = λ (bytes : List ℕ) (took : GivesBy input first last steps c.in_ok-ending.ending bytes).
    subst (Gives input.remaining input.takes first last bytes) (sym c.is_broken-is_broken.ensures) (gives_ended input first last steps bytes c.in_ok-ending.ending (λ may. true≢false (sym (c.is_open.ensures.1 may) ∙ c.if-not-is_open.true)) took) in
    ends_given (IsAsked c.args.asked.now) _ _ _ _ _ _ _ _ _ at (Gives input.remaining input.takes first last) (GivesSoFar input.remaining input.takes first last) c.is_broken-is_broken.result given _ _ c.end_held.result c.end_held.ensures

pub returns-in_err-begun : goal.returns-in_err-begun
returns-in_err-begun g c =
    let input = g.I.InputStream in
    let first = c.args.input.now in
    let last = c.take.new.input in
    let steps = c.take.new.self.steps in
    let Done : List ℕ → Type 0 = PutsInRounds g.O.OutputStream.contents g.O.OutputStream.puts g.O.OutputStream.flushes c.args.output.now c.loop-text.output in
    let At : Ending → Type 0 = λ e. IsAt (IsAsked c.args.asked.now) c.take.new.self.bytes c.loop-text.held.reader (GivesBy input first last steps e) Done in
    let at = subst At (c.is_open.ensures.0 c.if-not-is_open.false)
    (at_more (IsAsked c.args.asked.now) Done input first c.loop-text.input last c.loop-text.held.input c.take.new.self c.in_ok-ending.ending c.loop-text.held.reader c.in_ok-ending.ensures.more c.loop-text.invariant.1) in
    ends_handed _ _ _ _ _ _ c.from_residual-in_err-begun.result faults.Memory c.from_residual-in_err-begun.ensures
    (ends_refused (IsAsked c.args.asked.now) _ _ _ _ _ _ _ _ _ at (Gives input.remaining input.takes first last) (GivesSoFar input.remaining input.takes first last) (gives_so_far input first last steps) refl)

pub returns-in_err-tell_held : goal.returns-in_err-tell_held
returns-in_err-tell_held g c =
    let input = g.I.InputStream in
    let first = c.args.input.now in
    let last = c.take.new.input in
    let steps = c.take.new.self.steps in
    let Done : List ℕ → Type 0 = PutsInRounds g.O.OutputStream.contents g.O.OutputStream.puts g.O.OutputStream.flushes c.args.output.now c.loop-text.output in
    let At : Ending → Type 0 = λ e. IsAt (IsAsked c.args.asked.now) c.take.new.self.bytes c.loop-text.held.reader (GivesBy input first last steps e) Done in
    let at = subst At (c.is_open.ensures.0 c.if-not-is_open.false)
    (at_more (IsAsked c.args.asked.now) Done input first c.loop-text.input last c.loop-text.held.input c.take.new.self c.in_ok-ending.ending c.loop-text.held.reader c.in_ok-ending.ensures.more c.loop-text.invariant.1) in
    ends_handed _ _ _ _ _ _ c.from_residual-in_err-tell_held.result c.in_err-tell_held.field-0.0 c.from_residual-in_err-tell_held.ensures
    (ends_told (IsAsked c.args.asked.now) _ _ _ _ _ _ _ _ _ at (Gives input.remaining input.takes first last) (GivesSoFar input.remaining input.takes first last) (gives_so_far input first last steps) c.tell_held.new.held.input.bytes c.tell_held.new.held.reader _ c.in_err-tell_held.ensures.told)

pub loop-text-preserved : goal.loop-text-preserved
loop-text-preserved g c =
    let input = g.I.InputStream in
    let first = c.args.input.now in
    let last = c.take.new.input in
    let steps = c.take.new.self.steps in
    let Done : List ℕ → Type 0 = PutsInRounds g.O.OutputStream.contents g.O.OutputStream.puts g.O.OutputStream.flushes c.args.output.now c.loop-text.output in
    let At : Ending → Type 0 = λ e. IsAt (IsAsked c.args.asked.now) c.take.new.self.bytes c.loop-text.held.reader (GivesBy input first last steps e) Done in
    let at = subst At (c.is_open.ensures.0 c.if-not-is_open.false)
    (at_more (IsAsked c.args.asked.now) Done input first c.loop-text.input last c.loop-text.held.input c.take.new.self c.in_ok-ending.ending c.loop-text.held.reader c.in_ok-ending.ensures.more c.loop-text.invariant.1) in
    let taken = c.in_ok-ending.ensures.more in
    let told = c.in_ok-tell_held.ensures in
    let grown : length c.take.new.self.bytes ≡ length c.loop-text.held.input.bytes + length taken.more = rw taken.grown (length-append c.loop-text.held.input.bytes taken.more) in
    let before : c.loop-text.held.reader.lines + length c.loop-text.held.input.bytes ≤ read_size * c.loop-text.held.input.steps = c.loop-text.invariant.0 in
    let size : c.tell_held.new.held.reader.lines + length c.tell_held.new.held.input.bytes ≤ read_size * steps = omega (arith, told.size, grown, before, taken.size) in
    let Size : ℕ → Type 0 = λ n. c.tell_held.new.held.reader.lines + length c.tell_held.new.held.input.bytes ≤ read_size * n in
    let Now : ℕ → Type 0 = λ n. IsAt (IsAsked c.args.asked.now) c.tell_held.new.held.input.bytes c.tell_held.new.held.reader (GivesBy input first last n endings.Open)
    (PutsInRounds g.O.OutputStream.contents g.O.OutputStream.puts g.O.OutputStream.flushes c.args.output.now c.tell_held.new.output) in
    let now = at_round (IsAsked c.args.asked.now) _ _ _ _ _ _ _ _ _ at c.tell_held.new.held.input.bytes c.tell_held.new.held.reader told.told in
    (subst Size (sym told.steps) size, subst Now (sym told.steps) now, c.next_room.ensures.some, c.next_room.ensures.few)
