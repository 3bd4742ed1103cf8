use Rattle.std.proofs.Common.{ℕ, ◌≡◌, ◌⊎◌, List, Ok, Err, None, ap, arith, length, length-drop, refl, subst, sym}
use Rattle.he_inputs.specs.HeldInputs.{HeldBytes}
use Rattle.he_inputs.specs.declared.race_reader.Ending.TheVariants as endings
use Rattle.he_inputs.specs.RaceReading.{IsWithin}
use Rattle.he_streaming.specs.Rounds.{IsAsked, IsFaultPast, PutsTold}
use Rattle.he_streaming.proofs.Further.{round_ends, round_goes}
use Rattle.he_streaming.proofs.RoundEnd.{told_by, told_lines, within_told}
use Rattle.he_streaming.proofs.rounds.put_round.Goals as goal

pub tell_races-requires : goal.tell_races-requires
tell_races-requires g c =
    let lines = c.requires.lines in
    subst (λ (bytes : List ℕ). IsWithin bytes c.args.part.begun) (sym c.bytes.ensures) (within_told (IsAsked c.args.asked.now) _ _ _ _ c.args.part.begun c.requires.begun (omega (arith, lines)))

pub returns-in_err-reader-clause-told : goal.returns-in_err-reader-clause-told
returns-in_err-reader-clause-told g c =
    let told = c.in_ok-told.told in
    let bytes = c.args.held.now.input.bytes in
    let text = c.tell_races.new.text.items in
    let has = told_by (IsAsked c.args.asked.now) c.args.part.ending bytes c.bytes.result.now _ text _ _ c.args.part.begun told.reader told c.bytes.ensures c.requires.begun c.in_ok-told.ensures.told refl in
    let Is : List ℕ → Type 0 = λ b. ((c.args.part.ending ≡ endings.Open) × (told.fault ≡ None)) ⊎ IsFaultPast c.args.part.ending b told.reader told.fault in
    let Put : List ℕ → Type 0 = λ t. PutsTold g.O.OutputStream.contents g.O.OutputStream.puts g.O.OutputStream.flushes c.args.part.ending told t c.args.output.now c.put_told.new.output (Err c.in_err-reader.field-0.0) in
    round_ends (IsAsked c.args.asked.now) _ _ _ c.args.part.ending bytes c.args.held.now.reader bytes text told has (subst Is c.bytes.ensures c.in_ok-told.ensures.told.fault_is) _ _ _
    c.in_err-reader.field-0.0 (subst Put c.as_slice.ensures.value c.in_err-reader.ensures) c.from_residual-in_err-reader.result c.from_residual-in_err-reader.ensures

pub forget-requires : goal.forget-requires
forget-requires g c =
    let has = told_by (IsAsked c.args.asked.now) c.args.part.ending c.args.held.now.input.bytes c.bytes.result.now _ _ _ _ c.args.part.begun c.in_ok-reader.reader c.in_ok-told.told c.bytes.ensures c.requires.begun c.in_ok-told.ensures.told c.in_ok-reader.ensures.0 in
    has.within

pub returns-clause-size : goal.returns-clause-size
returns-clause-size g c =
    let bytes = c.args.held.now.input.bytes in
    let has = told_by (IsAsked c.args.asked.now) c.args.part.ending bytes c.bytes.result.now _ _ _ _ c.args.part.begun c.in_ok-reader.reader c.in_ok-told.told c.bytes.ensures c.requires.begun c.in_ok-told.ensures.told c.in_ok-reader.ensures.0 in
    let within = has.within in
    let left = ap (λ (h : HeldBytes). length h.bytes) c.forget.ensures in
    let lines = told_lines (IsAsked c.args.asked.now) bytes _ _ _ c.in_ok-reader.reader has in
    omega (arith, within, left, lines, length-drop {A = ℕ})

pub returns-clause-told : goal.returns-clause-told
returns-clause-told g c =
    let told = c.in_ok-told.told in
    let bytes = c.args.held.now.input.bytes in
    let text = c.tell_races.new.text.items in
    let has = told_by (IsAsked c.args.asked.now) c.args.part.ending bytes c.bytes.result.now _ text _ _ c.args.part.begun told.reader told c.bytes.ensures c.requires.begun c.in_ok-told.ensures.told refl in
    let Is : List ℕ → Type 0 = λ b. ((c.args.part.ending ≡ endings.Open) × (told.fault ≡ None)) ⊎ IsFaultPast c.args.part.ending b told.reader told.fault in
    let Put : List ℕ → Type 0 = λ t. PutsTold g.O.OutputStream.contents g.O.OutputStream.puts g.O.OutputStream.flushes c.args.part.ending told t c.args.output.now c.put_told.new.output (Ok c.in_ok-reader.reader) in
    round_goes (IsAsked c.args.asked.now) _ _ _ c.args.part.ending bytes c.args.held.now.reader _ text told has (subst Is c.bytes.ensures c.in_ok-told.ensures.told.fault_is) _ _
    c.in_ok-reader.reader (subst Put c.as_slice.ensures.value c.in_ok-reader.ensures) (ap (λ (h : HeldBytes). h.bytes) c.forget.ensures)
