use Rattle.std.proofs.Common.{◌≡◌, ◌∷◌, ◌++◌, [], arith, length}
use Rattle.he_inputs.specs.RaceReadingSteps.{not_one}
use Rattle.he_inputs.specs.RaceStreamSteps.{TakesBehind}
use Rattle.he_stream.specs.Input.{Gives, GivesSoFar}
use Rattle.he_inputs.proofs.OneRaceLaws.{not_one_race, one_fault, one_race}
use Rattle.he_inputs.proofs.RaceReadingLaws.{handed}
use Rattle.he_inputs.proofs.RaceStreamLaws.{none_of}
use Rattle.he_inputs.proofs.inputs.take_behind.Goals as goal

pub returns-in_err-other : goal.returns-in_err-other
returns-in_err-other g c = λ first race front has.
    let (others, texts, here) = c.loop-other.invariant first race front has in
    let input = g.I.InputStream in
    handed (TakesBehind (Gives input.remaining input.takes first c.next.new.input) (GivesSoFar input.remaining input.takes first c.next.new.input) race) c.from_residual.result (not_one c.in_err-other.field-0.0) c.from_residual.ensures
    (one_fault input first c.next.new.input c.next.new.self (race ∷ others) texts c.in_err-other.field-0.0 (c.in_err-other.ensures.next first (race ∷ others) texts here))

pub loop-other-preserved : goal.loop-other-preserved
loop-other-preserved g c = λ first race front has.
    let (others, texts, here) = c.loop-other.invariant first race front has in
    let next = c.in_ok-other.ensures.next first (race ∷ others) texts here in
    let (is, more) = rw c.in-Some.is at next in (others ++ c.in-Some.other ∷ [], texts ++ c.next.new.self.text, more)

pub returns-then-races-eq1 : goal.returns-then-races-eq1
returns-then-races-eq1 g c = λ first race front has.
    let (others, texts, here) = c.loop-other.invariant first race front has in
    let none = none_of c.in_ok-other.field-0 c.in_default.not-Some in
    let next = c.in_ok-other.ensures.next first (race ∷ others) texts here in
    let counted : c.next.new.self.races ≡ c.loop-other.stream.races = rw none at c.in_ok-other.ensures.counted in
    let one : length (race ∷ others) ≡ 1 = let number = here.counted in let told = c.races.ensures in let is = c.if-races-eq1.true in omega arith in
    one_race g.I.InputStream first c.next.new.input c.next.new.self race others texts (rw none at next) one

pub returns-else-races-eq1 : goal.returns-else-races-eq1
returns-else-races-eq1 g c = λ first race front has.
    let (others, texts, here) = c.loop-other.invariant first race front has in
    let none = none_of c.in_ok-other.field-0 c.in_default.not-Some in
    let next = c.in_ok-other.ensures.next first (race ∷ others) texts here in
    let counted : c.next.new.self.races ≡ c.loop-other.stream.races = rw none at c.in_ok-other.ensures.counted in
    let number = here.counted in
    let told = c.races.ensures in
    not_one_race g.I.InputStream first c.next.new.input c.next.new.self (race ∷ others) texts (rw none at next) (λ one. c.if-races-eq1.false (omega arith))
