use Rattle.std.proofs.Common.{[], arith, subst, sym}
use Rattle.he_stream.specs.Input.{Gives, GivesSoFar}
use Rattle.he_inputs.specs.Inputs.{TakesOne}
use Rattle.he_inputs.specs.RaceReadingSteps.{not_one}
use Rattle.he_inputs.specs.RaceStreams.{HasHanded, StreamState}
use Rattle.he_inputs.proofs.OneRaceLaws.{not_one_race, one_fault}
use Rattle.he_inputs.proofs.RaceReadingLaws.{handed}
use Rattle.he_inputs.proofs.RaceStreamLaws.{none_handed, none_of}
use Rattle.he_inputs.proofs.inputs.take_one_race.Goals as goal

pub returns-in_err-race : goal.returns-in_err-race
returns-in_err-race g c =
    let input = g.I.InputStream in
    let first = c.args.input.now in
    let start = subst (λ (s : StreamState). HasHanded input first first s [] []) (sym c.new-stream.ensures) (none_handed input first) in
    handed (TakesOne (Gives input.remaining input.takes first c.next.new.input) (GivesSoFar input.remaining input.takes first c.next.new.input)) c.from_residual.result (not_one c.in_err-race.field-0.0) c.from_residual.ensures
    (one_fault input first c.next.new.input c.next.new.self [] [] c.in_err-race.field-0.0 (c.in_err-race.ensures.next first [] [] start))

pub returns-in_default : goal.returns-in_default
returns-in_default g c =
    let input = g.I.InputStream in
    let first = c.args.input.now in
    let start = subst (λ (s : StreamState). HasHanded input first first s [] []) (sym c.new-stream.ensures) (none_handed input first) in
    let next = c.in_ok-race.ensures.next first [] [] start in
    not_one_race input first c.next.new.input c.next.new.self [] [] (rw (none_of c.in_ok-race.field-0 c.in_default.not-Some) at next) (λ one. omega arith)

pub returns-in-Ok : goal.returns-in-Ok
returns-in-Ok g c =
    let input = g.I.InputStream in
    let first = c.args.input.now in
    let start = subst (λ (s : StreamState). HasHanded input first first s [] []) (sym c.new-stream.ensures) (none_handed input first) in
    let next = c.in_ok-race.ensures.next first [] [] start in
    let (is, more) = rw c.in-Some.is at next in c.in-Ok.ensures first c.in-Some.race c.next.new.self.text more

pub returns : goal.returns
returns g c =
    let input = g.I.InputStream in
    let first = c.args.input.now in
    let start = subst (λ (s : StreamState). HasHanded input first first s [] []) (sym c.new-stream.ensures) (none_handed input first) in
    let next = c.in_ok-race.ensures.next first [] [] start in
    let (is, more) = rw c.in-Some.is at next in c.in-Err.ensures first c.in-Some.race c.next.new.self.text more
