use Rattle.std.proofs.Common.{List, false, ◌≡◌, arith, refl, subst, sym, true}
use Rattle.he_addr.specs.declared.ip.Ip.{Ip}
use Rattle.he_plan.specs.declared.attempts.Attempt.{Attempt}
use Rattle.he_timeline.specs.Building.{with_answer}
use Rattle.he_timeline.specs.Race.{Race, Reply}
use Rattle.he_timeline.specs.Timeline.{IsRace, are_of}
use Rattle.he_turns.specs.Heard.{cleaned, ips_of, lists_of, with_known}
use Rattle.he_turns.specs.Kept.{InTurn}
use Rattle.he_turns.proofs.Builds.{answer-valid}
use Rattle.he_turns.proofs.Cleaned.{cleaned-distinct, cleaned-few, cleaned-own}
use Rattle.he_turns.proofs.Knowing.{known-alike, known-turn}
use Rattle.he_turns.proofs.recorder.Recorder.answer.Goals as goal

pub returns-clause-turn : goal.returns-clause-turn
returns-clause-turn c =
    let told : List Ip = ips_of c.args.told.now.known.items in
    let ips : List Ip = cleaned c.args.family told in
    let own : are_of c.args.family ips ≡ true = cleaned-own c.args.family told in
    let answered : Race = with_answer c.args.self.now.recorded c.args.family (record { tick = c.args.now; addresses = ips }) in
    let valid : IsRace answered =
    answer-valid c.args.self.now.recorded c.args.family c.args.now ips c.requires.turn.valid c.requires.first (omega (arith, c.requires.in_time)) (cleaned-few c.args.family told) own (cleaned-distinct c.args.family told) in
    let turn : InTurn c.record_answer.new.recorded c.args.now c.args.self.now.underway.attempts false =
    known-turn c.args.self.now.recorded answered (with_known answered c.args.told.now.known.items ips) c.record_answer.new.recorded c.args.family c.args.now (lists_of c.args.told.now) ips c.args.self.now.underway.attempts c.requires.turn c.requires.first own refl valid refl c.in_ok-record_answer.ensures.recorded c.in_ok-record_answer.ensures.valid in
    subst (λ (xs : List Attempt). InTurn c.record_answer.new.recorded c.args.now xs false) (sym c.hear.ensures.same) turn

pub returns-clause-underway : goal.returns-clause-underway
returns-clause-underway c =
    let told : List Ip = ips_of c.args.told.now.known.items in
    let ips : List Ip = cleaned c.args.family told in
    let answered : Race = with_answer c.args.self.now.recorded c.args.family (record { tick = c.args.now; addresses = ips }) in
    c.hear.ensures.underway c.args.self.now.recorded c.record_answer.new.recorded c.requires.underway
    (known-alike c.args.self.now.recorded answered (with_known answered c.args.told.now.known.items ips) c.record_answer.new.recorded c.args.family c.args.now (lists_of c.args.told.now) ips c.args.self.now.underway.attempts c.requires.turn c.requires.first (cleaned-own c.args.family told) refl refl c.in_ok-record_answer.ensures.recorded)
