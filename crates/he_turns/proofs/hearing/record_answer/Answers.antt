use Rattle.std.proofs.Common.{◌≡◌, ◌∙◌, sym, true}
use Rattle.he_timeline.specs.Timeline.{are_of}
use Rattle.he_turns.specs.Heard.{ips_of}
use Rattle.he_turns.proofs.Cleaned.{cleaned-distinct, cleaned-few, cleaned-own}
use Rattle.he_turns.proofs.Knowing.{known-answered, known-untold, known-unused}
use Rattle.he_turns.proofs.hearing.record_answer.Goals as goal

pub add_answer-requires-clause-few : goal.add_answer-requires-clause-few
add_answer-requires-clause-few c = rw (c.deref.ensures.value ∙ c.in_ok-addresses.ensures) (cleaned-few c.args.family (ips_of c.as_slice-known.result.now))

pub add_answer-requires-clause-own : goal.add_answer-requires-clause-own
add_answer-requires-clause-own c = rw (c.deref.ensures.value ∙ c.in_ok-addresses.ensures) (cleaned-own c.args.family (ips_of c.as_slice-known.result.now))

pub add_answer-requires-clause-distinct : goal.add_answer-requires-clause-distinct
add_answer-requires-clause-distinct c = rw (c.deref.ensures.value ∙ c.in_ok-addresses.ensures) (cleaned-distinct c.args.family (ips_of c.as_slice-known.result.now))

pub add_known-requires-clause-answered : goal.add_known-requires-clause-answered
add_known-requires-clause-answered c =
    known-answered c.args.recorded.now c.add_answer.new.recorded c.args.family (record { tick = c.args.now; addresses = c.deref.result.now }) c.deref-2.result.now (c.deref-2.ensures.value ∙ sym c.deref.ensures.value) c.in_ok-add_answer.ensures.recorded

pub add_known-requires-clause-no_rtt : goal.add_known-requires-clause-no_rtt
add_known-requires-clause-no_rtt c =
    let own : are_of c.args.family c.deref-2.result.now ≡ true = rw (c.deref-2.ensures.value ∙ c.in_ok-addresses.ensures) (cleaned-own c.args.family (ips_of c.as_slice-known.result.now)) in
    known-untold c.args.recorded.now c.add_answer.new.recorded c.requires.valid c.args.family c.requires.first (record { tick = c.args.now; addresses = c.deref.result.now }) c.deref-2.result.now own c.in_ok-add_answer.ensures.recorded

pub add_known-requires-clause-unused : goal.add_known-requires-clause-unused
add_known-requires-clause-unused c =
    let own : are_of c.args.family c.deref-2.result.now ≡ true = rw (c.deref-2.ensures.value ∙ c.in_ok-addresses.ensures) (cleaned-own c.args.family (ips_of c.as_slice-known.result.now)) in
    known-unused c.args.recorded.now c.add_answer.new.recorded c.requires.valid c.args.family c.requires.first (record { tick = c.args.now; addresses = c.deref.result.now }) c.deref-2.result.now own c.in_ok-add_answer.ensures.recorded
