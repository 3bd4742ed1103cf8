use Rattle.std.proofs.Common.{List, sym, ◌∙◌, ap, inr}
use Rattle.he_record.specs.Faults.{repeated}
use Rattle.he_record.specs.Left.{said_of}
use Rattle.he_record.specs.Said.{Said}
use Rattle.he_record.proofs.Values.{add_more, added, fault_by_repeat, fault_by_value, fault_by_word, placed}
use Rattle.he_record.proofs.records.Record.add.Goals as goal

pub returns-in-Some-clause-fault : goal.returns-in-Some-clause-fault
returns-in-Some-clause-fault g c =
    inr (fault_by_word c.args.self.now (said_of c.args.line) c.in-Some.kind (placed c.args.self.now _ (said_of c.args.line) c.word.result c.word_fault.result c.lines.ensures.value c.word.ensures c.word_fault.ensures ∙ c.in-Some.is))

pub returns-in-Some-value_fault-clause-fault : goal.returns-in-Some-value_fault-clause-fault
returns-in-Some-value_fault-clause-fault g c =
    inr (fault_by_value c.args.self.now (said_of c.args.line) c.in-Some-value_fault.kind
    (placed c.args.self.now _ (said_of c.args.line) c.word.result c.word_fault.result c.lines.ensures.value c.word.ensures c.word_fault.ensures ∙ c.in_default.is)
    (sym c.value_fault.ensures ∙ c.in-Some-value_fault.is))

pub returns-in-Some-repeats-clause-fault : goal.returns-in-Some-repeats-clause-fault
returns-in-Some-repeats-clause-fault g c =
    inr (fault_by_repeat c.args.self.now (said_of c.args.line) c.in-Some-repeats.kind
    (placed c.args.self.now _ (said_of c.args.line) c.word.result c.word_fault.result c.lines.ensures.value c.word.ensures c.word_fault.ensures ∙ c.in_default.is)
    (sym c.value_fault.ensures ∙ c.in_default-value_fault.is)
    (ap (λ (told : List Said). repeated told (said_of c.args.line)) (sym c.lines-2.ensures.value) ∙ sym c.repeats.ensures ∙ c.in-Some-repeats.is))

pub push-requires : goal.push-requires
push-requires g c =
    add_more c.args.self.now (said_of c.args.line) c.lines.ensures.valid
    (placed c.args.self.now _ (said_of c.args.line) c.word.result c.word_fault.result c.lines.ensures.value c.word.ensures c.word_fault.ensures ∙ c.in_default.is)
    (sym c.value_fault.ensures ∙ c.in_default-value_fault.is)
    (ap (λ (told : List Said). repeated told (said_of c.args.line)) (sym c.lines-2.ensures.value) ∙ sym c.repeats.ensures ∙ c.in_default-repeats.is)
    c.has_types.ensures

pub returns-clause-ok : goal.returns-clause-ok
returns-clause-ok g c =
    added c.args.self.now c.push.new.self (said_of c.args.line) c.push.result
    (placed c.args.self.now _ (said_of c.args.line) c.word.result c.word_fault.result c.lines.ensures.value c.word.ensures c.word_fault.ensures ∙ c.in_default.is)
    (sym c.value_fault.ensures ∙ c.in_default-value_fault.is)
    (ap (λ (told : List Said). repeated told (said_of c.args.line)) (sym c.lines-2.ensures.value) ∙ sym c.repeats.ensures ∙ c.in_default-repeats.is)
    c.push.ensures.ok
