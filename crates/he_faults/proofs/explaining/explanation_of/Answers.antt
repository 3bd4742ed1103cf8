use Rattle.std.proofs.Common.{◌++◌}
use Rattle.he_faults.specs.Clauses.{hint_in}
use Rattle.he_faults.proofs.Clauses.{ends_behind}
use Rattle.he_faults.proofs.explaining.explanation_of.Goals as goal

pub returns : goal.returns
returns g c =
    let said = c.in_ok-append_sentence.ensures in
    (c.show_line.new.text.items ++ said.0, ends_behind c.show_line.new.text.items said.0 c.hint_in.result (hint_in c.args.part.lines c.args.part.text.now c.args.fault) c.append_sentence.new.text.items c.push.new.self.items c.hint_in.ensures said.1 c.in_ok-push.ensures.items)
