use Rattle.std.proofs.Common.{◌≡◌, ◌∙◌, List, ◌++◌, map, subst}
use Rattle.std.specs.Prelude.{OnOk}
use Rattle.he_record.specs.Said.{Said}
use Rattle.he_recording.specs.Facts.{at_lines, attempt_line, end_lines, from_lines, names_lines, to_lines}
use Rattle.he_recording.proofs.Adding.{then_rest}
use Rattle.he_recording.proofs.making.add_facts.Goals as goal

pub returns : goal.returns
returns c =
    let to : List Said = to_lines c.args.facts.now.to in
    let from : List Said = from_lines c.args.facts.now.from in
    let names : List Said = names_lines c.args.facts.now in
    let attempts : List Said = map attempt_line c.args.facts.now.attempts.now in
    let end : List Said = end_lines c.args.facts.now.end in
    let P : List Said → Type 0 = λ all. OnOk c.add_end.result (c.add_end.new.told ≡ all) in
    subst P
    (then_rest c.add_names.new.told c.add_attempts.new.told attempts end c.in_ok-add_attempts.ensures
    ∙ then_rest c.add_from.new.told c.add_names.new.told names (attempts ++ end) c.in_ok-add_names.ensures
    ∙ then_rest c.add_to.new.told c.add_from.new.told from (names ++ (attempts ++ end)) c.in_ok-add_from.ensures
    ∙ then_rest c.add_at.new.told c.add_to.new.told to (from ++ (names ++ (attempts ++ end))) c.in_ok-add_to.ensures
    ∙ then_rest c.args.told.now c.add_at.new.told (at_lines c.args.facts.now.at) (to ++ (from ++ (names ++ (attempts ++ end)))) c.in_ok-add_at.ensures)
    c.add_end.ensures
