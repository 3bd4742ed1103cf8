use Rattle.std.proofs.Common.{sym, ◌∙◌}
use Rattle.he_record.proofs.Lines.{last_is}
use Rattle.he_record.proofs.checks.last_group.Goals as goal

pub returns-in-Some : goal.returns-in-Some
returns-in-Some c = c.group.ensures ∙ sym (last_is 0 c.args.before.now c.in-Some.line.now (sym c.in-Some.ensures.value))
