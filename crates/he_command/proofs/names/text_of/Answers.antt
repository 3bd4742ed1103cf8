use Rattle.std.proofs.Common.{rules}
use Rattle.he_command.proofs.FoundNames.{names_object}
use Rattle.he_command.proofs.names.text_of.Goals as goal

pub returns-then-names-clause-text : goal.returns-then-names-clause-text
returns-then-names-clause-text c =
    names_object c.args.names.is_json c.args.names.host.now c.args.found.now _ _ _ _ (search rules)
    c.answer-aaaa.ensures.answer c.answer-a.ensures.answer c.new-text.ensures.items c.in_ok-write_names_json.ensures.ok
