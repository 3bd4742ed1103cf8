use Rattle.std.proofs.Common.{rules}
use Rattle.he_options.proofs.Asked.{all_asked, of_changes}
use Rattle.he_options.proofs.settings.changes_in.Goals as goal

pub returns : goal.returns
returns c =
    of_changes _ c.new.result c.map_err.result _ _ c.new.ensures c.map_err.ensures.cases
    (all_asked c.args.texts.now c.last_number.result c.last_number-2.result c.last_number-3.result c.or.result c.last_number-5.result c.args.timeout
    (c.are_settings.ensures (search rules))
    c.last_number.ensures c.last_number-2.ensures c.last_number-3.ensures (search rules) c.last_number-5.ensures)
