use Rattle.clap.specs.Matches.{found_of}
use Rattle.he_options.proofs.Asked.{by_line}
use Rattle.he_options.proofs.settings.changes_of.Goals as goal

pub returns : goal.returns
returns c =
    by_line (found_of c.args.matches.now) _ _ c.changes_in.result c.values_of.ensures c.in_ok-timeout.ensures c.changes_in.ensures
