use Rattle.clap.specs.Matches.{found_of}
use Rattle.he_proxy_request.proofs.Refusing.{line_lacks}
use Rattle.he_proxy_request.proofs.rules.rules_of.Goals as goal

pub returns-in-Ok-clause-err : goal.returns-in-Ok-clause-err
returns-in-Ok-clause-err c =
    line_lacks (found_of c.args.matches.now) c.in-Ok.words.items c.as_slice.result.now c.rules_in.result
    c.as_slice.ensures.value c.in-Ok.ensures c.rules_in.ensures.err
