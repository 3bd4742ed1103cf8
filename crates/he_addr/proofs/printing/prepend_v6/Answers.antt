use Rattle.std.proofs.Common.{arith}
use Rattle.he_addr.proofs.JoinedTexts.{shortened_is}
use Rattle.he_addr.proofs.Prepended.{prepends_as, prepends_then}
use Rattle.he_addr.proofs.printing.prepend_v6.Goals as goal

pub returns-clause-printed : goal.returns-clause-printed
returns-clause-printed c =
    prepends_as (shortened_is c.args.number c.groups-groups.result c.longest_run-run.result c.groups-groups.ensures c.longest_run-run.ensures.longest (omega arith))
    (prepends_then (prepends_then (prepends_then c.prepend_groups-behind.ensures.joined c.prepend_byte-second.ensures) c.prepend_byte-first.ensures) c.prepend_groups-2.ensures.joined)
