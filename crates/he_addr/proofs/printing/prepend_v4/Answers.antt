use Rattle.he_addr.proofs.JoinedTexts.{dotted_is}
use Rattle.he_addr.proofs.Prepended.{prepends_as, prepends_then}
use Rattle.he_addr.proofs.printing.prepend_v4.Goals as goal

pub returns-clause-printed : goal.returns-clause-printed
returns-clause-printed c =
    prepends_as (dotted_is c.args.number c.to_be_bytes.result c.to_be_bytes.ensures)
    (prepends_then (prepends_then (prepends_then c.prepend_small-start.ensures.written c.prepend_dotted-start.ensures.written) c.prepend_dotted-start-2.ensures.written) c.prepend_dotted.ensures.written)
