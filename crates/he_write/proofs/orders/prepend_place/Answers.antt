use Rattle.he_addr.proofs.Prepended.{prepends_as, prepends_then}
use Rattle.he_write.proofs.LineTexts.{place_is}
use Rattle.he_write.proofs.orders.prepend_place.Goals as goal

pub returns : goal.returns
returns c =
    prepends_as (place_is c.args.place c.args.sourced.ip c.args.sourced.source)
    (prepends_then (prepends_then (prepends_then c.prepend_origin-origin.ensures.written c.prepend_ip-address.ensures.written) c.prepend_byte-space.ensures) c.prepend_number.ensures.written)
