-- The reason that a family of a race has no address.
use Rattle.std.specs.Prelude.{List, [], ◌∷◌, Option, Some, None}
use Rattle.he_addr.specs.declared.ip.Family.{Family}
use Rattle.he_timeline.specs.Race.{Race, Reply, reply_of}
use Rattle.he_record.specs.declared.reasons.LookupReason.{LookupReason}

abbrev pub unless_some : {X Y : Type 0} → List X → Option Y → Option Y
unless_some [] reason = reason
unless_some (x ∷ more) reason = None

abbrev pub if_empty : Option Reply → Option LookupReason → Option LookupReason
if_empty None reason = None
if_empty (Some reply) reason = unless_some reply.addresses reason

-- only a family with an empty answer has such a reason
abbrev pub reason_if_empty : Race → Family → Option LookupReason → Option LookupReason
reason_if_empty race family reason = if_empty (reply_of race family) reason
