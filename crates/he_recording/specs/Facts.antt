-- The record lines of facts, in the order of a record.
use Rattle.std.specs.Prelude.{List, [], ◌∷◌, ◌++◌, Option, Some, None, map}
use Rattle.he_addr.specs.declared.ip.Family.{Family}
use Rattle.he_addr.specs.declared.ip.Family.TheVariants.{V4, V6}
use Rattle.he_addr.specs.declared.ip.Ip.{Ip}
use Rattle.he_record.specs.declared.moment.Moment.{Moment}
use Rattle.he_record.specs.declared.nat64.Nat64Prefix.{Nat64Prefix}
use Rattle.he_record.specs.declared.reasons.ClientEnd.{ClientEnd}
use Rattle.he_record.specs.declared.reasons.LookupReason.{LookupReason}
use Rattle.he_record.specs.Left.{parts_of}
use Rattle.he_record.specs.Said.{Said, AtSaid, ToSaid, FromSaid, LookupSaid, Nat64Said, ServerSaid, AttemptSaid, EndSaid}
use Rattle.he_recording.specs.declared.facts.AttemptFailure.{AttemptFailure}
use Rattle.he_recording.specs.declared.facts.Facts.{Facts}
use Rattle.he_recording.specs.declared.facts.ServerFailure.{ServerFailure}
use Rattle.he_recording.specs.declared.facts.Target.{Target}
use Rattle.he_recording.specs.Added.{added}

abbrev pub at_lines : Option Moment → List Said
at_lines None = []
at_lines (Some moment) = AtSaid moment ∷ []

abbrev pub to_lines : Option Target → List Said
to_lines None = []
to_lines (Some target) = ToSaid target.host.now target.port ∷ []

abbrev pub from_lines : Option Ip → List Said
from_lines None = []
from_lines (Some ip) = FromSaid ip ∷ []

abbrev pub lookup_lines : Family → Option LookupReason → List Said
lookup_lines family None = []
lookup_lines family (Some reason) = LookupSaid family reason ∷ []

abbrev pub end_lines : Option ClientEnd → List Said
end_lines None = []
end_lines (Some end) = EndSaid end ∷ []

abbrev pub nat64_line : Nat64Prefix → Said
nat64_line prefix = Nat64Said (parts_of prefix)

abbrev pub server_line : ServerFailure → Said
server_line server = ServerSaid server.ip server.reason server.ticks

abbrev pub attempt_line : AttemptFailure → Said
attempt_line attempt = AttemptSaid attempt.ip attempt.reason

-- the lines of the look-up
abbrev pub names_lines : Facts → List Said
names_lines facts =
    lookup_lines V6 facts.six ++ (lookup_lines V4 facts.four
    ++ (map nat64_line facts.nat64.now ++ map server_line facts.servers.now))

-- all lines
abbrev pub facts_lines : Facts → List Said
facts_lines facts =
    at_lines facts.at ++ (to_lines facts.to ++ (from_lines facts.from ++ (names_lines facts
    ++ (map attempt_line facts.attempts.now ++ end_lines facts.end))))

-- the record of the facts: these lines, without those that a record can't have
abbrev pub facts_said : Facts → List Said
facts_said facts = added [] (facts_lines facts)
