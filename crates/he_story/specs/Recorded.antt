-- The facts of a race's record: where and when it was recorded, and what its client did.
use Rattle.std.specs.Prelude.{ℕ, if◌then◌else◌, ◌++◌, List, [], ◌∷◌, map, nat_lt, slice_get, slice_range, take, Option, Some, None}
use Rattle.std.specs.Option.{option_map_or}
use Rattle.he_addr.specs.declared.ip.Family.{Family}
use Rattle.he_addr.specs.declared.ip.Ip.{Ip}
use Rattle.he_addr.specs.declared.ip.Ip.TheVariants.{V6}
use Rattle.he_plan.specs.declared.transcript.Line.{Line}
use Rattle.he_course.specs.declared.course.Seen.{Seen}
use Rattle.he_print.specs.declared.part.Fact.{Fact}
use Rattle.he_print.specs.declared.part.Fact.TheVariants as facts
use Rattle.he_record.specs.declared.moment.Moment.{Moment}
use Rattle.he_record.specs.declared.reasons.AttemptReason.{AttemptReason}
use Rattle.he_record.specs.declared.reasons.ClientEnd.{ClientEnd}
use Rattle.he_record.specs.declared.reasons.ClientEnd.TheVariants as ends
use Rattle.he_record.specs.declared.reasons.LookupReason.{LookupReason}
use Rattle.he_record.specs.Given.{at_given, attempt_given, from_given, lookup_given, to_given}
use Rattle.he_record.specs.Moments.{moment_text}
use Rattle.he_record.specs.Said.{Said as RecordSaid, Nat64Said, ServerSaid, UntriedSaid, ticks_of}
use Rattle.he_statements.specs.declared.said.Said.{Said}
use Rattle.he_statements.specs.declared.said.Said.TheVariants as says

-- a statement, with the facts in its words
abbrev pub say : Said → List (Fact Said) → List (Fact Said)
say said stands = facts.Said said ∷ stands

-- the bytes of a name
abbrev pub byte_facts : List ℕ → List (Fact Said)
byte_facts bytes = map (λ byte. facts.Byte byte) bytes

-- the requested host and port
abbrev pub target_facts : Option (List ℕ × ℕ) → List (Fact Said)
target_facts None = []
target_facts (Some target) = say says.Target (byte_facts target.0 ++ facts.Number target.1 ∷ [])

-- the client's address
abbrev pub client_address_facts : Option Ip → List (Fact Said)
client_address_facts None = []
client_address_facts (Some ip) = say says.For (facts.Ip ip ∷ [])

-- the date and the time of day of a moment's text, to the second
abbrev pub time_facts : List ℕ → List (Fact Said)
time_facts text = say says.Moment (byte_facts (take 10 text) ++ byte_facts (slice_range text 11 19))

-- the time of tick 0
abbrev pub moment_facts : Option Moment → List (Fact Said)
moment_facts None = []
moment_facts (Some moment) = time_facts (moment_text moment)

-- for whom, where and when the race was recorded
abbrev pub named_facts : List RecordSaid → List (Fact Said)
named_facts said =
    target_facts (to_given said) ++ (client_address_facts (from_given said) ++ moment_facts (at_given said))

abbrev pub client_said : ClientEnd → Said
client_said (ends.Connected ticks) = says.ClientConnected
client_said (ends.GaveUp ticks) = says.ClientGaveUp
client_said (ends.Failed ticks) = says.ClientFailed

-- the recorded client's own result, and after how many milliseconds; the rules' follows
abbrev pub client_facts : Option ClientEnd → List (Fact Said)
client_facts None = []
client_facts (Some end) = say (client_said end) (facts.Number (ticks_of end) ∷ []) ++ say says.ByRules []

-- the title of the events: those of the client, or those by the rules, if the client had a result of its own
abbrev pub course_said : Option ClientEnd → Said
course_said None = says.Course
course_said (Some end) = says.CourseByRules

-- the reason that a family has no address
abbrev pub why_facts : Option LookupReason → List (Fact Said)
why_facts None = []
why_facts (Some reason) = say (says.Why reason) []

-- the reason of a family whose answer the race did not see: it never came, or came after the end
abbrev pub unseen_reason : List RecordSaid → ℕ → Family → Option Seen → Option LookupReason
unseen_reason said end family None = lookup_given family said
unseen_reason said end family (Some seen) = if nat_lt end seen.tick then lookup_given family said else None

-- the reason that the attempt of this place failed
abbrev pub reason_at : List RecordSaid → List Line → ℕ → Option AttemptReason
reason_at said lines place = option_map_or (λ line. attempt_given line.ip said) (slice_get lines place) None

abbrev pub because_facts : Option AttemptReason → List (Fact Said)
because_facts None = []
because_facts (Some reason) = say (says.Because reason) []

-- a NAT64 prefix of the network; a name server that was given up, why, and after how many milliseconds; an address
-- that no client tried
abbrev pub note_facts : RecordSaid → List (Fact Said)
note_facts (ServerSaid ip reason ticks) = say (says.Server reason) (facts.Ip ip ∷ facts.Number ticks ∷ [])
note_facts (Nat64Said prefix) = say says.Nat64Prefix (facts.Ip (V6 prefix.bits) ∷ facts.Number prefix.len ∷ [])
note_facts (UntriedSaid ip) = say says.NobodyTried (facts.Ip ip ∷ [])
note_facts line = []
