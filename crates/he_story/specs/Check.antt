-- The address or the name server to look at, where it alone took the time of a race.
use Rattle.std.specs.Prelude.{ℕ, ◌==◌, ◌&&◌, ◌||◌, ◌++◌, not, if◌then◌else◌, Bool, true, false, List, [], ◌∷◌, length, nat_lt, Option, Some, None}
use Rattle.std.specs.List.{flat_map}
use Rattle.he_addr.specs.declared.ip.Family.TheVariants as families
use Rattle.he_addr.specs.declared.ip.Ip.{Ip}
use Rattle.he_course.specs.Course.{course_times}
use Rattle.he_course.specs.declared.accounts.Times.{Times}
use Rattle.he_course.specs.declared.course.Course.{Course}
use Rattle.he_print.specs.declared.part.Fact.{Fact}
use Rattle.he_print.specs.declared.part.Fact.TheVariants as facts
use Rattle.he_record.specs.declared.reasons.AttemptReason.{AttemptReason}
use Rattle.he_record.specs.declared.reasons.AttemptReason.TheVariants as attempts
use Rattle.he_record.specs.declared.reasons.LookupReason.{LookupReason}
use Rattle.he_record.specs.declared.reasons.LookupReason.TheVariants as lookups
use Rattle.he_record.specs.Given.{attempt_given, lookup_given, to_given}
use Rattle.he_record.specs.Said.{Said as RecordSaid, ServerSaid}
use Rattle.he_story.specs.Recorded.{say}
use Rattle.he_story.specs.Slow.{are_names_slow}
use Rattle.he_story.specs.Why.{reason_of_both}
use Rattle.he_statements.specs.declared.said.Said.{Said}
use Rattle.he_statements.specs.declared.said.Said.TheVariants as says
use Rattle.he_story.specs.declared.verdict.Charge.{Charge}

-- the name servers are why a name has no address
abbrev pub is_unfound : Option LookupReason → Bool
is_unfound (Some lookups.NoAnswer) = true
is_unfound (Some lookups.Refused) = true
is_unfound (Some lookups.Failed) = true
is_unfound (Some lookups.Malformed) = true
is_unfound _ = false

-- the names alone took the time: they were slow and nothing was lost; or there was no attempt, for that reason
abbrev pub are_names_cause : List RecordSaid → ℕ → Times → Bool
are_names_cause said attempts times =
    if attempts == 0
    then is_unfound (reason_of_both (lookup_given families.V6 said) (lookup_given families.V4 said))
    else are_names_slow times && times.lost == 0

-- the name servers that were given up
abbrev pub server_of : RecordSaid → List Ip
server_of (ServerSaid ip reason ticks) = ip ∷ []
server_of line = []

abbrev pub servers_of : List RecordSaid → List Ip
servers_of said = flat_map server_of said

abbrev pub only_server : List Ip → Option Ip
only_server (ip ∷ []) = Some ip
only_server _ = None

abbrev pub asked_facts : Option Ip → List (Fact Said)
asked_facts None = []
asked_facts (Some ip) = say says.CheckServer (facts.Ip ip ∷ [])

-- what attempts lost is what the race took: more than this machine and attempts with an unknown outcome had, and the
-- names were not slow; and no address was left to try for a while at most after the only attempt
abbrev pub is_alone : ℕ → ℕ → Times → Bool
is_alone attempts nobody times =
    not (are_names_slow times)
    && (nat_lt times.machine times.lost && (nat_lt times.unknown times.lost && (nobody == 0 || attempts == 1)))

-- the only attempt that owns ticks
abbrev pub only_charge : List Charge → Option Charge
only_charge (charge ∷ []) = Some charge
only_charge _ = None

-- what to look at for an attempt that failed: the service, the route to the address, or the path to it
abbrev pub check_of : Option AttemptReason → Option Said
check_of (Some attempts.Refused) = Some says.CheckService
check_of (Some attempts.Reset) = Some says.CheckService
check_of (Some attempts.Unreachable) = Some says.CheckRoute
check_of (Some attempts.TimedOut) = Some says.CheckPath
check_of _ = None

-- for an attempt that ended so
abbrev pub look_at : Said → Option AttemptReason → Option Said
look_at says.Silent reason = Some says.CheckPath
look_at says.Failed reason = check_of reason
look_at _ reason = None

-- the port of the service
abbrev pub port_facts : Said → Option (List ℕ × ℕ) → List (Fact Said)
port_facts says.CheckService (Some target) = say says.AtPort (facts.Number target.1 ∷ [])
port_facts _ target = []

abbrev pub said_facts : List RecordSaid → Ip → Option Said → List (Fact Said)
said_facts said ip None = []
said_facts said ip (Some check) = say check (facts.Ip ip ∷ []) ++ port_facts check (to_given said)

abbrev pub attempt_facts : List RecordSaid → Option Charge → List (Fact Said)
attempt_facts said None = []
attempt_facts said (Some charge) = said_facts said charge.ip (look_at charge.end (attempt_given charge.ip said))

-- the line of a race in which these attempts own ticks
abbrev pub check_facts : {A : Type 0} → List RecordSaid → List Charge → Course A → List (Fact Said)
check_facts said charges course =
    if are_names_cause said (length course.transcript.lines) (course_times course)
    then asked_facts (only_server (servers_of said))
    else if is_alone (length course.transcript.lines) course.account.nobody (course_times course)
    then attempt_facts said (only_charge charges)
    else []
