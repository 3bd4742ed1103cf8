-- Why a race did not connect, by its attempts and its record.
use Rattle.std.specs.Prelude.{ℕ, ◌==◌, ◌++◌, if◌then◌else◌, Bool, true, false, List, [], ◌∷◌, count_by, length, nat_le, Option, Some, None}
use Rattle.std.specs.List.{flat_map, list_all, list_any}
use Rattle.he_addr.specs.declared.ip.Family.TheVariants as families
use Rattle.he_plan.specs.declared.transcript.Line.{Line}
use Rattle.he_plan.specs.declared.transcript.Mark.{Mark}
use Rattle.he_plan.specs.declared.transcript.Mark.TheVariants as marks
use Rattle.he_plan.specs.declared.transcript.Outcome3.{Outcome3}
use Rattle.he_plan.specs.declared.transcript.Outcome3.TheVariants as results
use Rattle.he_print.specs.declared.part.Fact.{Fact}
use Rattle.he_print.specs.declared.part.Fact.TheVariants as facts
use Rattle.he_record.specs.declared.reasons.AttemptReason.{AttemptReason}
use Rattle.he_record.specs.declared.reasons.AttemptReason.TheVariants as attempts
use Rattle.he_record.specs.declared.reasons.LookupReason.{LookupReason}
use Rattle.he_record.specs.declared.reasons.LookupReason.TheVariants as lookups
use Rattle.he_record.specs.Given.{attempt_given, is_untried_given, lookup_given}
use Rattle.he_record.specs.Said.{Said as RecordSaid, ServerSaid}
use Rattle.he_story.specs.Recorded.{say}
use Rattle.he_statements.specs.declared.said.Said.{Said}
use Rattle.he_statements.specs.declared.said.Said.TheVariants as says

-- the place of a reason among them
abbrev pub reason_place : AttemptReason → ℕ
reason_place attempts.Refused = 0
reason_place attempts.Unreachable = 1
reason_place attempts.TimedOut = 2
reason_place attempts.Reset = 3
reason_place attempts.Forbidden = 4
reason_place attempts.NoSource = 5
reason_place attempts.Other = 6

abbrev pub same_reason : Option AttemptReason → Option AttemptReason → Bool
same_reason (Some one) (Some other) = reason_place one == reason_place other
same_reason None None = true
same_reason _ _ = false

-- these attempts failed for this reason each; without a reason: the record has none for any of them
abbrev pub all_have : List RecordSaid → Option AttemptReason → List Line → Bool
all_have said reason lines = list_all (λ (line : Line). same_reason reason (attempt_given line.ip said)) lines

abbrev pub reason_of_all : List RecordSaid → Option AttemptReason → List Line → Option AttemptReason
reason_of_all said reason lines = if all_have said reason lines then reason else None

-- the reason that all these attempts failed, if the record has one for all
abbrev pub common_reason : List RecordSaid → List Line → Option AttemptReason
common_reason said [] = None
common_reason said (line ∷ lines) = reason_of_all said (attempt_given line.ip said) lines

abbrev pub is_failed : Mark → Bool
is_failed (marks.Failed tick) = true
is_failed _ = false

abbrev pub failed_count : List Line → ℕ
failed_count lines = count_by (λ (line : Line). is_failed line.mark) lines

-- one of them is to an address that no client tried
abbrev pub have_untried : List RecordSaid → List Line → Bool
have_untried said lines = list_any (λ (line : Line). is_untried_given line.ip said) lines

-- which of two reasons says more: first that a look-up failed, then that IPv4 hosts are reached only through a NAT64,
-- that there is no such name, that it has no address, and that it was not asked for
abbrev pub rank_of : LookupReason → ℕ
rank_of lookups.NoAnswer = 0
rank_of lookups.Refused = 1
rank_of lookups.Failed = 2
rank_of lookups.Malformed = 3
rank_of lookups.Nat64 = 4
rank_of lookups.NoSuchName = 5
rank_of lookups.NoAddress = 6
rank_of lookups.NotAsked = 7

-- why the name has no address, if the record has a reason for each family
abbrev pub reason_of_both : Option LookupReason → Option LookupReason → Option LookupReason
reason_of_both (Some aaaa) (Some a) = if nat_le (rank_of aaaa) (rank_of a) then Some aaaa else Some a
reason_of_both _ _ = None

-- the name servers that were given up
abbrev pub server_facts : RecordSaid → List (Fact Said)
server_facts (ServerSaid ip reason ticks) = say (says.ByServer reason) (facts.Ip ip ∷ [])
server_facts line = []

-- no attempt was made up to this tick
abbrev pub unfound_facts : List RecordSaid → Option LookupReason → ℕ → List (Fact Said)
unfound_facts said None tick = say says.NoneToTry (facts.Number tick ∷ [])
unfound_facts said (Some reason) tick =
    say (says.NotLookedUp reason) (facts.Number tick ∷ []) ++ flat_map server_facts said

abbrev pub none_facts : List RecordSaid → ℕ → List (Fact Said)
none_facts said tick =
    unfound_facts said (reason_of_both (lookup_given families.V6 said) (lookup_given families.V4 said)) tick

-- each attempt failed, by this tick
abbrev pub failed_facts : List RecordSaid → List Line → ℕ → List (Fact Said)
failed_facts said lines tick =
    say (says.EachFailed (common_reason said lines)) (facts.Number (length lines) ∷ facts.Number tick ∷ [])

-- at the limit: how many attempts there were, and how many of them failed
abbrev pub unanswered_facts : List Line → ℕ → List (Fact Said)
unanswered_facts lines tick =
    if failed_count lines == 0 then say says.NoneAnswered (facts.Number tick ∷ facts.Number (length lines) ∷ [])
    else say says.SomeFailed
    (facts.Number tick ∷ facts.Number (failed_count lines) ∷ facts.Number (length lines) ∷ [])

-- what became of an untried address is not known
abbrev pub limit_facts : List RecordSaid → List Line → ℕ → List (Fact Said)
limit_facts said lines tick =
    if have_untried said lines then say says.LimitReached (facts.Number tick ∷ facts.Number (length lines) ∷ [])
    else unanswered_facts lines tick

abbrev pub won_facts : Option Line → ℕ → List (Fact Said)
won_facts None tick = []
won_facts (Some line) tick = say says.Connected (facts.Ip line.ip ∷ facts.Number tick ∷ [])

-- nothing was left to try at this tick
abbrev pub exhausted_facts : List RecordSaid → List Line → ℕ → List (Fact Said)
exhausted_facts said [] tick = none_facts said tick
exhausted_facts said (line ∷ lines) tick = failed_facts said (line ∷ lines) tick

-- the race was given up at its limit, this tick
abbrev pub given_up_facts : List RecordSaid → List Line → ℕ → List (Fact Said)
given_up_facts said [] tick = none_facts said tick
given_up_facts said (line ∷ lines) tick = limit_facts said (line ∷ lines) tick

-- how a race ended with these attempts
abbrev pub ended_with : List RecordSaid → List Line → Option Line → Outcome3 → List (Fact Said)
ended_with said lines winner (results.Won place tick) = won_facts winner tick
ended_with said lines winner (results.Exhausted tick) = exhausted_facts said lines tick
ended_with said lines winner (results.Limit tick) = given_up_facts said lines tick
