-- The figures of a summary as text: each with its meaning, in order.
use Rattle.std.specs.Prelude.{ℕ, zero, suc, ◌+◌, ◌-◌, ◌*◌, ◌/◌, ◌%◌, ◌==◌, ◌++◌, if◌then◌else◌, List, [], ◌∷◌, count_by, min, Option, Some, None}
use Rattle.std.specs.List.{flat_map}
use Rattle.std.specs.Option.{option_map_or}
use Rattle.he_addr.specs.declared.ip.Family.TheVariants as families
use Rattle.he_addr.specs.declared.ip.Ip.{Ip}
use Rattle.he_course.specs.declared.accounts.Times.{Times}
use Rattle.he_print.specs.declared.part.Fact.{Fact}
use Rattle.he_print.specs.declared.part.Fact.TheVariants as facts
use Rattle.he_record.specs.declared.reasons.LookupReason.TheVariants as reasons
use Rattle.he_totals.specs.declared.kept.Kept.{Kept}
use Rattle.he_totals.specs.declared.tallies.Tally.{Tally}
use Rattle.he_summary.specs.declared.text.Said.{Said}
use Rattle.he_summary.specs.declared.text.Said.TheVariants.{Attempts, Are, Most, NotWon, Races, Within, Went}
use Rattle.he_totals.specs.declared.times.Spread.{Spread}
use Rattle.he_totals.specs.declared.totals.Counts.{Counts}
use Rattle.he_totals.specs.declared.totals.Kind.{Kind}
use Rattle.he_totals.specs.declared.totals.Kind.TheVariants as kinds
use Rattle.he_totals.specs.declared.totals.Share.TheVariants as shares
use Rattle.he_totals.specs.declared.totals.Totals.{Totals}
use Rattle.he_totals.specs.declared.totals.Value.TheVariants as values
use Rattle.he_totals.specs.Totals.{is_kind}

-- the share of `of` that a number is, in thousandths, rounded to the nearest; at most all
abbrev pub share : ℕ → ℕ → ℕ
share number of = min ((2000 * number + of) / (2 * of)) 1000

-- the share in whole percents and tenths; none of 0
abbrev pub share_facts : ℕ → ℕ → List (Fact Said)
share_facts number zero = []
share_facts number (suc of) =
    facts.Number (share number (suc of) / 10) ∷ facts.Number (share number (suc of) % 10) ∷ []

abbrev pub number_facts : Said → ℕ → List (Fact Said)
number_facts said number = facts.Said said ∷ facts.Number number ∷ []

-- a number, unless it is 0
abbrev pub some_facts : Said → ℕ → List (Fact Said)
some_facts said number = if number == 0 then [] else number_facts said number

abbrev pub some_share_facts : Said → ℕ → ℕ → List (Fact Said)
some_share_facts said number of =
    if number == 0 then [] else number_facts said number ++ share_facts number of

-- how many races were won, and how many not and why
abbrev pub why_facts : Counts → List (Fact Said)
why_facts counts =
    some_facts NotWon (counts.races - counts.won)
    ++ (some_facts (Are kinds.TimedOut) counts.timed_out
    ++ (some_facts (Are kinds.AllFailed) counts.all_failed ++ some_facts (Are kinds.NoAddress) counts.no_address))

abbrev pub first_facts : Counts → List (Fact Said)
first_facts counts =
    number_facts Races counts.races
    ++ (number_facts (Are kinds.Won) counts.won ++ (share_facts counts.won counts.races ++ why_facts counts))

abbrev pub family_facts : Counts → List (Fact Said)
family_facts counts =
    some_share_facts (Are (kinds.WonBy families.V6)) counts.by_v6 counts.won
    ++ some_share_facts (Are (kinds.WonBy families.V4)) counts.by_v4 counts.won

-- the percentiles of some numbers
abbrev pub row_facts : Said → Option Spread → List (Fact Said)
row_facts said None = []
row_facts said (Some spread) =
    facts.Said said ∷ facts.Number spread.median ∷ facts.Number spread.p90 ∷ facts.Number spread.p99
    ∷ facts.Number spread.greatest ∷ []

-- unless all of them are 0
abbrev pub nonzero : Option Spread → Option Spread
nonzero None = None
nonzero (Some spread) = if spread.greatest == 0 then None else Some spread

abbrev pub client_facts : Totals → List (Fact Said)
client_facts totals =
    row_facts (Within values.Client) totals.clients ++ row_facts (Within values.ByRules) totals.by_rules

-- of the times to connect, and of what of them went into the names and was lost; of the times until others were given
-- up; of the times of recorded clients, and of those by the rules in the same races
abbrev pub rows_facts : Totals → List (Fact Said)
rows_facts totals =
    row_facts (Within values.Time) totals.times
    ++ (row_facts (Within (values.OfIt shares.Names)) (nonzero totals.names)
    ++ (row_facts (Within (values.OfIt shares.Lost)) (nonzero totals.lost)
    ++ (row_facts (Within values.GivenUp) totals.given_up ++ client_facts totals)))

-- what the milliseconds of all races went into
abbrev pub went_facts : Times → List (Fact Said)
went_facts sums =
    if sums.all == 0 then []
    else number_facts (Went shares.Names) sums.names
    ++ (number_facts (Went shares.Lost) sums.lost
    ++ (number_facts (Went shares.Connecting) sums.connecting
    ++ (some_facts (Went shares.Machine) sums.machine ++ some_facts (Went shares.Unknown) sums.unknown)))

abbrev pub total_of : Option Spread → ℕ
total_of spread = option_map_or (λ s. s.total) spread 0

abbrev pub greatest_of : Option Spread → ℕ
greatest_of spread = option_map_or (λ s. s.greatest) spread 0

-- the attempts of all races, and the most of one; and the races that waited out the Resolution Delay
abbrev pub attempt_facts : Option Spread → List (Fact Said)
attempt_facts attempts =
    if total_of attempts == 0 then []
    else number_facts Attempts (total_of attempts) ++ number_facts Most (greatest_of attempts)

abbrev pub totals_facts : Totals → List (Fact Said)
totals_facts totals =
    first_facts totals.counts
    ++ (family_facts totals.counts
    ++ (rows_facts totals
    ++ (went_facts totals.sums
    ++ (attempt_facts totals.attempts
    ++ some_share_facts (Are kinds.Waited) totals.counts.waited totals.counts.races))))

-- the number of races of a kind, if there are any
abbrev pub counted_facts : List Kept → Kind → List (Fact Said)
counted_facts kept kind = some_facts (Are kind) (count_by (is_kind kind) kept)

-- the recorded clients' own results
abbrev pub client_kinds : List Kind
client_kinds = kinds.Connected ∷ kinds.GaveUp ∷ kinds.Failed ∷ []

-- the look-ups of both families by the reason that there is no address
abbrev pub lookup_kinds : List Kind
lookup_kinds =
    kinds.Lookup families.V6 reasons.NoSuchName ∷ kinds.Lookup families.V6 reasons.NoAddress
    ∷ kinds.Lookup families.V6 reasons.NoAnswer ∷ kinds.Lookup families.V6 reasons.Refused
    ∷ kinds.Lookup families.V6 reasons.Failed ∷ kinds.Lookup families.V6 reasons.Malformed
    ∷ kinds.Lookup families.V6 reasons.NotAsked ∷ kinds.Lookup families.V6 reasons.Nat64
    ∷ kinds.Lookup families.V4 reasons.NoSuchName ∷ kinds.Lookup families.V4 reasons.NoAddress
    ∷ kinds.Lookup families.V4 reasons.NoAnswer ∷ kinds.Lookup families.V4 reasons.Refused
    ∷ kinds.Lookup families.V4 reasons.Failed ∷ kinds.Lookup families.V4 reasons.Malformed
    ∷ kinds.Lookup families.V4 reasons.NotAsked ∷ kinds.Lookup families.V4 reasons.Nat64 ∷ []

-- the attempts to an address: all, the failed ones, those without an answer, and the time that they own
abbrev pub tally_facts : Ip × Tally → List (Fact Said)
tally_facts tallied =
    facts.Number tallied.1.attempts ∷ facts.Number tallied.1.failed ∷ facts.Number tallied.1.no_answer
    ∷ facts.Number tallied.1.lost ∷ facts.Ip tallied.0 ∷ []

-- how often a name server was given up, failed and did not answer
abbrev pub server_facts : Ip × Tally → List (Fact Said)
server_facts tallied =
    facts.Number tallied.1.attempts ∷ facts.Number tallied.1.failed ∷ facts.Number tallied.1.no_answer
    ∷ facts.Ip tallied.0 ∷ []

-- the totals, and what the record lines say
abbrev pub text_facts : Totals → List Kept → List (Fact Said)
text_facts totals kept =
    totals_facts totals
    ++ (flat_map (counted_facts kept) client_kinds ++ flat_map (counted_facts kept) lookup_kinds)
