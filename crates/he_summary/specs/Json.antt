-- The object of a summary, byte for byte.
use Rattle.std.specs.Prelude.{ℕ, ◌-◌, ◌++◌, List, [], ◌∷◌, codes, count_by, Option, Some, None}
use Rattle.std.specs.List.{flat_map}
use Rattle.he_addr.specs.Printing.{printed}
use Rattle.he_addr.specs.declared.ip.Family.{Family}
use Rattle.he_addr.specs.declared.ip.Family.TheVariants as families
use Rattle.he_addr.specs.declared.ip.Ip.{Ip}
use Rattle.he_course.specs.declared.accounts.Times.{Times}
use Rattle.he_record.specs.declared.reasons.LookupReason.{LookupReason}
use Rattle.he_record.specs.declared.reasons.LookupReason.TheVariants as reasons
use Rattle.he_print.specs.Escaping.{string_text}
use Rattle.he_summary.specs.Figures.{greatest_of, total_of}
use Rattle.he_summary.specs.Members.{members_text}
use Rattle.he_totals.specs.Totals.{is_kind}
use Rattle.he_summary.specs.declared.json.Rows.{Rows}
use Rattle.he_summary.specs.declared.json.Rows.TheVariants as rows
use Rattle.he_totals.specs.declared.kept.Kept.{Kept}
use Rattle.he_totals.specs.declared.tallies.Tally.{Tally}
use Rattle.he_totals.specs.declared.times.Spread.{Spread}
use Rattle.he_totals.specs.declared.totals.Counts.{Counts}
use Rattle.he_totals.specs.declared.totals.Kind.{Kind}
use Rattle.he_totals.specs.declared.totals.Kind.TheVariants as kinds
use Rattle.he_totals.specs.declared.totals.Totals.{Totals}

abbrev pub counts_json : Counts → List ℕ
counts_json counts =
    members_text
    ((codes "{\"races\":", counts.races) ∷ (codes ",\"connected\":{\"all\":", counts.won)
    ∷ (codes ",\"ipv6\":", counts.by_v6) ∷ (codes ",\"ipv4\":", counts.by_v4)
    ∷ (codes "},\"not_connected\":{\"all\":", counts.races - counts.won)
    ∷ (codes ",\"timed_out\":", counts.timed_out) ∷ (codes ",\"all_failed\":", counts.all_failed)
    ∷ (codes ",\"no_address\":", counts.no_address) ∷ [])

-- of all races; the first is the sum of the others
abbrev pub sums_json : Times → List ℕ
sums_json sums =
    members_text
    ((codes "},\"total\":{\"ms\":", sums.all) ∷ (codes ",\"names_ms\":", sums.names)
    ∷ (codes ",\"lost_ms\":", sums.lost) ∷ (codes ",\"unknown_ms\":", sums.unknown)
    ∷ (codes ",\"machine_ms\":", sums.machine) ∷ (codes ",\"connecting_ms\":", sums.connecting) ∷ [])

abbrev pub percentiles_json : Spread → List ℕ
percentiles_json spread =
    members_text
    ((codes "{\"median\":", spread.median) ∷ (codes ",\"p90\":", spread.p90)
    ∷ (codes ",\"p99\":", spread.p99) ∷ (codes ",\"max\":", spread.greatest) ∷ [])
    ++ codes "}"

abbrev pub value_json : Option Spread → List ℕ
value_json None = codes "null"
value_json (Some spread) = percentiles_json spread

-- a member with percentiles; null of no numbers
abbrev pub spread_json : List ℕ → Option Spread → List ℕ
spread_json name spread = name ++ value_json spread

abbrev pub spreads_json : Totals → List ℕ
spreads_json totals =
    spread_json (codes "},\"connect_ms\":") totals.times
    ++ (spread_json (codes ",\"names_ms\":") totals.names
    ++ (spread_json (codes ",\"lost_ms\":") totals.lost
    ++ spread_json (codes ",\"given_up_ms\":") totals.given_up))

abbrev pub attempts_json : Totals → List ℕ
attempts_json totals =
    members_text
    ((codes ",\"attempts\":{\"total\":", total_of totals.attempts) ∷ (codes ",\"most\":", greatest_of totals.attempts)
    ∷ (codes "},\"resolution_delay\":", totals.counts.waited) ∷ [])

-- the members that also the object of a group has
abbrev pub totals_json : Totals → List ℕ
totals_json totals =
    counts_json totals.counts ++ (sums_json totals.sums ++ (spreads_json totals ++ attempts_json totals))

abbrev pub numbers_json : Rows → Tally → List ℕ
numbers_json rows.Addresses tally =
    members_text
    ((codes "\",\"attempts\":", tally.attempts) ∷ (codes ",\"failed\":", tally.failed)
    ∷ (codes ",\"no_answer\":", tally.no_answer) ∷ (codes ",\"lost_ms\":", tally.lost) ∷ [])
numbers_json rows.Servers tally =
    members_text
    ((codes "\",\"given_up\":", tally.attempts) ∷ (codes ",\"failed\":", tally.failed)
    ∷ (codes ",\"no_answer\":", tally.no_answer) ∷ [])

abbrev pub strings_json : List (List ℕ) → List ℕ
strings_json [] = codes "[]"
strings_json (first ∷ more) =
    codes "[" ++ (string_text first ++ (flat_map (λ name. codes "," ++ string_text name) more ++ codes "]"))

-- the hosts of an address; a name server has none
abbrev pub hosts_json : Rows → List (List ℕ) → List ℕ
hosts_json rows.Addresses names = codes ",\"hosts\":" ++ strings_json names
hosts_json rows.Servers names = []

-- the attempts to an address, and the hosts whose races made them, or how often a name server was given up
abbrev pub tally_json : Rows → (Ip → List (List ℕ)) → Ip × Tally → List ℕ
tally_json rows hosts tallied =
    codes "{\"address\":\""
    ++ (printed tallied.0
    ++ (numbers_json rows tallied.1 ++ (hosts_json rows (hosts tallied.0) ++ codes "}")))

abbrev pub tallies_json : Rows → (Ip → List (List ℕ)) → List (Ip × Tally) → List ℕ
tallies_json rows hosts [] = codes "[]"
tallies_json rows hosts (first ∷ more) =
    codes "["
    ++ (tally_json rows hosts first
    ++ (flat_map (λ tallied. codes "," ++ tally_json rows hosts tallied) more ++ codes "]"))

abbrev pub count_of : List Kept → Kind → ℕ
count_of kept kind = count_by (is_kind kind) kept

abbrev pub clients_json : List Kept → List ℕ
clients_json kept =
    members_text
    ((codes ",\"clients\":{\"connected\":", count_of kept kinds.Connected)
    ∷ (codes ",\"gave_up\":", count_of kept kinds.GaveUp) ∷ (codes ",\"failed\":", count_of kept kinds.Failed) ∷ [])

-- the look-ups of a family without an address
abbrev pub lookups_of : Family → LookupReason → List Kept → ℕ
lookups_of family reason kept = count_of kept (kinds.Lookup family reason)

abbrev pub lookups_json : Family → List Kept → List ℕ
lookups_json family kept =
    members_text
    ((codes "{\"no_such_name\":", lookups_of family reasons.NoSuchName kept)
    ∷ (codes ",\"no_address\":", lookups_of family reasons.NoAddress kept)
    ∷ (codes ",\"no_answer\":", lookups_of family reasons.NoAnswer kept)
    ∷ (codes ",\"refused\":", lookups_of family reasons.Refused kept)
    ∷ (codes ",\"failed\":", lookups_of family reasons.Failed kept)
    ∷ (codes ",\"malformed\":", lookups_of family reasons.Malformed kept)
    ∷ (codes ",\"not_asked\":", lookups_of family reasons.NotAsked kept)
    ∷ (codes ",\"nat64\":", lookups_of family reasons.Nat64 kept) ∷ [])

abbrev pub all_lookups_json : List Kept → List ℕ
all_lookups_json kept =
    codes ",\"lookups\":{\"aaaa\":"
    ++ (lookups_json families.V6 kept ++ (codes "},\"a\":" ++ (lookups_json families.V4 kept ++ codes "}}")))

-- what the record lines say
abbrev pub record_json : Totals → List Kept → List ℕ
record_json totals kept =
    clients_json kept
    ++ (spread_json (codes "},\"client_ms\":") totals.clients
    ++ (spread_json (codes ",\"rules_ms\":") totals.by_rules ++ all_lookups_json kept))

-- up to the slowest races and the end
abbrev pub summary_json : Totals → List Kept → (Ip → List (List ℕ)) → List (Ip × Tally) → List (Ip × Tally) → List ℕ
summary_json totals kept hosts failing servers =
    totals_json totals
    ++ (codes ",\"addresses\":"
    ++ (tallies_json rows.Addresses hosts failing
    ++ (record_json totals kept ++ (codes ",\"servers\":" ++ tallies_json rows.Servers hosts servers))))
