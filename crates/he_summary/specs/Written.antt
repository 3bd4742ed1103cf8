-- The text on the races that are summed.
use Rattle.std.specs.Prelude.{ℕ, zero, suc, ◌≡◌, ◌-◌, ◌==◌, ◌++◌, if◌then◌else◌, List, [], ◌∷◌, codes, decimal, filter, length, map, slice_get, take, IsPermutation, Some}
use Rattle.std.specs.List.{flat_map}
use Rattle.std.specs.List.Sorted.{IsSortedByKey}
use Rattle.std.specs.Option.{unwrap_or}
use Rattle.std.specs.Ordering.{nat_cmp, ordering_then}
use Rattle.std.specs.declared.cmp.Ordering.{Ordering}
use Rattle.he_addr.specs.declared.ip.Ip.{Ip}
use Rattle.he_print.specs.Parts.{States}
use Rattle.he_print.specs.declared.part.Fact.{Fact}
use Rattle.he_print.specs.declared.part.Fact.TheVariants as facts
use Rattle.he_course.specs.declared.accounts.Times.{Times}
use Rattle.he_summary.specs.Figures.{server_facts, tally_facts, text_facts}
use Rattle.he_totals.specs.Hosts.{AreNamed, Named, hosts_in}
use Rattle.he_summary.specs.Json.{summary_json}
use Rattle.he_summary.specs.Metrics.{metrics_text}
use Rattle.he_totals.specs.Kept.{Run, kept_of}
use Rattle.he_totals.specs.Summed.{all_servers, all_tries, host_of, pairs_of}
use Rattle.he_totals.specs.Totals.{AreTotals, is_kind, time_of}
use Rattle.he_totals.specs.Tries.{AreFailing}
use Rattle.he_summary.specs.declared.figures.Form.{Form}
use Rattle.he_summary.specs.declared.figures.Form.TheVariants as forms
use Rattle.he_summary.specs.declared.text.Said.{Said}
use Rattle.he_totals.specs.declared.kept.Ending.{Ending}
use Rattle.he_totals.specs.declared.kept.Ending.TheVariants as endings
use Rattle.he_totals.specs.declared.kept.Kept.{Kept}
use Rattle.he_totals.specs.declared.kept.Place.{Place}
use Rattle.he_totals.specs.declared.tallies.Tally.{Tally}
use Rattle.he_totals.specs.declared.totals.Kind.TheVariants.{Won}
use Rattle.he_totals.specs.declared.totals.Totals.{Totals}

-- a text that states these facts, among words, has been appended
abbrev pub Tells : {S : Type 0} → List (Fact S) → List ℕ → List ℕ → Type 0
Tells told old new = (text : List ℕ) × States told text × (new ≡ old ++ text)

-- the name of a file by its place; `-` if there is none
abbrev pub name_at : List (List ℕ) → ℕ → List ℕ
name_at names place = unwrap_or (slice_get names place) (codes "-")

-- the time to connect, and the race's place
abbrev pub slow_key : Kept → ℕ × (ℕ × ℕ)
slow_key race = (unwrap_or (time_of race.ending) 0, (race.place.file, race.place.number))

-- the slowest first, equal ones in the order in which they were read
abbrev pub slowest_first : ℕ × (ℕ × ℕ) → ℕ × (ℕ × ℕ) → Ordering
slowest_first x y = ordering_then (nat_cmp y.0 x.0) (ordering_then (nat_cmp x.1.0 y.1.0) (nat_cmp x.1.1 y.1.1))

-- the `most` slowest of the races that were won, in that order
abbrev pub AreSlowest : ℕ → List Kept → List Kept → Type 0
AreSlowest most kept slow =
    (sorted : List Kept) × IsPermutation (filter (is_kind Won) kept) sorted
    × IsSortedByKey slow_key slowest_first sorted × (slow ≡ take most sorted)

-- the place of a race: its first line, and its number
abbrev pub place_facts : {S : Type 0} → Form → Place → List (Fact S)
place_facts forms.Text place = facts.Number place.line ∷ facts.Number place.number ∷ []
place_facts _ place = facts.Number place.number ∷ facts.Number place.line ∷ []

-- the time to connect, the address, and what of the time went into the names and was lost
abbrev pub won_facts : Times → Ending → List (Fact Said)
won_facts times (endings.Won (Some ip) time) =
    facts.Number time ∷ facts.Ip ip ∷ facts.Number times.names ∷ facts.Number times.lost ∷ []
won_facts times _ = []

abbrev pub slow_facts : Form → Kept → List (Fact Said)
slow_facts form race = place_facts form race.place ++ won_facts race.times race.ending

-- words have been appended
abbrev pub HasWords : List ℕ → List ℕ → Type 0
HasWords old new = (words : List ℕ) × (new ≡ old ++ words)

-- these facts have been appended, list by list, between words
abbrev pub TellsEach : {S : Type 0} → List (List (Fact S)) → List ℕ → List ℕ → Type 0
TellsEach [] old new = HasWords old new
TellsEach (told ∷ each) old new =
    (words between : List ℕ) × Tells told (old ++ words) between × TellsEach each between new

-- the `most` slowest of these have been appended, or words alone
abbrev pub TellsSlowest : Form → ℕ → List Kept → List ℕ → List ℕ → Type 0
TellsSlowest form zero kept old new = HasWords old new
TellsSlowest form (suc most) kept old new =
    (slow : List Kept) × AreSlowest (suc most) kept slow × TellsEach (map (slow_facts form) slow) old new

-- the hosts of a row: the first three, and the number of the others
abbrev pub more_text : ℕ → List ℕ
more_text n = if n == 0 then [] else codes " and " ++ (decimal n ++ codes " more")

abbrev pub after_comma : List ℕ → List ℕ
after_comma name = codes ", " ++ name

abbrev pub hosts_text : List (List ℕ) → List ℕ
hosts_text [] = []
hosts_text (first ∷ more) = first ++ (flat_map after_comma (take 2 more) ++ more_text (length more - 2))

-- the row of an address has been appended: the attempts to it, and after a gap its hosts
abbrev pub TellsAddress : List (List ℕ) → Ip × Tally → List ℕ → List ℕ → Type 0
TellsAddress hosts tallied old new =
    (between gap : List ℕ) × Tells (tally_facts tallied) old between × (new ≡ between ++ (gap ++ hosts_text hosts))

-- the rows of these addresses with their hosts, each after words
abbrev pub TellsAddresses : (Ip → List (List ℕ)) → List (Ip × Tally) → List ℕ → List ℕ → Type 0
TellsAddresses hosts [] old new = new ≡ old
TellsAddresses hosts (tallied ∷ rows) old new =
    (words between : List ℕ) × TellsAddress (hosts tallied.0) tallied (old ++ words) between
    × TellsAddresses hosts rows between new

-- the report on these races as text: the totals and what the record lines say, the addresses, and the name servers
pub record IsText (totals : Totals) (kept : List Kept) (tables : List (Ip × Tally) × List (Ip × Tally))
    (hosts : Ip → List (List ℕ)) (old new : List ℕ) : Type 0 where
  pub first : List ℕ
  pub second : List ℕ
  pub headed : Tells (text_facts totals kept) old first
  pub addresses : TellsAddresses hosts tables.0 first second
  pub servers : Tells (flat_map server_facts tables.1) second new

-- the report on these races with these tables of addresses and name servers, and these hosts of the addresses, up to
-- the slowest ones
abbrev pub IsReport : Form → Totals → List Kept → List (Ip × Tally) × List (Ip × Tally) → (Ip → List (List ℕ)) → List ℕ
    → List ℕ → Type 0
IsReport forms.Text totals kept tables hosts old new = IsText totals kept tables hosts old new
IsReport forms.Json totals kept tables hosts old new = new ≡ old ++ summary_json totals kept hosts tables.0 tables.1
IsReport forms.Metrics totals kept tables hosts old new = new ≡ old ++ metrics_text totals

-- the text on these races, with the `most` slowest ones
abbrev pub IsWritten : Form → List Run → ℕ → List ℕ → List ℕ → Type 0
IsWritten form runs most old new =
    (totals : Totals) × (failing servers : List (Ip × Tally)) × (named : Named) × (between : List ℕ)
    × AreTotals (map kept_of runs) totals × AreFailing (all_tries runs) failing
    × AreFailing (all_servers runs) servers
    × AreNamed (map host_of runs) named × (named.pairs ≡ pairs_of named.places runs)
    × IsReport form totals (map kept_of runs) (failing, servers) (hosts_in named) old between
    × TellsSlowest form most (map kept_of runs) between new
