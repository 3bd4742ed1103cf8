-- Consequences of the definitions, stated independently.
use Rattle.std.specs.Prelude.{All, ◌≡◌, ◌≢◌, ◌<◌, ◌⊎◌, ◌↔◌, Bool, List, filter, length, IsTrue, IsFalse, IsSome}
use Rattle.std.specs.Ordering.{is_lt}
use Rattle.he_addr.specs.declared.ip.Ip.{Ip}
use Rattle.he_addr.specs.Ip.{InRange, IsUsable}
use Rattle.he_select.specs.DestinationKeys.{key_cmp, destination_key}
use Rattle.he_select.specs.Preference.{IsOrder, Member, order_of, prefers}
use Rattle.he_select.specs.Refusals.{cause_if, first_repeat}
use Rattle.std.specs.List.{list_any}
use Rattle.std.specs.Option.{option_or}
use Rattle.std.specs.Prelude.{◌+◌, [], ◌∷◌, ◌++◌, None, Some}
use Rattle.he_select.specs.Selection.{SelectionInput, candidates, is_reachable}
use Rattle.he_select.specs.Tables.{IsAdmitted, row_of}
use Rattle.he_select.specs.declared.policy.Row.{Row}
use Rattle.he_select.specs.declared.policy.PolicyFault.{PolicyFault}
use Rattle.he_select.specs.declared.host.HostFault.{HostFault}
use Rattle.he_select.specs.declared.limits.TheConstants.{ROWS, SOURCES, ROUTES, NO_INTERFACE}
use Rattle.he_select.specs.Faults.{IsTableFault, IsHostFault}
use Rattle.he_select.specs.HostFaults.{host_fault}
use Rattle.he_select.specs.Hosts.{HostLists, IsHost}
use Rattle.he_select.specs.Ranges.{least_interface, most_routes, most_rows, most_sources}
use Rattle.he_select.specs.TableFaults.{table_fault}

-- on members for which P holds, `before` is irreflexive and transitive, and of two members at different places one is
-- before the other
pub record IsStrictTotalOrderOn (P : Member → Type 0) (before : Member → Member → Bool) : Type 0 where
  pub irreflexive : (a : Member) → P a → IsFalse (before a a)
  pub transitive : (a b c : Member) → P a → P b → P c → IsTrue (before a b) → IsTrue (before b c) → IsTrue (before a c)
  pub total : (a b : Member) → P a → P b → a.place ≢ b.place → IsTrue (before a b) ⊎ IsTrue (before b a)

-- with an admitted table, the preference between usable addresses is the lexicographic comparison of keys, one number
-- for each rule
abbrev pub PreferenceIsByKeys : Type 0
PreferenceIsByKeys =
    (input : SelectionInput) → IsAdmitted input.rows → (a b : Member) → IsUsable a.ip → IsUsable b.ip
    → prefers input a b ≡ is_lt (key_cmp (destination_key input a) (destination_key input b))

-- hence it is a strict total order on the members of a list
abbrev pub PreferenceIsStrictTotalOrder : Type 0
PreferenceIsStrictTotalOrder =
    (input : SelectionInput) → IsAdmitted input.rows → IsStrictTotalOrderOn (λ m. IsUsable m.ip) (prefers input)

-- a list has one order of preference, the one that `order_of` returns
pub record IsOneOrder (input : SelectionInput) (ips : List Ip) : Type 0 where
  pub is : IsOrder input ips (order_of input ips)
  pub only : (other : List Ip) → IsOrder input ips other → other ≡ order_of input ips

-- usable addresses have one order, with an admitted table
abbrev pub EachListHasOneOrder : Type 0
EachListHasOneOrder =
    (input : SelectionInput) → IsAdmitted input.rows → (ips : List Ip) → All IsUsable ips → IsOneOrder input ips

-- the order of the addresses that pass a test is the order of all addresses, filtered by that test
abbrev pub OrderOfFilterIsFilterOfOrder : Type 0
OrderOfFilterIsFilterOfOrder =
    (input : SelectionInput) → IsAdmitted input.rows → (keep : Ip → Bool) (ips : List Ip) → All IsUsable ips
    → order_of input (filter keep ips) ≡ filter keep (order_of input ips)

-- an address is reachable exactly if it has a route and a candidate: if there are candidates, one is the best
abbrev pub ReachableWhereCandidates : Type 0
ReachableWhereCandidates =
    (input : SelectionInput) (ip : Ip) → IsTrue (is_reachable input ip) ↔ (0 < length (candidates input ip))

-- every address has a row of an admitted table
abbrev pub EveryAddressHasRow : Type 0
EveryAddressHasRow = (rows : List Row) → IsAdmitted rows → (ip : Ip) → InRange ip → IsSome (row_of rows ip)

-- a list extended by a member has the first repeat of the shorter list, or else one at its end, if the list contains
-- the member
abbrev pub RepeatsByOneMore : {X : Type 0} → (X → X → Bool) → Type 0
RepeatsByOneMore {X} same =
    (xs : List X) (x : X)
    → first_repeat same (xs ++ x ∷ [])
    ≡ option_or (first_repeat same xs) (cause_if (list_any (same x) xs) (length xs))

-- rows are a table exactly if the search for a fault finds none ..
abbrev pub AdmittedWhereNoFault : Type 0
AdmittedWhereNoFault = (rows : List Row) → IsAdmitted rows ↔ (table_fault rows ≡ None)

-- .. and the fault that it finds is the first in the order of the checks, with the least places
abbrev pub TableFaultsAreFirst : Type 0
TableFaultsAreFirst = (rows : List Row) (fault : PolicyFault) → table_fault rows ≡ Some fault → IsTableFault rows fault

-- likewise for a host's lists
abbrev pub HostWhereNoFault : Type 0
HostWhereNoFault = (host : HostLists) → IsHost host ↔ (host_fault host.sources host.routes ≡ None)

abbrev pub HostFaultsAreFirst : Type 0
HostFaultsAreFirst =
    (host : HostLists) (fault : HostFault) → host_fault host.sources host.routes ≡ Some fault → IsHostFault host fault

-- the limits of the code are the numbers of `Ranges`
abbrev pub LimitsAreStated : Type 0
LimitsAreStated =
    (ROWS ≡ most_rows) × (SOURCES ≡ most_sources) × (ROUTES ≡ most_routes) × (NO_INTERFACE + 1 ≡ least_interface)
