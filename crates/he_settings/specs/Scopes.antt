-- The interface of a host or of a name server on a link, by its zone (RFC 4007 section 11).
use Rattle.std.specs.Prelude.{◌≡◌, ◌≤◌, ◌^◌, ℕ, List, Option, Some, None}
use Rattle.he_addr.specs.Reading.{number_in}
use Rattle.he_names.specs.Targets.{Means}
use Rattle.he_names.specs.declared.target.Target.{Target}
use Rattle.he_names.specs.declared.target.Target.TheVariants as targets

-- the index of a zone's interface: the zone itself, if it is a number (section 11.2)
abbrev pub IsScope : List ℕ → ℕ → Type 0
IsScope zone_id scope = (number : ℕ) → number_in zone_id ≡ Some number → scope ≡ number

-- a zone without an interface is not an interface's number
abbrev pub IsNoScope : List ℕ → Type 0
IsNoScope zone_id = (number : ℕ) → number_in zone_id ≡ Some number → 2 ^ 32 ≤ number

abbrev pub MayBeScope : List ℕ → Option ℕ → Type 0
MayBeScope zone_id (Some scope) = IsScope zone_id scope
MayBeScope zone_id None = IsNoScope zone_id

-- a link-local address has its interface's index; any other host 0, for none
abbrev pub HasScope : Target → ℕ → Type 0
HasScope (targets.OnLink ip interface) scope = IsScope interface.items scope
HasScope target scope = scope ≡ 0

-- for the host of a text
abbrev pub FindsScope : List ℕ → ℕ → Type 0
FindsScope text scope = (target : Target) × Means text target × HasScope target scope
