-- From a name to its addresses by the records of an answer section, through aliases (RFC 1034 section 3.6.2).
use Rattle.std.specs.Prelude.{◌≡◌, ℕ, zero, suc, ◌≤◌, List, [], ◌∷◌, Option, Some, None, if◌then◌else◌}
use Rattle.std.specs.List.{filter_map}
use Rattle.std.specs.Option.{option_or}
use Rattle.he_addr.specs.declared.ip.Ip.{Ip}
use Rattle.he_dns.specs.declared.entries.Content.{Content}
use Rattle.he_dns.specs.declared.entries.Content.TheVariants.{Alias, Address, Other}
use Rattle.he_dns.specs.declared.entries.Entry.{Entry}
use Rattle.he_dns.specs.Names.{is_same}
use Rattle.he_dns.specs.Numbers.{max_aliases}

abbrev pub target_in : Content → Option (List ℕ)
target_in (Alias target) = Some target
target_in (Address ip) = None
target_in Other = None

abbrev pub address_in : Content → Option Ip
address_in (Alias target) = None
address_in (Address ip) = Some ip
address_in Other = None

-- the alias's target, and the address, that an entry has for this name
abbrev pub target_for : List ℕ → Entry → Option (List ℕ)
target_for name entry = if is_same entry.owner name then target_in entry.content else None

abbrev pub address_for : List ℕ → Entry → Option Ip
address_for name entry = if is_same entry.owner name then address_in entry.content else None

-- the name that this one is an alias of, by the first such record
abbrev pub alias_of : List Entry → List ℕ → Option (List ℕ)
alias_of [] name = None
alias_of (entry ∷ more) name = option_or (target_for name entry) (alias_of more name)

-- the addresses of a name, in the order of their records
abbrev pub addresses_of : List Entry → List ℕ → List Ip
addresses_of entries name = filter_map (address_for name) entries

-- `count` aliases lead from a name to another
unfoldable pub Leads : List Entry → ℕ → List ℕ → List ℕ → Type 0
Leads entries zero name other = name ≡ other
Leads entries (suc count) name other =
    (target : List ℕ) × (alias_of entries name ≡ Some target) × Leads entries count target other

-- the host's canonical name: an alias of none, reached by at most the maximum number of aliases
pub record IsCanonical (entries : List Entry) (name host : List ℕ) : Type 0 where
  pub aliases : ℕ
  pub few : aliases ≤ max_aliases
  pub leads : Leads entries aliases name host
  pub own : alias_of entries host ≡ None

-- there are more aliases than are followed
abbrev pub IsTooLong : List Entry → List ℕ → Type 0
IsTooLong entries name = (host : List ℕ) × Leads entries (suc max_aliases) name host
