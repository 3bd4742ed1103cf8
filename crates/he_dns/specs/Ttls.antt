-- The time for which an answer may be kept, in seconds: the least of the TTLs of its records, which are the aliases
-- followed and the addresses (RFC 1035 section 3.2.1).
use Rattle.std.specs.Prelude.{◌≡◌, ◌⊎◌, ◌≤◌, ℕ, true, List, [], ◌∷◌, Option, Some, None, is_some, if◌then◌else◌}
use Rattle.he_addr.specs.declared.ip.Family.{Family}
use Rattle.he_dns.specs.declared.entries.Entry.{Entry}
use Rattle.he_dns.specs.Answers.{Tells}
use Rattle.he_dns.specs.Chains.{IsCanonical, Leads, address_for, target_for}

-- the TTL of the first record that makes the name an alias
abbrev pub alias_ttl : List Entry → List ℕ → Option ℕ
alias_ttl [] name = None
alias_ttl (entry ∷ more) name = if is_some (target_for name entry) then Some entry.ttl else alias_ttl more name

-- the TTL of an alias that is followed: that of the name, or of a name that aliases lead to from it
abbrev pub IsAliasTtl : List Entry → List ℕ → ℕ → Type 0
IsAliasTtl entries name ttl =
    (count : ℕ) × (owner : List ℕ) × Leads entries count name owner × (alias_ttl entries owner ≡ Some ttl)

-- the TTL of an address of the host
abbrev pub IsAddressTtl : List Entry → List ℕ → ℕ → Type 0
IsAddressTtl [] host ttl = ⊥
IsAddressTtl (entry ∷ more) host ttl =
    ((is_some (address_for host entry) ≡ true) × (ttl ≡ entry.ttl)) ⊎ IsAddressTtl more host ttl

-- the least number for which this holds; None if it holds for none
abbrev pub IsLeast : (ℕ → Type 0) → Option ℕ → Type 0
IsLeast Holds (Some least) = Holds least × ((other : ℕ) → Holds other → least ≤ other)
IsLeast Holds None = (other : ℕ) → Holds other → ⊥

-- the time for which a message's answer may be kept
pub record MayKeep (message : List ℕ) (id : ℕ) (name : List ℕ) (family : Family) (ttl : Option ℕ) : Type 0 where
  pub entries : List Entry
  pub told : Tells message id name family entries
  pub host : List ℕ
  pub canonical : IsCanonical entries name host
  pub least : IsLeast (λ t. IsAliasTtl entries name t ⊎ IsAddressTtl entries host t) ttl
