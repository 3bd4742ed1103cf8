-- A message's answer to a query: the addresses, or the first fault in the order of the checks.
use Rattle.std.specs.Prelude.{◌≡◌, ◌⊎◌, ℕ, List, length}
use Rattle.he_addr.specs.declared.ip.Family.{Family}
use Rattle.he_addr.specs.declared.ip.Ip.{Ip}
use Rattle.he_dns.specs.declared.entries.Entry.{Entry}
use Rattle.he_dns.specs.declared.fault.AnswerFault.{AnswerFault}
use Rattle.he_dns.specs.declared.fault.AnswerFault.TheVariants as faults
use Rattle.he_dns.specs.Chains.{IsCanonical, IsTooLong, addresses_of}
use Rattle.he_dns.specs.Codes.{HasNoAnswer, IsFine}
use Rattle.he_dns.specs.Header.{Responds}
use Rattle.he_dns.specs.Records.{AreEntries}

-- a whole response without a fault, with the entries of its answer section
pub record Tells (message : List ℕ) (id : ℕ) (name : List ℕ) (family : Family) (entries : List Entry) : Type 0 where
  pub flags : ℕ
  pub at : ℕ
  pub responds : Responds message id name family flags (length entries) at
  pub fine : IsFine message flags (length entries) at
  pub section : AreEntries message family at entries

-- the addresses in a message
pub record Answers (message : List ℕ) (id : ℕ) (name : List ℕ) (family : Family) (addresses : List Ip) : Type 0 where
  pub entries : List Entry
  pub told : Tells message id name family entries
  pub host : List ℕ
  pub canonical : IsCanonical entries name host
  pub value : addresses ≡ addresses_of entries host

-- it is no response to the query
abbrev pub IsStranger : List ℕ → ℕ → List ℕ → Family → Type 0
IsStranger message id name family = (flags answers at : ℕ) → Responds message id name family flags answers at → ⊥

-- the response itself states that it has no answer
abbrev pub Fails : List ℕ → ℕ → List ℕ → Family → AnswerFault → Type 0
Fails message id name family fault =
    (flags : ℕ) × (answers : ℕ) × (at : ℕ) × Responds message id name family flags answers at
    × HasNoAnswer message flags answers at fault

-- it is a response without a fault, and a record of its answer section isn't of the form of its type
abbrev pub IsMalformed : List ℕ → ℕ → List ℕ → Family → Type 0
IsMalformed message id name family =
    (flags : ℕ) × (answers : ℕ) × (at : ℕ) × Responds message id name family flags answers at
    × IsFine message flags answers at
    × ((entries : List Entry) → length entries ≡ answers → AreEntries message family at entries → ⊥)

-- there are more aliases from the name than are followed
abbrev pub LeadsOn : List ℕ → ℕ → List ℕ → Family → Type 0
LeadsOn message id name family = (entries : List Entry) × Tells message id name family entries × IsTooLong entries name

-- why a message has no addresses
abbrev pub HasFault : List ℕ → ℕ → List ℕ → Family → AnswerFault → Type 0
HasFault message id name family faults.NotOurs = IsStranger message id name family
HasFault message id name family faults.Malformed =
    Fails message id name family faults.Malformed ⊎ IsMalformed message id name family
HasFault message id name family faults.ChainTooLong = LeadsOn message id name family
HasFault message id name family faults.Memory = Unit {0}
HasFault message id name family fault = Fails message id name family fault
