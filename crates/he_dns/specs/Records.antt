-- Resource records (RFC 1035 section 4.1.3), and their contents.
use Rattle.std.specs.Prelude.{◌≡◌, ◌⊎◌, ℕ, ◌+◌, ◌≤◌, List, [], ◌∷◌, length, slice_index, slice_range}
use Rattle.std.specs.Int.{w32, w128, from_be_bytes}
use Rattle.he_addr.specs.declared.ip.Family.{Family}
use Rattle.he_addr.specs.declared.ip.Family.TheVariants as families
use Rattle.he_addr.specs.declared.ip.Ip.{Ip}
use Rattle.he_addr.specs.declared.ip.Ip.TheVariants.{V4, V6}
use Rattle.he_dns.specs.declared.entries.Content.{Content}
use Rattle.he_dns.specs.declared.entries.Content.TheVariants.{Alias, Address, Other}
use Rattle.he_dns.specs.declared.entries.Entry.{Entry}
use Rattle.he_dns.specs.declared.records.Record.{Record}
use Rattle.he_dns.specs.Names.{IsNameAt}
use Rattle.he_dns.specs.Numbers.{IsTtlAt, IsWordAt, class_in, type_cname, type_of}

-- the record at a place: NAME, TYPE, CLASS, TTL, RDLENGTH, and RDATA, which is inside the message
pub record IsRecordAt (message : List ℕ) (at : ℕ) (r : Record) : Type 0 where
  pub after : ℕ
  pub owner : IsNameAt message at r.owner after
  pub kind : IsWordAt message after r.kind
  pub class : IsWordAt message (after + 2) r.class
  pub ttl : IsTtlAt message (after + 4) r.ttl
  pub ttl_first : r.ttl_first ≡ slice_index message (after + 4)
  pub size : IsWordAt message (after + 8) r.size
  pub place : r.place ≡ after + 10
  pub within : r.place + r.size ≤ length message

-- the end of a record
abbrev pub record_end : Record → ℕ
record_end r = r.place + r.size

-- these octets are an address of the family, the highest first (RFC 1035 section 3.4.1, RFC 3596 section 2.2)
abbrev pub IsAddress : Family → List ℕ → Ip → Type 0
IsAddress families.V4 octets (V4 n) = (length octets ≡ 4) × (n ≡ from_be_bytes w32 octets)
IsAddress families.V6 octets (V6 n) = (length octets ≡ 16) × (n ≡ from_be_bytes w128 octets)
IsAddress family octets ip = ⊥

-- the content of a record: an alias, if it is a CNAME whose RDATA is one name (RFC 1035 section 3.3.1); an address,
-- if it is of the type of the family's addresses, and its RDATA is one; both of class IN; otherwise nothing
abbrev pub Says : List ℕ → Family → Record → Content → Type 0
Says message family r (Alias target) =
    (r.class ≡ class_in) × (r.kind ≡ type_cname) × IsNameAt message r.place target (record_end r)
Says message family r (Address ip) =
    (r.class ≡ class_in) × (r.kind ≡ type_of family) × IsAddress family (slice_range message r.place (record_end r)) ip
Says message family r Other = r.class ≡ class_in → (r.kind ≡ type_cname) ⊎ (r.kind ≡ type_of family) → ⊥

-- the entry of the record at a place, and its end
pub record IsEntryAt (message : List ℕ) (family : Family) (at : ℕ) (entry : Entry) (end : ℕ) : Type 0 where
  pub source : Record
  pub stands : IsRecordAt message at source
  pub owner : entry.owner ≡ source.owner
  pub ttl : entry.ttl ≡ source.ttl
  pub says : Says message family source entry.content
  pub ends : end ≡ record_end source

-- the entries of consecutive records from a place on
abbrev pub AreEntries : List ℕ → Family → ℕ → List Entry → Type 0
AreEntries message family at [] = Unit {0}
AreEntries message family at (entry ∷ more) =
    (end : ℕ) × IsEntryAt message family at entry end × AreEntries message family end more

-- consecutive records from a place on, the last of which ends here
abbrev pub AreRecords : List ℕ → ℕ → List Record → ℕ → Type 0
AreRecords message at [] end = end ≡ at
AreRecords message at (r ∷ more) end = IsRecordAt message at r × AreRecords message (record_end r) more end
