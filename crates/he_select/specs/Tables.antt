-- Policy tables (RFC 6724 section 2.1): the row of an address, and the rows that are a table.
use Rattle.std.specs.Prelude.{ℕ, ◌*◌, ◌^◌, ◌≤◌, ◌≡◌, ◌≢◌, ◌==◌, ◌&&◌, Bool, not, nat_lt, List, length, filter, Option, All, Any, AllPairs, IsTrue, IsFalse}
use Rattle.std.specs.Bool.{beq}
use Rattle.std.specs.Option.{option_map_or}
use Rattle.he_addr.specs.declared.ip.Ip.{Ip}
use Rattle.he_addr.specs.Prefix.{PrefixBits, contains, is_inside_mapped}
use Rattle.he_select.specs.declared.policy.Row.{Row}
use Rattle.he_select.specs.Ranges.{most_rows}
use Rattle.he_select.specs.Rules.{best_by}

-- of two rows that contain an address, the one with the longer prefix wins
abbrev pub is_longer_row : Row → Row → Bool
is_longer_row a b = nat_lt b.prefix.len a.prefix.len

-- the row of an address: the one with the longest prefix that contains it
unfoldable pub row_of : List Row → Ip → Option Row
row_of rows ip = best_by is_longer_row (filter (λ row. contains row.prefix ip) rows)

-- the precedence that the table gives an address
unfoldable pub precedence_of : List Row → Ip → ℕ
precedence_of rows ip = option_map_or (λ row. row.precedence) (row_of rows ip) 0

-- the label that the table gives an address
unfoldable pub label_of : List Row → Ip → ℕ
label_of rows ip = option_map_or (λ row. row.label) (row_of rows ip) 0

abbrev pub same_prefix : PrefixBits → PrefixBits → Bool
same_prefix a b = a.bits == b.bits && a.len == b.len

abbrev pub same_row : Row → Row → Bool
same_row a b = same_prefix a.prefix b.prefix

-- one row is inside ::ffff:0:0/96, one outside it, and both have one precedence
abbrev pub shares_precedence : Row → Row → Bool
shares_precedence a b =
    a.precedence == b.precedence && not (beq (is_inside_mapped a.prefix) (is_inside_mapped b.prefix))

-- ::/0, the prefix of every address
abbrev pub any_address : PrefixBits
any_address = record { bits = 0; len = 0 }

-- ::ffff:0:0/96, the prefix of every mapped IPv4 address
abbrev pub any_v4_address : PrefixBits
any_v4_address = record { bits = 65535 * 2 ^ 32; len = 96 }

abbrev pub HasTableSize : List Row → Type 0
HasTableSize rows = (1 ≤ length rows) × (length rows ≤ most_rows)

abbrev pub PrefixesDiffer : List Row → Type 0
PrefixesDiffer rows = AllPairs (λ a b. a.prefix ≢ b.prefix) rows

-- a row has the prefix
abbrev pub HasPrefix : List Row → PrefixBits → Type 0
HasPrefix rows prefix = Any (λ row. row.prefix ≡ prefix) rows

-- no precedence occurs both inside ::ffff:0:0/96 and outside it
abbrev pub PrecedencesApart : Row → Row → Type 0
PrecedencesApart a b =
    IsTrue (is_inside_mapped a.prefix) → IsFalse (is_inside_mapped b.prefix) → a.precedence ≢ b.precedence

-- if a precedence occurred both inside and outside ::ffff:0:0/96, rules 6, 9 and 10 could prefer three addresses of
-- two families in a circle
abbrev pub PrecedencesDiffer : List Row → Type 0
PrecedencesDiffer rows = All (λ a. All (PrecedencesApart a) rows) rows

-- rows are a policy table: 1 to 64, with pairwise different prefixes, ::/0 and ::ffff:0:0/96 among them, and no
-- precedence both inside and outside ::ffff:0:0/96
pub record IsAdmitted (rows : List Row) : Type 0 where
  pub size : HasTableSize rows
  pub different : PrefixesDiffer rows
  pub default : HasPrefix rows any_address
  pub mapped : HasPrefix rows any_v4_address
  pub parted : PrecedencesDiffer rows
