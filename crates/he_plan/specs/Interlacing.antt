-- Interlacing two families (RFC 8305 section 4).
use Rattle.std.specs.Prelude.{ℕ, ◌+◌, ◌-◌, ◌*◌, ◌≡◌, ◌==◌, ◌&&◌, ◌||◌, ◌++◌, Bool, false, cond, nat_lt, List, [], ◌∷◌, map, count_by, slice_get, AllPairs, IsPermutation, IsTrue}
use Rattle.std.specs.Option.{option_map_or}
use Rattle.he_addr.specs.declared.ip.Ip.{Ip}
use Rattle.he_addr.specs.Ip.{family_of}
use Rattle.he_timeline.specs.Timeline.{is_of}

-- an address of a list, and the number of addresses of its family before it
pub record Numbered : Type 0 where
  pub ip : Ip
  pub number : ℕ

-- the addresses of a list that follow those of `before`, each with its number
abbrev pub numbered_after : List Ip → List Ip → List Numbered
numbered_after before [] = []
numbered_after before (ip ∷ ips) =
    record { ip = ip; number = count_by (is_of (family_of ip)) before } ∷ numbered_after (before ++ ip ∷ []) ips

-- the address is of the first address's family
abbrev pub is_leading : List Ip → Ip → Bool
is_leading ips ip = option_map_or (λ first. is_of (family_of first) ip) (slice_get ips 0) false

-- the place in the alternation: the leading family's first `count` members have 0 and its others 2, 4, 6 .., the
-- other family's members 1, 3, 5 ..
abbrev pub interlacing_key : List Ip → ℕ → Numbered → ℕ
interlacing_key ips count item = cond (is_leading ips item.ip) (2 * (item.number + 1 - count)) (2 * item.number + 1)

-- in order of key, then of number
abbrev pub comes_before : List Ip → ℕ → Numbered → Numbered → Bool
comes_before ips count a b =
    nat_lt (interlacing_key ips count a) (interlacing_key ips count b)
    || (interlacing_key ips count a == interlacing_key ips count b && nat_lt a.number b.number)

-- the result has the addresses of the list, in order of key, then of number
pub record IsInterlaced (ips : List Ip) (count : ℕ) (result : List Ip) : Type 0 where
  pub items : List Numbered
  pub members : IsPermutation (numbered_after [] ips) items
  pub by_key : AllPairs (λ a b. IsTrue (comes_before ips count a b)) items
  pub addresses : result ≡ map (λ item. item.ip) items
