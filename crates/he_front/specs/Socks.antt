-- The messages of SOCKS 5 clients (RFC 1928), by places in a list of octets.
use Rattle.std.specs.Prelude.{◌≡◌, ◌⊎◌, ℕ, ◌+◌, ◌≤◌, ◌==◌, Bool, true, false, List, length, Option, Some, None, not, slice_get, slice_range}
use Rattle.std.specs.Int.{w16, w32, w128, from_be_bytes}
use Rattle.std.specs.List.{list_any}
use Rattle.he_addr.specs.declared.ip.Ip.TheVariants.{V4, V6}
use Rattle.he_front.specs.declared.socks.Method.{Method}
use Rattle.he_front.specs.declared.socks.Method.TheVariants as ways
use Rattle.he_front.specs.declared.socks.Refusal.{Refusal}
use Rattle.he_front.specs.declared.socks.Refusal.TheVariants as refusals
use Rattle.he_front.specs.declared.socks.Request.{Request}
use Rattle.he_front.specs.declared.socks.Target.{Target}
use Rattle.he_front.specs.declared.socks.Target.TheVariants as targets

-- X'00': NO AUTHENTICATION REQUIRED; X'02': USERNAME/PASSWORD (section 3)
abbrev pub number_of : Method → ℕ
number_of ways.Open = 0
number_of ways.Password = 2

-- this one is among the methods
abbrev pub offers : ℕ → List ℕ → Bool
offers number methods = list_any (λ method. method == number) methods

-- section 3: VER, NMETHODS, METHODS
pub record IsGreeting (way : Method) (octets : List ℕ) (offered : Bool) (len : ℕ) : Type 0 where
  pub version : slice_get octets 0 ≡ Some 5
  pub count : ℕ
  pub counted : slice_get octets 1 ≡ Some count
  pub ends : len ≡ 2 + count
  pub whole : len ≤ length octets
  pub methods : offered ≡ offers (number_of way) (slice_range octets 2 len)

-- section 5: the address after ATYP, which is at place 3; the address ends here
abbrev pub IsTarget : List ℕ → Target → ℕ → Type 0
IsTarget octets (targets.Address (V4 n)) end =
    (slice_get octets 3 ≡ Some 1) × (end ≡ 8) × (n ≡ from_be_bytes w32 (slice_range octets 4 8))
IsTarget octets (targets.Address (V6 n)) end =
    (slice_get octets 3 ≡ Some 4) × (end ≡ 20) × (n ≡ from_be_bytes w128 (slice_range octets 4 20))
IsTarget octets (targets.Name name) end =
    (slice_get octets 3 ≡ Some 3) × (slice_get octets 4 ≡ Some (length name.now)) × (end ≡ 5 + length name.now)
    × (name.now ≡ slice_range octets 5 end)

-- the end of an address, by its type
abbrev pub IsEnd : List ℕ → ℕ → Type 0
IsEnd octets end =
    ((slice_get octets 3 ≡ Some 1) × (end ≡ 8)) ⊎ ((slice_get octets 3 ≡ Some 4) × (end ≡ 20))
    ⊎ ((slice_get octets 3 ≡ Some 3) × ((len : ℕ) × (slice_get octets 4 ≡ Some len) × (end ≡ 5 + len)))

-- section 4: VER, CMD, RSV, ATYP, DST.ADDR, DST.PORT, where CMD is CONNECT
pub record IsRequest (octets : List ℕ) (request : Request) (len : ℕ) : Type 0 where
  pub version : slice_get octets 0 ≡ Some 5
  pub command : slice_get octets 1 ≡ Some 1
  pub reserved : slice_get octets 2 ≡ Some 0
  pub end : ℕ
  pub address : IsTarget octets request.target end
  pub ends : len ≡ end + 2
  pub whole : len ≤ length octets
  pub port : request.port ≡ from_be_bytes w16 (slice_range octets end len)

-- the octet at the place exists and is a different one
abbrev pub is_other_than : ℕ → Option ℕ → Bool
is_other_than wanted None = false
is_other_than wanted (Some octet) = not (octet == wanted)

abbrev pub is_other : List ℕ → ℕ → ℕ → Bool
is_other octets place wanted = is_other_than wanted (slice_get octets place)

-- the address is neither IPv4, nor IPv6, nor a name
abbrev pub HasOtherKind : List ℕ → Type 0
HasOtherKind octets = (is_other octets 3 1 ≡ true) × (is_other octets 3 4 ≡ true) × (is_other octets 3 3 ≡ true)

-- why it is no request: another version or no reserved 0; another command; another type of address
abbrev pub IsRefused : List ℕ → Refusal → Type 0
IsRefused octets refusals.Message = (is_other octets 0 5 ≡ true) ⊎ (is_other octets 2 0 ≡ true)
IsRefused octets refusals.Command = is_other octets 1 1 ≡ true
IsRefused octets refusals.Kind = HasOtherKind octets

-- the octets so far can begin a request
pub record IsBegun (octets : List ℕ) : Type 0 where
  pub version : is_other octets 0 5 ≡ false
  pub command : is_other octets 1 1 ≡ false
  pub reserved : is_other octets 2 0 ≡ false
  pub kind : HasOtherKind octets → ⊥
