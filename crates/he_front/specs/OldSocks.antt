-- The requests of SOCKS 4 clients: the SOCKS 4 protocol, which has addresses only, and its extension SOCKS 4A, which
-- has names.
use Rattle.std.specs.Prelude.{◌≡◌, ℕ, ◌+◌, ◌<◌, ◌≤◌, ◌&&◌, Bool, true, false, List, ◌∷◌, ◌++◌, drop, length, Some, nat_le, slice_get, slice_range}
use Rattle.std.specs.Borrow.{Bor}
use Rattle.std.specs.Int.{w16, w32, from_be_bytes}
use Rattle.he_addr.specs.Text.{Lacks}
use Rattle.he_addr.specs.declared.ip.Ip.TheVariants.{V4, V6}
use Rattle.he_front.specs.declared.socks.Read.{Read}
use Rattle.he_front.specs.declared.socks.Read.TheVariants as reads
use Rattle.he_front.specs.declared.socks.Request.{Request}
use Rattle.he_front.specs.declared.socks.Target.{Target}
use Rattle.he_front.specs.declared.socks.Target.TheVariants as targets

-- the octets begin with a text of at most `most` octets, none of them NUL, and the NUL that ends it
pub record IsText (most : ℕ) (octets : List ℕ) (text : Bor (List ℕ)) (len : ℕ) : Type 0 where
  pub rest : List ℕ
  pub parts : octets ≡ text.now ++ 0 ∷ rest
  pub bare : Lacks 0 text.now
  pub fits : length text.now ≤ most
  pub ends : len ≡ length text.now + 1

-- no NUL has come, and the text may go on
abbrev pub GoesOn : ℕ → List ℕ → Type 0
GoesOn most octets = Lacks 0 octets × (length octets ≤ most)

-- more than `most` octets have come without a NUL
pub record IsTooLong (most : ℕ) (octets : List ℕ) : Type 0 where
  pub front : List ℕ
  pub rest : List ℕ
  pub parts : octets ≡ front ++ rest
  pub bare : Lacks 0 front
  pub more : most < length front

abbrev pub ReadsText : ℕ → List ℕ → Read (Bor (List ℕ)) → Type 0
ReadsText most octets (reads.Whole text len) = IsText most octets text len
ReadsText most octets reads.Partial = GoesOn most octets
ReadsText most octets (reads.Refused refusal) = IsTooLong most octets

-- SOCKS 4A: an address 0.0.0.x, with x other than 0, says that a name comes after USERID
abbrev pub is_name_sign : ℕ → Bool
is_name_sign ip = nat_le 1 ip && nat_le ip 255

-- the target of the request whose USERID ends at `after`: the address DSTIP, or the name, of at most 255 octets
abbrev pub IsOldTarget : List ℕ → Target → ℕ → ℕ → Type 0
IsOldTarget octets (targets.Address (V4 n)) after len =
    (n ≡ from_be_bytes w32 (slice_range octets 4 8)) × (is_name_sign n ≡ false) × (len ≡ after)
IsOldTarget octets (targets.Address (V6 n)) after len = ⊥
IsOldTarget octets (targets.Name name) after len =
    (is_name_sign (from_be_bytes w32 (slice_range octets 4 8)) ≡ true)
    × ((count : ℕ) × IsText 255 (drop after octets) name count × (len ≡ after + count))

-- VN, CD, DSTPORT, DSTIP, USERID, NUL, where CD is CONNECT, and USERID has at most 255 octets
pub record IsOldRequest (octets : List ℕ) (request : Request) (len : ℕ) : Type 0 where
  pub version : slice_get octets 0 ≡ Some 4
  pub command : slice_get octets 1 ≡ Some 1
  pub port : request.port ≡ from_be_bytes w16 (slice_range octets 2 4)
  pub user : Bor (List ℕ)
  pub user_len : ℕ
  pub user_is : IsText 255 (drop 8 octets) user user_len
  pub target : IsOldTarget octets request.target (8 + user_len) len
