-- The Basic scheme of HTTP authentication (RFC 7617).
use Rattle.std.specs.Prelude.{◌≡◌, ℕ, ◌==◌, ◌&&◌, true, List, [], ◌∷◌, ◌++◌, Option, Some, None, codes, drop, length, nat_le, not, position, take, if◌then◌else◌}
use Rattle.std.specs.Option.{option_map_or}
use Rattle.std.specs.Str.{str_eq_ignore_ascii_case}
use Rattle.std.specs.declared.alloc.Global.{Global}
use Rattle.std.specs.declared.vec.Vec.{Vec}
use Rattle.base64.specs.GeneralPurpose.{IsBytes, encode_of}
use Rattle.base64.specs.Engines.{standard}
use Rattle.he_addr.specs.Reading.{cut_in}
use Rattle.he_addr.specs.Text.{Lacks}
use Rattle.he_users.specs.Users.{admits}
use Rattle.he_users.specs.declared.users.Users.{Users}

-- the text from its first octet that is no space
abbrev pub without_spaces : List ℕ → List ℕ
without_spaces text = option_map_or (λ at. drop at text) (position (λ octet. not (octet == 32)) text) []

-- credentials: the scheme Basic, in any case of letters, at least one space, and a token (RFC 9110 sections 11.1 and
-- 11.4)
abbrev pub token_in : List ℕ → Option (List ℕ)
token_in value =
    if nat_le 6 (length value) && str_eq_ignore_ascii_case (take 6 value) (codes "basic ")
    then Some (without_spaces (drop 6 value)) else None

-- RFC 7617 section 2: the Base64 text (RFC 4648 section 4) of the name, a colon and the password; the name has no
-- colon
pub record IsBasic (value name password : List ℕ) : Type 0 where
  pub token : List ℕ
  pub given : token_in value ≡ Some token
  pub encodes : token ≡ encode_of standard (name ++ 58 ∷ password)
  pub bare : Lacks 58 name

-- the credentials are those of the user of this name
pub record AdmitsBasic (users : Users) (value name : List ℕ) : Type 0 where
  pub password : List ℕ
  pub basic : IsBasic value name password
  pub admitted : admits users name password ≡ true

-- the credentials are those of no user
abbrev pub LacksBasic : Users → List ℕ → Type 0
LacksBasic users value =
    (name password : List ℕ) → IsBytes (name ++ 58 ∷ password) → IsBasic value name password
    → admits users name password ≡ true → ⊥

-- the octets, and no others, have this Base64 text
pub record IsTextOf (token pair : List ℕ) : Type 0 where
  pub encodes : token ≡ encode_of standard pair
  pub only : (other : List ℕ) → IsBytes other → token ≡ encode_of standard other → other ≡ pair

-- no octets have this Base64 text
abbrev pub IsTextOfNone : List ℕ → Type 0
IsTextOfNone token = (pair : List ℕ) → IsBytes pair → token ≡ encode_of standard pair → ⊥

-- a name and a password of a user, joined by a colon
abbrev pub IsNamed : Users → List ℕ → Option (Vec ℕ Global) → Type 0
IsNamed users pair (Some name) =
    (password : List ℕ) × (cut_in 58 pair ≡ Some (name.items, password)) × (admits users name.items password ≡ true)
IsNamed users pair None =
    (name password : List ℕ) → cut_in 58 pair ≡ Some (name, password) → admits users name password ≡ true → ⊥
