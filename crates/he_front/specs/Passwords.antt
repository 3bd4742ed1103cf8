-- The names and passwords of SOCKS 5 clients (RFC 1929), by places in a list of octets.
use Rattle.std.specs.Prelude.{◌≡◌, ℕ, ◌+◌, ◌≤◌, List, length, Some, slice_get, slice_range}
use Rattle.he_front.specs.declared.passwords.Credentials.{Credentials}

-- section 2: VER, ULEN, UNAME, PLEN, PASSWD, where PLEN is at place `after`
pub record IsPassword (octets : List ℕ) (given : Credentials) (len : ℕ) : Type 0 where
  pub version : slice_get octets 0 ≡ Some 1
  pub name_len : slice_get octets 1 ≡ Some (length given.name.now)
  pub after : ℕ
  pub name_ends : after ≡ 2 + length given.name.now
  pub name : given.name.now ≡ slice_range octets 2 after
  pub password_len : slice_get octets after ≡ Some (length given.password.now)
  pub password : given.password.now ≡ slice_range octets (after + 1) len
  pub ends : len ≡ after + 1 + length given.password.now
  pub whole : len ≤ length octets
