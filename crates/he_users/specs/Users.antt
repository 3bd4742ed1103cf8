-- The users of a proxy.
use Rattle.std.specs.Prelude.{ℕ, ◌==◌, ◌&&◌, Bool, false, List, length, Option, Some, None, slice_get}
use Rattle.std.specs.List.{list_any}
use Rattle.std.specs.Str.{bytes_eq}
use Rattle.he_users.specs.declared.users.User.{User}
use Rattle.he_users.specs.declared.users.Users.{Users}

-- its name and its password, octet by octet (RFC 1929 section 2; RFC 7617 section 2)
abbrev pub is_user : List ℕ → List ℕ → User → Bool
is_user name password user = bytes_eq name user.name.items && bytes_eq password user.password.items

-- one of the users has this name and this password
abbrev pub admits : Users → List ℕ → List ℕ → Bool
admits users name password = list_any (is_user name password) users.users.items

-- there are no users: no client needs a password
abbrev pub is_open : Users → Bool
is_open users = length users.users.items == 0

-- the text has this octet at the place
abbrev pub is_octet : ℕ → Option ℕ → Bool
is_octet octet None = false
is_octet octet (Some own) = octet == own

abbrev pub has_octet : List ℕ → ℕ → ℕ → Bool
has_octet text at octet = is_octet octet (slice_get text at)
