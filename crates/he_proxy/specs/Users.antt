-- The users of a proxy.
use Rattle.std.specs.Prelude.{◌≡◌, true, false, List, Option, Some, None, ℕ}
use Rattle.std.specs.Borrow.{Bor}
use Rattle.he_users.specs.Users.{is_open}
use Rattle.he_users.specs.declared.users.Users.{Users}

-- without a file every client may use the proxy; with one there are users
abbrev pub IsOfFile : Option (Bor (List ℕ)) → Users → Type 0
IsOfFile None users = is_open users ≡ true
IsOfFile (Some path) users = is_open users ≡ false
