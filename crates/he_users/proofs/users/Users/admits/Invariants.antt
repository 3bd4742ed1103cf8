use Rattle.std.proofs.Common.{◌≡◌, ◌||◌, drop}
use Rattle.std.specs.List.{list_any}
use Rattle.he_users.specs.Users.{is_user}
use Rattle.he_users.proofs.users.Users.admits.Given as goal

-- one was found, or one of those from here is the user
abbrev pub invariant-loop-user : goal.invariant-loop-user
invariant-loop-user l = (l.is_admitted || list_any (is_user l.name l.password) (drop l.user-index l.self.users.items)) ≡ list_any (is_user l.name l.password) l.self.users.items
