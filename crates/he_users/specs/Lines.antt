-- The file of users.
use Rattle.std.specs.Prelude.{◌≡◌, ℕ, ⊤, ◌+◌, ◌==◌, ◌&&◌, ◌||◌, Bool, true, List, [], ◌∷◌, ◌++◌, Option, Some, None, length, map, nat_le, nat_lt, if◌then◌else◌}
use Rattle.std.specs.Borrow.{Bor}
use Rattle.std.specs.List.{filter_map, list_any, slice_split}
use Rattle.he_addr.specs.Reading.{cut_in}
use Rattle.he_users.specs.declared.fault.LineFault.{LineFault}
use Rattle.he_users.specs.declared.fault.LineFault.TheVariants as faults
use Rattle.he_users.specs.declared.fault.UsersFault.{UsersFault}
use Rattle.he_users.specs.declared.fault.UsersFault.TheVariants as reasons
use Rattle.he_users.specs.declared.lines.Line.{Line}
use Rattle.he_users.specs.declared.lines.Line.TheVariants as lines
use Rattle.he_users.specs.declared.users.User.{User}
use Rattle.he_users.specs.declared.users.Users.{Users}

-- the texts that references point to
abbrev pub texts : List (Bor (List ℕ)) → List (List ℕ)
texts references = map (λ reference. reference.now) references

-- the lines, separated by line feeds
abbrev pub lines_of : List ℕ → List (List ℕ)
lines_of text = slice_split (λ octet. octet == 10) text

-- an empty line, or a comment, which begins with a number sign
abbrev pub is_skipped : List ℕ → Bool
is_skipped [] = true
is_skipped (first ∷ rest) = first == 35

-- CTL (RFC 5234 appendix B.1), which neither a name nor a password has (RFC 7617 section 2)
abbrev pub is_control : ℕ → Bool
is_control octet = nat_lt octet 32 || octet == 127

-- 1 to 255 octets (RFC 1929 section 2)
abbrev pub has_length : List ℕ → Bool
has_length text = nat_le 1 (length text) && nat_le (length text) 255

-- the fault of a line with this name and password
abbrev pub fault_of : List ℕ → List ℕ → List ℕ → Option LineFault
fault_of line name password =
    if has_length name && has_length password
    then (if list_any is_control line then Some faults.Control else None)
    else Some faults.Length

-- the line has a name, a colon and a password, where the name has no colon (RFC 7617 section 2)
abbrev pub fault_by : List ℕ → Option (List ℕ × List ℕ) → Option LineFault
fault_by line None = Some faults.NoColon
fault_by line (Some parts) = fault_of line parts.0 parts.1

-- the user of a line; and why a line is wrong
abbrev pub user_in : List ℕ → Option (List ℕ × List ℕ)
user_in line = if is_skipped line then None else cut_in 58 line

abbrev pub fault_in : List ℕ → Option LineFault
fault_in line = if is_skipped line then None else fault_by line (cut_in 58 line)

abbrev pub IsLine : List ℕ → Line → Type 0
IsLine line lines.Skipped = (user_in line ≡ None) × (fault_in line ≡ None)
IsLine line (lines.User name password) = (user_in line ≡ Some (name.now, password.now)) × (fault_in line ≡ None)
IsLine line (lines.Wrong fault) = fault_in line ≡ Some fault

-- the names and passwords of the users
abbrev pub pairs : List User → List (List ℕ × List ℕ)
pairs users = map (λ user. (user.name.items, user.password.items)) users

-- no line is wrong, and these are their users, in order
abbrev pub AreRead : List (List ℕ) → Users → Type 0
AreRead lines users = (filter_map fault_in lines ≡ []) × (pairs users.users.items ≡ filter_map user_in lines)

-- the first wrong line, by its number
pub record IsFirstWrong (lines : List (List ℕ)) (number : ℕ) (fault : LineFault) : Type 0 where
  pub before : List (List ℕ)
  pub line : List ℕ
  pub after : List (List ℕ)
  pub parts : lines ≡ before ++ line ∷ after
  pub right : filter_map fault_in before ≡ []
  pub wrong : fault_in line ≡ Some fault
  pub counted : number ≡ length before + 1

abbrev pub IsFirstFault : List (List ℕ) → UsersFault → Type 0
IsFirstFault lines (reasons.Line number fault) = IsFirstWrong lines number fault
IsFirstFault lines reasons.NoUser = (filter_map fault_in lines ≡ []) × (filter_map user_in lines ≡ [])
IsFirstFault lines reasons.Memory = ⊤
