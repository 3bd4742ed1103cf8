-- The groups that the fast reader of IPv6 texts finds on one side of `::`. Only the proof of that reader uses them;
-- no public contract does.
use Rattle.std.specs.Prelude.{◌≡◌, ℕ, ◌*◌, ◌^◌, ◌<◌, ◌≤◌, Bool, List, ◌++◌, length}
use Rattle.std.specs.Int.Digits.{number_from_digits}
use Rattle.std.specs.Net.Grammar.{IsGroup, IsGroups}

-- the text begins with a group of this value; `rest` follows
pub record IsFront (text rest : List ℕ) (value : ℕ) : Type 0 where
  pub group : List ℕ
  pub parts : text ≡ group ++ rest
  pub is : IsGroup group value
  pub fits : value < 65536

-- the text begins with `count` groups joined by colons, with this number; `rest` follows
pub record IsSide (text rest : List ℕ) (number count : ℕ) : Type 0 where
  pub front : List ℕ
  pub groups : List ℕ
  pub parts : text ≡ front ++ rest
  pub spelled : (ipv4 : Bool) → IsGroups ipv4 front groups
  pub number_is : number ≡ number_from_digits 65536 groups
  pub count_is : count ≡ length groups
  pub few : count ≤ 8
  pub small : number < 2 ^ (16 * count)
