-- The answers for a name: each family's addresses, cleaned, and the lines of a timeline that state them.
use Rattle.std.specs.Prelude.{◌≡◌, ◌≢◌, ℕ, ◌+◌, ◌<◌, ◌≤◌, ◌==◌, List, [], ◌∷◌, ◌++◌, Option, Some, None, All, AllPairs, codes, decimal, filter, length, not, take, if◌then◌else◌}
use Rattle.std.specs.List.{flat_map}
use Rattle.he_addr.specs.declared.ip.Family.{Family}
use Rattle.he_addr.specs.declared.ip.Family.TheVariants as families
use Rattle.he_addr.specs.declared.ip.Ip.{Ip}
use Rattle.he_addr.specs.Ip.{family_of, is_of, same_ip}
use Rattle.he_addr.specs.Printing.{printed}

-- each address once, at its first place
abbrev pub each_once : List Ip → List Ip
each_once [] = []
each_once (ip ∷ ips) = ip ∷ filter (λ other. not (same_ip ip other)) (each_once ips)

-- the addresses of the family, each once; of these the first 256, the maximum of a line
abbrev pub cleaned : Family → List Ip → List Ip
cleaned family ips = take 256 (each_once (filter (is_of family) ips))

-- a family's answer: addresses of the family, each once, at most 256
pub record IsAnswer (family : Family) (ips : List Ip) : Type 0 where
  pub own : All (λ ip. family_of ip ≡ family) ips
  pub once : AllPairs (λ ip other. ip ≢ other) ips
  pub few : length ips ≤ 256

-- both families' addresses, with the ticks at which they came
pub record Answers : Type 0 where
  pub v6_tick : ℕ
  pub v6 : List Ip
  pub v4_tick : ℕ
  pub v4 : List Ip

-- the answers of a name that has an address
pub record IsFound (answers : Answers) : Type 0 where
  pub v6 : IsAnswer families.V6 answers.v6
  pub v4 : IsAnswer families.V4 answers.v4
  pub some : 0 < length answers.v6 + length answers.v4

-- a family's answer: its tick and its addresses
abbrev pub answer_of : Family → Answers → ℕ × List Ip
answer_of families.V6 answers = (answers.v6_tick, answers.v6)
answer_of families.V4 answers = (answers.v4_tick, answers.v4)

-- the answers if one has an address; otherwise None
abbrev pub Finds : Answers → Option Answers → Type 0
Finds answers (Some found) = found ≡ answers
Finds answers None = (answers.v6 ≡ []) × (answers.v4 ≡ [])

-- the addresses, each after a space, or `none`
abbrev pub told : List Ip → List ℕ
told ips = if length ips == 0 then codes " none" else flat_map (λ ip. 32 ∷ printed ip) ips

-- WORD TICK ADDRESS.. or WORD TICK none
abbrev pub answer_line : List ℕ → ℕ → List Ip → List ℕ
answer_line word tick ips = ((word ++ 32 ∷ decimal tick) ++ told ips) ++ 10 ∷ []

-- both lines, that of IPv6 first
abbrev pub answers_text : Answers → List ℕ
answers_text answers =
    answer_line (codes "aaaa") answers.v6_tick answers.v6 ++ answer_line (codes "a") answers.v4_tick answers.v4
