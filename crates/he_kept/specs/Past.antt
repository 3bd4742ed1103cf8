-- The answers in a table, in terms of those that were kept in its past.
use Rattle.std.specs.Prelude.{ℕ, ◌≡◌, List, Some}
use Rattle.std.specs.List.{Contains}
use Rattle.he_addr.specs.declared.ip.Family.{Family}
use Rattle.he_cache.specs.Keeping.{kept_of}
use Rattle.he_cache.specs.declared.cache.Kept.{Kept}
use Rattle.he_kept.specs.Answers.{IsCopy, Serves}
use Rattle.he_kept.specs.declared.answer.KeptAnswer.{KeptAnswer}
use Rattle.he_kept.specs.declared.table.KeptTable.{KeptTable}

-- all answers in the table were kept
abbrev pub Explains : List KeptAnswer → KeptTable → Type 0
Explains past table =
    (host : List ℕ) → (family : Family) → (kept : Kept KeptAnswer) → kept_of table.cache host family ≡ Some kept
    → Contains past kept.answer

-- the answer was kept, for this family of the host, less than its TTL ago
abbrev pub WasKept : List KeptAnswer → ℕ → List ℕ → Family → KeptAnswer → Type 0
WasKept past now host family answer = Contains past answer × Serves answer now host family

-- the copy of an answer that was kept so: it has that one's addresses, or its reason that there are none
abbrev pub IsOfPast : List KeptAnswer → ℕ → List ℕ → Family → KeptAnswer → Type 0
IsOfPast past now host family copy = (kept : KeptAnswer) × WasKept past now host family kept × IsCopy kept copy
