-- The octets that went over a connection.
use Rattle.std.specs.Prelude.{◌≡◌, ℕ, ⊤, List, [], ◌++◌}
use Rattle.futures.specs.declared.task.Poll.{Poll}
use Rattle.futures.specs.declared.task.Poll.TheVariants.{Ready, Pending}
use Rattle.tokio.specs.Io.Moved.{Passes}
use Rattle.he_sessions.specs.declared.hearing.Heard.{Heard}
use Rattle.he_sessions.specs.declared.hearing.Heard.TheVariants as heards

-- Since the connection was `first`, reads of it gave these octets and writes took those, and nothing else was done
-- with it: it is still that connection, and no other octet went over it.
pub data Went {S : Type 0} (reads writes : Passes S) (first : S) : List ℕ → List ℕ → S → Type 0 where
  nothing : Went reads writes first [] [] first
  read : (got put more : List ℕ) (old new : S) → Went reads writes first got put old → reads old more new
      → Went reads writes first (got ++ more) put new
  wrote : (got put more : List ℕ) (old new : S) → Went reads writes first got put old → writes old more new
      → Went reads writes first got (put ++ more) new

-- a read gave some octets or none, appended to those that had come
abbrev pub Hears : {S : Type 0} → Passes S → S → S → List ℕ → List ℕ → Type 0
Hears reads old new come more = (octets : List ℕ) × reads old octets new × (more ≡ come ++ octets)

-- nothing was written, as when the direction to the remote is shut down, and then a read gave some octets or none
abbrev pub Lingers : {S : Type 0} → Passes S → Passes S → S → S → Type 0
Lingers {S} reads writes old new =
    (between : S) × writes old [] between × ((octets : List ℕ) × reads between octets new)

-- the claim about a read holds, unless there was no memory for its octets
abbrev pub UnlessNoMemory : Poll Heard → Type 0 → Type 0
UnlessNoMemory Pending P = P
UnlessNoMemory (Ready heards.Octets) P = P
UnlessNoMemory (Ready heards.End) P = P
UnlessNoMemory (Ready heards.Broken) P = P
UnlessNoMemory (Ready heards.NoMemory) P = ⊤
