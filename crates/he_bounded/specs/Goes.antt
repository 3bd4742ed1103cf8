-- What goes on of the octets that a client sends after the head of its request.
use Rattle.std.specs.Prelude.{◌≡◌, ◌≢◌, ◌⊎◌, ◌≤◌, ℕ, Bool, true, false, List, [], ◌++◌, length}
use Rattle.he_body.specs.declared.body.Body.{Body}
use Rattle.he_body.specs.declared.body.Body.TheVariants.{Broken}
use Rattle.he_body.specs.declared.body.Framing.{Framing}
use Rattle.he_body.specs.Bodies.{IsBody}
use Rattle.he_body.specs.Steps.{Came, after, begun, is_open}

-- The first octets go on, and the rest is dropped: those that go on are counted and none is past the end, and if any
-- is dropped, the body is over or broken, after which none goes on.
pub record Goes (old : Body) (xs dropped : List ℕ) (new : Body) : Type 0 where
  pub counted : (new ≡ after old xs) ⊎ (new ≡ Broken)
  pub sound : old ≢ Broken → after old xs ≢ Broken
  pub kept : (dropped ≡ []) ⊎ (is_open new ≡ false)
  pub shut : is_open old ≡ false → (xs ≡ []) × (is_open new ≡ false)

-- whatever came before the client was bounded, and whatever it has sent since: none that goes on is past the end of
-- its body
abbrev pub StaysWithin : Body → Type 0
StaysWithin new =
    (framing : Framing) (early xs dropped body rest : List ℕ) (old : Body) → Came framing early old → old ≢ Broken
    → Goes old xs dropped new → IsBody framing body → early ++ (xs ++ dropped) ≡ body ++ rest
    → length (early ++ xs) ≤ length body

-- once it is over, what went on is a body and no less
abbrev pub EndsWhole : Body → Bool → Type 0
EndsWhole new over =
    (framing : Framing) (early xs dropped : List ℕ) (old : Body) → Came framing early old → Goes old xs dropped new
    → over ≡ true → IsBody framing (early ++ xs)

-- if a client has sent a body and anything after it, what went on is a front of that body
abbrev pub IsInBody : Framing → List ℕ → List ℕ → Type 0
IsInBody framing xs dropped =
    (body rest : List ℕ) → IsBody framing body → xs ++ dropped ≡ body ++ rest → (more : List ℕ) × (body ≡ xs ++ more)

-- for all that a client has sent since the head of its request
abbrev pub NothingAfterTheBody : Type 0
NothingAfterTheBody =
    (framing : Framing) (xs dropped : List ℕ) (new : Body) → Goes (begun framing) xs dropped new
    → IsInBody framing xs dropped
