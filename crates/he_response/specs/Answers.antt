-- How far a response has come: the octets that came from the server, and those that the client gets.
use Rattle.std.specs.Prelude.{◌≡◌, ℕ, Bool, true, false, List, [], ◌++◌, Option, Some, None, drop, length, take}
use Rattle.he_body.specs.Bodies.{IsBody}
use Rattle.he_body.specs.Steps.{Counts, begun}
use Rattle.he_body.specs.declared.body.Body.{Body}
use Rattle.he_body.specs.declared.body.Body.TheVariants.{Over}
use Rattle.he_body.specs.declared.body.Framing.{Framing}
use Rattle.he_bounded.specs.Goes.{Goes, IsInBody}
use Rattle.he_response.specs.Responses.{Reads}
use Rattle.he_response.specs.declared.answer.Answer.{Answer}
use Rattle.he_response.specs.declared.part.Part.{Part}
use Rattle.he_response.specs.declared.part.Part.TheVariants as parts
use Rattle.he_response.specs.declared.response.ReadResponse.TheVariants.{Whole}
use Rattle.he_response.specs.declared.response.Response.{Response}

-- the octets for the client that are not given yet
abbrev pub held : Answer → List ℕ
held answer = drop answer.given answer.out.items

-- heads of interim responses (RFC 9110 section 15.2) that came, one after the other, and those that go on for them
pub data AreInterim (to_head : Bool) : List ℕ → List ℕ → Type 0 where
  no_more : AreInterim to_head [] []
  one_more : (came gave octets : List ℕ) (response : Response) → AreInterim to_head came gave
      → Reads to_head octets (Whole response) → response.is_final ≡ false
      → AreInterim to_head (came ++ take response.len octets) (gave ++ response.head.items)

-- the head of a final response that came, whose body is framed like this, and the head that goes on for it
pub record IsFinal (to_head : Bool) (framing : Option Framing) (came gave : List ℕ) : Type 0 where
  pub octets : List ℕ
  pub response : Response
  pub reads : Reads to_head octets (Whole response)
  pub final : response.is_final ≡ true
  pub framed : response.framing ≡ framing
  pub came_is : came ≡ take response.len octets
  pub gave_is : gave ≡ response.head.items

-- a final head, and octets after it, of which the first ones go on, as far as the body has come, and the rest is
-- dropped
pub record IsInCounted (to_head : Bool) (body : Body) (came gave : List ℕ) : Type 0 where
  pub framing : Framing
  pub head : List ℕ
  pub text : List ℕ
  pub final : IsFinal to_head (Some framing) head text
  pub passed : List ℕ
  pub dropped : List ℕ
  pub goes : Goes (begun framing) passed dropped body
  pub came_is : came ≡ head ++ (passed ++ dropped)
  pub gave_is : gave ≡ text ++ passed

-- a final head, and the octets after it, which go on to the end of the connection
pub record IsInRest (to_head : Bool) (came gave : List ℕ) : Type 0 where
  pub head : List ℕ
  pub text : List ℕ
  pub final : IsFinal to_head None head text
  pub passed : List ℕ
  pub came_is : came ≡ head ++ passed
  pub gave_is : gave ≡ text ++ passed

-- after the interim responses these octets came, and those go on: of a head none before it is whole, of the final
-- response as far as it has come, and none of what is no response
abbrev pub Follows : Bool → Part → List ℕ → List ℕ → List ℕ → Type 0
Follows to_head parts.Head come came gave = (came ≡ come) × (gave ≡ [])
Follows to_head (parts.Body body) come came gave = IsInCounted to_head body came gave
Follows to_head parts.Rest come came gave = IsInRest to_head came gave
Follows to_head parts.Broken come came gave = gave ≡ []

-- Since the request was sent, which is HEAD or not, these octets came from the server and those were given for the
-- client: with the octets held for it they are the interim responses in their new form, and what follows them.
pub record Stands (to_head : Bool) (came gave : List ℕ) (answer : Answer) : Type 0 where
  pub asked : answer.to_head ≡ to_head
  pub interim_came : List ℕ
  pub interim_gave : List ℕ
  pub interim : AreInterim to_head interim_came interim_gave
  pub rest : List ℕ
  pub text : List ℕ
  pub follows : Follows to_head answer.part answer.come.items rest text
  pub came_is : came ≡ interim_came ++ rest
  pub gave_is : gave ++ held answer ≡ interim_gave ++ text

-- these octets came then, and those were given
abbrev pub GoesOn : List ℕ → List ℕ → Answer → Answer → Type 0
GoesOn more given old new =
    (to_head : Bool) (came gave : List ℕ) → Stands to_head came gave old → Stands to_head (came ++ more) (gave ++ given) new

-- the body that begins, and how many of these octets, which have come, are of it
abbrev pub IsBegun : Option Framing → List ℕ → Part → ℕ → Type 0
IsBegun None rest part count = (part ≡ parts.Rest) × (count ≡ length rest)
IsBegun (Some framing) rest part count =
    (body : Body) × (part ≡ parts.Body body) × Counts (begun framing) rest body count

-- a response whose body has an end was given, and nothing is left of it
abbrev pub IsOver : Answer → Type 0
IsOver answer = (answer.part ≡ parts.Body Over) × (held answer ≡ [])

-- of what came, the interim responses, the final head and a body by its framing were given in their new form
pub record IsWhole (to_head : Bool) (came gave : List ℕ) : Type 0 where
  pub interim_came : List ℕ
  pub interim_gave : List ℕ
  pub interim : AreInterim to_head interim_came interim_gave
  pub framing : Framing
  pub head : List ℕ
  pub text : List ℕ
  pub final : IsFinal to_head (Some framing) head text
  pub body : List ℕ
  pub is_body : IsBody framing body
  pub dropped : List ℕ
  pub came_is : came ≡ interim_came ++ (head ++ (body ++ dropped))
  pub gave_is : gave ≡ interim_gave ++ (text ++ body)

-- where it is over, what was given is whole
abbrev pub EndsWhole : Type 0
EndsWhole =
    (to_head : Bool) (came gave : List ℕ) (answer : Answer) → Stands to_head came gave answer → IsOver answer
    → IsWhole to_head came gave

-- whatever the server sends after the body, none of it goes on
abbrev pub NothingAfterTheBody : Type 0
NothingAfterTheBody =
    (to_head : Bool) (body : Body) (came gave : List ℕ) (is : IsInCounted to_head body came gave)
    → IsInBody is.framing is.passed is.dropped
