-- The answers that the race of a connection gets for its host: those of the look-up, with this machine's lines where
-- they come with the answers.
use Rattle.std.specs.Prelude.{◌≡◌, ◌⊎◌, ⊤, Bool, true, false, List, [], Option, Some, None, Ok, Err, is_some, length, map, min, take}
use Rattle.he_addr.specs.declared.ip.Family.{Family}
use Rattle.he_addr.specs.declared.ip.Ip.{Ip}
use Rattle.he_kernel.specs.Ways.{IsMachineTo}
use Rattle.he_kernel.specs.declared.taken.TheConstants.{MOST_DESTINATIONS}
use Rattle.he_turns.specs.Heard.{AnswerLists}
use Rattle.he_resolver.specs.Heard.{IsSound, Tells, Told, origin_of}
use Rattle.he_resolver.specs.declared.lookup.Source.{Source}
use Rattle.he_select.specs.Selection.{nothing_known}
use Rattle.he_setup.specs.declared.source.HostAnswers.{HostAnswers}

-- ---- a poll

-- no addresses and no lines
abbrev pub no_answer : AnswerLists
no_answer = record { known = []; sources = []; routes = [] }

-- the lines for the kernel's answers for the first addresses, if lines come with the answers; otherwise none
abbrev pub HasLines : Bool → List Ip → AnswerLists → Type 0
HasLines true ips answer =
    IsMachineTo (take (min MOST_DESTINATIONS (length ips)) ips)
    (record { sources = answer.sources; routes = answer.routes })
HasLines false ips answer = (answer.sources ≡ []) × (answer.routes ≡ [])

-- the addresses of the look-up, without history, and their lines
abbrev pub IsAnswerOf : Bool → Told → AnswerLists → Type 0
IsAnswerOf brings (Ok ips) answer = (answer.known ≡ map nothing_known ips.items) × HasLines brings ips.items answer
IsAnswerOf brings (Err fault) answer = ⊥

-- such an answer, or none: the look-up found none, or an allocation failed
abbrev pub IsToldOf : Bool → Told → AnswerLists → Type 0
IsToldOf brings told answer = (answer ≡ no_answer) ⊎ IsAnswerOf brings told answer

module _ {R : Type 0} where
  -- the answer for the family is one that the look-up, as it is, may give
  abbrev pub IsOfLookup : Bool → Source R → Family → Option AnswerLists → Type 0
  IsOfLookup brings source family None = ⊤
  IsOfLookup brings source family (Some answer) =
      (told : Told) × Tells source family told × IsToldOf brings told answer

  -- a poll gives the look-up's answer for the family; the origin of the addresses doesn't change
  pub record HearsLookup {F : Type 0} (old : HostAnswers R F) (family : Family) (told : Option AnswerLists)
      (new : HostAnswers R F) : Type 0 where
    pub brings : is_some new.machine ≡ is_some old.machine
    pub origin : origin_of new.lookup.source ≡ origin_of old.lookup.source
    pub sound : IsSound old.lookup.source → IsSound new.lookup.source
    pub tells : IsSound old.lookup.source → IsOfLookup (is_some old.machine) new.lookup.source family told
