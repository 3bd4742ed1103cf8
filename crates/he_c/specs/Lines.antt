-- The lines of a record that the library writes: those that the writer of timelines writes for the same values.
use Rattle.std.specs.Prelude.{ℕ, ◌≡◌, ◌-◌, ◌++◌, false, not, if◌then◌else◌, List, [], ◌∷◌, codes, eqb, max, Option, Some, None}
use Rattle.he_addr.specs.declared.ip.Family.{Family}
use Rattle.he_addr.specs.declared.ip.Family.TheVariants as families
use Rattle.he_addr.specs.declared.ip.Ip.{Ip}
use Rattle.he_addr.specs.Ip.{mapped_of}
use Rattle.he_select.specs.declared.host.Route.{Route}
use Rattle.he_select.specs.declared.host.Source.{Source}
use Rattle.he_timeline.specs.declared.outcome.Outcome.{Outcome}
use Rattle.he_timeline.specs.declared.outcome.Outcome.TheVariants as outcomes
use Rattle.he_write.specs.Written.{outcome_text, pause_text, reply_text}
use Rattle.he_c.specs.Addresses.{AreAddresses, address_of, family_in}
use Rattle.he_c.specs.Answers.{Leaves}
use Rattle.he_c.specs.declared.answer.CallDetails.{CallDetails}
use Rattle.he_c.specs.declared.codes.TheConstants.{ADDRESS}
use Rattle.he_c.specs.declared.step.StepNumbers.{StepNumbers}
use Rattle.he_c.specs.declared.way.WayNumbers.{WayNumbers}

-- the line of a step's pause; no line if it has none
abbrev pub pause_line : StepNumbers → List ℕ
pause_line step = if eqb step.pause_until 0 then [] else pause_text (step.pause_from, step.pause_until)

-- the outcome of an attempt that ended at the tick; one that ended in the tick of its start took one tick
abbrev pub outcome_of : ℕ → ℕ → ℕ → Outcome
outcome_of connected start tick =
    if eqb connected 0 then outcomes.Fail (max (tick - start) 1) else outcomes.Ok (max (tick - start) 1)

-- the line of the end of the attempt that this step started
abbrev pub connect_line : StepNumbers → ℕ → ℕ → List ℕ
connect_line start connected tick =
    outcome_text (address_of start.family start.address, outcome_of connected start.tick tick)

-- the word of such an outcome, between spaces
abbrev pub mark_between : ℕ → List ℕ
mark_between connected = if eqb connected 0 then codes " fail " else codes " ok "

-- the source of a way
abbrev pub source_of : WayNumbers → Source
source_of way = record {
  ip = address_of way.family way.source;
  plen = way.prefix_length;
  interface = way.interface;
  deprecated = not (eqb way.deprecated 0);
  temporary = false;
}

-- the route of a way, to its destination alone
abbrev pub route_of : WayNumbers → Route
route_of way = record {
  prefix = record { bits = mapped_of (address_of way.family way.destination); len = 128 };
  interface = way.interface;
  tunnel = not (eqb way.tunnel 0);
}

-- the word of a family's answer
abbrev pub word_of : Family → List ℕ
word_of families.V4 = codes "a"
word_of families.V6 = codes "aaaa"

-- the number is a family's, and the bytes are those of addresses of it
abbrev pub IsAnswer : ℕ → List ℕ → Family → List Ip → Type 0
IsAnswer number bytes family ips = (family_in number ≡ Some family) × AreAddresses family bytes ips

-- the line of such an answer
abbrev pub IsAnswerLine : ℕ → List ℕ → ℕ → List ℕ → Type 0
IsAnswerLine number bytes tick line =
    (family : Family) × (ips : List Ip) × IsAnswer number bytes family ips × (line ≡ reply_text (word_of family) tick ips)

-- there is no such answer
abbrev pub HasNoAnswer : ℕ → List ℕ → Type 0
HasNoAnswer number bytes = (family : Family) (ips : List Ip) → IsAnswer number bytes family ips → ⊥

-- the line of such an answer was written, all of it or nothing
pub record LeavesAnswer (number : ℕ) (bytes : List ℕ) (tick : ℕ) (old new : List ℕ) (details : CallDetails)
    (answer : ℕ) : Type 0 where
  pub line : List ℕ
  pub is : IsAnswerLine number bytes tick line
  pub left : Leaves line None old new details answer

-- the buffer is unchanged, and the fault is one of an address
pub record LeavesNoAnswer (number : ℕ) (bytes old new : List ℕ) (details : CallDetails) : Type 0 where
  pub none : HasNoAnswer number bytes
  pub same : new ≡ old
  pub tells : details ≡ record { length = 0; line = 0; kind = ADDRESS }
