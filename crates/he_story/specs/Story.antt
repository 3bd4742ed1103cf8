-- The story of a race, for a person to read.
use Rattle.std.specs.Prelude.{ℕ, ◌≡◌, ◌-◌, ◌==◌, ◌++◌, if◌then◌else◌, Bool, true, false, List, [], ◌∷◌, find, nat_lt, Option, Some, None, option_map}
use Rattle.std.specs.Borrow.{Bor}
use Rattle.std.specs.List.{flat_map}
use Rattle.he_addr.specs.declared.ip.Family.{Family}
use Rattle.he_addr.specs.declared.ip.Family.TheVariants as families
use Rattle.he_addr.specs.declared.ip.Ip.{Ip}
use Rattle.he_timeline.specs.Timeline.{is_of}
use Rattle.he_timeline.specs.declared.limits.TheConstants.{MIN_FLOOR}
use Rattle.he_plan.specs.declared.transcript.Line.{Line}
use Rattle.he_plan.specs.declared.transcript.Outcome3.{Outcome3}
use Rattle.he_plan.specs.declared.transcript.Outcome3.TheVariants as results
use Rattle.he_course.specs.Course.{answer_of}
use Rattle.he_course.specs.Events.{end_event}
use Rattle.he_course.specs.declared.course.Course.{Course}
use Rattle.he_course.specs.declared.course.Seen.{Seen}
use Rattle.he_course.specs.declared.floor.Ended.{Ended}
use Rattle.he_print.specs.Parts.{States}
use Rattle.he_print.specs.declared.part.Fact.{Fact}
use Rattle.he_print.specs.declared.part.Fact.TheVariants as facts
use Rattle.he_record.specs.Given.{at_given, end_given, from_given, to_given}
use Rattle.he_record.specs.Said.{Said as RecordSaid}
use Rattle.he_story.specs.Lines.{happening_facts, preferred_facts}
use Rattle.he_story.specs.Lost.{verdict_facts}
use Rattle.he_story.specs.Why.{ended_with}
use Rattle.he_story.specs.Recorded.{byte_facts, client_facts, named_facts, note_facts, say, unseen_reason, why_facts}
use Rattle.he_statements.specs.declared.said.Said.{Said}
use Rattle.he_statements.specs.declared.said.Said.TheVariants as says

-- how a race ended
abbrev pub ended_by : Option Line → ℕ → Outcome3 → List (Fact Said)
ended_by None attempts (results.Won place tick) = []
ended_by (Some line) attempts (results.Won place tick) = say says.Connected (facts.Ip line.ip ∷ facts.Number tick ∷ [])
ended_by winner attempts (results.Exhausted tick) =
    say says.NothingLeft (facts.Number tick ∷ facts.Number attempts ∷ [])
ended_by winner attempts (results.Limit tick) = say says.LimitReached (facts.Number tick ∷ facts.Number attempts ∷ [])

abbrev pub ending_facts : Ended → List (Fact Said)
ending_facts ended = ended_by ended.winner ended.attempts ended.result

-- the record says for whom, where or when the race was recorded
abbrev pub is_named_by : {X Y Z : Type 0} → Option X → Option Y → Option Z → Bool
is_named_by None None None = false
is_named_by _ _ _ = true

abbrev pub is_named : List RecordSaid → Bool
is_named said = is_named_by (to_given said) (from_given said) (at_given said)

-- the name of a race's file, if it has one
abbrev pub name_of : Option (Bor (List ℕ)) → Option (List ℕ)
name_of file = option_map (λ name. name.now) file

abbrev pub file_facts : List ℕ → List (Fact Said)
file_facts name = say says.File (byte_facts name)

-- the number of the race in its input, and its first line
abbrev pub number_facts : ℕ → ℕ → List (Fact Said)
number_facts number line = say says.Race (facts.Number number ∷ facts.Number line ∷ [])

-- the place of a race: its file, if it has one, its number and its line. A race without a file whose record names it
-- is known by these names alone
abbrev pub place_facts : Bool → Option (List ℕ) → ℕ → ℕ → List (Fact Said)
place_facts true None number line = []
place_facts false None number line = number_facts number line
place_facts named (Some name) number line = file_facts name ++ number_facts number line

-- the recorded client's own result, and how the race ended
abbrev pub result_facts : {A : Type 0} → List RecordSaid → Course A → List (Fact Said)
result_facts said course =
    client_facts (end_given said)
    ++ ended_with said course.transcript.lines course.ended.winner course.ended.result

-- and before that its number and its line
abbrev pub outcome_facts : {A : Type 0} → List RecordSaid → Course A → List (Fact Said)
outcome_facts said course = place_facts false None course.number course.line ++ result_facts said course

-- or its record's host, client and time, and its place, in the file of this name, if there is one
abbrev pub race_facts : {A : Type 0} → List RecordSaid → Option (List ℕ) → Course A → List (Fact Said)
race_facts said file course =
    named_facts said ++ (place_facts (is_named said) file course.number course.line ++ result_facts said course)

-- the first attempt at an address of the family
abbrev pub first_of : Family → List Line → Option Line
first_of family lines = find (λ line. is_of family line.ip) lines

-- how long an answer, seen at this tick, waited for the first attempt at one of its addresses
abbrev pub gap_facts : Family → ℕ → Option Line → List (Fact Said)
gap_facts family seen None = say (says.Untried family) []
gap_facts family seen (Some line) =
    if nat_lt seen line.tick then say (says.Passed family) (facts.Number (line.tick - seen) ∷ []) else []

-- an answer, in a race that ended at `end`
abbrev pub seen_facts : Family → ℕ → List Line → Seen → List (Fact Said)
seen_facts family end lines seen =
    if nat_lt end seen.tick then say (says.AfterEnd family) (facts.Number seen.tick ∷ [])
    else if seen.usable == 0 then []
    else gap_facts family seen.tick (first_of family lines)

abbrev pub answered_by : ℕ → List Line → Family → Option Seen → List (Fact Said)
answered_by end lines family None = say (says.NoAnswer family) []
answered_by end lines family (Some seen) = seen_facts family end lines seen

-- how the race would have ended with the least floor
abbrev pub sooner_facts : Option Ended → List (Fact Said)
sooner_facts None = []
sooner_facts (Some ended) = say says.WithFloor (facts.Number MIN_FLOOR ∷ []) ++ ending_facts ended

module _ {A : Type 0} (said : List RecordSaid) (course : Course A) where
  abbrev pub answer_facts : Family → List (Fact Said)
  answer_facts family =
      answered_by (end_event course.transcript.result).tick course.transcript.lines family (answer_of course family)
      ++ why_facts (unseen_reason said (end_event course.transcript.result).tick family (answer_of course family))

  -- the answers that the race did not have, and those whose addresses had to wait; the name servers that were given
  -- up, and the addresses that no client tried
  abbrev pub closing_facts : List (Fact Said)
  closing_facts = answer_facts families.V6 ++ (answer_facts families.V4 ++ flat_map note_facts said)

-- the race, how it ended, the time that it lost, and where its time went
abbrev pub heading_facts : {A : Type 0} → List RecordSaid → Option (List ℕ) → Course A → List (Fact Said)
heading_facts said file course = race_facts said file course ++ verdict_facts said course

-- the story of a race in the file of this name, if it has one
abbrev pub story_facts : {A : Type 0} → List RecordSaid → Option (List ℕ) → Course A → List (Fact Said)
story_facts said file course =
    heading_facts said file course
    ++ (preferred_facts said course.addresses.items
    ++ (happening_facts said course ++ (closing_facts said course ++ (sooner_facts course.sooner ++ say says.End []))))

-- a text that states these facts has been appended
abbrev pub Tells : {A : Type 0} → List RecordSaid → Option (List ℕ) → Course A → List ℕ → List ℕ → Type 0
Tells said file course old new = (text : List ℕ) × States (story_facts said file course) text × (new ≡ old ++ text)
