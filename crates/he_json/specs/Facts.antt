-- The facts of a race in its objects, in order: numbers, addresses, and the meaning of words.
use Rattle.std.specs.Prelude.{ℕ, ◌+◌, ◌++◌, Bool, List, [], ◌∷◌, Option, None, Some}
use Rattle.std.specs.Option.{option_map_or}
use Rattle.he_addr.specs.declared.ip.Family.{Family}
use Rattle.he_addr.specs.declared.ip.Family.TheVariants as families
use Rattle.he_plan.specs.declared.transcript.Line.{Line}
use Rattle.he_plan.specs.declared.transcript.Mark.{Mark}
use Rattle.he_plan.specs.declared.transcript.Mark.TheVariants as marks
use Rattle.he_plan.specs.declared.transcript.Outcome3.{Outcome3}
use Rattle.he_plan.specs.declared.transcript.Outcome3.TheVariants as results
use Rattle.he_select.specs.Attributes.{sourced_from}
use Rattle.he_select.specs.declared.attributes.DestinationAttributes.{DestinationAttributes}
use Rattle.he_select.specs.declared.deciding.DestinationRule.{DestinationRule}
use Rattle.he_select.specs.declared.deciding.DestinationRule.TheVariants as rules
use Rattle.he_select.specs.declared.selection.LabelledSource.{LabelledSource}
use Rattle.he_course.specs.declared.addresses.Preferred.{Preferred}
use Rattle.he_course.specs.declared.cause.Cause.{Cause}
use Rattle.he_course.specs.declared.cause.Cause.TheVariants as causes
use Rattle.he_course.specs.declared.events.Event.{Event}
use Rattle.he_course.specs.declared.events.EventKind.{EventKind}
use Rattle.he_course.specs.declared.events.EventKind.TheVariants as kinds
use Rattle.he_course.specs.declared.events.Start.{Start}
use Rattle.he_course.specs.declared.listing.Listed.{Listed}
use Rattle.he_print.specs.declared.part.Fact.{Fact}
use Rattle.he_print.specs.declared.part.Fact.TheVariants as facts
use Rattle.he_json.specs.declared.members.Said.{Said}
use Rattle.he_json.specs.declared.members.Said.TheVariants as says
use Rattle.he_json.specs.Json.{address_or_nothing, number_or_nothing}

abbrev pub said_fact : Said → Fact Said
said_fact said = facts.Said said

abbrev pub number_fact : ℕ → Fact Said
number_fact number = facts.Number number

-- an attempt: its place, its start, its address, its outcome, and the tick of that
abbrev pub end_facts : Said → ℕ → List (Fact Said)
end_facts said tick = said_fact said ∷ number_fact tick ∷ []

abbrev pub mark_facts : Mark → List (Fact Said)
mark_facts (marks.Won tick) = end_facts says.Won tick
mark_facts (marks.Failed tick) = end_facts says.Failed tick
mark_facts (marks.Cancelled tick) = end_facts says.Cancelled tick

abbrev pub attempt_facts : Line → List (Fact Said)
attempt_facts line =
    number_fact line.place ∷ number_fact line.tick ∷ facts.Ip line.ip ∷ mark_facts line.mark

-- the race's end: how it ended, the attempt that won, and the tick
abbrev pub won_facts : ℕ → ℕ → List (Fact Said)
won_facts place tick = said_fact says.Won ∷ number_fact place ∷ number_fact tick ∷ []

abbrev pub result_facts : Outcome3 → List (Fact Said)
result_facts (results.Won place tick) = won_facts place tick
result_facts (results.Exhausted tick) = end_facts says.Exhausted tick
result_facts (results.Limit tick) = end_facts says.Limit tick

-- an address: its place, itself, and the source that the host uses for it
abbrev pub place_facts : ℕ → DestinationAttributes → List (Fact Said)
place_facts place attributes =
    number_fact place ∷ facts.Ip attributes.ip ∷ address_or_nothing (sourced_from attributes).source

-- sorted addresses
abbrev pub placed_facts : ℕ → List DestinationAttributes → List (List (Fact Said))
placed_facts place [] = []
placed_facts place (first ∷ more) = place_facts place first ∷ placed_facts (place + 1) more

-- a value of the address, and another one
abbrev pub values_facts : Option ℕ → Option ℕ → List (Fact Said)
values_facts own other = number_or_nothing own ++ number_or_nothing other

-- a value of its source; 0 if it has none
abbrev pub of_source : (LabelledSource → ℕ) → DestinationAttributes → ℕ
of_source value attributes = option_map_or value attributes.source 0

-- the values that a rule compares: that of the address, and that of the one before or of its own source. Rules 1, 3,
-- 7, 8b and 10 compare none
abbrev pub compared_facts : DestinationRule → DestinationAttributes → DestinationAttributes → List (Fact Said)
compared_facts rules.MatchingScope before own =
    values_facts (Some own.scope) (Some (of_source (λ source. source.scope) own))
compared_facts rules.MatchingLabel before own =
    values_facts (Some own.label) (Some (of_source (λ source. source.label) own))
compared_facts rules.HigherPrecedence before own = values_facts (Some own.precedence) (Some before.precedence)
compared_facts rules.SmallerScope before own = values_facts (Some own.scope) (Some before.scope)
compared_facts rules.LowerRoundTripTime before own = values_facts own.rtt before.rtt
compared_facts rules.LongestPrefix before own = values_facts (Some own.common) (Some before.common)
compared_facts _ before own = []

-- the rule that sorts it after the one before, by its number and its name, and the values that the rule compares
abbrev pub reason_facts : Option DestinationRule → Option DestinationAttributes → DestinationAttributes
    → List (Fact Said)
reason_facts None before own = []
reason_facts (Some rule) None own = []
reason_facts (Some rule) (Some before) own =
    said_fact (says.Rule rule) ∷ said_fact (says.Rule rule) ∷ compared_facts rule before own

-- sorted addresses, given the one before them
abbrev pub preferred_facts : ℕ → Option DestinationAttributes → List Preferred → List (List (Fact Said))
preferred_facts place before [] = []
preferred_facts place before (first ∷ more) =
    (place_facts place first.attributes ++ reason_facts first.rule before first.attributes)
    ∷ preferred_facts (place + 1) (Some first.attributes) more

-- the delay of a cause, and the attempt after whose start it is
abbrev pub delay_facts : ℕ → ℕ → List (Fact Said)
delay_facts delay place = number_fact delay ∷ number_fact place ∷ []

abbrev pub delay_of : Cause → List (Fact Said)
delay_of (causes.AttemptDelay place delay) = delay_facts delay place
delay_of (causes.Floor place floor) = delay_facts floor place
delay_of _ = []

abbrev pub cause_facts : Cause → List (Fact Said)
cause_facts cause = said_fact (says.Cause cause) ∷ delay_of cause

-- whether a pause held the attempt back; the place of its address in the interlaced list, the length of that list,
-- and whose turn it was there
abbrev pub listed_facts : Bool → Listed → List (Fact Said)
listed_facts held listed =
    said_fact (says.Truth held) ∷ number_fact listed.place ∷ number_fact listed.count
    ∷ said_fact (says.Turn listed.turn) ∷ []

abbrev pub of_attempt_facts : Said → ℕ → List (Fact Said)
of_attempt_facts said place = said_fact said ∷ number_fact place ∷ []

abbrev pub start_facts : Start → List (Fact Said)
start_facts start =
    of_attempt_facts says.Started start.place
    ++ (facts.Ip start.ip ∷ (cause_facts start.cause ++ listed_facts start.held start.listed))

abbrev pub answered_facts : Family → ℕ → List (Fact Said)
answered_facts family usable = said_fact says.Answered ∷ said_fact (says.Family family) ∷ number_fact usable ∷ []

abbrev pub waits_facts : ℕ → List (Fact Said)
waits_facts until = said_fact says.Waits ∷ said_fact (says.Family families.V6) ∷ number_fact until ∷ []

abbrev pub kind_facts : EventKind → List (Fact Said)
kind_facts (kinds.Paused until) = said_fact says.Paused ∷ number_fact until ∷ []
kind_facts (kinds.Answered family usable) = answered_facts family usable
kind_facts (kinds.Waits until) = waits_facts until
kind_facts kinds.DelayOver = said_fact says.DelayOver ∷ []
kind_facts (kinds.Failed place) = of_attempt_facts says.Failed place
kind_facts (kinds.Started start) = start_facts start
kind_facts (kinds.Won place) = of_attempt_facts says.Won place
kind_facts kinds.Exhausted = said_fact says.Exhausted ∷ []
kind_facts kinds.Limit = said_fact says.Limit ∷ []
kind_facts (kinds.Cancelled place) = of_attempt_facts says.Cancelled place

-- an event: its tick, and its kind
abbrev pub event_facts : Event → List (Fact Said)
event_facts event = number_fact event.tick ∷ kind_facts event.kind
