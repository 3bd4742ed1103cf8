-- The lines of a story: a race's addresses in order of preference, and its events.
use Rattle.std.specs.Prelude.{ℕ, ◌+◌, ◌-◌, ◌==◌, ◌&&◌, ◌++◌, if◌then◌else◌, Bool, true, false, List, [], ◌∷◌, filter, find, nat_le, nat_lt, option_map, slice_get, Option, Some, None}
use Rattle.std.specs.List.{flat_map}
use Rattle.std.specs.Option.{option_map_or}
use Rattle.he_addr.specs.declared.ip.Family.{Family}
use Rattle.he_addr.specs.declared.ip.Family.TheVariants as families
use Rattle.he_addr.specs.declared.ip.Ip.{Ip}
use Rattle.he_addr.specs.Prefix.{PrefixBits}
use Rattle.he_plan.specs.declared.transcript.Line.{Line}
use Rattle.he_select.specs.declared.attributes.DestinationAttributes.{DestinationAttributes}
use Rattle.he_select.specs.declared.deciding.DestinationRule.{DestinationRule}
use Rattle.he_select.specs.declared.deciding.DestinationRule.TheVariants as rules
use Rattle.he_select.specs.declared.selection.LabelledSource.{LabelledSource}
use Rattle.he_course.specs.Course.{answer_of}
use Rattle.he_course.specs.declared.addresses.Preferred.{Preferred}
use Rattle.he_course.specs.declared.cause.Cause.{Cause}
use Rattle.he_course.specs.declared.cause.Cause.TheVariants as causes
use Rattle.he_course.specs.declared.course.Course.{Course}
use Rattle.he_course.specs.declared.course.Seen.{Seen}
use Rattle.he_course.specs.declared.events.Event.{Event}
use Rattle.he_course.specs.declared.events.EventKind.{EventKind}
use Rattle.he_course.specs.declared.events.EventKind.TheVariants as kinds
use Rattle.he_course.specs.declared.events.Start.{Start}
use Rattle.he_course.specs.declared.listing.Listed.{Listed}
use Rattle.he_print.specs.Parts.{fact_of}
use Rattle.he_print.specs.declared.part.Fact.{Fact}
use Rattle.he_print.specs.declared.part.Fact.TheVariants as facts
use Rattle.he_record.specs.declared.reasons.LookupReason.{LookupReason}
use Rattle.he_record.specs.Given.{end_given, lookup_given}
use Rattle.he_record.specs.Said.{Said as RecordSaid}
use Rattle.he_story.specs.Ends.{cut_at}
use Rattle.he_story.specs.Hosts.{block_facts, prefixes_of}
use Rattle.he_story.specs.Recorded.{because_facts, course_said, reason_at, say}
use Rattle.he_story.specs.declared.happening.TheConstants.{LEAST_PAUSE}
use Rattle.he_statements.specs.declared.said.Said.{Said}
use Rattle.he_statements.specs.declared.said.Said.TheVariants as says
use Rattle.he_story.specs.declared.story.Story.{Story}

-- the facts of the story so far
abbrev pub told : {A : Type 0} → Story A → List (Fact Said)
told story = flat_map fact_of story.parts.items

-- the source that the host uses for an address, or why it does not reach it: a route leads to it but it has no
-- source, or no route does
abbrev pub reached_facts : Bool → Option LabelledSource → List (Fact Said)
reached_facts routed (Some labelled) = say says.From (facts.Ip labelled.source.ip ∷ [])
reached_facts true None = say says.NoSource []
reached_facts false None = say says.NoRoute []

abbrev pub source_scope : DestinationAttributes → ℕ
source_scope attributes = option_map_or (λ source. source.scope) attributes.source 0

abbrev pub source_label : DestinationAttributes → ℕ
source_label attributes = option_map_or (λ source. source.label) attributes.source 0

-- the two values that a rule compares, if it compares two: one of the later address, which may be unknown, and one of
-- its source or of the address before it
abbrev pub compared : DestinationRule → DestinationAttributes → DestinationAttributes → Option (Option ℕ × ℕ)
compared rules.MatchingScope earlier later = Some (Some later.scope, source_scope later)
compared rules.MatchingLabel earlier later = Some (Some later.label, source_label later)
compared rules.HigherPrecedence earlier later = Some (Some later.precedence, earlier.precedence)
compared rules.SmallerScope earlier later = Some (Some later.scope, earlier.scope)
compared rules.LowerRoundTripTime earlier later = option_map (λ before. (later.rtt, before)) earlier.rtt
compared rules.LongestPrefix earlier later = Some (Some later.common, earlier.common)
compared _ earlier later = None

abbrev pub rule_facts : DestinationRule → Option (Option ℕ × ℕ) → List (Fact Said)
rule_facts rule None = say (says.Rule rule) []
rule_facts rule (Some (Some later, other)) = say (says.Rule rule) (facts.Number later ∷ facts.Number other ∷ [])
rule_facts rule (Some (None, other)) = say says.UnknownTime (facts.Number other ∷ [])

-- the reason that sorts an address after the one before it
abbrev pub reason_facts : Option DestinationAttributes → Option DestinationRule → DestinationAttributes → List (Fact Said)
reason_facts None rule later = []
reason_facts (Some earlier) None later = []
reason_facts (Some earlier) (Some rule) later = rule_facts rule (compared rule earlier later)

-- an address after its number
abbrev pub numbered : List (Fact Said) → Ip → List (Fact Said)
numbered number ip = say says.Address (number ++ facts.Ip ip ∷ [])

-- what is said after the address: which IPv4 host it is by one of these prefixes, its source, and why it comes after
-- the one before it
abbrev pub ranked_facts : List PrefixBits → Option DestinationAttributes → Preferred → List (Fact Said)
ranked_facts prefixes earlier address =
    block_facts prefixes address.attributes.ip
    ++ (reached_facts address.is_routed address.attributes.source
    ++ reason_facts earlier address.rule address.attributes)

abbrev pub address_facts : List PrefixBits → ℕ → Option DestinationAttributes → Preferred → List (Fact Said)
address_facts prefixes number earlier address =
    numbered (facts.Number number ∷ []) address.attributes.ip ++ ranked_facts prefixes earlier address

-- addresses, the first of them with this number, given the one before it
abbrev pub address_lines : List PrefixBits → ℕ → Option DestinationAttributes → List Preferred → List (Fact Said)
address_lines prefixes number earlier [] = []
address_lines prefixes number earlier (first ∷ more) =
    address_facts prefixes number earlier first ++ address_lines prefixes (number + 1) (Some first.attributes) more

abbrev pub title_facts : List Preferred → List (Fact Said)
title_facts [] = say says.NoAddress []
title_facts (first ∷ more) = say says.Preferred []

abbrev pub preferred_facts : List RecordSaid → List Preferred → List (Fact Said)
preferred_facts said addresses = title_facts addresses ++ address_lines (prefixes_of said) 1 None addresses

-- a pause that is too short for a line
abbrev pub is_short : ℕ → EventKind → Bool
is_short tick (kinds.Paused end) = nat_lt (end - tick) LEAST_PAUSE
is_short tick _ = false

abbrev pub short_pauses : List Event → List Event
short_pauses events = filter (λ event. is_short event.tick event.kind) events

-- such a pause that ends at this tick
abbrev pub is_short_to : ℕ → ℕ → EventKind → Bool
is_short_to until tick (kinds.Paused end) = end == until && nat_lt (end - tick) LEAST_PAUSE
is_short_to until tick _ = false

-- the time for which the client slept up to a tick, if the pause is too short for a line: an event seen then is late
-- by at most that
abbrev pub late_at : List Event → ℕ → Option ℕ
late_at events until =
    option_map (λ pause. until - pause.tick) (find (λ event. is_short_to until event.tick event.kind) events)

abbrev pub late_facts : Option ℕ → List (Fact Said)
late_facts None = []
late_facts (Some late) = say says.Late (facts.Number late ∷ [])

-- why an attempt starts at its tick (RFC 8305 sections 3 and 5, and the floor of our own)
abbrev pub cause_facts : Cause → List (Fact Said)
cause_facts causes.AaaaAnswer = say says.AaaaThere []
cause_facts causes.BothAnswers = say says.BothThere []
cause_facts causes.ResolutionDelay = say says.WaitIsOver []
cause_facts (causes.AttemptDelay place delay) = say says.AfterStart (facts.Number delay ∷ facts.Place place ∷ [])
cause_facts (causes.Floor place floor) = say says.FloorIsOver (facts.Number floor ∷ facts.Place place ∷ [])
cause_facts (causes.LastFailure tick) = say says.AllFailed []
cause_facts (causes.LaterAnswer family) = say (says.CameWith family) []

-- a pause held the attempt back
abbrev pub held_facts : Bool → Option ℕ → List (Fact Said)
held_facts false late = []
held_facts true None = say says.HeldBack []
held_facts true (Some late) = late_facts (Some late)

-- its place in the list of the addresses known by then (RFC 8305 section 4)
abbrev pub listed_facts : Listed → List (Fact Said)
listed_facts listed =
    if listed.count == 1 then say says.OnlyOne []
    else say (says.Turn listed.turn) (facts.Place listed.place ∷ facts.Number listed.count ∷ [])

abbrev pub start_facts : Start → Option ℕ → List (Fact Said)
start_facts start late =
    say says.Starts (facts.Place start.place ∷ facts.Ip start.ip ∷ [])
    ++ (cause_facts start.cause ++ (held_facts start.held late ++ listed_facts start.listed))

-- the time from the start of an attempt to a tick
abbrev pub taken : List Line → ℕ → ℕ → ℕ
taken lines place tick = option_map_or (λ line. tick - line.tick) (slice_get lines place) 0

-- the outcome of an attempt, and the time that it took
abbrev pub became_facts : Said → ℕ → ℕ → Option ℕ → List (Fact Said)
became_facts said place taken late = say said (facts.Place place ∷ facts.Number taken ∷ []) ++ late_facts late

abbrev pub other_of : Family → Family
other_of families.V6 = families.V4
other_of families.V4 = families.V6

abbrev pub is_seen_by : ℕ → Option Seen → Bool
is_seen_by tick seen = option_map_or (λ s. nat_le s.tick tick) seen false

-- the answer of the family is still to come
abbrev pub other_facts : Family → Bool → List (Fact Said)
other_facts family true = []
other_facts family false = say (says.StillMissing family) []

-- the number of addresses of an answer
abbrev pub count_facts : ℕ → List (Fact Said)
count_facts count = if count == 0 then [] else say says.ToTry (facts.Number count ∷ [])

-- an answer and its addresses, or the reason that it has none
abbrev pub reply_facts : Family → ℕ → Option ℕ → Option LookupReason → List (Fact Said)
reply_facts family count late None =
    say (says.Answered family) [] ++ (late_facts late ++ say says.ToTry (facts.Number count ∷ []))
reply_facts family count late (Some reason) =
    say (says.Lookup family reason) [] ++ (late_facts late ++ count_facts count)

module _ {A : Type 0} (said : List RecordSaid) (course : Course A) where
  -- the client's pauses, the answers, and the wait for the AAAA answer
  abbrev pub met_facts : ℕ → Option ℕ → EventKind → List (Fact Said)
  met_facts tick late (kinds.Paused end) = say says.Paused (facts.Number end ∷ [])
  met_facts tick late (kinds.Answered family count) =
      reply_facts family count late (lookup_given family said)
      ++ other_facts (other_of family) (is_seen_by tick (answer_of course (other_of family)))
  met_facts tick late (kinds.Waits end) = say says.Waits (facts.Number end ∷ [])
  met_facts tick late kinds.DelayOver = say says.DelayOver [] ++ late_facts late
  met_facts tick late _ = []

  abbrev pub kind_facts : ℕ → Option ℕ → EventKind → List (Fact Said)
  kind_facts tick late (kinds.Started start) = start_facts start late
  kind_facts tick late (kinds.Failed place) =
      became_facts says.Failed place (taken course.transcript.lines place tick) late
      ++ because_facts (reason_at said course.transcript.lines place)
  kind_facts tick late (kinds.Won place) =
      became_facts says.Won place (taken course.transcript.lines place tick) late
  kind_facts tick late (kinds.Cancelled place) =
      became_facts
      (cut_at said course.delay course.transcript.lines place (taken course.transcript.lines place tick)) place
      (taken course.transcript.lines place tick) None
  kind_facts tick late kinds.Exhausted = say says.Exhausted []
  kind_facts tick late kinds.Limit = say says.Limit []
  kind_facts tick late kind = met_facts tick late kind

  -- an event with its tick
  abbrev pub event_facts : Event → List (Fact Said)
  event_facts event =
      if is_short event.tick event.kind then []
      else say says.At (facts.Number event.tick ∷ [])
      ++ kind_facts event.tick (late_at course.events.items event.tick) event.kind

  abbrev pub happening_facts : List (Fact Said)
  happening_facts = say (course_said (end_given said)) [] ++ flat_map event_facts course.events.items
