-- What a story says of the account of its race (he_course): the time that was lost, and on what; and where all of the
-- race's time went.
use Rattle.std.specs.Prelude.{ℕ, ◌-◌, ◌==◌, ◌&&◌, ◌||◌, ◌++◌, if◌then◌else◌, Bool, true, false, List, [], ◌∷◌, length, nat_lt, slice_get, take, Option, Some, None}
use Rattle.std.specs.List.{flat_map}
use Rattle.std.specs.Option.{option_map_or}
use Rattle.he_plan.specs.declared.transcript.Line.{Line}
use Rattle.he_course.specs.Course.{course_times}
use Rattle.he_course.specs.declared.accounts.Times.{Times}
use Rattle.he_course.specs.declared.course.Course.{Course}
use Rattle.he_print.specs.declared.part.Fact.{Fact}
use Rattle.he_print.specs.declared.part.Fact.TheVariants as facts
use Rattle.he_record.specs.Said.{Said as RecordSaid}
use Rattle.he_story.specs.Check.{check_facts}
use Rattle.he_story.specs.Ends.{end_said}
use Rattle.he_story.specs.Recorded.{say}
use Rattle.he_story.specs.Slow.{are_names_slow}
use Rattle.he_story.specs.Why.{server_facts}
use Rattle.he_statements.specs.declared.said.Said.{Said}
use Rattle.he_statements.specs.declared.said.Said.TheVariants as says
use Rattle.he_story.specs.declared.verdict.Charge.{Charge}
use Rattle.he_story.specs.declared.verdict.TheConstants.{MAX_NAMED}

-- how many ticks the attempt of this place owns
abbrev pub ticks_of : {A : Type 0} → Course A → ℕ → ℕ
ticks_of course place = option_map_or (λ ticks. ticks) (slice_get course.account.tried.items place) 0

-- out of `lost` ticks those of one attempt: alone, or with their number
abbrev pub charge_facts : ℕ → Charge → List (Fact Said)
charge_facts lost charge =
    if charge.ticks == lost then say says.LostOn (facts.Ip charge.ip ∷ facts.Said charge.end ∷ [])
    else say says.LostPart (facts.Number charge.ticks ∷ facts.Ip charge.ip ∷ facts.Said charge.end ∷ [])

abbrev pub more_facts : ℕ → List (Fact Said)
more_facts count = if count == 0 then [] else say says.More (facts.Number count ∷ [])

-- the first attempts that own ticks, and the number of further ones
abbrev pub each_facts : ℕ → List Charge → List (Fact Said)
each_facts lost charges =
    flat_map (charge_facts lost) (take MAX_NAMED charges) ++ more_facts (length charges - MAX_NAMED)

-- the ticks at which no address was left to try
abbrev pub rest_facts : ℕ → ℕ → List (Fact Said)
rest_facts lost nobody =
    if nobody == 0 then []
    else if nobody == lost then say says.LostAlone []
    else say says.LostRest (facts.Number nobody ∷ [])

-- of a race with attempts; with the name servers that were given up
abbrev pub names_facts : List RecordSaid → ℕ → Times → List (Fact Said)
names_facts said attempts times =
    if are_names_slow times && nat_lt 0 attempts
    then say says.NamesSlow (facts.Number times.names ∷ facts.Number times.all ∷ []) ++ flat_map server_facts said
    else []

-- nothing was lost: said where an attempt was made and the names were not slow
abbrev pub nothing_facts : Bool → List (Fact Said)
nothing_facts true = []
nothing_facts false = say says.NothingLost []

abbrev pub share_facts : Said → ℕ → List (Fact Said)
share_facts said ticks = if ticks == 0 then [] else say said (facts.Number ticks ∷ [])

-- what waited for the names, was lost, and connected; and what this machine had, and attempts with an unknown outcome
abbrev pub times_facts : Times → List (Fact Said)
times_facts times =
    say says.TimeWent (facts.Number times.names ∷ facts.Number times.lost ∷ facts.Number times.connecting ∷ [])
    ++ (share_facts says.MachineTook times.machine ++ share_facts says.UnknownTook times.unknown)

abbrev pub if_charged : Option Charge → List Charge
if_charged None = []
if_charged (Some charge) = charge ∷ []

-- the time that was lost, where these attempts own ticks
abbrev pub lost_facts : {A : Type 0} → List Charge → Course A → List (Fact Said)
lost_facts charges course =
    if course.account.lost == 0
    then nothing_facts (are_names_slow (course_times course) || length course.transcript.lines == 0)
    else say says.Lost (facts.Number course.account.lost ∷ [])
    ++ (each_facts course.account.lost charges ++ rest_facts course.account.lost course.account.nobody)

module _ {A : Type 0} (said : List RecordSaid) (course : Course A) where
  -- the attempt of a line, if it owns ticks
  abbrev pub charge_of : Line → Option Charge
  charge_of line =
      if ticks_of course line.place == 0 then None
      else Some (record {
        end = end_said said course.delay line;
        ip = line.ip;
        ticks = ticks_of course line.place;
      })

  abbrev pub charges_of : List Line → List Charge
  charges_of lines = flat_map (λ line. if_charged (charge_of line)) lines

  abbrev pub verdict_facts : List (Fact Said)
  verdict_facts =
      lost_facts (charges_of course.transcript.lines) course
      ++ (names_facts said (length course.transcript.lines) (course_times course)
      ++ (check_facts said (charges_of course.transcript.lines) course ++ times_facts (course_times course)))
