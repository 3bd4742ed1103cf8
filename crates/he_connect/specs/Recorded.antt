-- The record of a connection's race, and the explanation of both.
use Rattle.std.specs.Global.{Global}
use Rattle.std.specs.Prelude.{ℕ, ◌≡◌, Bool, true, false, List, [], None}
use Rattle.he_course.specs.Course.{IsCourse}
use Rattle.he_course.specs.declared.course.Course.{Course}
use Rattle.he_live.specs.Recorded.{IsRaceRecord}
use Rattle.he_plan.specs.Transcript.{Report}
use Rattle.he_record.specs.Said.{Said}
use Rattle.he_recording.specs.Facts.{facts_said}
use Rattle.he_recording.specs.declared.facts.Facts.{Facts}
use Rattle.he_recording.specs.declared.facts.Target.{Target}
use Rattle.he_setup.specs.Recorded.{IsFactsFor}
use Rattle.he_setup.specs.declared.recorded.KnownFacts.{KnownFacts}
use Rattle.he_setup.specs.declared.request.ConnectRequest.{ConnectRequest}
use Rattle.he_story.specs.Story.{Tells}
use Rattle.he_timeline.specs.Race.{Race}

-- the text has the record and the race: the record has the requested host and port, a look-up for a family without
-- an address, and the failed attempts of the transcript
pub record IsRecordFor (by_nat64 : Bool) (request : ConnectRequest) (race : Race) (report : Report) (text : List ℕ)
    : Type 0 where
  pub target : Target
  pub host : target.host.now ≡ request.host.now
  pub port : target.port ≡ request.port
  pub known : KnownFacts
  pub facts : Facts
  pub of_race : IsFactsFor by_nat64 target request.families race known facts
  pub is : IsRaceRecord facts race report text

-- the explanation of a race with these record lines, if requested, is the story of its course
abbrev pub IsExplained : Bool → List Said → Race → List ℕ → Type 0
IsExplained true said race story = (course : Course Global) × IsCourse race 1 1 course × Tells said None course [] story
IsExplained false said race story = story ≡ []

-- the text of the race with its record, and the explanation of both
pub record AreTextsOf (by_nat64 : Bool) (request : ConnectRequest) (race : Race) (report : Report)
    (text story : List ℕ) : Type 0 where
  pub written : IsRecordFor by_nat64 request race report text
  pub explained : IsExplained request.explains (facts_said written.facts) race story
