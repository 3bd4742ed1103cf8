-- The text that is written for a race and its record.
use Rattle.std.specs.Prelude.{ℕ, ◌++◌, List}
use Rattle.he_record.specs.Said.{Said}
use Rattle.he_record.specs.Written.{record_text}
use Rattle.he_timeline.specs.Race.{Race}
use Rattle.he_write.specs.Written.{timeline_text}

abbrev pub recorded_text : List Said → Race → List ℕ
recorded_text said race = record_text said ++ timeline_text race
