-- The texts of races that a line names, by what clap found of its words.
use Rattle.std.specs.Prelude.{◌≡◌, ◌≤◌, ◌||◌, ℕ, Bool, false, List, Option, codes, length, map, option_map}
use Rattle.clap.specs.Matches.{first_value}
use Rattle.clap.specs.declared.parser.matches.Found.{Found}
use Rattle.he_options.specs.Words.{AsksChanges, HasFlag, values_of}
use Rattle.he_options.specs.declared.limits.TheConstants.{LEAST_WORKERS, MOST_FILES, MOST_WORKERS}
use Rattle.he_options.specs.declared.texts.Task.{Task}
use Rattle.he_options.specs.declared.texts.Task.TheVariants.{Write, Check}
use Rattle.he_options.specs.declared.texts.Texts.{Texts}

-- the number of workers, where there are any, is in its range
abbrev pub HasTaskWorkers : Task → Type 0
HasTaskWorkers (Write content workers) = (LEAST_WORKERS ≤ workers) × (workers ≤ MOST_WORKERS)
HasTaskWorkers _ = Unit {0}

-- its numbers are in their ranges
abbrev pub IsTexts : Texts → Type 0
IsTexts texts = HasTaskWorkers texts.task × (length texts.files.items ≤ MOST_FILES)

-- whether a task tells each fault of a text, and so goes on after one
abbrev pub tells_faults : Task → Bool
tells_faults (Check is_all json) = is_all
tells_faults _ = false

-- the files of the line, or the list that has their names, with its settings, of which each race has those in place of
-- its own, and the file of a page
pub record AsksTexts (found : Found) (task : Task) (page : Option (List ℕ)) (texts : Texts) : Type 0 where
  pub task_is : texts.task ≡ task
  pub changes : AsksChanges found texts.changes
  pub files : map (λ file. file.now) texts.files.items ≡ values_of found (codes "file")
  pub list_is : option_map (λ path. path.now) texts.list ≡ first_value found (codes "files0-from")
  pub page_is : option_map (λ path. path.now) texts.page ≡ page
  pub keep_going : Bool
  pub keeps : HasFlag found (codes "keep-going") keep_going
  pub goes : texts.goes_on ≡ (keep_going || tells_faults task)
