-- What the words of a line ask for, by what clap found of them.
use Rattle.std.specs.Prelude.{◌≡◌, ◌||◌, ℕ, Bool, true, false, List, [], ◌∷◌, All, Option, Some, None, Result, codes, drop, if◌then◌else◌, is_some, length, option_map, take}
use Rattle.std.specs.Option.{option_or, unwrap_or}
use Rattle.std.specs.Str.{bytes_eq}
use Rattle.clap.specs.Matches.{ReadsOne, first_value, matched_of, one_text, raw_values}
use Rattle.clap.specs.declared.parser.matches.Found.{Found}
use Rattle.he_addr.specs.Reading.{number_in}
use Rattle.he_timeline.specs.Changes.{ChangeValues, changed_settings}
use Rattle.he_timeline.specs.Settings.{SettingValues}
use Rattle.he_options.specs.Times.{time_of}
use Rattle.he_timeline.specs.declared.limits.TheConstants.{DEFAULT_ATTEMPT, DEFAULT_COUNT, DEFAULT_LIMIT, DEFAULT_RESOLUTION, MIN_FLOOR}

-- the words that an argument has, in order
abbrev pub values_of : Found → List ℕ → List (List ℕ)
values_of found id = unwrap_or (option_map raw_values (matched_of found id)) []

-- whether a flag stands on the line
pub record HasFlag (found : Found) (id : List ℕ) (given : Bool) : Type 0 where
  pub none : one_text found id ≡ None → given ≡ false
  pub used : one_text found id ≡ Some (codes "true") → given ≡ true
  pub unused : one_text found id ≡ Some (codes "false") → given ≡ false

-- the number that an option has, by how its type reads a text
pub record HasNumber {E : Type 0} (gives : List ℕ → Result ℕ E → Type 0) (found : Found) (id : List ℕ)
    (number : Option ℕ) : Type 0 where
  pub none : one_text found id ≡ None → number ≡ None
  pub given : (text : List ℕ) → one_text found id ≡ Some text → ReadsOne gives text number

-- the number that a text gives a setting, whose name ends in `=`, as `attempt=`
abbrev pub number_for : List ℕ → List ℕ → Option ℕ
number_for name text =
    if bytes_eq (take (length name) text) name then number_in (drop (length name) text) else None

-- that of the last text that gives it one
abbrev pub last_number : List ℕ → List (List ℕ) → Option ℕ
last_number name [] = None
last_number name (text ∷ more) = option_or (last_number name more) (number_for name text)

-- the text gives a setting a number
abbrev pub is_setting : List ℕ → Bool
is_setting text =
    is_some (number_for (codes "resolution=") text) || is_some (number_for (codes "attempt=") text)
    || is_some (number_for (codes "count=") text) || is_some (number_for (codes "limit=") text)
    || is_some (number_for (codes "floor=") text)

-- the settings are exactly those of these texts of --set and of --timeout: each text is one, the last of a name
-- counts, and a limit of --set before --timeout
pub record AsksSettings (texts : List (List ℕ)) (timeout : Option ℕ) (changes : ChangeValues) : Type 0 where
  pub named : All (λ text. is_setting text ≡ true) texts
  pub resolution : changes.resolution ≡ last_number (codes "resolution=") texts
  pub attempt : changes.attempt ≡ last_number (codes "attempt=") texts
  pub count : changes.count ≡ last_number (codes "count=") texts
  pub limit : changes.limit ≡ option_or (last_number (codes "limit=") texts) timeout
  pub floor : changes.floor ≡ last_number (codes "floor=") texts

-- those that the line asks for
abbrev pub AsksChanges : Found → ChangeValues → Type 0
AsksChanges found changes =
    (timeout : Option ℕ) × (timeout ≡ time_of 1 (first_value found (codes "timeout")))
    × AsksSettings (values_of found (codes "set")) timeout changes

-- the settings of a connection: where one is not given that of RFC 8305 section 8, and the least floor
abbrev pub connect_defaults : SettingValues
connect_defaults =
    record {
      resolution = DEFAULT_RESOLUTION;
      attempt = DEFAULT_ATTEMPT;
      count = DEFAULT_COUNT;
      limit = DEFAULT_LIMIT;
      floor = Some MIN_FLOOR;
    }

abbrev pub connect_settings : ChangeValues → SettingValues
connect_settings given = changed_settings given connect_defaults
