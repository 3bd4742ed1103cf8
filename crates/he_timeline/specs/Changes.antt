-- Settings that replace those of a race.
use Rattle.std.specs.Prelude.{ℕ, ◌≤◌, ◌||◌, if◌then◌else◌, min, nat_lt, option_map, Bool, false, Option, Some, None, IfSome, Result, Ok, Err}
use Rattle.std.specs.Option.{option_or, unwrap_or}
use Rattle.he_timeline.specs.declared.settings.Range.{Range}
use Rattle.he_timeline.specs.declared.settings.Range.TheVariants.{Resolution, Attempt, Count, Limit, Floor}
use Rattle.he_timeline.specs.declared.limits.TheConstants.{MAX_RESOLUTION, MIN_ATTEMPT, MAX_ATTEMPT, MIN_COUNT, MAX_COUNT, MIN_LIMIT, MAX_LIMIT, MIN_FLOOR}
use Rattle.he_timeline.specs.Race.{Race}
use Rattle.he_timeline.specs.Settings.{SettingValues}

-- the new value of each setting, in ticks; None keeps the race's own
pub record ChangeValues : Type 0 where
  pub resolution : Option ℕ
  pub attempt : Option ℕ
  pub count : Option ℕ
  pub limit : Option ℕ
  pub floor : Option ℕ

-- each given value is in its range, and the floor is at most the Connection Attempt Delay if both are given
pub record IsChange (changes : ChangeValues) : Type 0 where
  pub resolution : IfSome changes.resolution (λ n. n ≤ MAX_RESOLUTION)
  pub attempt : IfSome changes.attempt (λ n. (MIN_ATTEMPT ≤ n) × (n ≤ MAX_ATTEMPT))
  pub count : IfSome changes.count (λ n. (MIN_COUNT ≤ n) × (n ≤ MAX_COUNT))
  pub limit : IfSome changes.limit (λ n. (MIN_LIMIT ≤ n) × (n ≤ MAX_LIMIT))
  pub floor : IfSome changes.floor (λ n. (MIN_FLOOR ≤ n) × (n ≤ unwrap_or changes.attempt MAX_ATTEMPT))

-- the given number is less than `least` or greater than `most`
abbrev pub is_out : Option ℕ → ℕ → ℕ → Bool
is_out None least most = false
is_out (Some given) least most = nat_lt given least || nat_lt most given

-- the changes, or the first value that is out of its range
abbrev pub changes_of : ChangeValues → Result ChangeValues Range
changes_of given =
    if is_out given.resolution 0 MAX_RESOLUTION then Err Resolution
    else if is_out given.attempt MIN_ATTEMPT MAX_ATTEMPT then Err Attempt
    else if is_out given.count MIN_COUNT MAX_COUNT then Err Count
    else if is_out given.limit MIN_LIMIT MAX_LIMIT then Err Limit
    else if is_out given.floor MIN_FLOOR (unwrap_or given.attempt MAX_ATTEMPT) then Err Floor
    else Ok given

-- the given values replace the race's own; a floor above the resulting Connection Attempt Delay becomes that delay
abbrev pub changed_settings : ChangeValues → SettingValues → SettingValues
changed_settings changes own =
    record {
      resolution = unwrap_or changes.resolution own.resolution;
      attempt = unwrap_or changes.attempt own.attempt;
      count = unwrap_or changes.count own.count;
      limit = unwrap_or changes.limit own.limit;
      floor =
          option_map (min (unwrap_or changes.attempt own.attempt)) (option_or changes.floor own.floor);
    }

-- the race with the changes to its settings applied
abbrev pub changed : ChangeValues → Race → Race
changed changes race = record race { settings = changed_settings changes race.settings }
