-- The settings of a race and their ranges (RFC 8305 section 8; the limit and the floor are this project's own).
use Rattle.std.specs.Prelude.{ℕ, ◌≤◌, ◌||◌, if◌then◌else◌, nat_lt, Option, Some, None, IfSome, Result, Ok, Err}
use Rattle.he_timeline.specs.declared.settings.Range.{Range}
use Rattle.he_timeline.specs.declared.settings.Range.TheVariants.{Resolution, Attempt, Count, Limit, Floor}
use Rattle.he_timeline.specs.declared.limits.TheConstants.{MAX_RESOLUTION, MIN_ATTEMPT, MAX_ATTEMPT, MIN_COUNT, MAX_COUNT, MIN_LIMIT, MAX_LIMIT, MIN_FLOOR}

-- delays, limit and floor in ticks
pub record SettingValues : Type 0 where
  pub resolution : ℕ
  pub attempt : ℕ
  pub count : ℕ
  pub limit : ℕ
  pub floor : Option ℕ

pub record IsSettings (settings : SettingValues) : Type 0 where
  pub resolution : settings.resolution ≤ MAX_RESOLUTION
  pub attempt_least : MIN_ATTEMPT ≤ settings.attempt
  pub attempt_most : settings.attempt ≤ MAX_ATTEMPT
  pub count_least : MIN_COUNT ≤ settings.count
  pub count_most : settings.count ≤ MAX_COUNT
  pub limit_least : MIN_LIMIT ≤ settings.limit
  pub limit_most : settings.limit ≤ MAX_LIMIT
  pub floor : IfSome settings.floor (λ floor. (MIN_FLOOR ≤ floor) × (floor ≤ settings.attempt))

-- the settings without a floor, or the first value that is out of its range
abbrev pub settings_of : ℕ → ℕ → ℕ → ℕ → Result SettingValues Range
settings_of resolution attempt count limit =
    if nat_lt MAX_RESOLUTION resolution then Err Resolution
    else if nat_lt attempt MIN_ATTEMPT || nat_lt MAX_ATTEMPT attempt then Err Attempt
    else if nat_lt count MIN_COUNT || nat_lt MAX_COUNT count then Err Count
    else if nat_lt limit MIN_LIMIT || nat_lt MAX_LIMIT limit then Err Limit
    else Ok (record { resolution = resolution; attempt = attempt; count = count; limit = limit; floor = None })

-- the settings with this floor, if it is in range: at most the Connection Attempt Delay
abbrev pub with_floor : SettingValues → ℕ → Result SettingValues Range
with_floor settings floor =
    if nat_lt floor MIN_FLOOR || nat_lt settings.attempt floor then Err Floor
    else Ok (record settings { floor = Some floor })
