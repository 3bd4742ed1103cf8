-- The ranges of a race in numbers, under the names that the code and the definitions use. Ticks and durations are
-- milliseconds.
use Rattle.std.specs.Prelude.{◌≡◌}
use Rattle.he_timeline.specs.declared.limits.TheConstants.{DEFAULT_ATTEMPT, DEFAULT_COUNT, DEFAULT_LIMIT, DEFAULT_RESOLUTION, MAX_ADDRESSES, MAX_ATTEMPT, MAX_ATTEMPTS, MAX_COUNT, MAX_DURATION, MAX_FINISH, MAX_LIMIT, MAX_PAUSES, MAX_PAUSE_END, MAX_RESOLUTION, MAX_TICK, MIN_ATTEMPT, MIN_COUNT, MIN_DURATION, MIN_FLOOR, MIN_LIMIT}

pub record AreRanges : Type 0 where
  -- Resolution Delay (RFC 8305 section 8)
  pub resolution_most : MAX_RESOLUTION ≡ 1000
  pub resolution_default : DEFAULT_RESOLUTION ≡ 50
  -- Connection Attempt Delay (RFC 8305 section 8)
  pub attempt_least : MIN_ATTEMPT ≡ 10
  pub attempt_most : MAX_ATTEMPT ≡ 2000
  pub attempt_default : DEFAULT_ATTEMPT ≡ 250
  -- floor after failures; at most the Connection Attempt Delay
  pub floor_least : MIN_FLOOR ≡ 10
  -- First Address Family Count (RFC 8305 section 8)
  pub count_least : MIN_COUNT ≡ 1
  pub count_most : MAX_COUNT ≡ 8
  pub count_default : DEFAULT_COUNT ≡ 1
  -- limit of a race
  pub limit_least : MIN_LIMIT ≡ 1
  pub limit_most : MAX_LIMIT ≡ 3600000
  pub limit_default : DEFAULT_LIMIT ≡ 30000
  -- tick of an answer
  pub tick_most : MAX_TICK ≡ 3600000
  -- duration of an attempt
  pub duration_least : MIN_DURATION ≡ 1
  pub duration_most : MAX_DURATION ≡ 3600000
  -- maximum end of a pause, and tick after which nothing finishes
  pub pause_end_most : MAX_PAUSE_END ≡ 3600001
  pub finish_most : MAX_FINISH ≡ 7200000
  -- addresses of an answer, attempts and pauses of a race
  pub addresses_most : MAX_ADDRESSES ≡ 256
  pub attempts_most : MAX_ATTEMPTS ≡ 512
  pub pauses_most : MAX_PAUSES ≡ 520
