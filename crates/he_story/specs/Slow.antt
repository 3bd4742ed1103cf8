-- Whether names took most of a race.
use Rattle.std.specs.Prelude.{◌-◌, ◌&&◌, Bool, nat_lt}
use Rattle.he_course.specs.declared.accounts.Times.{Times}
use Rattle.he_story.specs.declared.verdict.TheConstants.{SLOW_NAMES}

-- the names took more than this number of milliseconds, and more than half of the race
abbrev pub are_names_slow : Times → Bool
are_names_slow times = nat_lt SLOW_NAMES times.names && nat_lt (times.all - times.names) times.names
