-- The priorities of log lines, for a journal (sd-daemon(3), by the levels of syslog(3)).
use Rattle.std.specs.Prelude.{ℕ, List, Option, Some, None, Result, Ok, Err, codes}
use Rattle.he_front.specs.declared.replies.Ended.{Ended}
use Rattle.he_log.specs.declared.level.Level.{Level}
use Rattle.he_log.specs.declared.level.Level.TheVariants as levels
use Rattle.he_sessions.specs.declared.racer.Winner.{Winner}

-- LOG_ERR, LOG_WARNING and LOG_INFO
abbrev pub priority_of : Level → List ℕ
priority_of levels.Error = codes "<3>"
priority_of levels.Warning = codes "<4>"
priority_of levels.Info = codes "<6>"

-- a session without a connection, by a refusal or a race, is a warning
abbrev pub level_of : Option (Result Winner Ended) → Level
level_of (Some (Err ended)) = levels.Warning
level_of (Some (Ok winner)) = levels.Info
level_of None = levels.Info
