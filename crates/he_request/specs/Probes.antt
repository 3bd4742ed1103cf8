-- What a line for `he probe` asks for.
use Rattle.std.specs.Prelude.{ℕ, ◌≡◌, ◌≤◌, List, [], Option, None, Some, codes, min, option_map}
use Rattle.std.specs.Option.{unwrap_or}
use Rattle.clap.specs.Matches.{first_value}
use Rattle.clap.specs.declared.parser.matches.Found.{Found}
use Rattle.he_addr.specs.Reading.{number_in}
use Rattle.he_options.specs.Ports.{IsPort, NamesPort}
use Rattle.he_options.specs.Resolvers.{AsksResolver}
use Rattle.he_options.specs.Times.{time_of}
use Rattle.he_options.specs.Words.{HasFlag, connect_settings}
use Rattle.he_options.specs.declared.limits.TheConstants.{MOST_PACE, MOST_WAIT, SECOND}
use Rattle.he_timeline.specs.Settings.{SettingValues}
use Rattle.he_timeline.specs.declared.limits.TheConstants.{DEFAULT_LIMIT}
use Rattle.he_options.specs.Families.{AsksFamily}
use Rattle.he_request.specs.declared.probe.Probe.{Probe}
use Rattle.he_request.specs.declared.probe.TheConstants.{DEFAULT_TIMEOUT}

-- the settings of the race by which a round is judged: those of a connection, with a limit of at most the timeout
abbrev pub judging_settings : ℕ → SettingValues
judging_settings timeout =
    connect_settings
    (record { resolution = None; attempt = None; count = None; limit = Some (min timeout DEFAULT_LIMIT); floor = None })

-- the number of rounds that --count gives
abbrev pub count_in : Option (List ℕ) → Option ℕ
count_in None = None
count_in (Some text) = number_in text

-- one round, or no end of them with --interval, where it gives none
abbrev pub rounds_of : Option ℕ → Option ℕ → Option ℕ
rounds_of (Some count) interval = Some count
rounds_of None (Some interval) = None
rounds_of None None = Some 1

-- the numbers of probes are in their ranges
pub record IsProbe (probe : Probe) : Type 0 where
  pub port : IsPort probe.port
  pub timeout : probe.timeout ≤ MOST_WAIT
  pub pace : probe.pace ≤ MOST_PACE
  pub limit : probe.settings.limit ≤ probe.timeout

-- the host, the port, the rounds and the times of the line
pub record AsksProbe (found : Found) (probe : Probe) : Type 0 where
  pub host : probe.host.now ≡ unwrap_or (first_value found (codes "host")) []
  pub port : NamesPort found probe.port
  pub only : AsksFamily found probe.only
  pub resolver : AsksResolver (first_value found (codes "resolver")) probe.resolver
  pub timeout : probe.timeout ≡ unwrap_or (time_of 1 (first_value found (codes "timeout"))) DEFAULT_TIMEOUT
  pub interval : probe.interval ≡ unwrap_or (time_of SECOND (first_value found (codes "interval"))) SECOND
  pub rounds : probe.rounds
      ≡ rounds_of (count_in (first_value found (codes "count"))) (time_of SECOND (first_value found (codes "interval")))
  pub settings : probe.settings ≡ judging_settings probe.timeout
  pub lines : option_map (λ path. path.now) probe.lines ≡ first_value found (codes "host-lines")
  pub tells_steps : HasFlag found (codes "verbose") probe.tells_steps
