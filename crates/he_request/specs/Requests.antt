-- What a line asks for, by what clap found of its words.
use Rattle.std.specs.Prelude.{◌≡◌, ℕ, Bool, true, false, List, [], Option, Some, None, Result, codes, if◌then◌else◌, is_some, map, max, min, option_map, string_bytes, ◌||◌}
use Rattle.std.specs.Option.{unwrap_or}
use Rattle.std.specs.Str.{bytes_eq}
use Rattle.clap.specs.Matches.{first_value}
use Rattle.clap.specs.declared.parser.matches.Found.{Found}
use Rattle.he_timeline.specs.Changes.{ChangeValues}
use Rattle.he_options.specs.Ports.{IsPort, NamesPort}
use Rattle.he_options.specs.Resolvers.{AsksResolver}
use Rattle.he_options.specs.Rows.{AreRows, labels_of}
use Rattle.he_options.specs.Texts.{AsksTexts, IsTexts}
use Rattle.he_options.specs.Words.{AsksChanges, HasFlag, HasNumber, connect_settings, values_of}
use Rattle.he_request.specs.declared.connect.Connection.{Connection}
use Rattle.he_options.specs.declared.limits.TheConstants.{DEFAULT_WORKERS}
use Rattle.he_request.specs.declared.live.Live.{Live}
use Rattle.he_options.specs.Families.{AsksFamily}
use Rattle.he_request.specs.Probes.{IsProbe}
use Rattle.he_request.specs.declared.request.Request.{Request}
use Rattle.he_request.specs.declared.request.Request.TheVariants as requests
use Rattle.he_request.specs.declared.terminal.Terminal.{Terminal}
use Rattle.he_options.specs.declared.texts.By.{By}
use Rattle.he_options.specs.declared.texts.By.TheVariants as by
use Rattle.he_options.specs.declared.texts.Content.{Content}
use Rattle.he_options.specs.declared.texts.Content.TheVariants as contents
use Rattle.he_options.specs.declared.texts.Task.{Task}
use Rattle.he_options.specs.declared.texts.Task.TheVariants.{Write, Compare, Check, Group, Summarize}
use Rattle.he_options.specs.declared.texts.Texts.{Texts}

-- the numbers of a request are in their ranges
abbrev pub IsRequest : Request → Type 0
IsRequest (requests.Texts texts) = IsTexts texts
IsRequest (requests.Live live) = IsPort live.port
IsRequest (requests.Connect connection) = IsPort connection.port
IsRequest (requests.Probe probe) = IsProbe probe
IsRequest _ = Unit {0}

-- a transcript, as JSON or not, by so many workers
abbrev pub AsksReplay : {E : Type 0} → (List ℕ → Result ℕ E → Type 0) → Found → Task → Type 0
AsksReplay gives found task =
    (json : Bool) × (workers : Option ℕ) × HasFlag found (codes "json") json
    × HasNumber gives found (codes "workers") workers
    × (task ≡ Write (contents.Transcript json) (min (max (unwrap_or workers DEFAULT_WORKERS) 1) 64))

abbrev pub AsksOrder : Found → Task → Type 0
AsksOrder found task = (json : Bool) × HasFlag found (codes "json") json × (task ≡ Write (contents.Order json) 1)

abbrev pub AsksExplain : Found → Task → Type 0
AsksExplain found task =
    (json : Bool) × HasFlag found (codes "json") json
    × (task ≡ Write (if json then contents.ExplanationJson else contents.Story) 1)

abbrev pub named_by : List ℕ → By
named_by word =
    if bytes_eq word (codes "hour") then by.Hour
    else if bytes_eq word (codes "family") then by.Family
    else if bytes_eq word (codes "host") then by.Host
    else by.File

-- all races in one, with so many of the slowest, or group by group
abbrev pub IsSummary : {E : Type 0} → (List ℕ → Result ℕ E → Type 0) → Found → Bool → Option (List ℕ) → Task → Type 0
IsSummary gives found json None task =
    (metrics : Bool) × (slowest : Option ℕ) × HasFlag found (codes "openmetrics") metrics
    × HasNumber gives found (codes "slowest") slowest × (task ≡ Summarize json metrics (unwrap_or slowest 0))
IsSummary gives found json (Some word) task = task ≡ Group json (named_by word)

abbrev pub AsksSummary : {E : Type 0} → (List ℕ → Result ℕ E → Type 0) → Found → Task → Type 0
AsksSummary gives found task =
    (json : Bool) × HasFlag found (codes "json") json
    × IsSummary gives found json (first_value found (codes "by")) task

-- a comparison, as JSON or not, with the races or without, of the files and with the settings of the line
pub record AsksComparison (found : Found) (texts : Texts) : Type 0 where
  pub json : Bool
  pub races : Bool
  pub has_json : HasFlag found (codes "json") json
  pub has_races : HasFlag found (codes "races") races
  pub task_is : texts.task ≡ Compare json races
  pub rows : AreRows (values_of found (codes "set")) texts.rows.items
  pub labels : map string_bytes texts.labels.items ≡ labels_of (values_of found (codes "set"))
  pub files : map (λ file. file.now) texts.files.items ≡ values_of found (codes "file")
  pub list : option_map (λ path. path.now) texts.list ≡ first_value found (codes "files0-from")
  pub keeps : HasFlag found (codes "keep-going") texts.goes_on

abbrev pub AsksCheck : Found → Task → Type 0
AsksCheck found task =
    (all json : Bool) × HasFlag found (codes "all") all × HasFlag found (codes "json") json × (task ≡ Check all json)

-- the file of a page; None for `-`, standard output
abbrev pub page_of : Option (List ℕ) → Option (List ℕ)
page_of None = None
page_of (Some path) = if bytes_eq path (codes "-") then None else Some path

-- what is drawn of each race for a terminal: a part of a page, or what the flags say
abbrev pub drawn : Bool → Bool → Bool → Option ℕ → Terminal → Content
drawn true svg ascii width terminal = contents.Section
drawn false true ascii width terminal = contents.Image
drawn false false ascii width terminal =
    contents.Picture (ascii || terminal.is_ascii) (unwrap_or width terminal.columns)

abbrev pub IsDrawn : {E : Type 0} → (List ℕ → Result ℕ E → Type 0) → Found → Bool → Terminal → Content → Type 0
IsDrawn gives found is_page terminal content =
    (svg ascii : Bool) × (width : Option ℕ) × HasFlag found (codes "svg") svg × HasFlag found (codes "ascii") ascii
    × HasNumber gives found (codes "width") width × (content ≡ drawn is_page svg ascii width terminal)

-- that is drawn of the texts; a page goes to the file that --html names, or to the output by `-`
abbrev pub AsksDrawing : {D : Type 0} → (List ℕ → Result ℕ D → Type 0) → Found → Terminal → Texts → Type 0
AsksDrawing gives found terminal texts =
    (content : Content) × IsDrawn gives found (is_some (first_value found (codes "html"))) terminal content
    × AsksTexts found (Write content 1) (page_of (first_value found (codes "html"))) texts

-- the file, the port and the settings of the line
pub record AsksLive (found : Found) (live : Live) : Type 0 where
  pub file : option_map (λ path. path.now) live.file ≡ first_value found (codes "file")
  pub port : NamesPort found live.port
  pub changes : AsksChanges found live.changes
  pub must_connect : HasFlag found (codes "must-connect") live.must_connect
  pub verbose : HasFlag found (codes "verbose") live.verbose

-- the host, the port and the settings of the line: where one is not given that of RFC 8305 section 8, and the least
-- floor
pub record AsksConnection {E : Type 0} (gives : List ℕ → Result ℕ E → Type 0) (found : Found)
    (connection : Connection) : Type 0 where
  pub host : connection.host.now ≡ unwrap_or (first_value found (codes "host")) []
  pub resolver : AsksResolver (first_value found (codes "resolver")) connection.resolver
  pub wait : HasNumber gives found (codes "wait") connection.wait
  pub port : NamesPort found connection.port
  pub only : AsksFamily found connection.only
  pub changes : ChangeValues
  pub asked : AsksChanges found changes
  pub settings : connection.settings ≡ connect_settings changes
  pub lines : option_map (λ path. path.now) connection.lines ≡ first_value found (codes "host-lines")
  pub record_is : option_map (λ path. path.now) connection.record ≡ first_value found (codes "record")
  pub explains : HasFlag found (codes "explain") connection.explains
  pub tells_steps : HasFlag found (codes "verbose") connection.tells_steps
  pub only_tries : HasFlag found (codes "try") connection.only_tries
  pub is_json : HasFlag found (codes "json") connection.is_json
  pub checks : HasFlag found (codes "check") connection.checks
  pub warn : HasNumber gives found (codes "warn") connection.warn
