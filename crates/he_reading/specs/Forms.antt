-- The content of a line by itself: the forms of the lines. First the number of tokens is checked, then each token
-- from left to right; the first wrong one decides.
use Rattle.std.specs.Prelude.{ℕ, ◌&&◌, Bool, true, false, List, [], ◌∷◌, length, Result, Ok, Err, if◌then◌else◌, nat_le, nat_lt, codes, Option, Some, None}
use Rattle.std.specs.Option.{ok_or}
use Rattle.std.specs.Str.{bytes_eq}
use Rattle.he_addr.specs.declared.ip.Family.{Family}
use Rattle.he_addr.specs.declared.ip.Family.TheVariants as families
use Rattle.he_addr.specs.declared.ip.Ip.{Ip}
use Rattle.he_timeline.specs.declared.outcome.Outcome.{Outcome}
use Rattle.he_timeline.specs.declared.outcome.Outcome.TheVariants as outcomes
use Rattle.he_timeline.specs.Race.{Reply}
use Rattle.he_timeline.specs.Timeline.{is_of}
use Rattle.he_select.specs.Ranges.{least_interface}
use Rattle.he_timeline.specs.declared.limits.TheConstants.{MAX_ADDRESSES, MAX_TICK, MIN_DURATION, MAX_DURATION, MAX_PAUSE_END}
use Rattle.he_words.specs.Ranges.{most_source_marks, most_route_marks, most_u16, least_pause_end}
use Rattle.he_words.specs.declared.fault.TextKind.{TextKind}
use Rattle.he_words.specs.declared.fault.TextKind.TheVariants as kinds
use Rattle.he_words.specs.declared.words.Name.{Name}
use Rattle.he_words.specs.declared.words.Name.TheVariants.{Floor}
use Rattle.he_words.specs.declared.words.Version.{Version}
use Rattle.he_words.specs.declared.words.Version.TheVariants.{One, Two}
use Rattle.he_words.specs.declared.words.Word.{Word}
use Rattle.he_words.specs.declared.words.Word.TheVariants as words
use Rattle.he_addr.specs.Ip.{is_usable}
use Rattle.he_addr.specs.Reading.{number_in, ip_in, prefix_in, source_in}
use Rattle.he_select.specs.declared.policy.Row.{Row}
use Rattle.he_select.specs.declared.host.Source.{Source}
use Rattle.he_select.specs.declared.host.Route.{Route}
use Rattle.he_reading.specs.Said.{Said, Setting, PolicyRow, HostSource, HostRoute, Answer, RoundTrip, UsedBefore, OutcomeOf, Paused, Ended}
use Rattle.he_reading.specs.Parts.{tokens_of}
use Rattle.he_words.specs.Words.{name_in, name_spelling, word_in, least_value, most_value}

infixl 10 ◌>>=◌
abbrev pub ◌>>=◌ : {A B E : Type 0} → Result A E → (A → Result B E) → Result B E
(Ok x) >>= f = f x
(Err e) >>= f = Err e

abbrev pub within : ℕ → ℕ → ℕ → Result ℕ TextKind
within low high n = if nat_le low n && nat_le n high then Ok n else Err kinds.Range

-- a number from `low` to `high`
unfoldable pub number_from : ℕ → ℕ → List ℕ → Result ℕ TextKind
number_from low high token = ok_or (number_in token) kinds.Number >>= within low high

-- set NAME N
unfoldable pub setting_in : List (List ℕ) → Result (Name × ℕ) TextKind
setting_in (token ∷ number ∷ []) = do
  name ← ok_or (name_in token) kinds.Word
  value ← number_from (least_value name) (most_value name) number
  Ok (name, value)
setting_in _ = Err kinds.Word

-- policy PREFIX PRECEDENCE LABEL
unfoldable pub row_in : List (List ℕ) → Result Row TextKind
row_in (first ∷ second ∷ third ∷ []) = do
  prefix ← ok_or (prefix_in first) kinds.Prefix
  precedence ← number_from 0 most_u16 second
  label ← number_from 0 most_u16 third
  Ok (record { prefix = prefix; precedence = precedence; label = label })
row_in _ = Err kinds.Word

-- a source's address and prefix length; the address is usable
unfoldable pub source_address_in : List ℕ → Result (Ip × ℕ) TextKind
source_address_in token = do
  source ← ok_or (source_in token) kinds.Prefix
  if is_usable source.0 then Ok source else Err kinds.Address

-- the number of an interface
abbrev pub interface_in : List ℕ → Result ℕ TextKind
interface_in token = number_from least_interface most_u16 token

-- whether a source is deprecated, and whether it is temporary: the marks appear in this order
unfoldable pub source_marks_in : List (List ℕ) → Result (Bool × Bool) TextKind
source_marks_in [] = Ok (false, false)
source_marks_in (only ∷ []) =
    if bytes_eq only (codes "deprecated") then Ok (true, false)
    else if bytes_eq only (codes "temporary") then Ok (false, true)
    else Err kinds.Word
source_marks_in (first ∷ second ∷ more) =
    if bytes_eq first (codes "deprecated") && bytes_eq second (codes "temporary") then Ok (true, true)
    else Err kinds.Word

-- source SOURCE INTERFACE [deprecated] [temporary]
unfoldable pub host_source_in : List (List ℕ) → Result Source TextKind
host_source_in (first ∷ second ∷ marks) =
    if nat_lt most_source_marks (length marks) then Err kinds.Word
    else do
      source ← source_address_in first
      interface ← interface_in second
      is ← source_marks_in marks
      Ok (record { ip = source.0; plen = source.1; interface = interface; deprecated = is.0; temporary = is.1 })
host_source_in _ = Err kinds.Word

-- whether a route is a tunnel
unfoldable pub route_marks_in : List (List ℕ) → Result Bool TextKind
route_marks_in [] = Ok false
route_marks_in (mark ∷ more) = if bytes_eq mark (codes "tunnel") then Ok true else Err kinds.Word

-- route PREFIX INTERFACE [tunnel]
unfoldable pub host_route_in : List (List ℕ) → Result Route TextKind
host_route_in (first ∷ second ∷ marks) =
    if nat_lt most_route_marks (length marks) then Err kinds.Word
    else do
      prefix ← ok_or (prefix_in first) kinds.Prefix
      interface ← interface_in second
      tunnel ← route_marks_in marks
      Ok (record { prefix = prefix; interface = interface; tunnel = tunnel })
host_route_in _ = Err kinds.Word

-- an address of the family
unfoldable pub address_in : Family → List ℕ → Result Ip TextKind
address_in family token = do
  ip ← ok_or (ip_in token) kinds.Address
  if is_of family ip then Ok ip else Err kinds.Address

unfoldable pub addresses_in : Family → List (List ℕ) → Result (List Ip) TextKind
addresses_in family [] = Ok []
addresses_in family (token ∷ tokens) = do
  ip ← address_in family token
  ips ← addresses_in family tokens
  Ok (ip ∷ ips)

-- `none` alone, or addresses
unfoldable pub listed_in : Family → List (List ℕ) → Result (List Ip) TextKind
listed_in family (only ∷ []) = if bytes_eq only (codes "none") then Ok [] else addresses_in family (only ∷ [])
listed_in family tokens = addresses_in family tokens

-- aaaa TICK none, aaaa TICK ADDRESS .., and the line of `a`
unfoldable pub answer_in : Family → List (List ℕ) → Result Reply TextKind
answer_in family (number ∷ first ∷ more) =
    if nat_lt MAX_ADDRESSES (length (first ∷ more)) then Err kinds.TooMany
    else do
      tick ← number_from 0 MAX_TICK number
      ips ← listed_in family (first ∷ more)
      Ok (record { tick = tick; addresses = ips })
answer_in family _ = Err kinds.Word

-- an address for which `known` holds
unfoldable pub known_in : (Ip → Bool) → List ℕ → Result Ip TextKind
known_in known token = do
  ip ← ok_or (ip_in token) kinds.Address
  if known ip then Ok ip else Err kinds.Address

-- rtt ADDRESS N
unfoldable pub round_trip_in : (Ip → Bool) → List (List ℕ) → Result (Ip × ℕ) TextKind
round_trip_in known (address ∷ number ∷ []) = do
  ip ← known_in known address
  rtt ← number_from MIN_DURATION MAX_DURATION number
  Ok (ip, rtt)
round_trip_in known _ = Err kinds.Word

-- used ADDRESS
unfoldable pub used_in : (Ip → Bool) → List (List ℕ) → Result Ip TextKind
used_in known (address ∷ []) = known_in known address
used_in known _ = Err kinds.Word

-- the mark of a connect: whether it succeeds
unfoldable pub mark_in : List ℕ → Result Bool TextKind
mark_in token =
    if bytes_eq token (codes "ok") then Ok true else if bytes_eq token (codes "fail") then Ok false else Err kinds.Word

-- connect ADDRESS ok N, connect ADDRESS fail N
unfoldable pub connect_in : (Ip → Bool) → List (List ℕ) → Result (Ip × Outcome) TextKind
connect_in known (address ∷ mark ∷ number ∷ []) = do
  ip ← known_in known address
  succeeds ← mark_in mark
  ticks ← number_from MIN_DURATION MAX_DURATION number
  Ok (ip, if succeeds then outcomes.Ok ticks else outcomes.Fail ticks)
connect_in known _ = Err kinds.Word

-- pause FROM TO
unfoldable pub pause_in : List (List ℕ) → Result (ℕ × ℕ) TextKind
pause_in (from ∷ to ∷ []) = do
  first ← number_from 0 MAX_TICK from
  last ← number_from least_pause_end MAX_PAUSE_END to
  Ok (first, last)
pause_in _ = Err kinds.Word

-- end
abbrev pub end_in : List (List ℕ) → Result (Unit {0}) TextKind
end_in [] = Ok tt
end_in _ = Err kinds.Word

-- the word that begins a line, and the tokens after it
unfoldable pub word_of : List (List ℕ) → Result (Word × List (List ℕ)) TextKind
word_of [] = Err kinds.Word
word_of (token ∷ tokens) = ok_or (word_in token) kinds.Word >>= λ word. Ok (word, tokens)

-- the additions of version 2: the words `rtt` and `used`, and the setting `floor`
abbrev pub names_floor : List (List ℕ) → Bool
names_floor [] = false
names_floor (token ∷ tokens) = bytes_eq token (name_spelling Floor)

abbrev pub is_added : Word × List (List ℕ) → Bool
is_added (words.Rtt, tokens) = true
is_added (words.Used, tokens) = true
is_added (words.Set, tokens) = names_floor tokens
is_added _ = false

-- a word and the tokens after it, if a text of the version has them
abbrev pub of_version : Version → Word × List (List ℕ) → Result (Word × List (List ℕ)) TextKind
of_version One parts = if is_added parts then Err kinds.Word else Ok parts
of_version Two parts = Ok parts

unfoldable pub version_word : Version → List (List ℕ) → Result (Word × List (List ℕ)) TextKind
version_word version line = word_of line >>= of_version version

-- the content of a line, from its word and the tokens after it, if these addresses are known
unfoldable pub said_by : (Ip → Bool) → Word → List (List ℕ) → Result Said TextKind
said_by known words.Set tokens = setting_in tokens >>= λ setting. Ok (Setting setting.0 setting.1)
said_by known words.Policy tokens = row_in tokens >>= λ row. Ok (PolicyRow row)
said_by known words.Source tokens = host_source_in tokens >>= λ source. Ok (HostSource source)
said_by known words.Route tokens = host_route_in tokens >>= λ route. Ok (HostRoute route)
said_by known words.Aaaa tokens = answer_in families.V6 tokens >>= λ reply. Ok (Answer families.V6 reply)
said_by known words.A tokens = answer_in families.V4 tokens >>= λ reply. Ok (Answer families.V4 reply)
said_by known words.Rtt tokens = round_trip_in known tokens >>= λ told. Ok (RoundTrip told.0 told.1)
said_by known words.Used tokens = used_in known tokens >>= λ ip. Ok (UsedBefore ip)
said_by known words.Connect tokens = connect_in known tokens >>= λ told. Ok (OutcomeOf told.0 told.1)
said_by known words.Pause tokens = pause_in tokens >>= λ pause. Ok (Paused pause.0 pause.1)
said_by known words.End tokens = end_in tokens >>= λ _. Ok Ended

abbrev pub said_from : (Ip → Bool) → Result (Word × List (List ℕ)) TextKind → Result Said TextKind
said_from known word = word >>= λ parts. said_by known parts.0 parts.1

abbrev pub said_in : (Ip → Bool) → List ℕ → Result Said TextKind
said_in known line = said_from known (word_of (tokens_of line))

-- a setting that is correct by itself: only the settings together can still have a fault
abbrev pub word_of_setting : Result Said TextKind → Option Word
word_of_setting (Ok (Setting name value)) = Some words.Set
word_of_setting _ = None
