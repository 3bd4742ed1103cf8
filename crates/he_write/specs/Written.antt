-- The texts that the writers append.
use Rattle.std.specs.Prelude.{ℕ, true, false, List, [], ◌∷◌, ◌++◌, map, decimal, Option, Some, None, codes}
use Rattle.std.specs.List.{flat_map, join_with_byte}
use Rattle.he_addr.specs.declared.ip.Ip.{Ip}
use Rattle.he_plan.specs.declared.transcript.Line.{Line}
use Rattle.he_plan.specs.declared.transcript.Mark.{Mark}
use Rattle.he_plan.specs.declared.transcript.Mark.TheVariants as marks
use Rattle.he_plan.specs.declared.transcript.Outcome3.{Outcome3}
use Rattle.he_plan.specs.declared.transcript.Outcome3.TheVariants as results
use Rattle.he_plan.specs.Transcript.{Report}
use Rattle.he_timeline.specs.declared.outcome.Outcome.{Outcome}
use Rattle.he_timeline.specs.Race.{History, Race, Reply}
use Rattle.he_timeline.specs.Settings.{SettingValues}
use Rattle.he_timeline.specs.Timeline.{duration_of}
use Rattle.he_select.specs.declared.policy.Row.{Row}
use Rattle.he_select.specs.declared.host.Source.{Source}
use Rattle.he_select.specs.declared.host.Route.{Route}
use Rattle.he_select.specs.Hosts.{HostLists}
use Rattle.he_words.specs.declared.words.Version.{Version}
use Rattle.he_words.specs.declared.words.Version.TheVariants.{One, Two}
use Rattle.he_words.specs.Ranges.{line_end, token_end}
use Rattle.he_words.specs.Words.{header_of}
use Rattle.he_words.specs.Marks.{mark_text, source_marks, route_marks}
use Rattle.he_addr.specs.Printing.{printed, source_text, prefix_text}

-- a line: its tokens separated by single spaces, and a line end
abbrev pub written_line : List (List ℕ) → List ℕ
written_line tokens = join_with_byte token_end tokens ++ line_end ∷ []

-- the mark and the tick of an attempt
abbrev pub fate_text : Mark → List (List ℕ)
fate_text (marks.Won tick) = codes "won" ∷ decimal tick ∷ []
fate_text (marks.Failed tick) = codes "failed" ∷ decimal tick ∷ []
fate_text (marks.Cancelled tick) = codes "cancelled" ∷ decimal tick ∷ []

-- attempt PLACE START ADDRESS MARK TICK
abbrev pub attempt_text : Line → List ℕ
attempt_text line =
    written_line (codes "attempt" ∷ decimal line.place ∷ decimal line.tick ∷ printed line.ip ∷ fate_text line.mark)

-- won PLACE TICK, exhausted TICK or limit TICK
abbrev pub result_text : Outcome3 → List ℕ
result_text (results.Won place tick) = written_line (codes "won" ∷ decimal place ∷ decimal tick ∷ [])
result_text (results.Exhausted tick) = written_line (codes "exhausted" ∷ decimal tick ∷ [])
result_text (results.Limit tick) = written_line (codes "limit" ∷ decimal tick ∷ [])

abbrev pub attempts_text : List Line → List ℕ
attempts_text lines = flat_map attempt_text lines

-- the text of a transcript: its attempts by place, and how the race ended
abbrev pub transcript_text : Report → List ℕ
transcript_text report = attempts_text report.lines ++ result_text report.result

-- set NAME N
abbrev pub setting_text : List ℕ → ℕ → List ℕ
setting_text name value = written_line (codes "set" ∷ name ∷ decimal value ∷ [])

abbrev pub delays_text : SettingValues → List ℕ
delays_text settings =
    setting_text (codes "resolution") settings.resolution ++ setting_text (codes "attempt") settings.attempt

abbrev pub bounds_text : SettingValues → List ℕ
bounds_text settings = setting_text (codes "count") settings.count ++ setting_text (codes "limit") settings.limit

abbrev pub floor_text : Option ℕ → List ℕ
floor_text None = []
floor_text (Some floor) = setting_text (codes "floor") floor

-- all settings, with the floor if there is one
abbrev pub settings_text : SettingValues → List ℕ
settings_text settings = delays_text settings ++ (bounds_text settings ++ floor_text settings.floor)

-- the least version that has the race's words: 2 if it has a floor, a round trip time or an address used before
abbrev pub version_for : Option ℕ → List (Ip × ℕ) → List Ip → Version
version_for None [] [] = One
version_for _ _ _ = Two

abbrev pub version_of : Race → Version
version_of race = version_for race.settings.floor race.history.rtts race.history.used

-- the first line and the settings
abbrev pub top_text : Race → List ℕ
top_text race = written_line (header_of (version_of race) ∷ []) ++ settings_text race.settings

-- policy PREFIX PRECEDENCE LABEL, every prefix in IPv6 form
abbrev pub row_text : Row → List ℕ
row_text row =
    written_line (codes "policy" ∷ prefix_text false row.prefix ∷ decimal row.precedence ∷ decimal row.label ∷ [])

-- source SOURCE INTERFACE [deprecated] [temporary]
abbrev pub host_source_text : Source → List ℕ
host_source_text source =
    written_line (codes "source" ∷ source_text source.ip source.plen ∷ decimal source.interface ∷ source_marks source)

-- route PREFIX INTERFACE [tunnel], IPv4 prefixes in IPv4 form
abbrev pub host_route_text : Route → List ℕ
host_route_text route =
    written_line (codes "route" ∷ prefix_text true route.prefix ∷ decimal route.interface ∷ route_marks route)

abbrev pub host_text : HostLists → List ℕ
host_text host = flat_map host_source_text host.sources ++ flat_map host_route_text host.routes

-- the input of address selection: the policy table, all its rows, and the host
abbrev pub selection_text : Race → List ℕ
selection_text race = flat_map row_text race.policy ++ host_text race.host

-- WORD TICK none, or WORD TICK ADDRESS ..
abbrev pub reply_text : List ℕ → ℕ → List Ip → List ℕ
reply_text word tick [] = written_line (word ∷ decimal tick ∷ codes "none" ∷ [])
reply_text word tick (ip ∷ ips) = written_line (word ∷ decimal tick ∷ map printed (ip ∷ ips))

abbrev pub answer_text : List ℕ → Option Reply → List ℕ
answer_text word None = []
answer_text word (Some reply) = reply_text word reply.tick reply.addresses

abbrev pub answers_text : Race → List ℕ
answers_text race = answer_text (codes "aaaa") race.aaaa ++ answer_text (codes "a") race.a

-- rtt ADDRESS N
abbrev pub rtt_text : Ip × ℕ → List ℕ
rtt_text told = written_line (codes "rtt" ∷ printed told.0 ∷ decimal told.1 ∷ [])

-- used ADDRESS
abbrev pub used_text : Ip → List ℕ
used_text ip = written_line (codes "used" ∷ printed ip ∷ [])

abbrev pub history_text : History → List ℕ
history_text history = flat_map rtt_text history.rtts ++ flat_map used_text history.used

-- connect ADDRESS ok N, connect ADDRESS fail N
abbrev pub outcome_text : Ip × Outcome → List ℕ
outcome_text told =
    written_line (codes "connect" ∷ printed told.0 ∷ mark_text told.1 ∷ decimal (duration_of told.1) ∷ [])

-- pause FROM TO
abbrev pub pause_text : ℕ × ℕ → List ℕ
pause_text pause = written_line (codes "pause" ∷ decimal pause.0 ∷ decimal pause.1 ∷ [])

abbrev pub told_text : Race → List ℕ
told_text race = flat_map outcome_text race.outcomes ++ flat_map pause_text race.pauses

-- the text of a timeline
abbrev pub timeline_text : Race → List ℕ
timeline_text race =
    (top_text race ++ (selection_text race ++ (answers_text race ++ (history_text race.history ++ told_text race))))
    ++ written_line (codes "end" ∷ [])
