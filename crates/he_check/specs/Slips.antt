-- Entries of a race and its record that are allowed, but likely mistakes, and the warnings of an input about them.
use Rattle.std.specs.Prelude.{ℕ, ◌≡◌, ◌+◌, ◌-◌, ◌==◌, ◌++◌, ◌&&◌, ◌||◌, Bool, false, not, List, [], ◌∷◌, length, map, nat_lt, if◌then◌else◌, Option, Some, None}
use Rattle.std.specs.List.{list_any}
use Rattle.std.specs.Option.{option_map_or}
use Rattle.he_addr.specs.Ip.{is_of, is_usable}
use Rattle.he_addr.specs.Prefix.{PrefixBits, is_inside_mapped}
use Rattle.he_addr.specs.declared.ip.Family.{Family}
use Rattle.he_addr.specs.declared.ip.Family.TheVariants as families
use Rattle.he_addr.specs.declared.ip.Ip.{Ip}
use Rattle.he_timeline.specs.Race.{Race, Reply, addresses_of, has_ip}
use Rattle.he_timeline.specs.Settings.{SettingValues}
use Rattle.he_timeline.specs.Timeline.{duration_of}
use Rattle.he_timeline.specs.declared.outcome.Outcome.{Outcome}
use Rattle.he_select.specs.Hosts.{HostLists}
use Rattle.he_select.specs.declared.host.Route.{Route}
use Rattle.he_select.specs.declared.host.Source.{Source}
use Rattle.he_record.specs.Said.{Said, AttemptSaid, UntriedSaid}
use Rattle.he_inputs.specs.Inputs.{line_count}
use Rattle.he_inputs.specs.Recorded.{IsRecordedText}
use Rattle.he_check.specs.declared.slips.Slip.{Slip}
use Rattle.he_check.specs.declared.slips.Slip.TheVariants.{NoRace, NoSource, IdleFloor, NoRoute, NoAnswer, LateAnswer, UnusableAnswer, NoSourceOf, LateOutcome, Unanswered}
use Rattle.he_check.specs.declared.slips.Warning.{Warning}

abbrev pub slip_if : Bool → Slip → List Slip
slip_if holds slip = if holds then slip ∷ [] else []

-- the floor equals the Connection Attempt Delay, so no attempt starts earlier for it
abbrev pub is_floor_idle : SettingValues → Bool
is_floor_idle settings = option_map_or (λ floor. floor == settings.attempt) settings.floor false

-- there are addresses, but none that may be tried
abbrev pub are_unusable : List Ip → Bool
are_unusable [] = false
are_unusable (ip ∷ ips) = not (list_any is_usable (ip ∷ ips))

abbrev pub has_source : List Source → Family → Bool
has_source sources family = list_any (λ source. is_of family source.ip) sources

-- a route inside ::ffff:0:0/96 serves only IPv4 destinations, any other route only IPv6 destinations
abbrev pub serves : PrefixBits → Family → Bool
serves prefix families.V6 = not (is_inside_mapped prefix)
serves prefix families.V4 = is_inside_mapped prefix

abbrev pub has_route : List Route → Family → Bool
has_route routes family = list_any (λ route. serves route.prefix family) routes

-- a destination needs a route of its family and a source of its family (RFC 6724 sections 4 and 5): there is a
-- source, and no route
abbrev pub lacks_route : HostLists → Family → Bool
lacks_route host family = has_source host.sources family && not (has_route host.routes family)

-- there are sources, none of them of the family, and an address of the family that may be tried
abbrev pub lacks_source : HostLists → Family → List Ip → Bool
lacks_source host family ips =
    not (length host.sources == 0) && (not (has_source host.sources family) && list_any is_usable ips)

-- an attempt at an address of the family takes longer
abbrev pub is_longer : Family → ℕ → Ip × Outcome → Bool
is_longer family ticks told = is_of family told.0 && nat_lt ticks (duration_of told.1)

-- the answer comes by the limit, and an attempt of the family takes longer than the time left then; none starts
-- before its answer (RFC 8305 section 3)
abbrev pub has_late_outcome : Race → Family → ℕ → Bool
has_late_outcome race family tick =
    not (nat_lt race.settings.limit tick)
    && list_any (is_longer family (race.settings.limit - tick)) race.outcomes

-- a family without an answer; an answer after the limit; one without an address that may be tried; one with addresses
-- that the host doesn't reach; an outcome after the limit
abbrev pub answer_slips : Race → Family → Option Reply → List Slip
answer_slips race family None = NoAnswer family ∷ []
answer_slips race family (Some reply) =
    slip_if (nat_lt race.settings.limit reply.tick) (LateAnswer family)
    ++ (slip_if (are_unusable reply.addresses) (UnusableAnswer family)
    ++ (slip_if (lacks_source race.host family reply.addresses) (NoSourceOf family)
    ++ slip_if (has_late_outcome race family reply.tick) (LateOutcome family)))

-- a race without a source first, then the others in the order of the race's lines
abbrev pub slips_of : Race → List Slip
slips_of race =
    slip_if (length race.host.sources == 0) NoSource
    ++ (slip_if (is_floor_idle race.settings) IdleFloor
    ++ (slip_if (lacks_route race.host families.V6) (NoRoute families.V6)
    ++ (slip_if (lacks_route race.host families.V4) (NoRoute families.V4)
    ++ (answer_slips race families.V6 race.aaaa ++ answer_slips race families.V4 race.a))))

abbrev pub warning_at : ℕ → Slip → Warning
warning_at line slip = record { line = line; slip = slip }

abbrev pub is_answered : Race → Ip → Bool
is_answered race ip = has_ip ip (addresses_of race.aaaa) || has_ip ip (addresses_of race.a)

-- the record line is about an address that is in no answer of the race
abbrev pub is_unanswered : Race → Said → Bool
is_unanswered race (AttemptSaid ip reason) = not (is_answered race ip)
is_unanswered race (UntriedSaid ip) = not (is_answered race ip)
is_unanswered race said = false

-- a warning for each such line of a record that begins on this line
abbrev pub record_warnings : ℕ → Race → List Said → List Warning
record_warnings line race [] = []
record_warnings line race (said ∷ more) =
    map (warning_at line) (slip_if (is_unanswered race said) Unanswered) ++ record_warnings (line + 1) race more

-- a warning of a slip of the race has the first line of the race's text, which begins with its record
abbrev pub warnings_of : ℕ → List Said → Race → List Warning
warnings_of line said race = map (warning_at line) (slips_of race) ++ record_warnings line race said

-- the text, after `lines` lines, consists of a text of each race in order, and these are their warnings
abbrev pub AreWarned : ℕ → List Race → List ℕ → List Warning → Type 0
AreWarned lines [] text warnings = (text ≡ []) × (warnings ≡ [])
AreWarned lines (race ∷ races) text warnings =
    (first : List ℕ) × (more : List ℕ) × (later : List Warning)
    × (text ≡ first ++ more) × (is : IsRecordedText first race)
    × (warnings ≡ warnings_of (lines + 1) is.0 race ++ later)
    × AreWarned (lines + line_count first) races more later

-- the warnings of an input's races, or the one for an input without races
abbrev pub HasWarnings : List ℕ → List Warning → Type 0
HasWarnings input warnings =
    (races : List Race) × (told : List Warning)
    × AreWarned 0 races input told × (warnings ≡ told ++ map (warning_at 1) (slip_if (length races == 0) NoRace))
