-- What is written of each thing that is said says it.
use Rattle.std.proofs.Common.{◌≡◌, ℕ, suc, ◌+◌, ◌^◌, ◌<◌, ◌≤◌, Bool, true, false, List, [], ◌∷◌, ◌++◌, length, map, Some, refl, ap, inl, inr, arith}
use Rattle.std.specs.Prelude.{codes, decimal}
use Rattle.std.specs.List.{AllByRecursion, AllZip, join_with_byte}
use Rattle.he_addr.specs.declared.ip.Family.TheVariants as families
use Rattle.he_addr.specs.declared.ip.Ip.{Ip}
use Rattle.he_addr.specs.Ip.{InRange}
use Rattle.he_addr.specs.Prefix.{width_of}
use Rattle.he_addr.specs.Printing.{printed, source_text, prefix_text}
use Rattle.he_addr.specs.Reading.{ip_in}
use Rattle.he_addr.specs.Text.{IsToken}
use Rattle.he_addr.proofs.TextLaws.{numbers_read_back, addresses_read_back, sources_read_back, prefixes_read_back, numbers_are_tokens, addresses_are_tokens, sources_are_tokens, prefixes_are_tokens}
use Rattle.he_timeline.specs.declared.limits.TheConstants.{MAX_TICK, MIN_DURATION, MAX_DURATION, MAX_PAUSE_END, MAX_ADDRESSES}
use Rattle.he_timeline.specs.declared.outcome.Outcome.{Outcome}
use Rattle.he_timeline.specs.declared.outcome.Outcome.TheVariants as outcomes
use Rattle.he_timeline.specs.Timeline.{duration_of}
use Rattle.he_words.specs.declared.limits.TheConstants.{MAX_LINE, MAX_PRECEDENCE, MAX_LABEL, MIN_INTERFACE, MAX_INTERFACE}
use Rattle.he_words.specs.declared.words.Name.{Name}
use Rattle.he_words.specs.declared.words.Name.TheVariants.{Resolution, Attempt, Count, Limit, Floor}
use Rattle.he_words.specs.declared.words.Word.{Word}
use Rattle.he_words.specs.declared.words.Word.TheVariants as words
use Rattle.he_words.specs.Words.{least_value, most_value, spelling_of, name_spelling}
use Rattle.he_reading.specs.Parts.{tokens_of}
use Rattle.he_text.specs.InRange.{RowInRange, RouteInRange}
use Rattle.he_reading.specs.Said.{Said, Setting, PolicyRow, HostSource, HostRoute, Answer, RoundTrip, UsedBefore, OutcomeOf, Paused, Ended, word_said}
use Rattle.he_words.specs.Marks.{mark_text, marked, source_marks, route_marks}
use Rattle.he_reading.proofs.LineReads.{Reads, ReadsList, ReadsNumber}
use Rattle.he_reading.proofs.PartLaws.{Lacks}
use Rattle.he_text.proofs.RereadLines.{AreTokens, wider, token_from, tokens_back, line_size, one_line}

-- the addresses of an answer, or `none`
abbrev pub listed_text : List Ip → List (List ℕ)
listed_text [] = codes "none" ∷ []
listed_text (ip ∷ ips) = map printed (ip ∷ ips)

-- what stands after the word of the line that is written
abbrev pub others_of : Said → List (List ℕ)
others_of (Setting name value) = name_spelling name ∷ decimal value ∷ []
others_of (PolicyRow row) = prefix_text false row.prefix ∷ decimal row.precedence ∷ decimal row.label ∷ []
others_of (HostSource source) = source_text source.ip source.plen ∷ decimal source.interface ∷ source_marks source
others_of (HostRoute route) = prefix_text true route.prefix ∷ decimal route.interface ∷ route_marks route
others_of (Answer family reply) = decimal reply.tick ∷ listed_text reply.addresses
others_of (RoundTrip ip rtt) = printed ip ∷ decimal rtt ∷ []
others_of (UsedBefore ip) = printed ip ∷ []
others_of (OutcomeOf ip outcome) = printed ip ∷ mark_text outcome ∷ decimal (duration_of outcome) ∷ []
others_of (Paused from to) = decimal from ∷ decimal to ∷ []
others_of Ended = []

abbrev pub line_of : Said → List ℕ
line_of s = join_with_byte 32 (spelling_of (word_said s) ∷ others_of s)

-- what can be written
abbrev pub Spellable : Said → Type 0
Spellable (Setting name value) = (least_value name ≤ value) × (value ≤ most_value name)
Spellable (PolicyRow row) = RowInRange row
Spellable (HostSource source) = InRange source.ip × (source.plen ≤ width_of source.ip) × (MIN_INTERFACE ≤ source.interface) × (source.interface ≤ MAX_INTERFACE)
Spellable (HostRoute route) = RouteInRange route × (MIN_INTERFACE ≤ route.interface)
Spellable (Answer family reply) = (reply.tick ≤ MAX_TICK) × (length reply.addresses ≤ MAX_ADDRESSES) × AllByRecursion InRange reply.addresses
Spellable (RoundTrip ip rtt) = InRange ip × (MIN_DURATION ≤ rtt) × (rtt ≤ MAX_DURATION)
Spellable (UsedBefore ip) = InRange ip
Spellable (OutcomeOf ip outcome) = InRange ip × (MIN_DURATION ≤ duration_of outcome) × (duration_of outcome ≤ MAX_DURATION)
Spellable (Paused from to) = (from ≤ MAX_TICK) × (1 ≤ to) × (to ≤ MAX_PAUSE_END)
Spellable Ended = ⊥

number_is : (low high n : ℕ) → low ≤ n → n ≤ high → high < 10 ^ 10 → ReadsNumber low high (decimal n) n
number_is low high n least most small = record { value = (numbers_read_back n (omega arith)).1; least = least; most = most }

number_token : (n high : ℕ) → n ≤ high → high < 10 ^ 10 → IsToken 43 (decimal n)
number_token n high most small = wider 10 (decimal n) (omega arith) (numbers_are_tokens n (omega arith))

address_token : (ip : Ip) → InRange ip → IsToken 43 (printed ip)
address_token ip small = wider 39 (printed ip) (omega arith) (addresses_are_tokens ip small)

pub word_token : (word : Word) → IsToken 43 (spelling_of word)
word_token words.Set = token_from (codes "set") refl
word_token words.Policy = token_from (codes "policy") refl
word_token words.Source = token_from (codes "source") refl
word_token words.Route = token_from (codes "route") refl
word_token words.Aaaa = token_from (codes "aaaa") refl
word_token words.A = token_from (codes "a") refl
word_token words.Rtt = token_from (codes "rtt") refl
word_token words.Used = token_from (codes "used") refl
word_token words.Connect = token_from (codes "connect") refl
word_token words.Pause = token_from (codes "pause") refl
word_token words.End = token_from (codes "end") refl

name_token : (name : Name) → IsToken 43 (name_spelling name)
name_token Resolution = token_from (codes "resolution") refl
name_token Attempt = token_from (codes "attempt") refl
name_token Count = token_from (codes "count") refl
name_token Limit = token_from (codes "limit") refl
name_token Floor = token_from (codes "floor") refl

name_small : (name : Name) → most_value name < 10 ^ 10
name_small Resolution = omega arith
name_small Attempt = omega arith
name_small Count = omega arith
name_small Limit = omega arith
name_small Floor = omega arith

source_mark_tokens : (deprecated temporary : Bool) → AreTokens (marked deprecated (codes "deprecated") ++ marked temporary (codes "temporary"))
source_mark_tokens false false = tt
source_mark_tokens true false = (token_from (codes "deprecated") refl, tt)
source_mark_tokens false true = (token_from (codes "temporary") refl, tt)
source_mark_tokens true true = (token_from (codes "deprecated") refl, (token_from (codes "temporary") refl, tt))

route_mark_tokens : (tunnel : Bool) → AreTokens (marked tunnel (codes "tunnel"))
route_mark_tokens false = tt
route_mark_tokens true = (token_from (codes "tunnel") refl, tt)

mark_token : (outcome : Outcome) → IsToken 43 (mark_text outcome)
mark_token (outcomes.Ok ticks) = token_from (codes "ok") refl
mark_token (outcomes.Fail ticks) = token_from (codes "fail") refl

printed_tokens : (ips : List Ip) → AllByRecursion InRange ips → AreTokens (map printed ips)
printed_tokens [] small = tt
printed_tokens (ip ∷ ips) small = (address_token ip small.0, printed_tokens ips small.1)

listed_tokens : (ips : List Ip) → AllByRecursion InRange ips → AreTokens (listed_text ips)
listed_tokens [] small = (token_from (codes "none") refl, tt)
listed_tokens (ip ∷ ips) small = printed_tokens (ip ∷ ips) small

others_tokens : (s : Said) → Spellable s → AreTokens (others_of s)
others_tokens (Setting name value) h = (name_token name, (number_token value (most_value name) h.1 (name_small name), tt))
others_tokens (PolicyRow row) h =
    (prefixes_are_tokens false row.prefix h.0, (number_token row.precedence MAX_PRECEDENCE h.1 (omega arith), (number_token row.label MAX_LABEL h.2 (omega arith), tt)))
others_tokens (HostSource source) h =
    (sources_are_tokens source.ip source.plen h.0 h.1, (number_token source.interface MAX_INTERFACE h.3 (omega arith), source_mark_tokens source.deprecated source.temporary))
others_tokens (HostRoute route) h =
    (prefixes_are_tokens true route.prefix h.0.0, (number_token route.interface MAX_INTERFACE h.0.1 (omega arith), route_mark_tokens route.tunnel))
others_tokens (Answer family reply) h = (number_token reply.tick MAX_TICK h.0 (omega arith), listed_tokens reply.addresses h.2)
others_tokens (RoundTrip ip rtt) h = (address_token ip h.0, (number_token rtt MAX_DURATION h.2 (omega arith), tt))
others_tokens (UsedBefore ip) h = (address_token ip h, tt)
others_tokens (OutcomeOf ip outcome) h = (address_token ip h.0, (mark_token outcome, (number_token (duration_of outcome) MAX_DURATION h.2 (omega arith), tt)))
others_tokens (Paused from to) h = (number_token from MAX_TICK h.0 (omega arith), (number_token to MAX_PAUSE_END h.2 (omega arith), tt))
others_tokens Ended h = absurd h

line_tokens : (s : Said) → Spellable s → AreTokens (spelling_of (word_said s) ∷ others_of s)
line_tokens s h = (word_token (word_said s), others_tokens s h)

pub written_tokens : (s : Said) → Spellable s → tokens_of (line_of s) ≡ spelling_of (word_said s) ∷ others_of s
written_tokens s h = tokens_back (spelling_of (word_said s)) (others_of s) (line_tokens s h)

pub written_in_line : (s : Said) → Spellable s → Lacks 10 (line_of s)
written_in_line s h = one_line (spelling_of (word_said s)) (others_of s) (line_tokens s h)

-- how many tokens there are
printed_count : (ips : List Ip) → length (map printed ips) ≡ length ips
printed_count [] = refl
printed_count (ip ∷ ips) = ap suc (printed_count ips)

pub listed_count : (ips : List Ip) → length ips ≤ MAX_ADDRESSES → length (listed_text ips) ≤ MAX_ADDRESSES
listed_count [] few = omega arith
listed_count (ip ∷ ips) few = omega (arith, printed_count (ip ∷ ips))

source_marks_few : (deprecated temporary : Bool) → length (marked deprecated (codes "deprecated") ++ marked temporary (codes "temporary")) ≤ 2
source_marks_few false false = omega arith
source_marks_few true false = omega arith
source_marks_few false true = omega arith
source_marks_few true true = omega arith

route_marks_few : (tunnel : Bool) → length (marked tunnel (codes "tunnel")) ≤ 1
route_marks_few false = omega arith
route_marks_few true = omega arith

others_few : (s : Said) → Spellable s → length (others_of s) ≤ 1 + MAX_ADDRESSES
others_few (Setting name value) h = omega arith
others_few (PolicyRow row) h = omega arith
others_few (HostSource source) h = omega (arith, source_marks_few source.deprecated source.temporary)
others_few (HostRoute route) h = omega (arith, route_marks_few route.tunnel)
others_few (Answer family reply) h = omega (arith, listed_count reply.addresses h.1)
others_few (RoundTrip ip rtt) h = omega arith
others_few (UsedBefore ip) h = omega arith
others_few (OutcomeOf ip outcome) h = omega arith
others_few (Paused from to) h = omega arith
others_few Ended h = omega arith

pub written_short : (s : Said) → Spellable s → length (line_of s) ≤ MAX_LINE
written_short s h =
    let size = line_size (spelling_of (word_said s)) (others_of s) (line_tokens s h) in
    let few = others_few s h in
    omega (arith, size, few)

-- addresses are read back
printed_read : (ips : List Ip) → AllByRecursion InRange ips → AllZip (λ token ip. ip_in token ≡ Some ip) (map printed ips) ips
printed_read [] small = tt
printed_read (ip ∷ ips) small = ((addresses_read_back ip small.0).1, printed_read ips small.1)

listed_read : (ips : List Ip) → AllByRecursion InRange ips → ReadsList (listed_text ips) ips
listed_read [] small = inl (refl, refl)
listed_read (ip ∷ ips) small = inr (omega arith, printed_read (ip ∷ ips) small)

pub written_says : (s : Said) → Spellable s → Reads (line_of s) s
written_says (Setting name value) h =
    (decimal value, written_tokens (Setting name value) h, number_is (least_value name) (most_value name) value h.0 h.1 (name_small name))
written_says (PolicyRow row) h = (
  prefix_text false row.prefix,
  decimal row.precedence,
  decimal row.label,
  written_tokens (PolicyRow row) h,
  (prefixes_read_back false row.prefix h.0).1,
  number_is 0 MAX_PRECEDENCE row.precedence (omega arith) h.1 (omega arith),
  number_is 0 MAX_LABEL row.label (omega arith) h.2 (omega arith),
)
written_says (HostSource source) h = (
  source_text source.ip source.plen,
  decimal source.interface,
  written_tokens (HostSource source) h,
  (sources_read_back source.ip source.plen h.0 h.1).1,
  number_is MIN_INTERFACE MAX_INTERFACE source.interface h.2 h.3 (omega arith),
)
written_says (HostRoute route) h = (
  prefix_text true route.prefix,
  decimal route.interface,
  written_tokens (HostRoute route) h,
  (prefixes_read_back true route.prefix h.0.0).1,
  number_is MIN_INTERFACE MAX_INTERFACE route.interface h.1 h.0.1 (omega arith),
)
written_says (Answer families.V6 reply) h = (
  decimal reply.tick,
  listed_text reply.addresses,
  written_tokens (Answer families.V6 reply) h,
  number_is 0 MAX_TICK reply.tick (omega arith) h.0 (omega arith),
  listed_read reply.addresses h.2,
  listed_count reply.addresses h.1,
)
written_says (Answer families.V4 reply) h = (
  decimal reply.tick,
  listed_text reply.addresses,
  written_tokens (Answer families.V4 reply) h,
  number_is 0 MAX_TICK reply.tick (omega arith) h.0 (omega arith),
  listed_read reply.addresses h.2,
  listed_count reply.addresses h.1,
)
written_says (RoundTrip ip rtt) h = (
  printed ip,
  decimal rtt,
  written_tokens (RoundTrip ip rtt) h,
  (addresses_read_back ip h.0).1,
  number_is MIN_DURATION MAX_DURATION rtt h.1 h.2 (omega arith),
)
written_says (UsedBefore ip) h = (printed ip, written_tokens (UsedBefore ip) h, (addresses_read_back ip h).1)
written_says (OutcomeOf ip outcome) h = (
  printed ip,
  decimal (duration_of outcome),
  written_tokens (OutcomeOf ip outcome) h,
  (addresses_read_back ip h.0).1,
  number_is MIN_DURATION MAX_DURATION (duration_of outcome) h.1 h.2 (omega arith),
)
written_says (Paused from to) h = (
  decimal from,
  decimal to,
  written_tokens (Paused from to) h,
  number_is 0 MAX_TICK from (omega arith) h.0 (omega arith),
  number_is 1 MAX_PAUSE_END to h.1 h.2 (omega arith),
)
written_says Ended h = absurd h
