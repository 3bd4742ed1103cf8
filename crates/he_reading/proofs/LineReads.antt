-- How the tokens of a line are read; a line says what is read of it.
use Rattle.std.proofs.Common.{◌≡◌, ℕ, ◌⊎◌, ◌<◌, ◌≤◌, List, [], ◌∷◌, length, Some, inl, inr}
use Rattle.std.specs.Prelude.{codes}
use Rattle.std.specs.List.{AllZip}
use Rattle.he_addr.specs.declared.ip.Ip.{Ip}
use Rattle.he_addr.specs.Reading.{number_in, ip_in, prefix_in, source_in}
use Rattle.he_addr.specs.Text.{Spells}
use Rattle.he_addr.proofs.ReadLaws.{read_number_spells, spelled_number_reads, read_address_spells, spelled_address_reads, read_source_spells, spelled_source_reads, read_prefix_spells, spelled_prefix_reads}
use Rattle.he_timeline.specs.declared.limits.TheConstants.{MAX_TICK, MIN_DURATION, MAX_DURATION, MAX_PAUSE_END, MAX_ADDRESSES}
use Rattle.he_timeline.specs.Timeline.{duration_of}
use Rattle.he_words.specs.declared.limits.TheConstants.{MAX_PRECEDENCE, MAX_LABEL, MIN_INTERFACE, MAX_INTERFACE}
use Rattle.he_words.specs.declared.words.Word.TheVariants as words
use Rattle.he_words.specs.Words.{least_value, most_value, spelling_of, name_spelling}
use Rattle.he_reading.specs.Parts.{tokens_of}
use Rattle.he_reading.specs.Said.{Said, Setting, PolicyRow, HostSource, HostRoute, Answer, RoundTrip, UsedBefore, OutcomeOf, Paused, Ended}
use Rattle.he_reading.specs.Text.{IsNumber, Lists, Says, answer_word}
use Rattle.he_words.specs.Marks.{mark_text, source_marks, route_marks}

-- a token that is read as a number from `low` to `high`
pub record ReadsNumber (low high : ℕ) (token : List ℕ) (n : ℕ) : Type 0 where
  pub value : number_in token ≡ Some n
  pub least : low ≤ n
  pub most : n ≤ high

-- `none`, or tokens that are read as the addresses
abbrev pub ReadsList : List (List ℕ) → List Ip → Type 0
ReadsList tokens ips = ((tokens ≡ codes "none" ∷ []) × (ips ≡ [])) ⊎ ((0 < length tokens) × AllZip (λ token ip. ip_in token ≡ Some ip) tokens ips)

-- a line, by its tokens, and what is read of it
abbrev pub Reads : List ℕ → Said → Type 0
Reads line (Setting name value) =
    (number : List ℕ) × (tokens_of line ≡ spelling_of words.Set ∷ name_spelling name ∷ number ∷ []) × ReadsNumber (least_value name) (most_value name) number value
Reads line (PolicyRow row) =
    (first : List ℕ) × (second : List ℕ) × (third : List ℕ) × (tokens_of line ≡ spelling_of words.Policy ∷ first ∷ second ∷ third ∷ [])
    × (prefix_in first ≡ Some row.prefix) × ReadsNumber 0 MAX_PRECEDENCE second row.precedence × ReadsNumber 0 MAX_LABEL third row.label
Reads line (HostSource source) =
    (first : List ℕ) × (second : List ℕ) × (tokens_of line ≡ spelling_of words.Source ∷ first ∷ second ∷ source_marks source)
    × (source_in first ≡ Some (source.ip, source.plen)) × ReadsNumber MIN_INTERFACE MAX_INTERFACE second source.interface
Reads line (HostRoute route) =
    (first : List ℕ) × (second : List ℕ) × (tokens_of line ≡ spelling_of words.Route ∷ first ∷ second ∷ route_marks route)
    × (prefix_in first ≡ Some route.prefix) × ReadsNumber MIN_INTERFACE MAX_INTERFACE second route.interface
Reads line (Answer family reply) =
    (number : List ℕ) × (tokens : List (List ℕ)) × (tokens_of line ≡ spelling_of (answer_word family) ∷ number ∷ tokens)
    × ReadsNumber 0 MAX_TICK number reply.tick × ReadsList tokens reply.addresses × (length tokens ≤ MAX_ADDRESSES)
Reads line (RoundTrip ip rtt) =
    (address : List ℕ) × (number : List ℕ) × (tokens_of line ≡ spelling_of words.Rtt ∷ address ∷ number ∷ [])
    × (ip_in address ≡ Some ip) × ReadsNumber MIN_DURATION MAX_DURATION number rtt
Reads line (UsedBefore ip) = (address : List ℕ) × (tokens_of line ≡ spelling_of words.Used ∷ address ∷ []) × (ip_in address ≡ Some ip)
Reads line (OutcomeOf ip outcome) =
    (address : List ℕ) × (number : List ℕ) × (tokens_of line ≡ spelling_of words.Connect ∷ address ∷ mark_text outcome ∷ number ∷ [])
    × (ip_in address ≡ Some ip) × ReadsNumber MIN_DURATION MAX_DURATION number (duration_of outcome)
Reads line (Paused from to) =
    (first : List ℕ) × (second : List ℕ) × (tokens_of line ≡ spelling_of words.Pause ∷ first ∷ second ∷ [])
    × ReadsNumber 0 MAX_TICK first from × ReadsNumber 1 MAX_PAUSE_END second to
Reads line Ended = ⊥

-- what is read is what is spelled
number_spelled : (low high : ℕ) (token : List ℕ) (n : ℕ) → ReadsNumber low high token n → IsNumber low high token n
number_spelled low high token n r = record { value = read_number_spells token n r.value; least = r.least; most = r.most }

number_read : (low high : ℕ) (token : List ℕ) (n : ℕ) → IsNumber low high token n → ReadsNumber low high token n
number_read low high token n r = record { value = spelled_number_reads token n r.value; least = r.least; most = r.most }

all_spelled : (tokens : List (List ℕ)) (ips : List Ip) → AllZip (λ token ip. ip_in token ≡ Some ip) tokens ips → AllZip Spells tokens ips
all_spelled [] [] all = tt
all_spelled [] (ip ∷ ips) all = absurd all
all_spelled (token ∷ tokens) [] all = absurd all
all_spelled (token ∷ tokens) (ip ∷ ips) all = (read_address_spells token ip all.0, all_spelled tokens ips all.1)

all_read : (tokens : List (List ℕ)) (ips : List Ip) → AllZip Spells tokens ips → AllZip (λ token ip. ip_in token ≡ Some ip) tokens ips
all_read [] [] all = tt
all_read [] (ip ∷ ips) all = absurd all
all_read (token ∷ tokens) [] all = absurd all
all_read (token ∷ tokens) (ip ∷ ips) all = (spelled_address_reads token ip all.0, all_read tokens ips all.1)

list_spelled : (tokens : List (List ℕ)) (ips : List Ip) → ReadsList tokens ips → Lists tokens ips
list_spelled tokens ips reads = elim reads [ inl none ↦ inl none | inr some ↦ inr (some.0, all_spelled tokens ips some.1) ]

list_read : (tokens : List (List ℕ)) (ips : List Ip) → Lists tokens ips → ReadsList tokens ips
list_read tokens ips lists = elim lists [ inl none ↦ inl none | inr some ↦ inr (some.0, all_read tokens ips some.1) ]

pub says_read : (line : List ℕ) (s : Said) → Reads line s → Says line s
says_read line (Setting name value) r = (r.0, r.1, number_spelled (least_value name) (most_value name) r.0 value r.2)
says_read line (PolicyRow row) r =
    (r.0, r.1, r.2, r.3, read_prefix_spells r.0 row.prefix r.4, number_spelled 0 MAX_PRECEDENCE r.1 row.precedence r.5, number_spelled 0 MAX_LABEL r.2 row.label r.6)
says_read line (HostSource source) r =
    (r.0, r.1, r.2, read_source_spells r.0 source.ip source.plen r.3, number_spelled MIN_INTERFACE MAX_INTERFACE r.1 source.interface r.4)
says_read line (HostRoute route) r = (r.0, r.1, r.2, read_prefix_spells r.0 route.prefix r.3, number_spelled MIN_INTERFACE MAX_INTERFACE r.1 route.interface r.4)
says_read line (Answer family reply) r = (r.0, r.1, r.2, number_spelled 0 MAX_TICK r.0 reply.tick r.3, list_spelled r.1 reply.addresses r.4, r.5)
says_read line (RoundTrip ip rtt) r = (r.0, r.1, r.2, read_address_spells r.0 ip r.3, number_spelled MIN_DURATION MAX_DURATION r.1 rtt r.4)
says_read line (UsedBefore ip) r = (r.0, r.1, read_address_spells r.0 ip r.2)
says_read line (OutcomeOf ip outcome) r = (r.0, r.1, r.2, read_address_spells r.0 ip r.3, number_spelled MIN_DURATION MAX_DURATION r.1 (duration_of outcome) r.4)
says_read line (Paused from to) r = (r.0, r.1, r.2, number_spelled 0 MAX_TICK r.0 from r.3, number_spelled 1 MAX_PAUSE_END r.1 to r.4)
says_read line Ended r = absurd r

pub reads_said : (line : List ℕ) (s : Said) → Says line s → Reads line s
reads_said line (Setting name value) r = (r.0, r.1, number_read (least_value name) (most_value name) r.0 value r.2)
reads_said line (PolicyRow row) r =
    (r.0, r.1, r.2, r.3, spelled_prefix_reads r.0 row.prefix r.4, number_read 0 MAX_PRECEDENCE r.1 row.precedence r.5, number_read 0 MAX_LABEL r.2 row.label r.6)
reads_said line (HostSource source) r =
    (r.0, r.1, r.2, spelled_source_reads r.0 source.ip source.plen r.3, number_read MIN_INTERFACE MAX_INTERFACE r.1 source.interface r.4)
reads_said line (HostRoute route) r = (r.0, r.1, r.2, spelled_prefix_reads r.0 route.prefix r.3, number_read MIN_INTERFACE MAX_INTERFACE r.1 route.interface r.4)
reads_said line (Answer family reply) r = (r.0, r.1, r.2, number_read 0 MAX_TICK r.0 reply.tick r.3, list_read r.1 reply.addresses r.4, r.5)
reads_said line (RoundTrip ip rtt) r = (r.0, r.1, r.2, spelled_address_reads r.0 ip r.3, number_read MIN_DURATION MAX_DURATION r.1 rtt r.4)
reads_said line (UsedBefore ip) r = (r.0, r.1, spelled_address_reads r.0 ip r.2)
reads_said line (OutcomeOf ip outcome) r = (r.0, r.1, r.2, spelled_address_reads r.0 ip r.3, number_read MIN_DURATION MAX_DURATION r.1 (duration_of outcome) r.4)
reads_said line (Paused from to) r = (r.0, r.1, r.2, number_read 0 MAX_TICK r.0 from r.3, number_read 1 MAX_PAUSE_END r.1 to r.4)
reads_said line Ended r = absurd r
