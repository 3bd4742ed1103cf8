-- What is spelled is read: each form, from what a line that has it keeps to.
use Rattle.std.proofs.Common.{◌≡◌, ℕ, ◌<◌, ◌≤◌, Bool, true, false, cond, leb, ltb, List, [], ◌∷◌, ◌++◌, length, Some, None, Ok, Err, refl, sym, ◌∙◌, ap, inl, inr, arith}
use Rattle.std.specs.Prelude.{codes}
use Rattle.std.specs.List.{AllZip}
use Rattle.std.specs.Option.{ok_or}
use Rattle.std.specs.Str.{bytes_eq}
use Rattle.std.proofs.lemmas.Slice.Eq.{bytes_eq-Decides}
use Rattle.std.proofs.lemmas.Bool.{le-leb, le-ltb, and_from, and_parts}
use Rattle.he_addr.specs.declared.ip.Family.{Family}
use Rattle.he_addr.specs.declared.ip.Ip.{Ip}
use Rattle.he_addr.specs.Ip.{is_usable}
use Rattle.std.specs.Net.Reader.{read_ipv4, read_octet, read_number, read_ipv6, read_segments, read_segment}
use Rattle.he_addr.specs.Reading.{ip_in, prefix_in, source_in, v4_in, v6_in}
use Rattle.he_timeline.specs.declared.limits.TheConstants.{MAX_TICK, MIN_DURATION, MAX_DURATION, MAX_PAUSE_END, MAX_ADDRESSES}
use Rattle.he_timeline.specs.declared.outcome.Outcome.{Outcome}
use Rattle.he_timeline.specs.declared.outcome.Outcome.TheVariants as outcomes
use Rattle.he_timeline.specs.Race.{Reply}
use Rattle.he_timeline.specs.Timeline.{is_of, are_of, duration_of}
use Rattle.he_select.specs.declared.host.Route.{Route}
use Rattle.he_select.specs.declared.host.Source.{Source}
use Rattle.he_select.specs.declared.policy.Row.{Row}
use Rattle.he_words.specs.declared.fault.TextKind.TheVariants as kinds
use Rattle.he_words.specs.declared.limits.TheConstants.{MAX_PRECEDENCE, MAX_LABEL, MIN_INTERFACE, MAX_INTERFACE, SOURCE_MARKS, ROUTE_MARKS}
use Rattle.he_words.specs.declared.words.Name.{Name}
use Rattle.he_words.specs.declared.words.Name.TheVariants.{Resolution, Attempt, Count, Limit, Floor}
use Rattle.he_words.specs.declared.words.Word.{Word}
use Rattle.he_words.specs.declared.words.Word.TheVariants as words
use Rattle.he_reading.specs.Forms.{◌>>=◌, within, number_from, setting_in, row_in, source_address_in, source_marks_in, host_source_in, route_marks_in, host_route_in, address_in, addresses_in, listed_in, answer_in, known_in, round_trip_in, used_in, mark_in, connect_in, pause_in}
use Rattle.he_words.specs.Words.{least_value, most_value, spelling_of, name_spelling, word_in, name_in}
use Rattle.he_words.specs.Marks.{mark_text, marked, source_marks, route_marks}
use Rattle.he_reading.proofs.LineReads.{ReadsList, ReadsNumber}

pub word_reads : (word : Word) → word_in (spelling_of word) ≡ Some word
unfolding word_in
word_reads words.Set = refl
word_reads words.Policy = refl
word_reads words.Source = refl
word_reads words.Route = refl
word_reads words.Aaaa = refl
word_reads words.A = refl
word_reads words.Rtt = refl
word_reads words.Used = refl
word_reads words.Connect = refl
word_reads words.Pause = refl
word_reads words.End = refl

pub name_reads : (name : Name) → name_in (name_spelling name) ≡ Some name
unfolding name_in
name_reads Resolution = refl
name_reads Attempt = refl
name_reads Count = refl
name_reads Limit = refl
name_reads Floor = refl

pub number_reads : (low high : ℕ) (token : List ℕ) (n : ℕ) → ReadsNumber low high token n → number_from low high token ≡ Ok n
unfolding number_from
number_reads low high token n h =
    ap (λ o. ok_or o kinds.Number >>= within low high) h.value
    ∙ ap (λ fits. cond fits (Ok n) (Err kinds.Range)) (and_from (leb low n) (leb n high) (le-leb low n h.least) (le-leb n high h.most))

-- set NAME N
pub setting_reads : (name : Name) (number : List ℕ) (value : ℕ) → ReadsNumber (least_value name) (most_value name) number value
    → setting_in (name_spelling name ∷ number ∷ []) ≡ Ok (name, value)
unfolding setting_in
setting_reads name number value h =
    ap (λ o. ok_or o kinds.Word >>= λ name. number_from (least_value name) (most_value name) number >>= λ value. Ok (name, value)) (name_reads name)
    ∙ ap (λ r. r >>= λ value. Ok (name, value)) (number_reads (least_value name) (most_value name) number value h)

-- policy PREFIX PRECEDENCE LABEL
pub row_reads : (first second third : List ℕ) (row : Row) → prefix_in first ≡ Some row.prefix
    → ReadsNumber 0 MAX_PRECEDENCE second row.precedence → ReadsNumber 0 MAX_LABEL third row.label → row_in (first ∷ second ∷ third ∷ []) ≡ Ok row
unfolding row_in
row_reads first second third row prefix precedence label =
    let p = number_reads 0 MAX_PRECEDENCE second row.precedence precedence in
    let l = number_reads 0 MAX_LABEL third row.label label in
    rw (prefix, p, l)

-- source SOURCE INTERFACE [deprecated] [temporary]
source_address_reads : (token : List ℕ) (source : Ip × ℕ) → source_in token ≡ Some source → is_usable source.0 ≡ true → source_address_in token ≡ Ok source
unfolding source_address_in
source_address_reads token source h usable = rw (h, usable)

source_marks_read : (deprecated temporary : Bool) → source_marks_in (marked deprecated (codes "deprecated") ++ marked temporary (codes "temporary")) ≡ Ok (deprecated, temporary)
unfolding source_marks_in
source_marks_read false false = refl
source_marks_read true false = refl
source_marks_read false true = refl
source_marks_read true true = refl

few_marks : (deprecated temporary : Bool) → ltb SOURCE_MARKS (length (marked deprecated (codes "deprecated") ++ marked temporary (codes "temporary"))) ≡ false
few_marks false false = refl
few_marks true false = refl
few_marks false true = refl
few_marks true true = refl

pub source_reads : (first second : List ℕ) (source : Source) → source_in first ≡ Some (source.ip, source.plen) → is_usable source.ip ≡ true
    → ReadsNumber MIN_INTERFACE MAX_INTERFACE second source.interface → host_source_in (first ∷ second ∷ source_marks source) ≡ Ok source
unfolding host_source_in
source_reads first second source spelled usable interface =
    let few = few_marks source.deprecated source.temporary in
    let a = source_address_reads first (source.ip, source.plen) spelled usable in
    let i = number_reads MIN_INTERFACE MAX_INTERFACE second source.interface interface in
    let m = source_marks_read source.deprecated source.temporary in
    rw (few, a, i, m)

-- route PREFIX INTERFACE [tunnel]
route_marks_read : (tunnel : Bool) → route_marks_in (marked tunnel (codes "tunnel")) ≡ Ok tunnel
unfolding route_marks_in
route_marks_read false = refl
route_marks_read true = refl

few_route_marks : (tunnel : Bool) → ltb ROUTE_MARKS (length (marked tunnel (codes "tunnel"))) ≡ false
few_route_marks false = refl
few_route_marks true = refl

pub route_reads : (first second : List ℕ) (route : Route) → prefix_in first ≡ Some route.prefix
    → ReadsNumber MIN_INTERFACE MAX_INTERFACE second route.interface → host_route_in (first ∷ second ∷ route_marks route) ≡ Ok route
unfolding host_route_in
route_reads first second route prefix interface =
    let few = few_route_marks route.tunnel in
    let i = number_reads MIN_INTERFACE MAX_INTERFACE second route.interface interface in
    let m = route_marks_read route.tunnel in
    rw (few, prefix, i, m)

-- aaaa TICK none, aaaa TICK ADDRESS .. and the same of a
address_reads : (family : Family) (token : List ℕ) (ip : Ip) → ip_in token ≡ Some ip → is_of family ip ≡ true → address_in family token ≡ Ok ip
unfolding address_in
address_reads family token ip h of_family = rw (h, of_family)

addresses_read : (family : Family) (tokens : List (List ℕ)) (ips : List Ip) → AllZip (λ token ip. ip_in token ≡ Some ip) tokens ips → are_of family ips ≡ true → addresses_in family tokens ≡ Ok ips
unfolding addresses_in
addresses_read family [] [] h of_family = refl
addresses_read family [] (ip ∷ ips) h of_family = absurd h
addresses_read family (token ∷ tokens) [] h of_family = absurd h
addresses_read family (token ∷ tokens) (ip ∷ ips) h of_family =
    let both = and_parts (is_of family ip) (are_of family ips) of_family in
    let one = address_reads family token ip h.0 both.0 in
    let others = addresses_read family tokens ips h.1 both.1 in
    rw (one, others)

-- `none` is no address
none_is_no_address : ip_in (codes "none") ≡ None
unfolding ip_in v4_in v6_in read_ipv4 read_octet read_number read_ipv6 read_segments read_segment
none_is_no_address = refl

listed_as_addresses : (family : Family) (tokens : List (List ℕ)) (ips : List Ip) → AllZip (λ token ip. ip_in token ≡ Some ip) tokens ips → are_of family ips ≡ true
    → 0 < length tokens → listed_in family tokens ≡ Ok ips
unfolding listed_in
listed_as_addresses family [] ips h of_family some = absurd (omega arith)
listed_as_addresses family (a ∷ b ∷ more) ips h of_family some = addresses_read family (a ∷ b ∷ more) ips h of_family
listed_as_addresses family (only ∷ []) [] h of_family some = absurd h
listed_as_addresses family (only ∷ []) (ip ∷ ips) h of_family some =
    by_word (bytes_eq only (codes "none")) refl
  where
    by_word : (b : Bool) → bytes_eq only (codes "none") ≡ b → cond b (Ok []) (addresses_in family (only ∷ [])) ≡ Ok (ip ∷ ips)
    by_word true e = let is : only ≡ codes "none" = (bytes_eq-Decides only (codes "none")).0 e in let none : None ≡ Some ip = sym none_is_no_address ∙ ap ip_in (sym is) ∙ h.0 in cc
    by_word false e = addresses_read family (only ∷ []) (ip ∷ ips) h of_family

pub listed_reads : (family : Family) (tokens : List (List ℕ)) (ips : List Ip) → ReadsList tokens ips → are_of family ips ≡ true → listed_in family tokens ≡ Ok ips
unfolding listed_in
listed_reads family tokens ips (inl h) of_family = ap (listed_in family) h.0 ∙ ap Ok (sym h.1)
listed_reads family tokens ips (inr h) of_family = listed_as_addresses family tokens ips h.1 of_family h.0

lists_some : (tokens : List (List ℕ)) (ips : List Ip) → ReadsList tokens ips → 0 < length tokens
lists_some tokens ips (inl h) = omega (arith, ap length h.0)
lists_some tokens ips (inr h) = h.0

answer_with : (family : Family) (number : List ℕ) (tokens : List (List ℕ)) (reply : Reply) → number_from 0 MAX_TICK number ≡ Ok reply.tick
    → listed_in family tokens ≡ Ok reply.addresses → ltb MAX_ADDRESSES (length tokens) ≡ false → 0 < length tokens → answer_in family (number ∷ tokens) ≡ Ok reply
unfolding answer_in
answer_with family number [] reply tick listed few some = absurd (omega arith)
answer_with family number (first ∷ more) reply tick listed few some = rw (few, tick, listed)

pub answer_reads : (family : Family) (number : List ℕ) (tokens : List (List ℕ)) (reply : Reply) → ReadsNumber 0 MAX_TICK number reply.tick
    → ReadsList tokens reply.addresses → length tokens ≤ MAX_ADDRESSES → are_of family reply.addresses ≡ true → answer_in family (number ∷ tokens) ≡ Ok reply
answer_reads family number tokens reply tick listed few of_family =
    answer_with family number tokens reply (number_reads 0 MAX_TICK number reply.tick tick) (listed_reads family tokens reply.addresses listed of_family)
    (le-ltb MAX_ADDRESSES (length tokens) few) (lists_some tokens reply.addresses listed)

-- connect ADDRESS ok N, connect ADDRESS fail N
known_reads : (known : Ip → Bool) (token : List ℕ) (ip : Ip) → ip_in token ≡ Some ip → known ip ≡ true → known_in known token ≡ Ok ip
unfolding known_in
known_reads known token ip h is_known = rw (h, is_known)

-- rtt ADDRESS N, used ADDRESS
pub round_trip_reads : (known : Ip → Bool) (address number : List ℕ) (ip : Ip) (rtt : ℕ) → ip_in address ≡ Some ip → known ip ≡ true → ReadsNumber MIN_DURATION MAX_DURATION number rtt
    → round_trip_in known (address ∷ number ∷ []) ≡ Ok (ip, rtt)
unfolding round_trip_in
round_trip_reads known address number ip rtt h is_known times =
    let k = known_reads known address ip h is_known in
    let n = number_reads MIN_DURATION MAX_DURATION number rtt times in
    rw (k, n)

pub used_reads : (known : Ip → Bool) (address : List ℕ) (ip : Ip) → ip_in address ≡ Some ip → known ip ≡ true → used_in known (address ∷ []) ≡ Ok ip
unfolding used_in
used_reads known address ip h is_known = known_reads known address ip h is_known

pub connect_reads : (known : Ip → Bool) (address number : List ℕ) (ip : Ip) (outcome : Outcome) → ip_in address ≡ Some ip → known ip ≡ true
    → ReadsNumber MIN_DURATION MAX_DURATION number (duration_of outcome) → connect_in known (address ∷ mark_text outcome ∷ number ∷ []) ≡ Ok (ip, outcome)
unfolding connect_in mark_in
connect_reads known address number ip (outcomes.Ok ticks) h is_known duration =
    let k = known_reads known address ip h is_known in
    let n = number_reads MIN_DURATION MAX_DURATION number ticks duration in
    rw (k, n)
connect_reads known address number ip (outcomes.Fail ticks) h is_known duration =
    let k = known_reads known address ip h is_known in
    let n = number_reads MIN_DURATION MAX_DURATION number ticks duration in
    rw (k, n)

-- pause FROM TO
pub pause_reads : (first second : List ℕ) (from to : ℕ) → ReadsNumber 0 MAX_TICK first from → ReadsNumber 1 MAX_PAUSE_END second to → pause_in (first ∷ second ∷ []) ≡ Ok (from, to)
unfolding pause_in
pause_reads first second from to f t =
    let a = number_reads 0 MAX_TICK first from f in
    let b = number_reads 1 MAX_PAUSE_END second to t in
    rw (a, b)
