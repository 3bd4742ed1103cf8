-- The text that is written of a record is one of this record.
use Rattle.std.proofs.Common.{◌≡◌, ℕ, ◌*◌, ◌^◌, ◌%◌, ◌-◌, ◌<◌, ◌≤◌, ◌&&◌, Bool, true, false, not, leb, ltb, eqb, List, [], ◌∷◌, ◌++◌, length, map, refl, sym, ◌∙◌, ap, arith, append_assoc, length-append}
use Rattle.std.specs.Prelude.{codes, decimal}
use Rattle.std.specs.List.{AllByRecursion, AllZip, flat_map, join_with_byte, list_all}
use Rattle.std.proofs.lemmas.Bool.{and_parts, eq-eqb, eqb-true, leb-true, ltb-true, ne_eqb}
use Rattle.std.proofs.lemmas.List.Concat.{flat_map-cons}
use Rattle.std.proofs.lemmas.List.Elements.{All-from_recursion}
use Rattle.std.proofs.lemmas.List.Folds.{flat_map-map}
use Rattle.std.proofs.lemmas.List.Splits.{slice_split_at}
use Rattle.he_addr.specs.declared.ip.Family.{Family}
use Rattle.he_addr.specs.declared.ip.Family.TheVariants as families
use Rattle.he_addr.specs.declared.ip.Ip.{Ip}
use Rattle.he_addr.specs.Ip.{InRange}
use Rattle.he_addr.specs.Prefix.{PrefixBits, IsPrefix, is_inside_mapped}
use Rattle.he_addr.specs.Reading.{is_prefix}
use Rattle.he_addr.specs.Printing.{printed, prefix_text}
use Rattle.he_addr.specs.Text.{IsToken, Lacks}
use Rattle.he_addr.proofs.TextLaws.{addresses_are_tokens, addresses_read_back, numbers_are_tokens, numbers_read_back, prefixes_are_tokens, prefixes_read_back}
use Rattle.he_timeline.specs.declared.limits.TheConstants.{MAX_TICK}
use Rattle.he_words.specs.Ranges.{most_line_bytes, most_u16}
use Rattle.he_reading.specs.Parts.{lines_of, tokens_of}
use Rattle.he_reading.specs.Text.{IsNumber}
use Rattle.he_reading.proofs.PartLaws.{joined_parts}
use Rattle.he_record.specs.declared.moment.Moment.{Moment}
use Rattle.he_record.specs.declared.reasons.AttemptReason.{AttemptReason}
use Rattle.he_record.specs.declared.reasons.AttemptReason.TheVariants as attempts
use Rattle.he_record.specs.declared.reasons.LookupReason.{LookupReason}
use Rattle.he_record.specs.declared.reasons.LookupReason.TheVariants as lookups
use Rattle.he_record.specs.declared.reasons.ServerReason.{ServerReason}
use Rattle.he_record.specs.declared.reasons.ServerReason.TheVariants as servers
use Rattle.he_record.specs.declared.words.RecordWord.{RecordWord}
use Rattle.he_record.specs.declared.words.RecordWord.TheVariants as words
use Rattle.he_record.specs.Moments.{digit, moment_text}
use Rattle.he_record.specs.Ranges.{most_host_bytes}
use Rattle.he_record.specs.Said.{Said, AtSaid, ToSaid, FromSaid, LookupSaid, Nat64Said, ServerSaid, AttemptSaid, UntriedSaid, EndSaid, MaySay, is_host, is_host_byte, is_nat64, is_nat64_length, ticks_of, word_said}
use Rattle.he_record.specs.Text.{IsRecord, IsRecordText, Says, SaysAfterWord}
use Rattle.he_record.specs.Words.{first_token, word_spelling, family_spelling, lookup_spelling, server_spelling, attempt_spelling}
use Rattle.he_record.specs.Written.{record_text, values_said}

-- the longest token is a host
abbrev AreTokens : List (List ℕ) → Type 0
AreTokens tokens = AllByRecursion (IsToken 255) tokens

wider : (most : ℕ) (text : List ℕ) → most ≤ 255 → IsToken most text → IsToken 255 text
wider most text le is = record { some = is.some; few = omega (arith, is.few); no_space = is.no_space; no_newline = is.no_newline }

-- whether a text is a token, by a test
abbrev lacks_test : ℕ → List ℕ → Bool
lacks_test mark [] = true
lacks_test mark (b ∷ bs) = not (eqb b mark) && lacks_test mark bs

abbrev is_token : List ℕ → Bool
is_token text = leb 1 (length text) && leb (length text) 255 && lacks_test 32 text && lacks_test 10 text

lacks_from : (mark : ℕ) (text : List ℕ) → lacks_test mark text ≡ true → Lacks mark text
lacks_from mark [] h = tt
lacks_from mark (b ∷ bs) h =
    let parts = and_parts (not (eqb b mark)) (lacks_test mark bs) h in
    (is_not (eqb b mark) parts.0, lacks_from mark bs parts.1)
  where
    is_not : (b : Bool) → not b ≡ true → b ≡ false
    is_not true h = cc
    is_not false h = refl

token_from : (text : List ℕ) → is_token text ≡ true → IsToken 255 text
token_from text h =
    let last = and_parts (leb 1 (length text) && leb (length text) 255 && lacks_test 32 text) (lacks_test 10 text) h in
    let space = and_parts (leb 1 (length text) && leb (length text) 255) (lacks_test 32 text) last.0 in
    let size = and_parts (leb 1 (length text)) (leb (length text) 255) space.0 in
    record {
      some = leb-true 1 (length text) size.0;
      few = leb-true (length text) 255 size.1;
      no_space = lacks_from 32 text space.1;
      no_newline = lacks_from 10 text last.1;
    }

-- a line of tokens is cut into them again, and has no line end
no_spaces : (tokens : List (List ℕ)) → AreTokens tokens → AllByRecursion (Lacks 32) tokens
no_spaces [] are = tt
no_spaces (token ∷ tokens) are = (are.0.no_space, no_spaces tokens are.1)

line_size : (first : List ℕ) (others : List (List ℕ)) → AreTokens (first ∷ others) → length (join_with_byte 32 (first ∷ others)) ≤ 256 * length (first ∷ others)
line_size first [] are = omega (arith, are.0.few)
line_size first (next ∷ others) are =
    let rest = line_size next others are.1 in
    let size = length-append first (32 ∷ join_with_byte 32 (next ∷ others)) in
    omega (arith, rest, size, are.0.few)

lacks_both : (mark : ℕ) (xs ys : List ℕ) → Lacks mark xs → Lacks mark ys → Lacks mark (xs ++ ys)
lacks_both mark [] ys hx hy = hy
lacks_both mark (x ∷ xs) ys hx hy = (hx.0, lacks_both mark xs ys hx.1 hy)

one_line : (first : List ℕ) (others : List (List ℕ)) → AreTokens (first ∷ others) → Lacks 10 (join_with_byte 32 (first ∷ others))
one_line first [] are = are.0.no_newline
one_line first (next ∷ others) are = lacks_both 10 first (32 ∷ join_with_byte 32 (next ∷ others)) are.0.no_newline (refl, one_line next others are.1)

abbrev ended : List ℕ → List ℕ
ended line = line ++ 10 ∷ []

lines_back : (lines : List (List ℕ)) → AllByRecursion (Lacks 10) lines → lines_of (flat_map ended lines) ≡ lines ++ [] ∷ []
lines_back [] lack = refl
lines_back (line ∷ lines) lack =
    ap lines_of (flat_map-cons ended line lines ∙ append_assoc line (10 ∷ []) (flat_map ended lines))
    ∙ slice_split_at (λ b. eqb b 10) line 10 (flat_map ended lines) (All-from_recursion (λ b. eqb b 10 ≡ false) line lack.0) (eq-eqb 10 10 refl)
    ∙ ap (λ ls. line ∷ ls) (lines_back lines lack.1)

-- the words are tokens
word_token : (word : RecordWord) → IsToken 255 (word_spelling word)
word_token words.At = token_from (codes "at") refl
word_token words.To = token_from (codes "to") refl
word_token words.From = token_from (codes "from") refl
word_token words.Lookup = token_from (codes "lookup") refl
word_token words.Nat64 = token_from (codes "nat64") refl
word_token words.Server = token_from (codes "server") refl
word_token words.Attempt = token_from (codes "attempt") refl
word_token words.Untried = token_from (codes "untried") refl
word_token words.Connected = token_from (codes "connected") refl
word_token words.GaveUp = token_from (codes "gave-up") refl
word_token words.Failed = token_from (codes "failed") refl

family_token : (family : Family) → IsToken 255 (family_spelling family)
family_token families.V6 = token_from (codes "aaaa") refl
family_token families.V4 = token_from (codes "a") refl

lookup_token : (reason : LookupReason) → IsToken 255 (lookup_spelling reason)
lookup_token lookups.NoSuchName = token_from (codes "no-such-name") refl
lookup_token lookups.NoAddress = token_from (codes "no-address") refl
lookup_token lookups.NoAnswer = token_from (codes "no-answer") refl
lookup_token lookups.Refused = token_from (codes "refused") refl
lookup_token lookups.Failed = token_from (codes "failed") refl
lookup_token lookups.Malformed = token_from (codes "malformed") refl
lookup_token lookups.NotAsked = token_from (codes "not-asked") refl
lookup_token lookups.Nat64 = token_from (codes "nat64") refl

server_token : (reason : ServerReason) → IsToken 255 (server_spelling reason)
server_token servers.Silent = token_from (codes "silent") refl
server_token servers.Refused = token_from (codes "refused") refl
server_token servers.Failed = token_from (codes "failed") refl
server_token servers.Unreachable = token_from (codes "unreachable") refl

attempt_token : (reason : AttemptReason) → IsToken 255 (attempt_spelling reason)
attempt_token attempts.Refused = token_from (codes "refused") refl
attempt_token attempts.Unreachable = token_from (codes "unreachable") refl
attempt_token attempts.TimedOut = token_from (codes "timed-out") refl
attempt_token attempts.Reset = token_from (codes "reset") refl
attempt_token attempts.Forbidden = token_from (codes "forbidden") refl
attempt_token attempts.NoSource = token_from (codes "no-source") refl
attempt_token attempts.Other = token_from (codes "other") refl

-- and so are the values
number_token : (n high : ℕ) → n ≤ high → high < 10 ^ 10 → IsToken 255 (decimal n)
number_token n high most small = wider 10 (decimal n) (omega arith) (numbers_are_tokens n (omega arith))

address_token : (ip : Ip) → InRange ip → IsToken 255 (printed ip)
address_token ip small = wider 39 (printed ip) (omega arith) (addresses_are_tokens ip small)

nat64_prefix : (prefix : PrefixBits) → is_nat64 prefix ≡ true → IsPrefix prefix.bits prefix.len
nat64_prefix prefix h =
    let of_nat64 = and_parts (is_prefix prefix && is_nat64_length prefix.len) (not (is_inside_mapped prefix)) h in
    let is = and_parts (is_prefix prefix) (is_nat64_length prefix.len) of_nat64.0 in
    let both = and_parts (leb prefix.len 128 && ltb prefix.bits (2 ^ 128)) (eqb (prefix.bits % 2 ^ (128 - prefix.len)) 0) is.0 in
    let sizes = and_parts (leb prefix.len 128) (ltb prefix.bits (2 ^ 128)) both.0 in
    record { short = leb-true prefix.len 128 sizes.0; fits = ltb-true prefix.bits (2 ^ 128) sizes.1; clear = eqb-true (prefix.bits % 2 ^ (128 - prefix.len)) 0 both.1 }

prefix_token : (prefix : PrefixBits) → IsPrefix prefix.bits prefix.len → IsToken 255 (prefix_text false prefix)
prefix_token prefix is = wider 43 (prefix_text false prefix) (omega arith) (prefixes_are_tokens false prefix is)

not_mark : (n mark : ℕ) → mark < 48 → eqb (digit n) mark ≡ false
not_mark n mark low = ne_eqb (digit n) mark (λ same. absurd (omega arith))

moment_lacks : (m : Moment) (mark : ℕ) → mark < 45 → Lacks mark (moment_text m)
moment_lacks m mark low =
    let d = λ (n : ℕ). not_mark n mark (omega arith) in
    let sign = λ (byte : ℕ) (above : 45 ≤ byte). ne_eqb byte mark (λ same. absurd (omega arith)) in
    (d _, (d _, (d _, (d _, (sign 45 (omega arith), (d _, (d _, (sign 45 (omega arith), (d _, (d _, (sign 84 (omega arith), (d _, (d _, (sign 58 (omega arith), (d _, (d _, (sign 58 (omega arith), (d _, (d _, (sign 46 (omega arith), (d _, (d _, (d _, (sign 90 (omega arith), tt))))))))))))))))))))))))

moment_token : (m : Moment) → IsToken 255 (moment_text m)
moment_token m = record { some = omega arith; few = omega arith; no_space = moment_lacks m 32 (omega arith); no_newline = moment_lacks m 10 (omega arith) }

host_lacks : (host : List ℕ) (mark : ℕ) → mark < 33 → list_all is_host_byte host ≡ true → Lacks mark host
host_lacks [] mark low h = tt
host_lacks (byte ∷ host) mark low h =
    let parts = and_parts (is_host_byte byte) (list_all is_host_byte host) h in
    let above : 33 ≤ byte = leb-true 33 byte (and_parts (leb 33 byte) (leb byte 126) parts.0).0 in
    (ne_eqb byte mark (λ same. absurd (omega arith)), host_lacks host mark low parts.1)

host_token : (host : List ℕ) → is_host host ≡ true → IsToken 255 host
host_token host h =
    let bytes = and_parts (leb 1 (length host) && leb (length host) most_host_bytes) (list_all is_host_byte host) h in
    let size = and_parts (leb 1 (length host)) (leb (length host) most_host_bytes) bytes.0 in
    record {
      some = leb-true 1 (length host) size.0;
      few = leb-true (length host) most_host_bytes size.1;
      no_space = host_lacks host 32 (omega arith) bytes.1;
      no_newline = host_lacks host 10 (omega arith) bytes.1;
    }

values_tokens : (s : Said) → MaySay s → AreTokens (values_said s)
values_tokens (AtSaid moment) h = (moment_token moment, tt)
values_tokens (ToSaid host port) h = (host_token host h.0, (number_token port most_u16 h.2 (omega arith), tt))
values_tokens (FromSaid ip) h = (address_token ip h, tt)
values_tokens (LookupSaid family reason) h = (family_token family, (lookup_token reason, tt))
values_tokens (Nat64Said prefix) h = (prefix_token prefix (nat64_prefix prefix h), tt)
values_tokens (ServerSaid ip reason ticks) h = (address_token ip h.0, (server_token reason, (number_token ticks MAX_TICK h.1 (omega arith), tt)))
values_tokens (AttemptSaid ip reason) h = (address_token ip h, (attempt_token reason, tt))
values_tokens (UntriedSaid ip) h = (address_token ip h, tt)
values_tokens (EndSaid end) h = (number_token (ticks_of end) MAX_TICK h (omega arith), tt)

line_tokens : (s : Said) → MaySay s → AreTokens (first_token ∷ word_spelling (word_said s) ∷ values_said s)
line_tokens s h = (token_from (codes "record") refl, (word_token (word_said s), values_tokens s h))

-- the line that is written, without its line end
abbrev line_of : Said → List ℕ
line_of s = join_with_byte 32 (first_token ∷ word_spelling (word_said s) ∷ values_said s)

written_tokens : (s : Said) → MaySay s → tokens_of (line_of s) ≡ first_token ∷ word_spelling (word_said s) ∷ values_said s
written_tokens s h =
    joined_parts 32 first_token (word_spelling (word_said s) ∷ values_said s) (no_spaces (first_token ∷ word_spelling (word_said s) ∷ values_said s) (line_tokens s h))

values_few : (s : Said) → length (values_said s) ≤ 3
values_few (AtSaid moment) = omega arith
values_few (ToSaid host port) = omega arith
values_few (FromSaid ip) = omega arith
values_few (LookupSaid family reason) = omega arith
values_few (Nat64Said prefix) = omega arith
values_few (ServerSaid ip reason ticks) = omega arith
values_few (AttemptSaid ip reason) = omega arith
values_few (UntriedSaid ip) = omega arith
values_few (EndSaid end) = omega arith

written_short : (s : Said) → MaySay s → length (line_of s) ≤ most_line_bytes
written_short s h =
    let size = line_size first_token (word_spelling (word_said s) ∷ values_said s) (line_tokens s h) in
    let few = values_few s in
    omega (arith, size, few)

-- a value is spelled by what is written of it
number_is : (low high n : ℕ) → low ≤ n → n ≤ high → high < 10 ^ 10 → IsNumber low high (decimal n) n
number_is low high n least most small = record { value = (numbers_read_back n (omega arith)).0; least = least; most = most }

values_say : (s : Said) → MaySay s → SaysAfterWord (values_said s) s
values_say (AtSaid moment) h = (refl, h)
values_say (ToSaid host port) h = (decimal port, refl, h.0, number_is 1 most_u16 port h.1 h.2 (omega arith))
values_say (FromSaid ip) h = (printed ip, refl, (addresses_read_back ip h).0)
values_say (LookupSaid family reason) h = refl
values_say (Nat64Said prefix) h = (prefix_text false prefix, refl, (prefixes_read_back false prefix (nat64_prefix prefix h)).0, h)
values_say (ServerSaid ip reason ticks) h = (printed ip, decimal ticks, refl, (addresses_read_back ip h.0).0, number_is 0 MAX_TICK ticks (omega arith) h.1 (omega arith))
values_say (AttemptSaid ip reason) h = (printed ip, refl, (addresses_read_back ip h).0)
values_say (UntriedSaid ip) h = (printed ip, refl, (addresses_read_back ip h).0)
values_say (EndSaid end) h = (decimal (ticks_of end), refl, number_is 0 MAX_TICK (ticks_of end) (omega arith) h (omega arith))

written_says : (s : Said) → MaySay s → Says (line_of s) s
written_says s h = (values_said s, written_tokens s h, values_say s h)

-- all lines
abbrev AllMay : List Said → Type 0
AllMay said = AllByRecursion MaySay said

all_say : (said : List Said) → AllMay said → AllZip Says (map line_of said) said
all_say [] h = tt
all_say (s ∷ said) h = (written_says s h.0, all_say said h.1)

all_short : (said : List Said) → AllMay said → AllByRecursion (λ line. length line ≤ most_line_bytes) (map line_of said)
all_short [] h = tt
all_short (s ∷ said) h = (written_short s h.0, all_short said h.1)

all_lack : (said : List Said) → AllMay said → AllByRecursion (Lacks 10) (map line_of said)
all_lack [] h = tt
all_lack (s ∷ said) h = (one_line first_token (word_spelling (word_said s) ∷ values_said s) (line_tokens s h.0), all_lack said h.1)

pub written_is_read : (said : List Said) → IsRecord said → IsRecordText (record_text said) said
written_is_read said is = record {
  lines = map line_of said;
  parts = ap lines_of (sym (flat_map-map ended line_of said)) ∙ lines_back (map line_of said) (all_lack said is.ranges);
  are = record { short = all_short said is.ranges; say = all_say said is.ranges; fit = is.fit };
}
