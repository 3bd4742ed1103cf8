-- Each text is one line.
use Rattle.std.proofs.Common.{◌≡◌, ◌&&◌, ℕ, Bool, true, false, List, [], ◌∷◌, ◌++◌, map, codes, decimal, refl, ◌∙◌, append_assoc}
use Rattle.std.specs.Prelude.{Option, None, Some}
use Rattle.std.specs.Cmp.Derive.{both_true}
use Rattle.std.specs.List.{flat_map, list_all}
use Rattle.std.proofs.lemmas.Bool.{false≢true}
use Rattle.std.proofs.lemmas.List.Folds.{list_all-append}
use Rattle.he_addr.specs.declared.ip.Ip.{Ip}
use Rattle.he_addr.specs.declared.ip.Ip.TheVariants.{V6}
use Rattle.he_addr.specs.Prefix.{PrefixBits}
use Rattle.he_addr.specs.Printing.{printed, source_text}
use Rattle.he_course.specs.declared.accounts.Times.{Times}
use Rattle.he_print.specs.Escaping.{StringsAreLines, string_text}
use Rattle.he_record.specs.declared.moment.Moment.{Moment}
use Rattle.he_record.specs.declared.reasons.ClientEnd.{ClientEnd}
use Rattle.he_record.specs.Given.{at_given, end_given, from_given, to_given}
use Rattle.he_record.specs.Moments.{moment_text}
use Rattle.he_record.specs.Said.{Said, AtSaid, ToSaid, FromSaid, LookupSaid, Nat64Said, ServerSaid, AttemptSaid, UntriedSaid, EndSaid, ticks_of, word_said}
use Rattle.he_record.specs.Words.{attempt_spelling, family_spelling, lookup_spelling, server_spelling, word_spelling}
use Rattle.he_json.specs.Documents.{Spot, beginning_text, explanation_text, file_text, heading_text, order_text, transcript_text}
use Rattle.he_json.specs.Json.{address_text, member_text, object_text, objects_text, parted, value_text}
use Rattle.he_json.specs.Laws.{IsLine}
use Rattle.he_json.specs.Machine.{machine_text}
use Rattle.he_json.specs.Names.{addresses_text, answer_text, names_text}
use Rattle.he_json.specs.Recorded.{array_text, attempt_text, client_text, listing_text, lookup_text, nat64_text, object_texts, opening_text, recorded_text, result_text, server_text, target_text, time_text, untried_text}
use Rattle.he_json.specs.Times.{millis_text, times_text}
use Rattle.he_json.specs.declared.recorded.Listing.{Listing}
use Rattle.he_json.specs.declared.recorded.Listing.TheVariants as listings
use Rattle.he_json.specs.declared.members.Member.{Member}
use Rattle.he_json.specs.declared.members.Value.{Value}
use Rattle.he_json.specs.declared.members.Value.TheVariants as values
use Rattle.he_json.proofs.CharacterLaws.{decimal_stands, printed_stands, stands}

abbrev Stands : List ℕ → Type 0
Stands text = list_all stands text ≡ true

both : (first more : List ℕ) → Stands first → Stands more → Stands (first ++ more)
both first more one other = list_all-append stands first more ∙ both_true one other

first_true : (a b : Bool) → (a && b) ≡ true → a ≡ true
first_true true b is = refl
first_true false b is = absurd (false≢true is)

second_true : (a b : Bool) → (a && b) ≡ true → b ≡ true
second_true true b is = is
second_true false b is = absurd (false≢true is)

address_stands : (ip : Ip) → Stands (address_text ip)
address_stands ip = both_true refl (both (printed ip) (codes "\"") (printed_stands ip) refl)

parted_stands : {X : Type 0} (f : X → List ℕ) → ((x : X) → Stands (f x)) → (gap : List ℕ) → Stands gap → (xs : List X) → Stands (parted gap (map f xs))
parted_stands f each gap between [] = refl
parted_stands f each gap between (x ∷ xs) =
    both gap (f x ++ parted (codes ",") (map f xs)) between
    (both (f x) (parted (codes ",") (map f xs)) (each x) (parted_stands f each (codes ",") refl xs))

bracketed : (first text last : List ℕ) → Stands first → Stands text → Stands last → Stands (first ++ (text ++ last))
bracketed first text last one two three = both first (text ++ last) one (both text last two three)

-- a member with a number, and more
millis_stand : (name more : List ℕ) (millis : ℕ) → Stands name → Stands more → Stands (millis_text name millis ++ more)
millis_stand name more millis one two =
    both (millis_text name millis) more (both name (decimal millis) one (decimal_stands millis)) two

times_stand : (times : Times) → Stands (times_text times)
times_stand times =
    let connecting : List ℕ = millis_text (codes ",\"connecting_ms\":") times.connecting in
    let machine : List ℕ = millis_text (codes ",\"machine_ms\":") times.machine ++ connecting in
    let unknown : List ℕ = millis_text (codes ",\"unknown_ms\":") times.unknown ++ machine in
    let lost : List ℕ = millis_text (codes ",\"lost_ms\":") times.lost ++ unknown in
    let names : List ℕ = millis_text (codes ",\"names_ms\":") times.names ++ lost in
    millis_stand (codes ",\"ms\":") names times.all refl
    (millis_stand (codes ",\"names_ms\":") lost times.names refl
    (millis_stand (codes ",\"lost_ms\":") unknown times.lost refl
    (millis_stand (codes ",\"unknown_ms\":") machine times.unknown refl
    (millis_stand (codes ",\"machine_ms\":") connecting times.machine refl
    (both (codes ",\"connecting_ms\":") (decimal times.connecting) refl (decimal_stands times.connecting))))))

addresses_stand : (ips : List Ip) → Stands (addresses_text ips)
addresses_stand ips = bracketed (codes "[") (parted [] (map address_text ips)) (codes "]") refl (parted_stands address_text address_stands [] refl ips) refl

answer_stands : (answer : ℕ × List Ip) → Stands (answer_text answer)
answer_stands (tick, ips) =
    bracketed (codes "{\"tick\":") (decimal tick) (codes ",\"addresses\":" ++ (addresses_text ips ++ codes "}")) refl (decimal_stands tick)
    (bracketed (codes ",\"addresses\":") (addresses_text ips) (codes "}") refl (addresses_stand ips) refl)

module _ (strings : StringsAreLines) where
  value_stands : (value : Value) → Stands (value_text value)
  value_stands (values.Number n) = decimal_stands n
  value_stands (values.NumberOrNull None) = refl
  value_stands (values.NumberOrNull (Some n)) = decimal_stands n
  value_stands (values.Address ip) = address_stands ip
  value_stands (values.AddressOrNull None) = refl
  value_stands (values.AddressOrNull (Some ip)) = address_stands ip
  value_stands (values.Truth true) = refl
  value_stands (values.Truth false) = refl
  value_stands (values.Says said words) = strings words.now

  member_stands : (member : Member) → Stands (member_text member)
  member_stands member = bracketed (string_text member.0.now) (codes ":") (value_text member.1) (strings member.0.now) refl (value_stands member.1)

  object_stands : (members : List Member) → Stands (object_text members)
  object_stands members = bracketed (codes "{") (parted [] (map member_text members)) (codes "}") refl (parted_stands member_text member_stands [] refl members) refl

  objects_stands : (rows : List (List Member)) → Stands (objects_text rows)
  objects_stands rows = bracketed (codes "[") (parted [] (map object_text rows)) (codes "]") refl (parted_stands object_text object_stands [] refl rows) refl

  file_stands : (file : Option (List ℕ)) → Stands (file_text file)
  file_stands None = refl
  file_stands (Some name) = strings name

  beginning_stands : (spot : Spot) → Stands (beginning_text spot)
  beginning_stands spot =
      bracketed (codes "{\"file\":") (file_text spot.file) (codes ",\"race\":" ++ (decimal spot.number ++ (codes ",\"line\":" ++ decimal spot.line))) refl (file_stands spot.file)
      (bracketed (codes ",\"race\":") (decimal spot.number) (codes ",\"line\":" ++ decimal spot.line) refl (decimal_stands spot.number)
      (both (codes ",\"line\":") (decimal spot.line) refl (decimal_stands spot.line)))

  pub order_is_line : (spot : Spot) (addresses : List (List Member)) → IsLine (order_text spot addresses)
  order_is_line spot addresses = (
    beginning_text spot ++ (codes ",\"order\":" ++ (objects_text addresses ++ codes "}")),
    simp append_assoc,
    both (beginning_text spot) (codes ",\"order\":" ++ (objects_text addresses ++ codes "}")) (beginning_stands spot)
        (bracketed (codes ",\"order\":") (objects_text addresses) (codes "}") refl (objects_stands addresses) refl),
  )

  pub transcript_is_line : (spot : Spot) (attempts : List (List Member)) (end : List Member) → IsLine (transcript_text spot attempts end)
  transcript_is_line spot attempts end =
      let last : List ℕ = codes ",\"result\":" ++ (object_text end ++ codes "}") in (
        beginning_text spot ++ (codes ",\"attempts\":" ++ (objects_text attempts ++ last)),
        simp append_assoc,
        both (beginning_text spot) (codes ",\"attempts\":" ++ (objects_text attempts ++ last)) (beginning_stands spot)
            (bracketed (codes ",\"attempts\":") (objects_text attempts) last refl (objects_stands attempts)
            (bracketed (codes ",\"result\":") (object_text end) (codes "}") refl (object_stands end) refl)),
      )

  target_stands : (target : Option (List ℕ × ℕ)) → Stands (target_text target)
  target_stands None = refl
  target_stands (Some target) =
      bracketed (codes ",\"host\":") (string_text target.0) (codes ",\"port\":" ++ decimal target.1) refl (strings target.0) (both (codes ",\"port\":") (decimal target.1) refl (decimal_stands target.1))

  time_stands : (at : Option Moment) → Stands (time_text at)
  time_stands None = refl
  time_stands (Some moment) = both (codes ",\"at\":") (string_text (moment_text moment)) refl (strings (moment_text moment))

  client_stands : (from : Option Ip) → Stands (client_text from)
  client_stands None = refl
  client_stands (Some ip) = both (codes ",\"from\":") (address_text ip) refl (address_stands ip)

  result_stands : (end : Option ClientEnd) → Stands (result_text end)
  result_stands None = refl
  result_stands (Some end) =
      bracketed (codes ",\"client\":{\"end\":") (string_text (word_spelling (word_said (EndSaid end)))) (codes ",\"ms\":" ++ (decimal (ticks_of end) ++ codes "}")) refl (strings (word_spelling (word_said (EndSaid end))))
      (bracketed (codes ",\"ms\":") (decimal (ticks_of end)) (codes "}") refl (decimal_stands (ticks_of end)) refl)

  -- the object of an address, with a reason
  reason_stands : (ip : Ip) (reason last : List ℕ) → Stands last → Stands (codes "{\"address\":" ++ (address_text ip ++ (codes ",\"reason\":" ++ (string_text reason ++ last))))
  reason_stands ip reason last ends =
      bracketed (codes "{\"address\":") (address_text ip) (codes ",\"reason\":" ++ (string_text reason ++ last)) refl (address_stands ip)
      (bracketed (codes ",\"reason\":") (string_text reason) last refl (strings reason) ends)

  prefix_stands : (prefix : PrefixBits) → Stands (nat64_text prefix)
  prefix_stands prefix =
      bracketed (codes "\"") (source_text (V6 prefix.bits) prefix.len) (codes "\"") refl
      (bracketed (printed (V6 prefix.bits)) (codes "/") (decimal prefix.len) (printed_stands (V6 prefix.bits)) refl (decimal_stands prefix.len)) refl

  abbrev AllStand : List (List ℕ) → Type 0
  AllStand texts = list_all (λ text. list_all stands text) texts ≡ true

  one_stands : (text : List ℕ) → Stands text → AllStand (text ∷ [])
  one_stands text is = both_true is refl

  texts_stand : (listing : Listing) (line : Said) → AllStand (object_texts listing line)
  texts_stand listings.Lookups (LookupSaid family reason) =
      one_stands (lookup_text family reason) (bracketed (codes "{\"family\":") (string_text (family_spelling family)) (codes ",\"reason\":" ++ (string_text (lookup_spelling reason) ++ codes "}")) refl (strings (family_spelling family))
      (bracketed (codes ",\"reason\":") (string_text (lookup_spelling reason)) (codes "}") refl (strings (lookup_spelling reason)) refl))
  texts_stand listings.Prefixes (Nat64Said prefix) = one_stands (nat64_text prefix) (prefix_stands prefix)
  texts_stand listings.Servers (ServerSaid ip reason ticks) =
      one_stands (server_text ip reason ticks) (reason_stands ip (server_spelling reason) (codes ",\"ms\":" ++ (decimal ticks ++ codes "}")) (bracketed (codes ",\"ms\":") (decimal ticks) (codes "}") refl (decimal_stands ticks) refl))
  texts_stand listings.Outcomes (AttemptSaid ip reason) = one_stands (attempt_text ip reason) (reason_stands ip (attempt_spelling reason) (codes "}") refl)
  texts_stand listings.Outcomes (UntriedSaid ip) =
      one_stands (untried_text ip) (bracketed (codes "{\"address\":") (address_text ip) (codes ",\"untried\":true}") refl (address_stands ip) refl)
  texts_stand listings.Lookups (AtSaid moment) = refl
  texts_stand listings.Lookups (ToSaid host port) = refl
  texts_stand listings.Lookups (FromSaid ip) = refl
  texts_stand listings.Lookups (ServerSaid ip reason ticks) = refl
  texts_stand listings.Lookups (AttemptSaid ip reason) = refl
  texts_stand listings.Lookups (UntriedSaid ip) = refl
  texts_stand listings.Lookups (Nat64Said prefix) = refl
  texts_stand listings.Lookups (EndSaid end) = refl
  texts_stand listings.Servers (AtSaid moment) = refl
  texts_stand listings.Servers (ToSaid host port) = refl
  texts_stand listings.Servers (FromSaid ip) = refl
  texts_stand listings.Servers (LookupSaid family reason) = refl
  texts_stand listings.Servers (AttemptSaid ip reason) = refl
  texts_stand listings.Servers (UntriedSaid ip) = refl
  texts_stand listings.Servers (Nat64Said prefix) = refl
  texts_stand listings.Servers (EndSaid end) = refl
  texts_stand listings.Outcomes (AtSaid moment) = refl
  texts_stand listings.Outcomes (ToSaid host port) = refl
  texts_stand listings.Outcomes (FromSaid ip) = refl
  texts_stand listings.Outcomes (LookupSaid family reason) = refl
  texts_stand listings.Outcomes (ServerSaid ip reason ticks) = refl
  texts_stand listings.Outcomes (Nat64Said prefix) = refl
  texts_stand listings.Outcomes (EndSaid end) = refl
  texts_stand listings.Prefixes (AtSaid moment) = refl
  texts_stand listings.Prefixes (ToSaid host port) = refl
  texts_stand listings.Prefixes (FromSaid ip) = refl
  texts_stand listings.Prefixes (LookupSaid family reason) = refl
  texts_stand listings.Prefixes (ServerSaid ip reason ticks) = refl
  texts_stand listings.Prefixes (AttemptSaid ip reason) = refl
  texts_stand listings.Prefixes (UntriedSaid ip) = refl
  texts_stand listings.Prefixes (EndSaid end) = refl

  all_stand : (listing : Listing) (said : List Said) → AllStand (flat_map (object_texts listing) said)
  all_stand listing [] = refl
  all_stand listing (line ∷ said) =
      list_all-append (λ text. list_all stands text) (object_texts listing line) (flat_map (object_texts listing) said) ∙ both_true (texts_stand listing line) (all_stand listing said)

  apart_stands : (gap : List ℕ) → Stands gap → (texts : List (List ℕ)) → AllStand texts → Stands (parted gap texts)
  apart_stands gap between [] are = refl
  apart_stands gap between (text ∷ texts) are =
      bracketed gap text (parted (codes ",") texts) between
      (first_true (list_all stands text) (list_all (λ t. list_all stands t) texts) are)
      (apart_stands (codes ",") refl texts (second_true (list_all stands text) (list_all (λ t. list_all stands t) texts) are))

  opening_stands : (listing : Listing) → Stands (opening_text listing)
  opening_stands listings.Lookups = refl
  opening_stands listings.Prefixes = refl
  opening_stands listings.Servers = refl
  opening_stands listings.Outcomes = refl

  array_stands : (opening : List ℕ) → Stands opening → (texts : List (List ℕ)) → AllStand texts → Stands (array_text opening texts)
  array_stands opening begins [] are = refl
  array_stands opening begins (text ∷ texts) are = bracketed opening (parted [] (text ∷ texts)) (codes "]") begins (apart_stands [] refl (text ∷ texts) are) refl

  listing_stands : (listing : Listing) (said : List Said) → Stands (listing_text listing said)
  listing_stands listing said = array_stands (opening_text listing) (opening_stands listing) (flat_map (object_texts listing) said) (all_stand listing said)

  recorded_stands : (said : List Said) → Stands (recorded_text said)
  recorded_stands said =
      let outcomes = listing_text listings.Outcomes said in
      let servers = listing_text listings.Servers said ++ outcomes in
      let prefixes = listing_text listings.Prefixes said ++ servers in
      let lookups = listing_text listings.Lookups said ++ prefixes in
      let result = result_text (end_given said) ++ lookups in
      let client = client_text (from_given said) ++ result in
      both (target_text (to_given said)) (time_text (at_given said) ++ client) (target_stands (to_given said))
      (both (time_text (at_given said)) client (time_stands (at_given said))
      (both (client_text (from_given said)) result (client_stands (from_given said))
      (both (result_text (end_given said)) lookups (result_stands (end_given said))
      (both (listing_text listings.Lookups said) prefixes (listing_stands listings.Lookups said)
      (both (listing_text listings.Prefixes said) servers (listing_stands listings.Prefixes said)
      (both (listing_text listings.Servers said) outcomes (listing_stands listings.Servers said) (listing_stands listings.Outcomes said)))))))

  heading_stands : (spot : Spot) (said : List Said) (times : Times) → Stands (heading_text spot said times)
  heading_stands spot said times =
      bracketed (beginning_text spot) (recorded_text said) (times_text times) (beginning_stands spot) (recorded_stands said) (times_stand times)

  pub explanation_is_line : (spot : Spot) (said : List Said) (times : Times) (addresses events : List (List Member)) → IsLine (explanation_text spot said times addresses events)
  explanation_is_line spot said times addresses events =
      let last : List ℕ = codes ",\"events\":" ++ (objects_text events ++ codes "}") in
      let more : List ℕ = codes ",\"order\":" ++ (objects_text addresses ++ last) in (
        heading_text spot said times ++ more,
        simp append_assoc,
        both (heading_text spot said times) more (heading_stands spot said times)
            (bracketed (codes ",\"order\":") (objects_text addresses) last refl (objects_stands addresses)
            (bracketed (codes ",\"events\":") (objects_text events) (codes "}") refl (objects_stands events) refl)),
      )

  pub machine_is_line : (sources routes : List (List Member)) → IsLine (machine_text sources routes)
  machine_is_line sources routes =
      let last : List ℕ = codes ",\"routes\":" ++ (objects_text routes ++ codes "}") in (
        codes "{\"sources\":" ++ (objects_text sources ++ last),
        simp append_assoc,
        bracketed (codes "{\"sources\":") (objects_text sources) last refl (objects_stands sources)
            (bracketed (codes ",\"routes\":") (objects_text routes) (codes "}") refl (objects_stands routes) refl),
      )

  pub names_is_line : (host : List ℕ) (aaaa a : ℕ × List Ip) → IsLine (names_text host aaaa a)
  names_is_line host aaaa a =
      let last : List ℕ = codes ",\"a\":" ++ (answer_text a ++ codes "}") in
      let more : List ℕ = codes ",\"aaaa\":" ++ (answer_text aaaa ++ last) in (
        codes "{\"host\":" ++ (string_text host ++ more),
        simp append_assoc,
        bracketed (codes "{\"host\":") (string_text host) more refl (strings host)
            (bracketed (codes ",\"aaaa\":") (answer_text aaaa) last refl (answer_stands aaaa)
            (bracketed (codes ",\"a\":") (answer_text a) (codes "}") refl (answer_stands a) refl)),
      )
