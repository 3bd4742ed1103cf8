-- The tokens of a record line say what its form makes of them.
use Rattle.std.proofs.Common.{◌≡◌, ℕ, cond, Err, List, [], ◌∷◌, Ok, refl, sym, ◌∙◌, ap, subst}
use Rattle.std.specs.Option.{ok_or}
use Rattle.he_addr.specs.declared.ip.Ip.{Ip}
use Rattle.he_addr.specs.Reading.{ip_in, prefix_in}
use Rattle.he_addr.specs.Text.{Spells}
use Rattle.he_addr.proofs.ReadLaws.{read_address_spells, read_number_spells, read_prefix_spells}
use Rattle.he_timeline.specs.declared.limits.TheConstants.{MAX_TICK}
use Rattle.he_words.specs.Ranges.{most_u16}
use Rattle.he_words.specs.declared.fault.TextKind.TheVariants as kinds
use Rattle.he_reading.specs.Forms.{◌>>=◌, number_from}
use Rattle.he_reading.specs.Text.{IsNumber}
use Rattle.he_reading.proofs.FormFacts.{number_ok}
use Rattle.he_reading.proofs.Results.{bind_ok, ok_or_ok, let_through}
use Rattle.he_record.specs.declared.reasons.ClientEnd.{ClientEnd}
use Rattle.he_record.specs.declared.reasons.ClientEnd.TheVariants as ends
use Rattle.he_record.specs.declared.words.RecordWord.{RecordWord}
use Rattle.he_record.specs.declared.words.RecordWord.TheVariants as words
use Rattle.he_record.specs.Forms.{moment_in, address_in, at_in, to_in, from_in, look_up_in, name_server_in, nat64_in, failed_attempt_in, untried_in, end_in, said_by}
use Rattle.he_record.specs.Ranges.{least_port}
use Rattle.he_record.specs.Said.{Said, AtSaid, ToSaid, FromSaid, LookupSaid, Nat64Said, ServerSaid, AttemptSaid, UntriedSaid, EndSaid, is_host, is_nat64, ticks_of, word_said}
use Rattle.he_record.specs.Text.{SaysAfterWord}
use Rattle.he_record.specs.Words.{family_in, lookup_in, server_in, attempt_in, family_spelling, lookup_spelling, server_spelling, attempt_spelling}
use Rattle.he_record.proofs.MomentLaws.{moment_ok}
use Rattle.he_record.proofs.WordReads.{family_spelled, lookup_spelled, server_spelled, attempt_spelled}

-- tokens behind the word of a line that says it
abbrev pub IsSaid : RecordWord → List (List ℕ) → Said → Type 0
IsSaid word tokens s = (word_said s ≡ word) × SaysAfterWord tokens s

number_is : (low high : ℕ) (token : List ℕ) (n : ℕ) → number_from low high token ≡ Ok n → IsNumber low high token n
number_is low high token n h =
    let is = number_ok low high token n h in
    record { value = read_number_spells token n is.value; least = is.least; most = is.most }

address_is : (token : List ℕ) (ip : Ip) → address_in token ≡ Ok ip → Spells token ip
unfolding address_in
address_is token ip h = read_address_spells token ip (ok_or_ok (ip_in token) kinds.Address ip h)

at_says : (tokens : List (List ℕ)) (s : Said) → at_in tokens ≡ Ok s → IsSaid words.At tokens s
unfolding at_in
at_says [] s h = cc
at_says (a ∷ b ∷ more) s h = cc
at_says (time ∷ []) s h =
    let m = bind_ok (moment_in time) (λ moment. Ok (AtSaid moment)) s h in
    let is = moment_ok time m.0 m.1 in
    let P : Said → Type 0 = IsSaid words.At (time ∷ []) in
    let same : AtSaid m.0 ≡ s = cc (m.2) in
    subst P same (refl, (ap (λ t. t ∷ []) is.0, is.1))

to_says : (tokens : List (List ℕ)) (s : Said) → to_in tokens ≡ Ok s → IsSaid words.To tokens s
unfolding to_in
to_says [] s h = cc
to_says (a ∷ []) s h = cc
to_says (a ∷ b ∷ c ∷ more) s h = cc
to_says (host ∷ number ∷ []) s h =
    let fits = let_through (is_host host) (number_from least_port most_u16 number >>= λ port. Ok (ToSaid host port)) kinds.Word s h in
    let port = bind_ok (number_from least_port most_u16 number) (λ port. Ok (ToSaid host port)) s fits.1 in
    let P : Said → Type 0 = IsSaid words.To (host ∷ number ∷ []) in
    let same : ToSaid host port.0 ≡ s = cc (port.2) in
    subst P same (refl, (number, refl, fits.0, number_is least_port most_u16 number port.0 port.1))

from_says : (tokens : List (List ℕ)) (s : Said) → from_in tokens ≡ Ok s → IsSaid words.From tokens s
unfolding from_in
from_says [] s h = cc
from_says (a ∷ b ∷ more) s h = cc
from_says (address ∷ []) s h =
    let ip = bind_ok (address_in address) (λ ip. Ok (FromSaid ip)) s h in
    let P : Said → Type 0 = IsSaid words.From (address ∷ []) in
    let same : FromSaid ip.0 ≡ s = cc (ip.2) in
    subst P same (refl, (address, refl, address_is address ip.0 ip.1))

look_up_says : (tokens : List (List ℕ)) (s : Said) → look_up_in tokens ≡ Ok s → IsSaid words.Lookup tokens s
unfolding look_up_in
look_up_says [] s h = cc
look_up_says (a ∷ []) s h = cc
look_up_says (a ∷ b ∷ c ∷ more) s h = cc
look_up_says (first ∷ second ∷ []) s h =
    let family = bind_ok (ok_or (family_in first) kinds.Word) (λ family. ok_or (lookup_in second) kinds.Word >>= λ reason. Ok (LookupSaid family reason)) s h in
    let reason = bind_ok (ok_or (lookup_in second) kinds.Word) (λ reason. Ok (LookupSaid family.0 reason)) s family.2 in
    let one : first ≡ family_spelling family.0 = family_spelled first family.0 (ok_or_ok (family_in first) kinds.Word family.0 family.1) in
    let other : second ≡ lookup_spelling reason.0 = lookup_spelled second reason.0 (ok_or_ok (lookup_in second) kinds.Word reason.0 reason.1) in
    let P : Said → Type 0 = IsSaid words.Lookup (first ∷ second ∷ []) in
    let same : LookupSaid family.0 reason.0 ≡ s = cc (reason.2) in
    subst P same (refl, ap (λ t. t ∷ second ∷ []) one ∙ ap (λ t. family_spelling family.0 ∷ t ∷ []) other)

nat64_says : (tokens : List (List ℕ)) (s : Said) → nat64_in tokens ≡ Ok s → IsSaid words.Nat64 tokens s
unfolding nat64_in
nat64_says [] s h = cc
nat64_says (a ∷ b ∷ more) s h = cc
nat64_says (token ∷ []) s h =
    let prefix = bind_ok (ok_or (prefix_in token) kinds.Prefix) (λ prefix. cond (is_nat64 prefix) (Ok (Nat64Said prefix)) (Err kinds.Range)) s h in
    let fits = let_through (is_nat64 prefix.0) (Ok (Nat64Said prefix.0)) kinds.Range s prefix.2 in
    let P : Said → Type 0 = IsSaid words.Nat64 (token ∷ []) in
    let same : Nat64Said prefix.0 ≡ s = cc (fits.1) in
    subst P same (refl, (token, refl, read_prefix_spells token prefix.0 (ok_or_ok (prefix_in token) kinds.Prefix prefix.0 prefix.1), fits.0))

server_says : (tokens : List (List ℕ)) (s : Said) → name_server_in tokens ≡ Ok s → IsSaid words.Server tokens s
unfolding name_server_in
server_says [] s h = cc
server_says (a ∷ []) s h = cc
server_says (a ∷ b ∷ []) s h = cc
server_says (a ∷ b ∷ c ∷ d ∷ more) s h = cc
server_says (address ∷ second ∷ number ∷ []) s h =
    let ip = bind_ok (address_in address) (λ ip. ok_or (server_in second) kinds.Word >>= λ reason. number_from 0 MAX_TICK number >>= λ ticks. Ok (ServerSaid ip reason ticks)) s h in
    let reason = bind_ok (ok_or (server_in second) kinds.Word) (λ reason. number_from 0 MAX_TICK number >>= λ ticks. Ok (ServerSaid ip.0 reason ticks)) s ip.2 in
    let ticks = bind_ok (number_from 0 MAX_TICK number) (λ ticks. Ok (ServerSaid ip.0 reason.0 ticks)) s reason.2 in
    let spelled : second ≡ server_spelling reason.0 = server_spelled second reason.0 (ok_or_ok (server_in second) kinds.Word reason.0 reason.1) in
    let P : Said → Type 0 = IsSaid words.Server (address ∷ second ∷ number ∷ []) in
    let same : ServerSaid ip.0 reason.0 ticks.0 ≡ s = cc (ticks.2) in
    subst P same (refl, (address, number, ap (λ t. address ∷ t ∷ number ∷ []) spelled, address_is address ip.0 ip.1, number_is 0 MAX_TICK number ticks.0 ticks.1))

attempt_says : (tokens : List (List ℕ)) (s : Said) → failed_attempt_in tokens ≡ Ok s → IsSaid words.Attempt tokens s
unfolding failed_attempt_in
attempt_says [] s h = cc
attempt_says (a ∷ []) s h = cc
attempt_says (a ∷ b ∷ c ∷ more) s h = cc
attempt_says (address ∷ second ∷ []) s h =
    let ip = bind_ok (address_in address) (λ ip. ok_or (attempt_in second) kinds.Word >>= λ reason. Ok (AttemptSaid ip reason)) s h in
    let reason = bind_ok (ok_or (attempt_in second) kinds.Word) (λ reason. Ok (AttemptSaid ip.0 reason)) s ip.2 in
    let spelled : second ≡ attempt_spelling reason.0 = attempt_spelled second reason.0 (ok_or_ok (attempt_in second) kinds.Word reason.0 reason.1) in
    let P : Said → Type 0 = IsSaid words.Attempt (address ∷ second ∷ []) in
    let same : AttemptSaid ip.0 reason.0 ≡ s = cc (reason.2) in
    subst P same (refl, (address, ap (λ t. address ∷ t ∷ []) spelled, address_is address ip.0 ip.1))

untried_says : (tokens : List (List ℕ)) (s : Said) → untried_in tokens ≡ Ok s → IsSaid words.Untried tokens s
unfolding untried_in
untried_says [] s h = cc
untried_says (a ∷ b ∷ more) s h = cc
untried_says (address ∷ []) s h =
    let ip = bind_ok (address_in address) (λ ip. Ok (UntriedSaid ip)) s h in
    let P : Said → Type 0 = IsSaid words.Untried (address ∷ []) in
    let same : UntriedSaid ip.0 ≡ s = cc (ip.2) in
    subst P same (refl, (address, refl, address_is address ip.0 ip.1))

end_says : (word : RecordWord) (end : ℕ → ClientEnd) → ((n : ℕ) → word_said (EndSaid (end n)) ≡ word) → ((n : ℕ) → ticks_of (end n) ≡ n)
    → (tokens : List (List ℕ)) (s : Said) → end_in end tokens ≡ Ok s → IsSaid word tokens s
unfolding end_in
end_says word end of_word of_ticks [] s h = cc
end_says word end of_word of_ticks (a ∷ b ∷ more) s h = cc
end_says word end of_word of_ticks (number ∷ []) s h =
    let n = bind_ok (number_from 0 MAX_TICK number) (λ ticks. Ok (EndSaid (end ticks))) s h in
    let P : Said → Type 0 = IsSaid word (number ∷ []) in
    let N : ℕ → Type 0 = IsNumber 0 MAX_TICK number in
    let same : EndSaid (end n.0) ≡ s = cc (n.2) in
    subst P same (of_word n.0, (number, refl, subst N (sym (of_ticks n.0)) (number_is 0 MAX_TICK number n.0 n.1)))

pub form_says : (word : RecordWord) (tokens : List (List ℕ)) (s : Said) → said_by word tokens ≡ Ok s → IsSaid word tokens s
form_says words.At tokens s h = at_says tokens s h
form_says words.To tokens s h = to_says tokens s h
form_says words.From tokens s h = from_says tokens s h
form_says words.Lookup tokens s h = look_up_says tokens s h
form_says words.Nat64 tokens s h = nat64_says tokens s h
form_says words.Server tokens s h = server_says tokens s h
form_says words.Attempt tokens s h = attempt_says tokens s h
form_says words.Untried tokens s h = untried_says tokens s h
form_says words.Connected tokens s h = end_says words.Connected ends.Connected (λ n. refl) (λ n. refl) tokens s h
form_says words.GaveUp tokens s h = end_says words.GaveUp ends.GaveUp (λ n. refl) (λ n. refl) tokens s h
form_says words.Failed tokens s h = end_says words.Failed ends.Failed (λ n. refl) (λ n. refl) tokens s h
