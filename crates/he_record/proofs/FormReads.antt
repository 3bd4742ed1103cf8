-- The form of a record line makes of its tokens what they say.
use Rattle.std.proofs.Common.{◌≡◌, ℕ, cond, leb, List, [], ◌∷◌, Ok, Err, ◌∙◌, ap}
use Rattle.std.specs.Option.{ok_or}
use Rattle.std.proofs.lemmas.Bool.{and_from, le-leb}
use Rattle.he_addr.specs.declared.ip.Ip.{Ip}
use Rattle.he_addr.specs.Text.{Spells, SpellsPrefix}
use Rattle.he_addr.proofs.ReadLaws.{spelled_address_reads, spelled_number_reads, spelled_prefix_reads}
use Rattle.he_timeline.specs.declared.limits.TheConstants.{MAX_TICK}
use Rattle.he_words.specs.Ranges.{most_u16}
use Rattle.he_words.specs.declared.fault.TextKind.TheVariants as kinds
use Rattle.he_reading.specs.Forms.{◌>>=◌, number_from, within}
use Rattle.he_reading.specs.Text.{IsNumber}
use Rattle.he_record.specs.declared.reasons.ClientEnd.{ClientEnd}
use Rattle.he_record.specs.declared.reasons.ClientEnd.TheVariants as ends
use Rattle.he_record.specs.Forms.{address_in, at_in, to_in, from_in, look_up_in, name_server_in, nat64_in, failed_attempt_in, untried_in, end_in, said_by}
use Rattle.he_record.specs.Ranges.{least_port}
use Rattle.he_record.specs.Said.{Said, AtSaid, ToSaid, FromSaid, LookupSaid, Nat64Said, ServerSaid, AttemptSaid, UntriedSaid, EndSaid, is_nat64, word_said}
use Rattle.he_record.specs.Text.{SaysAfterWord}
use Rattle.he_record.specs.Words.{lookup_in, server_in, attempt_in, lookup_spelling, server_spelling, attempt_spelling}
use Rattle.he_record.proofs.MomentLaws.{moment_reads}
use Rattle.he_record.proofs.WordReads.{family_reads, lookup_reads, server_reads, attempt_reads}

number_read : (low high : ℕ) (token : List ℕ) (n : ℕ) → IsNumber low high token n → number_from low high token ≡ Ok n
unfolding number_from
number_read low high token n is =
    ap (λ o. ok_or o kinds.Number >>= within low high) (spelled_number_reads token n is.value)
    ∙ ap (λ fits. cond fits (Ok n) (Err kinds.Range)) (and_from (leb low n) (leb n high) (le-leb low n is.least) (le-leb n high is.most))

address_read : (token : List ℕ) (ip : Ip) → Spells token ip → address_in token ≡ Ok ip
unfolding address_in
address_read token ip is = ap (λ o. ok_or o kinds.Address) (spelled_address_reads token ip is)

end_reads : (end : ℕ → ClientEnd) (number : List ℕ) (n : ℕ) → IsNumber 0 MAX_TICK number n → end_in end (number ∷ []) ≡ Ok (EndSaid (end n))
unfolding end_in
end_reads end number n is = ap (λ r. r >>= λ ticks. Ok (EndSaid (end ticks))) (number_read 0 MAX_TICK number n is)

pub form_reads : (tokens : List (List ℕ)) (s : Said) → SaysAfterWord tokens s → said_by (word_said s) tokens ≡ Ok s
unfolding at_in to_in from_in look_up_in nat64_in name_server_in failed_attempt_in untried_in
form_reads tokens (AtSaid moment) h =
    ap at_in h.0 ∙ ap (λ r. r >>= λ moment. Ok (AtSaid moment)) (moment_reads moment h.1)
form_reads tokens (ToSaid host port) h =
    ap to_in h.1
    ∙ ap (λ b. cond b (number_from least_port most_u16 h.0 >>= λ port. Ok (ToSaid host port)) (Err kinds.Word)) h.2
    ∙ ap (λ r. r >>= λ port. Ok (ToSaid host port)) (number_read least_port most_u16 h.0 port h.3)
form_reads tokens (FromSaid ip) h = ap from_in h.1 ∙ ap (λ r. r >>= λ ip. Ok (FromSaid ip)) (address_read h.0 ip h.2)
form_reads tokens (LookupSaid family reason) h =
    ap look_up_in h
    ∙ ap (λ o. ok_or o kinds.Word >>= λ family. ok_or (lookup_in (lookup_spelling reason)) kinds.Word >>= λ reason. Ok (LookupSaid family reason)) (family_reads family)
    ∙ ap (λ o. ok_or o kinds.Word >>= λ reason. Ok (LookupSaid family reason)) (lookup_reads reason)
form_reads tokens (Nat64Said prefix) h =
    ap nat64_in h.1
    ∙ ap (λ o. ok_or o kinds.Prefix >>= λ prefix. cond (is_nat64 prefix) (Ok (Nat64Said prefix)) (Err kinds.Range)) (spelled_prefix_reads h.0 prefix h.2)
    ∙ ap (λ b. cond b (Ok (Nat64Said prefix)) (Err kinds.Range)) h.3
form_reads tokens (ServerSaid ip reason ticks) h =
    ap name_server_in h.2
    ∙ ap (λ r. r >>= λ ip. ok_or (server_in (server_spelling reason)) kinds.Word >>= λ reason. number_from 0 MAX_TICK h.1 >>= λ ticks. Ok (ServerSaid ip reason ticks)) (address_read h.0 ip h.3)
    ∙ ap (λ o. ok_or o kinds.Word >>= λ reason. number_from 0 MAX_TICK h.1 >>= λ ticks. Ok (ServerSaid ip reason ticks)) (server_reads reason)
    ∙ ap (λ r. r >>= λ ticks. Ok (ServerSaid ip reason ticks)) (number_read 0 MAX_TICK h.1 ticks h.4)
form_reads tokens (AttemptSaid ip reason) h =
    ap failed_attempt_in h.1
    ∙ ap (λ r. r >>= λ ip. ok_or (attempt_in (attempt_spelling reason)) kinds.Word >>= λ reason. Ok (AttemptSaid ip reason)) (address_read h.0 ip h.2)
    ∙ ap (λ o. ok_or o kinds.Word >>= λ reason. Ok (AttemptSaid ip reason)) (attempt_reads reason)
form_reads tokens (UntriedSaid ip) h = ap untried_in h.1 ∙ ap (λ r. r >>= λ ip. Ok (UntriedSaid ip)) (address_read h.0 ip h.2)
form_reads tokens (EndSaid (ends.Connected n)) h = ap (end_in ends.Connected) h.1 ∙ end_reads ends.Connected h.0 n h.2
form_reads tokens (EndSaid (ends.GaveUp n)) h = ap (end_in ends.GaveUp) h.1 ∙ end_reads ends.GaveUp h.0 n h.2
form_reads tokens (EndSaid (ends.Failed n)) h = ap (end_in ends.Failed) h.1 ∙ end_reads ends.Failed h.0 n h.2
