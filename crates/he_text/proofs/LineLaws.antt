-- What the form of a line makes of it is what the line says.
use Rattle.std.proofs.Common.{◌≡◌, ℕ, Bool, true, false, List, Ok, refl, sym, subst}
use Rattle.he_addr.specs.declared.ip.Family.TheVariants as families
use Rattle.he_addr.specs.declared.ip.Ip.{Ip}
use Rattle.he_words.specs.declared.words.Word.{Word}
use Rattle.he_words.specs.declared.words.Word.TheVariants as words
use Rattle.he_reading.specs.Forms.{setting_in, row_in, host_source_in, host_route_in, answer_in, round_trip_in, used_in, connect_in, pause_in, end_in, word_of, said_by, said_in}
use Rattle.he_reading.specs.Parts.{tokens_of}
use Rattle.he_reading.specs.Said.{Said, Setting, PolicyRow, HostSource, HostRoute, Answer, RoundTrip, UsedBefore, OutcomeOf, Paused, Ended}
use Rattle.he_reading.specs.Text.{Says, IsAllowed}
use Rattle.he_words.specs.Words.{is_end}
use Rattle.he_reading.proofs.CompleteForms.{Knows, Suits, is_line, line_said}
use Rattle.he_reading.proofs.FormFacts.{answer_ok, round_trip_ok, used_ok, connect_ok}
use Rattle.he_reading.proofs.LineReads.{says_read, reads_said}
use Rattle.he_reading.proofs.Results.{bind_ok}
use Rattle.he_reading.proofs.SaysLaws.{says, word_tokens}
use Rattle.he_reading.proofs.SelectionFacts.{source_ok}

allowed : (known : Ip → Bool) (word : Word) (tokens : List (List ℕ)) (s : Said) → said_by known word tokens ≡ Ok s → IsAllowed known s
unfolding said_by
allowed known words.Set tokens s e =
    let read = bind_ok (setting_in tokens) (λ setting. Ok (Setting setting.0 setting.1)) s e in
    let same : Setting read.0.0 read.0.1 ≡ s = cc (read.2) in
    let P : Said → Type 0 = IsAllowed known in subst P same tt
allowed known words.Policy tokens s e =
    let read = bind_ok (row_in tokens) (λ row. Ok (PolicyRow row)) s e in
    let same : PolicyRow read.0 ≡ s = cc (read.2) in
    let P : Said → Type 0 = IsAllowed known in subst P same tt
allowed known words.Source tokens s e =
    let read = bind_ok (host_source_in tokens) (λ source. Ok (HostSource source)) s e in
    let fact = source_ok tokens read.0 read.1 in
    let same : HostSource read.0 ≡ s = cc (read.2) in
    let P : Said → Type 0 = IsAllowed known in subst P same fact.usable
allowed known words.Route tokens s e =
    let read = bind_ok (host_route_in tokens) (λ route. Ok (HostRoute route)) s e in
    let same : HostRoute read.0 ≡ s = cc (read.2) in
    let P : Said → Type 0 = IsAllowed known in subst P same tt
allowed known words.Aaaa tokens s e =
    let read = bind_ok (answer_in families.V6 tokens) (λ reply. Ok (Answer families.V6 reply)) s e in
    let fact = answer_ok families.V6 tokens read.0 read.1 in
    let same : Answer families.V6 read.0 ≡ s = cc (read.2) in
    let P : Said → Type 0 = IsAllowed known in subst P same fact.addresses.of_family
allowed known words.A tokens s e =
    let read = bind_ok (answer_in families.V4 tokens) (λ reply. Ok (Answer families.V4 reply)) s e in
    let fact = answer_ok families.V4 tokens read.0 read.1 in
    let same : Answer families.V4 read.0 ≡ s = cc (read.2) in
    let P : Said → Type 0 = IsAllowed known in subst P same fact.addresses.of_family
allowed known words.Rtt tokens s e =
    let read = bind_ok (round_trip_in known tokens) (λ told. Ok (RoundTrip told.0 told.1)) s e in
    let fact = round_trip_ok known tokens read.0 read.1 in
    let same : RoundTrip read.0.0 read.0.1 ≡ s = cc (read.2) in
    let P : Said → Type 0 = IsAllowed known in subst P same fact.known_is
allowed known words.Used tokens s e =
    let read = bind_ok (used_in known tokens) (λ ip. Ok (UsedBefore ip)) s e in
    let fact = used_ok known tokens read.0 read.1 in
    let same : UsedBefore read.0 ≡ s = cc (read.2) in
    let P : Said → Type 0 = IsAllowed known in subst P same fact.known_is
allowed known words.Connect tokens s e =
    let read = bind_ok (connect_in known tokens) (λ told. Ok (OutcomeOf told.0 told.1)) s e in
    let fact = connect_ok known tokens read.0 read.1 in
    let same : OutcomeOf read.0.0 read.0.1 ≡ s = cc (read.2) in
    let P : Said → Type 0 = IsAllowed known in subst P same fact.known_is
allowed known words.Pause tokens s e =
    let read = bind_ok (pause_in tokens) (λ pause. Ok (Paused pause.0 pause.1)) s e in
    let same : Paused read.0.0 read.0.1 ≡ s = cc (read.2) in
    let P : Said → Type 0 = IsAllowed known in subst P same tt
allowed known words.End tokens s e =
    let read = bind_ok (end_in tokens) (λ _. Ok Ended) s e in
    let same : Ended ≡ s = cc (read.2) in
    let P : Said → Type 0 = IsAllowed known in subst P same tt

ended : (known : Ip → Bool) (word : Word) (tokens : List (List ℕ)) (s : Said) → is_end word ≡ true → said_by known word tokens ≡ Ok s → s ≡ Ended
unfolding said_by
ended known words.Set tokens s h e = cc
ended known words.Policy tokens s h e = cc
ended known words.Source tokens s h e = cc
ended known words.Route tokens s h e = cc
ended known words.Aaaa tokens s h e = cc
ended known words.A tokens s h e = cc
ended known words.Rtt tokens s h e = cc
ended known words.Used tokens s h e = cc
ended known words.Connect tokens s h e = cc
ended known words.Pause tokens s h e = cc
ended known words.End tokens s h e =
    let read = bind_ok (end_in tokens) (λ _. Ok Ended) s e in
    let same : Ended ≡ s = cc (read.2) in sym same

pub line_says : (known : Ip → Bool) (line : List ℕ) (s : Said) → said_in known line ≡ Ok s → (s ≡ Ended → ⊥) → Says line s × IsAllowed known s
line_says known line s e other =
    let read = bind_ok (word_of (tokens_of line)) (λ (parts : Word × List (List ℕ)). said_by known parts.0 parts.1) s e in
    by_end read.0 read.1 read.2 (is_end read.0.0) refl
  where
    by_end : (parts : Word × List (List ℕ)) → word_of (tokens_of line) ≡ Ok parts → said_by known parts.0 parts.1 ≡ Ok s → (b : Bool) → is_end parts.0 ≡ b → Says line s × IsAllowed known s
    by_end parts is said true h = absurd (other (ended known parts.0 parts.1 s h said))
    by_end parts is said false h = (says_read line s (says known line parts.0 parts.1 s (word_tokens (tokens_of line) parts is) h said), allowed known parts.0 parts.1 s said)

suits : (known : Ip → Bool) (s : Said) → IsAllowed known s → Suits s × Knows known s
suits known (Setting name value) h = (tt, tt)
suits known (PolicyRow row) h = (tt, tt)
suits known (HostSource source) h = (h, tt)
suits known (HostRoute route) h = (tt, tt)
suits known (Answer family reply) h = (h, tt)
suits known (RoundTrip ip rtt) h = (tt, h)
suits known (UsedBefore ip) h = (tt, h)
suits known (OutcomeOf ip outcome) h = (tt, h)
suits known (Paused from to) h = (tt, tt)
suits known Ended h = (tt, tt)

pub line_is_said : (known : Ip → Bool) (line : List ℕ) (s : Said) → Says line s → IsAllowed known s → said_in known line ≡ Ok s
line_is_said known line s says h =
    let both = suits known s h in
    line_said known line s (is_line line s (reads_said line s says) both.0) both.1
