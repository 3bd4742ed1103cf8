-- A line that is right by itself says what its form reads of it.
use Rattle.std.proofs.Common.{◌≡◌, ℕ, Bool, true, false, cond, List, [], ◌∷◌, Option, Some, None, Result, Ok, refl, ◌∙◌, ap, subst}
use Rattle.std.specs.Option.{ok_or}
use Rattle.std.specs.Str.{bytes_eq}
use Rattle.std.proofs.lemmas.Slice.Eq.{bytes_eq-Decides}
use Rattle.he_addr.specs.declared.ip.Family.TheVariants as families
use Rattle.he_addr.specs.declared.ip.Ip.{Ip}
use Rattle.he_words.specs.declared.fault.TextKind.{TextKind}
use Rattle.he_words.specs.declared.fault.TextKind.TheVariants as kinds
use Rattle.he_words.specs.declared.words.Name.{Name}
use Rattle.he_words.specs.declared.words.Name.TheVariants.{Resolution, Attempt, Count, Limit, Floor}
use Rattle.he_words.specs.declared.words.Word.{Word}
use Rattle.he_words.specs.declared.words.Word.TheVariants as words
use Rattle.he_reading.specs.Forms.{setting_in, row_in, host_source_in, host_route_in, answer_in, round_trip_in, used_in, connect_in, pause_in, word_of, said_by}
use Rattle.he_reading.specs.Parts.{tokens_of}
use Rattle.he_reading.specs.Said.{Said, Setting, PolicyRow, HostSource, HostRoute, Answer, RoundTrip, UsedBefore, OutcomeOf, Paused}
use Rattle.he_reading.proofs.LineReads.{Reads}
use Rattle.he_words.specs.Words.{spelling_of, name_spelling, word_in, name_in, is_end}
use Rattle.he_reading.proofs.FormFacts.{setting_ok, answer_ok, round_trip_ok, used_ok, connect_ok, pause_ok}
use Rattle.he_reading.proofs.Results.{bind_ok, ok_or_ok}
use Rattle.he_reading.proofs.SelectionFacts.{row_ok, source_ok, route_ok}

-- words and names are spelled

spelled_or : (token : List ℕ) (v w : Word) (b : Bool) (rest : Option Word) → bytes_eq token (spelling_of v) ≡ b → (rest ≡ Some w → token ≡ spelling_of w) → cond b (Some v) rest ≡ Some w → token ≡ spelling_of w
spelled_or token v w true rest e later h =
    let same : v ≡ w = cc (h) in
    (bytes_eq-Decides token (spelling_of v)).0 e ∙ ap spelling_of same
spelled_or token v w false rest e later h = later h

word_spelled : (token : List ℕ) (w : Word) → word_in token ≡ Some w → token ≡ spelling_of w
unfolding word_in
word_spelled token w h =
    spelled_or token words.Set w _ _ refl
    (spelled_or token words.Policy w _ _ refl
    (spelled_or token words.Source w _ _ refl
    (spelled_or token words.Route w _ _ refl
    (spelled_or token words.Aaaa w _ _ refl
    (spelled_or token words.A w _ _ refl
    (spelled_or token words.Rtt w _ _ refl
    (spelled_or token words.Used w _ _ refl
    (spelled_or token words.Connect w _ _ refl
    (spelled_or token words.Pause w _ _ refl
    (spelled_or token words.End w _ _ refl (λ e. absurd (no_word w e))))))))))))
    h
  where
    no_word : (w : Word) → None ≡ Some w → ⊥
    no_word w e = cc

named_or : (token : List ℕ) (v w : Name) (b : Bool) (rest : Option Name) → bytes_eq token (name_spelling v) ≡ b → (rest ≡ Some w → token ≡ name_spelling w) → cond b (Some v) rest ≡ Some w → token ≡ name_spelling w
named_or token v w true rest e later h =
    let same : v ≡ w = cc (h) in
    (bytes_eq-Decides token (name_spelling v)).0 e ∙ ap name_spelling same
named_or token v w false rest e later h = later h

pub name_spelled : (token : List ℕ) (w : Name) → name_in token ≡ Some w → token ≡ name_spelling w
unfolding name_in
name_spelled token w h =
    named_or token Resolution w _ _ refl
    (named_or token Attempt w _ _ refl
    (named_or token Count w _ _ refl
    (named_or token Limit w _ _ refl
    (named_or token Floor w _ _ refl (λ e. absurd (no_name w e))))))
    h
  where
    no_name : (w : Name) → None ≡ Some w → ⊥
    no_name w e = cc

abbrev with_tokens : List (List ℕ) → Word → Result (Word × List (List ℕ)) TextKind
with_tokens tokens word = Ok (word, tokens)

pub word_tokens : (tokens : List (List ℕ)) (parts : Word × List (List ℕ)) → word_of tokens ≡ Ok parts → tokens ≡ spelling_of parts.0 ∷ parts.1
unfolding word_of
word_tokens [] parts h = cc
word_tokens (token ∷ tokens) parts h =
    let read = bind_ok (ok_or (word_in token) kinds.Word) (with_tokens tokens) parts h in
    let same : (read.0, tokens) ≡ parts = cc (read.2) in
    let spelled : token ≡ spelling_of read.0 = word_spelled token read.0 (ok_or_ok (word_in token) kinds.Word read.0 read.1) in
    let P : Word × List (List ℕ) → Type 0 = λ p. token ∷ tokens ≡ spelling_of p.0 ∷ p.1 in
    subst P same (ap (λ t. t ∷ tokens) spelled)

-- a line that is right says what was read of it
pub says : (known : Ip → Bool) (line : List ℕ) (word : Word) (tokens : List (List ℕ)) (s : Said) → tokens_of line ≡ spelling_of word ∷ tokens → is_end word ≡ false → said_by known word tokens ≡ Ok s → Reads line s
unfolding said_by
says known line words.Set tokens s is h e =
    let read = bind_ok (setting_in tokens) (λ setting. Ok (Setting setting.0 setting.1)) s e in
    let fact = setting_ok tokens read.0 read.1 in
    let same : Setting read.0.0 read.0.1 ≡ s = cc (read.2) in
    let P : Said → Type 0 = Reads line in
    subst P same (fact.second, is ∙ ap (λ ts. spelling_of words.Set ∷ ts) (fact.tokens_are ∙ ap (λ t. t ∷ fact.second ∷ []) (name_spelled fact.first read.0.0 fact.name_is)), fact.value_is)
says known line words.Policy tokens s is h e =
    let read = bind_ok (row_in tokens) (λ row. Ok (PolicyRow row)) s e in
    let fact = row_ok tokens read.0 read.1 in
    let same : PolicyRow read.0 ≡ s = cc (read.2) in
    let P : Said → Type 0 = Reads line in
    subst P same (fact.first, fact.second, fact.third, is ∙ ap (λ ts. spelling_of words.Policy ∷ ts) fact.tokens_are, fact.prefix_is, fact.precedence_is, fact.label_is)
says known line words.Source tokens s is h e =
    let read = bind_ok (host_source_in tokens) (λ source. Ok (HostSource source)) s e in
    let fact = source_ok tokens read.0 read.1 in
    let same : HostSource read.0 ≡ s = cc (read.2) in
    let P : Said → Type 0 = Reads line in
    subst P same (fact.first, fact.second, is ∙ ap (λ ts. spelling_of words.Source ∷ ts) fact.tokens_are, fact.source_is, fact.interface_is)
says known line words.Route tokens s is h e =
    let read = bind_ok (host_route_in tokens) (λ route. Ok (HostRoute route)) s e in
    let fact = route_ok tokens read.0 read.1 in
    let same : HostRoute read.0 ≡ s = cc (read.2) in
    let P : Said → Type 0 = Reads line in
    subst P same (fact.first, fact.second, is ∙ ap (λ ts. spelling_of words.Route ∷ ts) fact.tokens_are, fact.prefix_is, fact.interface_is)
says known line words.Aaaa tokens s is h e =
    let read = bind_ok (answer_in families.V6 tokens) (λ reply. Ok (Answer families.V6 reply)) s e in
    let fact = answer_ok families.V6 tokens read.0 read.1 in
    let same : Answer families.V6 read.0 ≡ s = cc (read.2) in
    let P : Said → Type 0 = Reads line in
    subst P same (fact.first, fact.others, is ∙ ap (λ ts. spelling_of words.Aaaa ∷ ts) fact.tokens_are, fact.tick, fact.addresses.listed, fact.few)
says known line words.A tokens s is h e =
    let read = bind_ok (answer_in families.V4 tokens) (λ reply. Ok (Answer families.V4 reply)) s e in
    let fact = answer_ok families.V4 tokens read.0 read.1 in
    let same : Answer families.V4 read.0 ≡ s = cc (read.2) in
    let P : Said → Type 0 = Reads line in
    subst P same (fact.first, fact.others, is ∙ ap (λ ts. spelling_of words.A ∷ ts) fact.tokens_are, fact.tick, fact.addresses.listed, fact.few)
says known line words.Rtt tokens s is h e =
    let read = bind_ok (round_trip_in known tokens) (λ told. Ok (RoundTrip told.0 told.1)) s e in
    let fact = round_trip_ok known tokens read.0 read.1 in
    let same : RoundTrip read.0.0 read.0.1 ≡ s = cc (read.2) in
    let P : Said → Type 0 = Reads line in
    subst P same (fact.first, fact.second, is ∙ ap (λ ts. spelling_of words.Rtt ∷ ts) fact.tokens_are, fact.ip_is, fact.rtt_is)
says known line words.Used tokens s is h e =
    let read = bind_ok (used_in known tokens) (λ ip. Ok (UsedBefore ip)) s e in
    let fact = used_ok known tokens read.0 read.1 in
    let same : UsedBefore read.0 ≡ s = cc (read.2) in
    let P : Said → Type 0 = Reads line in
    subst P same (fact.first, is ∙ ap (λ ts. spelling_of words.Used ∷ ts) fact.tokens_are, fact.ip_is)
says known line words.Connect tokens s is h e =
    let read = bind_ok (connect_in known tokens) (λ told. Ok (OutcomeOf told.0 told.1)) s e in
    let fact = connect_ok known tokens read.0 read.1 in
    let same : OutcomeOf read.0.0 read.0.1 ≡ s = cc (read.2) in
    let P : Said → Type 0 = Reads line in
    subst P same (fact.first, fact.last, is ∙ ap (λ ts. spelling_of words.Connect ∷ ts) fact.tokens_are, fact.ip_is, fact.ticks)
says known line words.Pause tokens s is h e =
    let read = bind_ok (pause_in tokens) (λ pause. Ok (Paused pause.0 pause.1)) s e in
    let fact = pause_ok tokens read.0 read.1 in
    let same : Paused read.0.0 read.0.1 ≡ s = cc (read.2) in
    let P : Said → Type 0 = Reads line in
    subst P same (fact.first, fact.second, is ∙ ap (λ ts. spelling_of words.Pause ∷ ts) fact.tokens_are, fact.from_is, fact.to_is)
says known line words.End tokens s is h e = cc
