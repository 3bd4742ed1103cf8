-- What the fault of a group's last line waits for: the word of what the line says.
use Rattle.std.proofs.Common.{◌≡◌, ℕ, Bool, true, false, cond, List, [], ◌∷◌, ◌++◌, Option, Some, None, Result, Ok, Err, refl, sym, ◌∙◌, ap, subst}
use Rattle.std.specs.Prelude.{option_map}
use Rattle.he_addr.specs.declared.ip.Ip.{Ip}
use Rattle.he_select.specs.declared.policy.PolicyFault.{PolicyFault}
use Rattle.he_select.specs.TableFaults.{table_fault}
use Rattle.he_words.specs.declared.fault.TextKind.{TextKind}
use Rattle.he_words.specs.declared.fault.TextKind.TheVariants as kinds
use Rattle.he_words.specs.declared.words.Version.{Version}
use Rattle.he_words.specs.declared.words.Word.{Word}
use Rattle.he_words.specs.declared.words.Word.TheVariants as words
use Rattle.he_inputs.specs.Beginnings.{awaited}
use Rattle.he_reading.specs.Forms.{word_of_setting, ◌>>=◌, version_word, round_trip_in, used_in, connect_in, said_by, said_from, said_in}
use Rattle.he_reading.specs.Faults.{anyone, test, floor_is_above, is_next, group_fault, wrong_group, of_said}
use Rattle.he_reading.specs.Parts.{tokens_of}
use Rattle.he_reading.specs.Said.{Said, Setting, PolicyRow, HostSource, HostRoute, Answer, RoundTrip, UsedBefore, OutcomeOf, Paused, Ended, word_said, rows_given, settings_given}
use Rattle.he_inputs.proofs.FormKinds.{IsOwn, FailsOwn, own_error, said_own}
use Rattle.he_reading.proofs.Versions.{plain_word, word_fault}

-- the same, by the word of a setting that the line says
abbrev pub waits : Option Word → TextKind → Option Word
waits setting (kinds.Policy fault) = Some words.Policy
waits setting kinds.Range = setting
waits setting kind = None

pub awaited_is : (line : List ℕ) (kind : TextKind) → awaited line kind ≡ waits (word_of_setting (said_in anyone line)) kind
awaited_is line kinds.Header = refl
awaited_is line kinds.Word = refl
awaited_is line kinds.Number = refl
awaited_is line kinds.Address = refl
awaited_is line kinds.Prefix = refl
awaited_is line kinds.Repeated = refl
awaited_is line kinds.Range = refl
awaited_is line kinds.TooMany = refl
awaited_is line kinds.Unfinished = refl
awaited_is line kinds.Memory = refl
awaited_is line (kinds.Policy fault) = refl

-- what is wrong with a line that says no setting waits for none
pub own_waits : (kind : TextKind) → IsOwn kind → waits None kind ≡ None
own_waits kinds.Header own = refl
own_waits kinds.Word own = refl
own_waits kinds.Number own = refl
own_waits kinds.Address own = refl
own_waits kinds.Prefix own = refl
own_waits kinds.Repeated own = refl
own_waits kinds.Range own = refl
own_waits kinds.TooMany own = refl
own_waits kinds.Unfinished own = refl
own_waits kinds.Memory own = refl
own_waits (kinds.Policy fault) own = absurd own

no_setting : {A : Type 0} (read : Result A TextKind) (says : A → Said) → ((x : A) → word_of_setting (Ok (says x)) ≡ None) → word_of_setting (read >>= λ x. Ok (says x)) ≡ None
no_setting (Ok x) says none = none x
no_setting (Err kind) says none = refl

-- a setting is one whatever is known
setting_alike : (known : Ip → Bool) (word : Word) (tokens : List (List ℕ)) → word_of_setting (said_by anyone word tokens) ≡ word_of_setting (said_by known word tokens)
unfolding said_by
setting_alike known words.Set tokens = refl
setting_alike known words.Policy tokens = refl
setting_alike known words.Source tokens = refl
setting_alike known words.Route tokens = refl
setting_alike known words.Aaaa tokens = refl
setting_alike known words.A tokens = refl
setting_alike known words.Rtt tokens = no_setting (round_trip_in anyone tokens) (λ told. RoundTrip told.0 told.1) (λ told. refl) ∙ sym (no_setting (round_trip_in known tokens) (λ told. RoundTrip told.0 told.1) (λ told. refl))
setting_alike known words.Used tokens = no_setting (used_in anyone tokens) (λ ip. UsedBefore ip) (λ ip. refl) ∙ sym (no_setting (used_in known tokens) (λ ip. UsedBefore ip) (λ ip. refl))
setting_alike known words.Connect tokens = no_setting (connect_in anyone tokens) (λ told. OutcomeOf told.0 told.1) (λ told. refl) ∙ sym (no_setting (connect_in known tokens) (λ told. OutcomeOf told.0 told.1) (λ told. refl))
setting_alike known words.Pause tokens = refl
setting_alike known words.End tokens = refl

-- the same, by what the line says where these are known
word_waits : (v : Version) (known : Ip → Bool) (line : List ℕ) (parts : Word × List (List ℕ)) (kind : TextKind) → version_word v (tokens_of line) ≡ Ok parts → awaited line kind ≡ waits (word_of_setting (said_by known parts.0 parts.1)) kind
word_waits v known line parts kind is =
    awaited_is line kind
    ∙ ap (λ w. waits (word_of_setting (said_from anyone w)) kind) (plain_word v (tokens_of line) parts is)
    ∙ ap (λ w. waits w kind) (setting_alike known parts.0 parts.1)

pub line_waits : (v : Version) (known : Ip → Bool) (line : List ℕ) (s : Said) (kind : TextKind) → said_from known (version_word v (tokens_of line)) ≡ Ok s → awaited line kind ≡ waits (word_of_setting (Ok s)) kind
line_waits v known line s kind h = by_word (version_word v (tokens_of line)) refl h
  where
    by_word : (word : Result (Word × List (List ℕ)) TextKind) → version_word v (tokens_of line) ≡ word → said_from known word ≡ Ok s → awaited line kind ≡ waits (word_of_setting (Ok s)) kind
    by_word (Err k) e said = cc
    by_word (Ok parts) e said = word_waits v known line parts kind e ∙ ap (λ r. waits (word_of_setting r) kind) said

-- a line that says nothing has a fault of its own, which waits for no word
pub says_own : (v : Version) (known : Ip → Bool) (line : List ℕ) (kind : TextKind) → said_from known (version_word v (tokens_of line)) ≡ Err kind → IsOwn kind
says_own v known line kind h = by_word (version_word v (tokens_of line)) refl h
  where
    by_word : (word : Result (Word × List (List ℕ)) TextKind) → version_word v (tokens_of line) ≡ word → said_from known word ≡ Err kind → IsOwn kind
    by_word (Err k) e said = let same : k ≡ kind = cc (said) in subst IsOwn (sym (sym same ∙ word_fault v (tokens_of line) k e)) tt
    by_word (Ok parts) e said =
        let F : Result Said TextKind → Type 0 = FailsOwn in
        own_error _ kind (subst F (ap (said_from known) (plain_word v (tokens_of line) parts e) ∙ said) (said_own known line))

pub error_waits : (v : Version) (known : Ip → Bool) (line : List ℕ) (kind : TextKind) → said_from known (version_word v (tokens_of line)) ≡ Err kind → IsOwn kind → awaited line kind ≡ None
error_waits v known line kind h own = by_word (version_word v (tokens_of line)) refl h
  where
    by_word : (word : Result (Word × List (List ℕ)) TextKind) → version_word v (tokens_of line) ≡ word → said_from known word ≡ Err kind → awaited line kind ≡ None
    by_word (Err k) e said = let same : k ≡ kind = cc (said) in ap (awaited line) (sym same ∙ word_fault v (tokens_of line) k e)
    by_word (Ok parts) e said = word_waits v known line parts kind e ∙ ap (λ r. waits (word_of_setting r) kind) said ∙ own_waits kind own

-- what a group's last line gives
group_waits : (told : List Said) (s : Said) (kind : TextKind) → group_fault told s ≡ Some kind → waits (word_of_setting (Ok s)) kind ≡ Some (word_said s)
group_waits told (Setting name value) kind h = by_test (floor_is_above (settings_given (told ++ Setting name value ∷ []))) h
  where
    by_test : (b : Bool) → test b kinds.Range ≡ Some kind → waits (Some words.Set) kind ≡ Some words.Set
    by_test true e = let same : kinds.Range ≡ kind = cc (e) in ap (waits (Some words.Set)) (sym same)
    by_test false e = cc
group_waits told (PolicyRow row) kind h = by_fault (table_fault (rows_given told ++ row ∷ [])) h
  where
    by_fault : (fault : Option PolicyFault) → option_map kinds.Policy fault ≡ Some kind → waits None kind ≡ Some words.Policy
    by_fault None e = cc
    by_fault (Some fault) e = let same : kinds.Policy fault ≡ kind = cc (e) in ap (waits None) (sym same)
group_waits told (HostSource source) kind h = cc
group_waits told (HostRoute route) kind h = cc
group_waits told (Answer family reply) kind h = cc
group_waits told (RoundTrip ip rtt) kind h = cc
group_waits told (UsedBefore ip) kind h = cc
group_waits told (OutcomeOf ip outcome) kind h = cc
group_waits told (Paused from to) kind h = cc
group_waits told Ended kind h = cc

-- the fault of a group's last line: what the line says, and that its word is awaited
pub record IsGroupFault (v : Version) (known : Ip → Bool) (line : List ℕ) (kind : TextKind) : Type 0 where
  pub s : Said
  pub said_is : said_from known (version_word v (tokens_of line)) ≡ Ok s
  pub waits_is : awaited line kind ≡ Some (word_said s)

pub is_group_fault : (v : Version) (known : Ip → Bool) (line : List ℕ) (told : List Said) (after : List (List ℕ)) (kind : TextKind) → of_said (wrong_group told after) (said_from known (version_word v (tokens_of line))) ≡ Some kind
    → IsGroupFault v known line kind
is_group_fault v known line told after kind h = by_said (said_from known (version_word v (tokens_of line))) refl h
  where
    by_next : (b : Bool) (fault : Option TextKind) → cond b None fault ≡ Some kind → fault ≡ Some kind
    by_next true fault e = cc
    by_next false fault e = e

    by_said : (said : Result Said TextKind) → said_from known (version_word v (tokens_of line)) ≡ said → of_said (wrong_group told after) said ≡ Some kind → IsGroupFault v known line kind
    by_said (Err k) is e = cc
    by_said (Ok s) is e = record {
      s = s;
      said_is = is;
      waits_is = line_waits v known line s kind is ∙ group_waits told s kind (by_next (is_next (word_said s) after) (group_fault told s) e);
    }
