-- A line that says something is read as what it says.
use Rattle.std.proofs.Common.{◌≡◌, ℕ, Bool, true, false, List, [], ◌∷◌, Ok, refl, ◌∙◌, ap}
use Rattle.std.specs.List.{AllZip, cons_option}
use Rattle.std.specs.Result.{result_ok}
use Rattle.he_addr.specs.declared.ip.Family.TheVariants as families
use Rattle.he_addr.specs.declared.ip.Ip.{Ip}
use Rattle.he_addr.specs.Ip.{is_usable}
use Rattle.he_timeline.specs.Timeline.{are_of}
use Rattle.he_words.specs.declared.words.Name.{Name}
use Rattle.he_words.specs.declared.words.Name.TheVariants.{Resolution, Attempt, Count, Limit, Floor}
use Rattle.he_words.specs.declared.words.Version.{Version}
use Rattle.he_words.specs.declared.words.Version.TheVariants.{One, Two}
use Rattle.he_words.specs.declared.words.Word.{Word}
use Rattle.he_words.specs.declared.words.Word.TheVariants as words
use Rattle.he_reading.specs.Faults.{anyone, said_before, ends, ends_by}
use Rattle.he_reading.specs.Forms.{◌>>=◌, is_added, word_of, version_word, said_by, said_in}
use Rattle.he_reading.specs.Parts.{tokens_of}
use Rattle.he_reading.specs.Said.{Said, Setting, PolicyRow, HostSource, HostRoute, Answer, RoundTrip, UsedBefore, OutcomeOf, Paused, Ended, word_said}
use Rattle.he_reading.specs.Text.{group_said, has_name, may_say}
use Rattle.he_words.specs.Marks.{source_marks, route_marks, mark_text}
use Rattle.he_reading.proofs.LineReads.{Reads}
use Rattle.he_reading.proofs.Versions.{kept_word, second_word}
use Rattle.he_words.specs.Words.{group_of, spelling_of, name_spelling, is_end}
use Rattle.he_reading.proofs.FormReads.{word_reads, setting_reads, row_reads, source_reads, route_reads, answer_reads, round_trip_reads, used_reads, connect_reads, pause_reads}

pub word_group : (s : Said) → group_of (word_said s) ≡ group_said s
word_group (Setting name value) = refl
word_group (PolicyRow row) = refl
word_group (HostSource source) = refl
word_group (HostRoute route) = refl
word_group (Answer families.V6 reply) = refl
word_group (Answer families.V4 reply) = refl
word_group (RoundTrip ip rtt) = refl
word_group (UsedBefore ip) = refl
word_group (OutcomeOf ip outcome) = refl
word_group (Paused from to) = refl
word_group Ended = refl

-- the address of which something is told is one of the known ones
abbrev pub Knows : (Ip → Bool) → Said → Type 0
Knows known (RoundTrip ip rtt) = known ip ≡ true
Knows known (UsedBefore ip) = known ip ≡ true
Knows known (OutcomeOf ip outcome) = known ip ≡ true
Knows known s = Unit {0}

knows_anyone : (s : Said) → Knows anyone s
knows_anyone (Setting name value) = tt
knows_anyone (PolicyRow row) = tt
knows_anyone (HostSource source) = tt
knows_anyone (HostRoute route) = tt
knows_anyone (Answer family reply) = tt
knows_anyone (RoundTrip ip rtt) = refl
knows_anyone (UsedBefore ip) = refl
knows_anyone (OutcomeOf ip outcome) = refl
knows_anyone (Paused from to) = tt
knows_anyone Ended = tt

-- a line within a race, and how it is read
pub record IsLine (line : List ℕ) (s : Said) : Type 0 where
  pub tokens : List (List ℕ)
  pub word : word_of (tokens_of line) ≡ Ok (word_said s, tokens)
  pub reads : (known : Ip → Bool) → Knows known s → said_by known (word_said s) tokens ≡ Ok s
  pub goes : is_end (word_said s) ≡ false
  pub plain : may_say One s ≡ true → is_added (word_said s, tokens) ≡ false

-- what the form of a line asks of the values, besides how they are spelled
abbrev pub Suits : Said → Type 0
Suits (HostSource source) = is_usable source.ip ≡ true
Suits (Answer family reply) = are_of family reply.addresses ≡ true
Suits s = Unit {0}

spelled_word : (word : Word) (tokens : List (List ℕ)) → word_of (spelling_of word ∷ tokens) ≡ Ok (word, tokens)
unfolding word_of
spelled_word word tokens = let is = word_reads word in rw is

word_is : (line : List ℕ) (word : Word) (tokens : List (List ℕ)) → tokens_of line ≡ spelling_of word ∷ tokens → word_of (tokens_of line) ≡ Ok (word, tokens)
word_is line word tokens is = ap word_of is ∙ spelled_word word tokens

-- only the floor is a name that version 2 added
plain_name : (name : Name) (number : List ℕ) → has_name One name ≡ true → is_added (words.Set, name_spelling name ∷ number ∷ []) ≡ false
plain_name Resolution number h = refl
plain_name Attempt number h = refl
plain_name Count number h = refl
plain_name Limit number h = refl
plain_name Floor number h = cc

pub is_line : (line : List ℕ) (s : Said) → Reads line s → Suits s → IsLine line s
unfolding said_by
is_line line (Setting name value) says suits = record {
  tokens = name_spelling name ∷ says.0 ∷ [];
  word = word_is line words.Set (name_spelling name ∷ says.0 ∷ []) says.1;
  reads = λ known k. ap (λ r. r >>= λ setting. Ok (Setting setting.0 setting.1)) (setting_reads name says.0 value says.2);
  goes = refl;
  plain = plain_name name says.0;
}
is_line line (PolicyRow row) says suits = record {
  tokens = says.0 ∷ says.1 ∷ says.2 ∷ [];
  word = word_is line words.Policy (says.0 ∷ says.1 ∷ says.2 ∷ []) says.3;
  reads = λ known k. ap (λ r. r >>= λ row. Ok (PolicyRow row)) (row_reads says.0 says.1 says.2 row says.4 says.5 says.6);
  goes = refl;
  plain = λ h. refl;
}
is_line line (HostSource source) says suits = record {
  tokens = says.0 ∷ says.1 ∷ source_marks source;
  word = word_is line words.Source (says.0 ∷ says.1 ∷ source_marks source) says.2;
  reads = λ known k. ap (λ r. r >>= λ source. Ok (HostSource source)) (source_reads says.0 says.1 source says.3 suits says.4);
  goes = refl;
  plain = λ h. refl;
}
is_line line (HostRoute route) says suits = record {
  tokens = says.0 ∷ says.1 ∷ route_marks route;
  word = word_is line words.Route (says.0 ∷ says.1 ∷ route_marks route) says.2;
  reads = λ known k. ap (λ r. r >>= λ route. Ok (HostRoute route)) (route_reads says.0 says.1 route says.3 says.4);
  goes = refl;
  plain = λ h. refl;
}
is_line line (Answer families.V6 reply) says suits = record {
  tokens = says.0 ∷ says.1;
  word = word_is line words.Aaaa (says.0 ∷ says.1) says.2;
  reads = λ known k. ap (λ r. r >>= λ reply. Ok (Answer families.V6 reply)) (answer_reads families.V6 says.0 says.1 reply says.3 says.4 says.5 suits);
  goes = refl;
  plain = λ h. refl;
}
is_line line (Answer families.V4 reply) says suits = record {
  tokens = says.0 ∷ says.1;
  word = word_is line words.A (says.0 ∷ says.1) says.2;
  reads = λ known k. ap (λ r. r >>= λ reply. Ok (Answer families.V4 reply)) (answer_reads families.V4 says.0 says.1 reply says.3 says.4 says.5 suits);
  goes = refl;
  plain = λ h. refl;
}
is_line line (RoundTrip ip rtt) says suits = record {
  tokens = says.0 ∷ says.1 ∷ [];
  word = word_is line words.Rtt (says.0 ∷ says.1 ∷ []) says.2;
  reads = λ known k. ap (λ r. r >>= λ told. Ok (RoundTrip told.0 told.1)) (round_trip_reads known says.0 says.1 ip rtt says.3 k says.4);
  goes = refl;
  plain = λ h. cc;
}
is_line line (UsedBefore ip) says suits = record {
  tokens = says.0 ∷ [];
  word = word_is line words.Used (says.0 ∷ []) says.1;
  reads = λ known k. ap (λ r. r >>= λ ip. Ok (UsedBefore ip)) (used_reads known says.0 ip says.2 k);
  goes = refl;
  plain = λ h. cc;
}
is_line line (OutcomeOf ip outcome) says suits = record {
  tokens = says.0 ∷ mark_text outcome ∷ says.1 ∷ [];
  word = word_is line words.Connect (says.0 ∷ mark_text outcome ∷ says.1 ∷ []) says.2;
  reads = λ known k. ap (λ r. r >>= λ told. Ok (OutcomeOf told.0 told.1)) (connect_reads known says.0 says.1 ip outcome says.3 k says.4);
  goes = refl;
  plain = λ h. refl;
}
is_line line (Paused from to) says suits = record {
  tokens = says.0 ∷ says.1 ∷ [];
  word = word_is line words.Pause (says.0 ∷ says.1 ∷ []) says.2;
  reads = λ known k. ap (λ r. r >>= λ pause. Ok (Paused pause.0 pause.1)) (pause_reads says.0 says.1 from to says.3 says.4);
  goes = refl;
  plain = λ h. refl;
}
is_line line Ended says suits = absurd says

-- what the line says where these addresses are known
pub line_said : (known : Ip → Bool) (line : List ℕ) (s : Said) → IsLine line s → Knows known s → said_in known line ≡ Ok s
line_said known line s is k = ap (λ w. w >>= λ parts. said_by known parts.0 parts.1) is.word ∙ is.reads known k

-- what lines say is what is read of them
pub said_are : (lines : List (List ℕ)) (said : List Said) → AllZip IsLine lines said → said_before lines ≡ said
unfolding said_before
said_are [] [] all = refl
said_are [] (s ∷ said) all = absurd all
said_are (line ∷ lines) [] all = absurd all
said_are (line ∷ lines) (s ∷ said) all =
    ap (λ r. cons_option (result_ok r) (said_before lines)) (line_said anyone line s all.0 (knows_anyone s))
    ∙ ap (λ rest. s ∷ rest) (said_are lines said all.1)

-- no line within a race ends it
pub goes_on : (line : List ℕ) (s : Said) → IsLine line s → ends line ≡ false
unfolding ends
goes_on line s is = ap ends_by is.word ∙ is.goes

-- the line's word is one of the version
pub version_line : (v : Version) (line : List ℕ) (s : Said) → (is : IsLine line s) → may_say v s ≡ true → version_word v (tokens_of line) ≡ Ok (word_said s, is.tokens)
version_line One line s is said = kept_word One (tokens_of line) (word_said s, is.tokens) (is.plain said) is.word
version_line Two line s is said = second_word (tokens_of line) (word_said s, is.tokens) is.word
