-- Only the check for its end calls a record line unfinished, and none finds the fault of a policy table in it.
use Rattle.std.proofs.Common.{◌≡◌, ℕ, Bool, true, false, cond, List, [], ◌∷◌, Option, Some, None, Result, Ok, Err, inl, inr, sym, subst}
use Rattle.std.specs.Prelude.{◌⊎◌}
use Rattle.std.specs.Option.{ok_or}
use Rattle.std.specs.Result.{result_err}
use Rattle.std.specs.Str.{bytes_eq}
use Rattle.he_addr.specs.Reading.{ip_in, number_in, prefix_in}
use Rattle.he_timeline.specs.declared.limits.TheConstants.{MAX_TICK}
use Rattle.he_words.specs.Ranges.{most_u16}
use Rattle.he_words.specs.declared.fault.TextKind.{TextKind}
use Rattle.he_words.specs.declared.fault.TextKind.TheVariants as kinds
use Rattle.he_reading.specs.Faults.{excess, first_fault, test, too_long, unfinished}
use Rattle.he_reading.specs.Forms.{◌>>=◌, number_from, within}
use Rattle.he_reading.specs.Parts.{tokens_of}
use Rattle.he_record.specs.declared.reasons.ClientEnd.{ClientEnd}
use Rattle.he_record.specs.declared.reasons.ClientEnd.TheVariants as ends
use Rattle.he_record.specs.declared.words.RecordWord.{RecordWord}
use Rattle.he_record.specs.declared.words.RecordWord.TheVariants as words
use Rattle.he_record.specs.Faults.{content_fault, line_fault, of_said, of_word, one_too_many, out_of_order, repeated}
use Rattle.he_record.specs.Forms.{moment_in, address_in, at_in, to_in, from_in, look_up_in, name_server_in, nat64_in, failed_attempt_in, untried_in, end_in, said_by, said_in, word_of}
use Rattle.he_record.specs.MomentParts.{parts_in}
use Rattle.he_record.specs.Moments.{is_moment, moment_text}
use Rattle.he_record.specs.Ranges.{least_port}
use Rattle.he_record.specs.Said.{Said, AtSaid, ToSaid, FromSaid, LookupSaid, Nat64Said, ServerSaid, AttemptSaid, UntriedSaid, EndSaid, is_host, is_nat64}
use Rattle.he_record.specs.Words.{most_record_lines, record_word_in, family_in, lookup_in, server_in, attempt_in}

-- what the other checks find
abbrev pub IsOwnKind : TextKind → Type 0
IsOwnKind kinds.Unfinished = ⊥
IsOwnKind (kinds.Policy fault) = ⊥
IsOwnKind kind = Unit {0}

-- a step that fails so, if it does, and a check
abbrev Closes : {A : Type 0} → Result A TextKind → Type 0
Closes (Ok x) = Unit {0}
Closes (Err kind) = IsOwnKind kind

abbrev pub IsClosed : Option TextKind → Type 0
IsClosed None = Unit {0}
IsClosed (Some kind) = IsOwnKind kind

then_closes : {A B : Type 0} (r : Result A TextKind) (f : A → Result B TextKind) → Closes r → ((x : A) → Closes (f x)) → Closes (r >>= f)
then_closes (Ok x) f h k = k x
then_closes (Err kind) f h k = h

ok_or_closes : {A : Type 0} (o : Option A) (kind : TextKind) → IsOwnKind kind → Closes (ok_or o kind)
ok_or_closes None kind h = h
ok_or_closes (Some x) kind h = tt

either_closes : {A : Type 0} (b : Bool) (r s : Result A TextKind) → Closes r → Closes s → Closes (cond b r s)
either_closes true r s h k = h
either_closes false r s h k = k

word_closes : IsOwnKind kinds.Word
word_closes = tt

number_closes : (low high : ℕ) (token : List ℕ) → Closes (number_from low high token)
unfolding number_from
number_closes low high token =
    then_closes (ok_or (number_in token) kinds.Number) (within low high) (ok_or_closes (number_in token) kinds.Number tt) (λ n. either_closes _ (Ok n) (Err kinds.Range) tt tt)

address_closes : (token : List ℕ) → Closes (address_in token)
unfolding address_in
address_closes token = ok_or_closes (ip_in token) kinds.Address tt

moment_closes : (token : List ℕ) → Closes (moment_in token)
unfolding moment_in
moment_closes token =
    either_closes (bytes_eq token (moment_text (parts_in token))) (cond (is_moment (parts_in token)) (Ok (parts_in token)) (Err kinds.Range)) (Err kinds.Number)
    (either_closes (is_moment (parts_in token)) (Ok (parts_in token)) (Err kinds.Range) tt tt) tt

at_closes : (tokens : List (List ℕ)) → Closes (at_in tokens)
unfolding at_in
at_closes (time ∷ []) = then_closes (moment_in time) (λ moment. Ok (AtSaid moment)) (moment_closes time) (λ moment. tt)
at_closes [] = word_closes
at_closes (a ∷ b ∷ more) = word_closes

to_closes : (tokens : List (List ℕ)) → Closes (to_in tokens)
unfolding to_in
to_closes (host ∷ number ∷ []) =
    either_closes (is_host host) (number_from least_port most_u16 number >>= λ port. Ok (ToSaid host port)) (Err kinds.Word)
    (then_closes (number_from least_port most_u16 number) (λ port. Ok (ToSaid host port)) (number_closes least_port most_u16 number) (λ port. tt)) word_closes
to_closes [] = word_closes
to_closes (a ∷ []) = word_closes
to_closes (a ∷ b ∷ c ∷ more) = word_closes

from_closes : (tokens : List (List ℕ)) → Closes (from_in tokens)
unfolding from_in
from_closes (address ∷ []) = then_closes (address_in address) (λ ip. Ok (FromSaid ip)) (address_closes address) (λ ip. tt)
from_closes [] = word_closes
from_closes (a ∷ b ∷ more) = word_closes

look_up_closes : (tokens : List (List ℕ)) → Closes (look_up_in tokens)
unfolding look_up_in
look_up_closes (first ∷ second ∷ []) =
    then_closes (ok_or (family_in first) kinds.Word) (λ family. ok_or (lookup_in second) kinds.Word >>= λ reason. Ok (LookupSaid family reason)) (ok_or_closes (family_in first) kinds.Word word_closes)
    (λ family. then_closes (ok_or (lookup_in second) kinds.Word) (λ reason. Ok (LookupSaid family reason)) (ok_or_closes (lookup_in second) kinds.Word word_closes) (λ reason. tt))
look_up_closes [] = word_closes
look_up_closes (a ∷ []) = word_closes
look_up_closes (a ∷ b ∷ c ∷ more) = word_closes

nat64_closes : (tokens : List (List ℕ)) → Closes (nat64_in tokens)
unfolding nat64_in
nat64_closes (token ∷ []) =
    then_closes (ok_or (prefix_in token) kinds.Prefix) (λ prefix. cond (is_nat64 prefix) (Ok (Nat64Said prefix)) (Err kinds.Range)) (ok_or_closes (prefix_in token) kinds.Prefix tt)
    (λ prefix. either_closes (is_nat64 prefix) (Ok (Nat64Said prefix)) (Err kinds.Range) tt tt)
nat64_closes [] = word_closes
nat64_closes (a ∷ b ∷ more) = word_closes

server_closes : (tokens : List (List ℕ)) → Closes (name_server_in tokens)
unfolding name_server_in
server_closes (address ∷ second ∷ number ∷ []) =
    then_closes (address_in address) (λ ip. ok_or (server_in second) kinds.Word >>= λ reason. number_from 0 MAX_TICK number >>= λ ticks. Ok (ServerSaid ip reason ticks)) (address_closes address)
    (λ ip. then_closes (ok_or (server_in second) kinds.Word) (λ reason. number_from 0 MAX_TICK number >>= λ ticks. Ok (ServerSaid ip reason ticks)) (ok_or_closes (server_in second) kinds.Word word_closes)
    (λ reason. then_closes (number_from 0 MAX_TICK number) (λ ticks. Ok (ServerSaid ip reason ticks)) (number_closes 0 MAX_TICK number) (λ ticks. tt)))
server_closes [] = word_closes
server_closes (a ∷ []) = word_closes
server_closes (a ∷ b ∷ []) = word_closes
server_closes (a ∷ b ∷ c ∷ d ∷ more) = word_closes

attempt_closes : (tokens : List (List ℕ)) → Closes (failed_attempt_in tokens)
unfolding failed_attempt_in
attempt_closes (address ∷ second ∷ []) =
    then_closes (address_in address) (λ ip. ok_or (attempt_in second) kinds.Word >>= λ reason. Ok (AttemptSaid ip reason)) (address_closes address)
    (λ ip. then_closes (ok_or (attempt_in second) kinds.Word) (λ reason. Ok (AttemptSaid ip reason)) (ok_or_closes (attempt_in second) kinds.Word word_closes) (λ reason. tt))
attempt_closes [] = word_closes
attempt_closes (a ∷ []) = word_closes
attempt_closes (a ∷ b ∷ c ∷ more) = word_closes

untried_closes : (tokens : List (List ℕ)) → Closes (untried_in tokens)
unfolding untried_in
untried_closes (address ∷ []) = then_closes (address_in address) (λ ip. Ok (UntriedSaid ip)) (address_closes address) (λ ip. tt)
untried_closes [] = word_closes
untried_closes (a ∷ b ∷ more) = word_closes

end_closes : (end : ℕ → ClientEnd) (tokens : List (List ℕ)) → Closes (end_in end tokens)
unfolding end_in
end_closes end (number ∷ []) = then_closes (number_from 0 MAX_TICK number) (λ ticks. Ok (EndSaid (end ticks))) (number_closes 0 MAX_TICK number) (λ ticks. tt)
end_closes end [] = word_closes
end_closes end (a ∷ b ∷ more) = word_closes

form_closes : (word : RecordWord) (tokens : List (List ℕ)) → Closes (said_by word tokens)
form_closes words.At tokens = at_closes tokens
form_closes words.To tokens = to_closes tokens
form_closes words.From tokens = from_closes tokens
form_closes words.Lookup tokens = look_up_closes tokens
form_closes words.Nat64 tokens = nat64_closes tokens
form_closes words.Server tokens = server_closes tokens
form_closes words.Attempt tokens = attempt_closes tokens
form_closes words.Untried tokens = untried_closes tokens
form_closes words.Connected tokens = end_closes ends.Connected tokens
form_closes words.GaveUp tokens = end_closes ends.GaveUp tokens
form_closes words.Failed tokens = end_closes ends.Failed tokens

word_of_closes : (tokens : List (List ℕ)) → Closes (word_of tokens)
unfolding word_of
word_of_closes (first ∷ token ∷ tokens) =
    then_closes (ok_or (record_word_in token) kinds.Word) (λ word. Ok (word, tokens)) (ok_or_closes (record_word_in token) kinds.Word word_closes) (λ word. tt)
word_of_closes [] = word_closes
word_of_closes (a ∷ []) = word_closes

said_closes : (line : List ℕ) → Closes (said_in line)
unfolding said_in
said_closes line =
    then_closes (word_of (tokens_of line)) (λ (p : RecordWord × List (List ℕ)). said_by p.0 p.1) (word_of_closes (tokens_of line)) (λ p. form_closes p.0 p.1)

-- the checks
test_closed : (b : Bool) (kind : TextKind) → IsOwnKind kind → IsClosed (test b kind)
test_closed true kind h = h
test_closed false kind h = tt

most_closed : (word : RecordWord) (n : ℕ) → IsClosed (excess (most_record_lines word) n)
most_closed words.Lookup n = tt
most_closed words.Nat64 n = test_closed _ kinds.TooMany tt
most_closed words.Server n = test_closed _ kinds.TooMany tt
most_closed words.Attempt n = test_closed _ kinds.TooMany tt
most_closed words.Untried n = test_closed _ kinds.TooMany tt
most_closed words.At n = test_closed _ kinds.Repeated tt
most_closed words.To n = test_closed _ kinds.Repeated tt
most_closed words.From n = test_closed _ kinds.Repeated tt
most_closed words.Connected n = test_closed _ kinds.Repeated tt
most_closed words.GaveUp n = test_closed _ kinds.Repeated tt
most_closed words.Failed n = test_closed _ kinds.Repeated tt

repeated_closed : (before : List Said) (s : Said) → IsClosed (repeated before s)
repeated_closed before (LookupSaid family reason) = test_closed _ kinds.Repeated tt
repeated_closed before (AttemptSaid ip reason) = test_closed _ kinds.Repeated tt
repeated_closed before (UntriedSaid ip) = test_closed _ kinds.Repeated tt
repeated_closed before (AtSaid moment) = tt
repeated_closed before (ToSaid host port) = tt
repeated_closed before (FromSaid ip) = tt
repeated_closed before (Nat64Said prefix) = tt
repeated_closed before (ServerSaid ip reason ticks) = tt
repeated_closed before (EndSaid end) = tt

of_word_closed : (check : RecordWord → Option TextKind) (w : Result (RecordWord × List (List ℕ)) TextKind) → ((word : RecordWord) → IsClosed (check word)) → Closes w → IsClosed (of_word check w)
of_word_closed check (Ok parts) h k = h parts.0
of_word_closed check (Err kind) h k = k

of_said_closed : (check : Said → Option TextKind) (r : Result Said TextKind) → ((s : Said) → IsClosed (check s)) → IsClosed (of_said check r)
of_said_closed check (Ok s) h = h s
of_said_closed check (Err kind) h = tt

err_closed : (r : Result Said TextKind) → Closes r → IsClosed (result_err r)
err_closed (Ok s) h = tt
err_closed (Err kind) h = h

first_closed : (a b c d : Option TextKind) → IsClosed a → IsClosed b → IsClosed c → IsClosed d → IsClosed (first_fault (a ∷ b ∷ c ∷ d ∷ []))
first_closed (Some kind) b c d ha hb hc hd = ha
first_closed None (Some kind) c d ha hb hc hd = hb
first_closed None None (Some kind) d ha hb hc hd = hc
first_closed None None None (Some kind) ha hb hc hd = hd
first_closed None None None None ha hb hc hd = tt

pub content_closed : (before : List Said) (line : List ℕ) → IsClosed (content_fault before line)
unfolding content_fault
content_closed before line =
    first_closed (of_word (out_of_order before) (word_of (tokens_of line))) (of_word (one_too_many before) (word_of (tokens_of line))) (result_err (said_in line)) (of_said (repeated before) (said_in line))
    (of_word_closed (out_of_order before) (word_of (tokens_of line)) (λ word. test_closed _ kinds.Word word_closes) (word_of_closes (tokens_of line)))
    (of_word_closed (one_too_many before) (word_of (tokens_of line)) (λ word. most_closed word _) (word_of_closes (tokens_of line)))
    (err_closed (said_in line) (said_closes line))
    (of_said_closed (repeated before) (said_in line) (λ s. repeated_closed before s))

-- all checks of a line
all_closed : (b : Bool) (after : List (List ℕ)) (content : Option TextKind) (kind : TextKind) → IsClosed content → first_fault (test b kinds.TooMany ∷ unfinished after ∷ content ∷ []) ≡ Some kind
    → (kind ≡ kinds.Unfinished) ⊎ IsOwnKind kind
all_closed true after content kind h e = let same : kinds.TooMany ≡ kind = cc (e) in inr (subst IsOwnKind same tt)
all_closed false [] content kind h e = let same : kinds.Unfinished ≡ kind = cc (e) in inl (sym same)
all_closed false (part ∷ parts) None kind h e = cc
all_closed false (part ∷ parts) (Some k) kind h e = let same : k ≡ kind = cc (e) in inr (subst IsOwnKind same h)

pub line_closed : (before : List Said) (line : List ℕ) (after : List (List ℕ)) (kind : TextKind) → line_fault before line after ≡ Some kind → (kind ≡ kinds.Unfinished) ⊎ IsOwnKind kind
unfolding line_fault
line_closed before line after kind e = all_closed _ after (content_fault before line) kind (content_closed before line) e
