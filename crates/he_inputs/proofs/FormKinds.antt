-- The kinds of faults that a line has by itself: none that the text ends inside it, and none of a policy table.
use Rattle.std.proofs.Common.{ℕ, ◌&&◌, Bool, true, false, cond, leb, ltb, List, [], ◌∷◌, length, Option, Some, None, Result, Ok, Err}
use Rattle.std.specs.Prelude.{codes}
use Rattle.std.specs.Option.{ok_or}
use Rattle.std.specs.Str.{bytes_eq}
use Rattle.he_addr.specs.declared.ip.Family.{Family}
use Rattle.he_addr.specs.declared.ip.Ip.{Ip}
use Rattle.he_addr.specs.Ip.{is_usable}
use Rattle.he_addr.specs.Reading.{number_in, ip_in, prefix_in, source_in}
use Rattle.he_timeline.specs.Timeline.{is_of}
use Rattle.he_timeline.specs.declared.limits.TheConstants.{MAX_ADDRESSES}
use Rattle.he_words.specs.Ranges.{most_source_marks, most_route_marks}
use Rattle.he_words.specs.declared.fault.TextKind.{TextKind}
use Rattle.he_words.specs.declared.fault.TextKind.TheVariants as kinds
use Rattle.he_words.specs.declared.words.Word.{Word}
use Rattle.he_words.specs.declared.words.Word.TheVariants as words
use Rattle.he_reading.specs.Forms.{◌>>=◌, number_from, setting_in, row_in, source_address_in, interface_in, source_marks_in, host_source_in, route_marks_in, host_route_in, address_in, addresses_in, listed_in, answer_in, known_in, round_trip_in, used_in, mark_in, connect_in, pause_in, word_of, said_by, said_in}
use Rattle.he_reading.specs.Parts.{tokens_of}
use Rattle.he_words.specs.Words.{name_in, word_in}

abbrev pub IsOwn : TextKind → Type 0
IsOwn kinds.Unfinished = ⊥
IsOwn (kinds.Policy fault) = ⊥
IsOwn _ = Unit {0}

pub FailsOwn : {A : Type 0} → Result A TextKind → Type 0
FailsOwn (Ok x) = Unit {0}
FailsOwn (Err kind) = IsOwn kind

fine : {A : Type 0} (x : A) → FailsOwn (Ok x)
unfolding FailsOwn
fine x = tt

wrong : (A : Type 0) (kind : TextKind) → IsOwn kind → FailsOwn {A = A} (Err kind)
unfolding FailsOwn
wrong A kind own = own

pub own_error : (A : Type 0) (kind : TextKind) → FailsOwn {A = A} (Err kind) → IsOwn kind
unfolding FailsOwn
own_error A kind own = own

own_then : {A B : Type 0} (r : Result A TextKind) (f : A → Result B TextKind) → FailsOwn r → ((x : A) → FailsOwn (f x)) → FailsOwn (r >>= f)
own_then (Ok x) f own later = later x
own_then (Err kind) f own later = wrong _ kind (own_error _ kind own)

own_or : {A : Type 0} (o : Option A) (kind : TextKind) → IsOwn kind → FailsOwn (ok_or o kind)
own_or (Some x) kind own = fine x
own_or None kind own = wrong _ kind own

own_if : {A : Type 0} (b : Bool) (r other : Result A TextKind) → FailsOwn r → FailsOwn other → FailsOwn (cond b r other)
own_if true r other own later = own
own_if false r other own later = later

number_own : (low high : ℕ) (token : List ℕ) → FailsOwn (number_from low high token)
unfolding number_from
number_own low high token = own_then _ _ (own_or (number_in token) kinds.Number tt) (λ n. own_if (leb low n && leb n high) _ _ (fine n) (wrong _ kinds.Range tt))

setting_own : (tokens : List (List ℕ)) → FailsOwn (setting_in tokens)
unfolding setting_in
setting_own [] = wrong _ kinds.Word tt
setting_own (a ∷ []) = wrong _ kinds.Word tt
setting_own (a ∷ b ∷ []) = own_then _ _ (own_or (name_in a) kinds.Word tt) (λ name. own_then _ _ (number_own _ _ b) (λ value. fine _))
setting_own (a ∷ b ∷ c ∷ more) = wrong _ kinds.Word tt

row_own : (tokens : List (List ℕ)) → FailsOwn (row_in tokens)
unfolding row_in
row_own [] = wrong _ kinds.Word tt
row_own (a ∷ []) = wrong _ kinds.Word tt
row_own (a ∷ b ∷ []) = wrong _ kinds.Word tt
row_own (a ∷ b ∷ c ∷ []) = own_then _ _ (own_or (prefix_in a) kinds.Prefix tt) (λ prefix. own_then _ _ (number_own _ _ b) (λ precedence. own_then _ _ (number_own _ _ c) (λ label. fine _)))
row_own (a ∷ b ∷ c ∷ d ∷ more) = wrong _ kinds.Word tt

source_address_own : (token : List ℕ) → FailsOwn (source_address_in token)
unfolding source_address_in
source_address_own token = own_then _ _ (own_or (source_in token) kinds.Prefix tt) (λ source. own_if (is_usable source.0) _ _ (fine source) (wrong _ kinds.Address tt))

interface_own : (token : List ℕ) → FailsOwn (interface_in token)
interface_own token = number_own _ _ token

source_marks_own : (marks : List (List ℕ)) → FailsOwn (source_marks_in marks)
unfolding source_marks_in
source_marks_own [] = fine _
source_marks_own (only ∷ []) = own_if (bytes_eq only (codes "deprecated")) _ _ (fine (true, false)) (own_if (bytes_eq only (codes "temporary")) _ _ (fine (false, true)) (wrong _ kinds.Word tt))
source_marks_own (first ∷ second ∷ more) = own_if (bytes_eq first (codes "deprecated") && bytes_eq second (codes "temporary")) _ _ (fine (true, true)) (wrong _ kinds.Word tt)

host_source_own : (tokens : List (List ℕ)) → FailsOwn (host_source_in tokens)
unfolding host_source_in
host_source_own [] = wrong _ kinds.Word tt
host_source_own (a ∷ []) = wrong _ kinds.Word tt
host_source_own (a ∷ b ∷ marks) =
    own_if (ltb most_source_marks (length marks)) _ _ (wrong _ kinds.Word tt) (own_then _ _ (source_address_own a) (λ source. own_then _ _ (interface_own b) (λ interface. own_then _ _ (source_marks_own marks) (λ is. fine _))))

route_marks_own : (marks : List (List ℕ)) → FailsOwn (route_marks_in marks)
unfolding route_marks_in
route_marks_own [] = fine _
route_marks_own (mark ∷ more) = own_if (bytes_eq mark (codes "tunnel")) _ _ (fine true) (wrong _ kinds.Word tt)

host_route_own : (tokens : List (List ℕ)) → FailsOwn (host_route_in tokens)
unfolding host_route_in
host_route_own [] = wrong _ kinds.Word tt
host_route_own (a ∷ []) = wrong _ kinds.Word tt
host_route_own (a ∷ b ∷ marks) =
    own_if (ltb most_route_marks (length marks)) _ _ (wrong _ kinds.Word tt) (own_then _ _ (own_or (prefix_in a) kinds.Prefix tt) (λ prefix. own_then _ _ (interface_own b) (λ interface. own_then _ _ (route_marks_own marks) (λ tunnel. fine _))))

address_own : (family : Family) (token : List ℕ) → FailsOwn (address_in family token)
unfolding address_in
address_own family token = own_then _ _ (own_or (ip_in token) kinds.Address tt) (λ ip. own_if (is_of family ip) _ _ (fine ip) (wrong _ kinds.Address tt))

addresses_own : (family : Family) (tokens : List (List ℕ)) → FailsOwn (addresses_in family tokens)
unfolding addresses_in
addresses_own family [] = fine _
addresses_own family (token ∷ tokens) = own_then _ _ (address_own family token) (λ ip. own_then _ _ (addresses_own family tokens) (λ ips. fine _))

listed_own : (family : Family) (tokens : List (List ℕ)) → FailsOwn (listed_in family tokens)
unfolding listed_in
listed_own family [] = addresses_own family []
listed_own family (only ∷ []) = own_if (bytes_eq only (codes "none")) _ _ (fine []) (addresses_own family (only ∷ []))
listed_own family (first ∷ second ∷ more) = addresses_own family (first ∷ second ∷ more)

answer_own : (family : Family) (tokens : List (List ℕ)) → FailsOwn (answer_in family tokens)
unfolding answer_in
answer_own family [] = wrong _ kinds.Word tt
answer_own family (number ∷ []) = wrong _ kinds.Word tt
answer_own family (number ∷ first ∷ more) =
    own_if (ltb MAX_ADDRESSES (length (first ∷ more))) _ _ (wrong _ kinds.TooMany tt) (own_then _ _ (number_own _ _ number) (λ tick. own_then _ _ (listed_own family (first ∷ more)) (λ ips. fine _)))

known_own : (known : Ip → Bool) (token : List ℕ) → FailsOwn (known_in known token)
unfolding known_in
known_own known token = own_then _ _ (own_or (ip_in token) kinds.Address tt) (λ ip. own_if (known ip) _ _ (fine ip) (wrong _ kinds.Address tt))

round_trip_own : (known : Ip → Bool) (tokens : List (List ℕ)) → FailsOwn (round_trip_in known tokens)
unfolding round_trip_in
round_trip_own known [] = wrong _ kinds.Word tt
round_trip_own known (a ∷ []) = wrong _ kinds.Word tt
round_trip_own known (a ∷ b ∷ []) = own_then _ _ (known_own known a) (λ ip. own_then _ _ (number_own _ _ b) (λ rtt. fine _))
round_trip_own known (a ∷ b ∷ c ∷ more) = wrong _ kinds.Word tt

used_own : (known : Ip → Bool) (tokens : List (List ℕ)) → FailsOwn (used_in known tokens)
unfolding used_in
used_own known [] = wrong _ kinds.Word tt
used_own known (a ∷ []) = known_own known a
used_own known (a ∷ b ∷ more) = wrong _ kinds.Word tt

mark_own : (token : List ℕ) → FailsOwn (mark_in token)
unfolding mark_in
mark_own token = own_if (bytes_eq token (codes "ok")) _ _ (fine true) (own_if (bytes_eq token (codes "fail")) _ _ (fine false) (wrong _ kinds.Word tt))

connect_own : (known : Ip → Bool) (tokens : List (List ℕ)) → FailsOwn (connect_in known tokens)
unfolding connect_in
connect_own known [] = wrong _ kinds.Word tt
connect_own known (a ∷ []) = wrong _ kinds.Word tt
connect_own known (a ∷ b ∷ []) = wrong _ kinds.Word tt
connect_own known (a ∷ b ∷ c ∷ []) = own_then _ _ (known_own known a) (λ ip. own_then _ _ (mark_own b) (λ succeeds. own_then _ _ (number_own _ _ c) (λ ticks. fine _)))
connect_own known (a ∷ b ∷ c ∷ d ∷ more) = wrong _ kinds.Word tt

pause_own : (tokens : List (List ℕ)) → FailsOwn (pause_in tokens)
unfolding pause_in
pause_own [] = wrong _ kinds.Word tt
pause_own (a ∷ []) = wrong _ kinds.Word tt
pause_own (a ∷ b ∷ []) = own_then _ _ (number_own _ _ a) (λ first. own_then _ _ (number_own _ _ b) (λ last. fine _))
pause_own (a ∷ b ∷ c ∷ more) = wrong _ kinds.Word tt

word_own : (tokens : List (List ℕ)) → FailsOwn (word_of tokens)
unfolding word_of
word_own [] = wrong _ kinds.Word tt
word_own (token ∷ tokens) = own_then _ _ (own_or (word_in token) kinds.Word tt) (λ word. fine _)

told_own : (known : Ip → Bool) (word : Word) (tokens : List (List ℕ)) → FailsOwn (said_by known word tokens)
unfolding said_by
told_own known words.Set tokens = own_then _ _ (setting_own tokens) (λ setting. fine _)
told_own known words.Policy tokens = own_then _ _ (row_own tokens) (λ row. fine _)
told_own known words.Source tokens = own_then _ _ (host_source_own tokens) (λ source. fine _)
told_own known words.Route tokens = own_then _ _ (host_route_own tokens) (λ route. fine _)
told_own known words.Aaaa tokens = own_then _ _ (answer_own _ tokens) (λ reply. fine _)
told_own known words.A tokens = own_then _ _ (answer_own _ tokens) (λ reply. fine _)
told_own known words.Rtt tokens = own_then _ _ (round_trip_own known tokens) (λ told. fine _)
told_own known words.Used tokens = own_then _ _ (used_own known tokens) (λ ip. fine _)
told_own known words.Connect tokens = own_then _ _ (connect_own known tokens) (λ told. fine _)
told_own known words.Pause tokens = own_then _ _ (pause_own tokens) (λ pause. fine _)
told_own known words.End [] = fine _
told_own known words.End (token ∷ tokens) = wrong _ kinds.Word tt

pub said_own : (known : Ip → Bool) (line : List ℕ) → FailsOwn (said_in known line)
said_own known line = own_then _ _ (word_own (tokens_of line)) (λ parts. told_own known parts.0 parts.1)
