-- Of lines that are a record together, each passes its checks after the lines before it.
use Rattle.std.proofs.Common.{◌≡◌, ℕ, ◌≤◌, Bool, true, false, not, ltb, List, [], ◌∷◌, ◌++◌, Option, None, refl, sym, ◌∙◌, ap, subst, append-nil, append_assoc}
use Rattle.std.specs.List.{AllByRecursion}
use Rattle.std.proofs.lemmas.Bool.{le-ltb}
use Rattle.he_timeline.specs.declared.limits.TheConstants.{MAX_TICK}
use Rattle.he_words.specs.declared.fault.TextKind.{TextKind}
use Rattle.he_words.specs.declared.fault.TextKind.TheVariants as kinds
use Rattle.he_reading.specs.Faults.{first_fault, test}
use Rattle.he_record.specs.Adding.{add_fault, value_fault}
use Rattle.he_record.specs.Faults.{one_too_many, out_of_order, repeated}
use Rattle.he_record.specs.Moments.{is_moment}
use Rattle.he_record.specs.Ranges.{least_port}
use Rattle.he_record.specs.Said.{Said, AtSaid, ToSaid, FromSaid, LookupSaid, Nat64Said, ServerSaid, AttemptSaid, UntriedSaid, EndSaid, MaySay, is_host, is_nat64, ticks_of, word_said}
use Rattle.he_record.specs.Text.{FitTogether, IsRecord}
use Rattle.he_record.proofs.FitLaws.{PassesAfter, fit_passes}
use Rattle.he_recording.specs.Added.{added, unless, with_line}

no_test : (b : Bool) (kind : TextKind) → b ≡ false → test b kind ≡ None
no_test b kind e = ap (λ (x : Bool). test x kind) e

holds : (b : Bool) (kind : TextKind) → b ≡ true → test (not b) kind ≡ None
holds b kind e = ap (λ (x : Bool). test (not x) kind) e

within : (n most : ℕ) (kind : TextKind) → n ≤ most → test (ltb most n) kind ≡ None
within n most kind h = no_test (ltb most n) kind (le-ltb most n h)

none_of_two : (a b : Option TextKind) → a ≡ None → b ≡ None → first_fault (a ∷ b ∷ []) ≡ None
none_of_two a b first second =
    ap (λ (x : Option TextKind). first_fault (x ∷ b ∷ [])) first ∙ ap (λ (x : Option TextKind). first_fault (x ∷ [])) second

none_of_four : (a b c d : Option TextKind) → a ≡ None → b ≡ None → c ≡ None → d ≡ None
    → first_fault (a ∷ b ∷ c ∷ d ∷ []) ≡ None
none_of_four a b c d first second third fourth =
    ap (λ (x : Option TextKind). first_fault (x ∷ b ∷ c ∷ d ∷ [])) first
    ∙ ap (λ (x : Option TextKind). first_fault (x ∷ c ∷ d ∷ [])) second
    ∙ none_of_two c d third fourth

right_value : (s : Said) → MaySay s → value_fault s ≡ None
right_value (AtSaid moment) may = holds (is_moment moment) kinds.Range may
right_value (ToSaid host port) may =
    none_of_two (test (not (is_host host)) kinds.Word) (test (ltb port least_port) kinds.Range)
    (holds (is_host host) kinds.Word may.0) (within least_port port kinds.Range may.1)
right_value (FromSaid ip) may = refl
right_value (LookupSaid family reason) may = refl
right_value (Nat64Said prefix) may = holds (is_nat64 prefix) kinds.Range may
right_value (ServerSaid ip reason ticks) may = within ticks MAX_TICK kinds.Range may.1
right_value (AttemptSaid ip reason) may = refl
right_value (UntriedSaid ip) may = refl
right_value (EndSaid end) may = within (ticks_of end) MAX_TICK kinds.Range may

no_fault : (before : List Said) (s : Said) → PassesAfter before s → MaySay s → add_fault before s ≡ None
no_fault before s passes may =
    none_of_four (out_of_order before (word_said s)) (one_too_many before (word_said s)) (value_fault s) (repeated before s)
    passes.order passes.room (right_value s may) passes.once

kept : (before : List Said) (s : Said) → add_fault before s ≡ None → with_line before s ≡ before ++ s ∷ []
unfolding with_line
kept before s none = ap (λ (fault : Option TextKind). unless fault before s) none

all_kept : (before later : List Said) → AllByRecursion MaySay later → FitTogether (before ++ later)
    → added before later ≡ before ++ later
all_kept before [] may fit = sym (append-nil before)
all_kept before (s ∷ later) may fit =
    let one : with_line before s ≡ before ++ s ∷ [] = kept before s (no_fault before s (fit_passes before later s fit) may.0) in
    let assoc : (before ++ s ∷ []) ++ later ≡ before ++ s ∷ later = append_assoc before (s ∷ []) later in
    ap (λ (t : List Said). added t later) one
    ∙ all_kept (before ++ s ∷ []) later may.1 (subst (λ (all : List Said). FitTogether all) (sym assoc) fit)
    ∙ assoc

pub nothing_lost : (said : List Said) → IsRecord said → added [] said ≡ said
nothing_lost said is = all_kept [] said is.ranges is.fit
