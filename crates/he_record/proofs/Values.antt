-- The values of a line that is read, and of one that is added, are in their ranges.
use Rattle.std.proofs.Common.{◌≡◌, ℕ, ◌≤◌, Bool, true, false, not, ltb, List, [], ◌∷◌, ◌++◌, Option, Some, None, refl, sym, ◌∙◌, ap}
use Rattle.std.specs.Prelude.{Result, Ok, Err, OnOk}
use Rattle.std.specs.List.{AllByRecursion}
use Rattle.std.proofs.lemmas.Bool.{ltb-false, not-false}
use Rattle.he_timeline.specs.declared.limits.TheConstants.{MAX_TICK}
use Rattle.he_words.specs.declared.fault.TextKind.{TextKind}
use Rattle.he_words.specs.declared.fault.TextKind.TheVariants as kinds
use Rattle.he_reading.specs.Faults.{first_fault, test}
use Rattle.he_record.specs.declared.words.RecordWord.{RecordWord}
use Rattle.he_record.specs.Adding.{HasTypes, add_fault, value_fault}
use Rattle.he_record.specs.Faults.{one_too_many, out_of_order, repeated}
use Rattle.he_record.specs.Moments.{is_moment}
use Rattle.he_record.specs.Ranges.{least_port}
use Rattle.he_record.specs.Said.{Said, AtSaid, ToSaid, FromSaid, LookupSaid, Nat64Said, ServerSaid, AttemptSaid, UntriedSaid, EndSaid, MaySay, is_host, is_nat64, ticks_of, word_said}
use Rattle.he_record.specs.Text.{IsRecord, Says}
use Rattle.he_record.proofs.FitLaws.{PassesAfter, fit_more}

test_none : (b : Bool) (kind : TextKind) → test b kind ≡ None → b ≡ false
test_none true kind h = cc
test_none false kind h = refl

two_none : (a b : Option TextKind) → first_fault (a ∷ b ∷ []) ≡ None → (a ≡ None) × (b ≡ None)
two_none (Some kind) b h = cc
two_none None (Some kind) h = cc
two_none None None h = (refl, refl)

within : (n most : ℕ) (kind : TextKind) → test (ltb most n) kind ≡ None → n ≤ most
within n most kind h = ltb-false most n (test_none (ltb most n) kind h)

may_add : (s : Said) → value_fault s ≡ None → HasTypes s → MaySay s
may_add (AtSaid moment) h types = not-false (is_moment moment) (test_none (not (is_moment moment)) kinds.Range h)
may_add (ToSaid host port) h types =
    let none = two_none (test (not (is_host host)) kinds.Word) (test (ltb port least_port) kinds.Range) h in
    (not-false (is_host host) (test_none (not (is_host host)) kinds.Word none.0), within least_port port kinds.Range none.1, types)
may_add (FromSaid ip) h types = types
may_add (LookupSaid family reason) h types = tt
may_add (Nat64Said prefix) h types = not-false (is_nat64 prefix) (test_none (not (is_nat64 prefix)) kinds.Range h)
may_add (ServerSaid ip reason ticks) h types = (types, within ticks MAX_TICK kinds.Range h)
may_add (AttemptSaid ip reason) h types = types
may_add (UntriedSaid ip) h types = types
may_add (EndSaid end) h types = within (ticks_of end) MAX_TICK kinds.Range h

may_read : (line : List ℕ) (s : Said) → Says line s → HasTypes s → MaySay s
may_read line (AtSaid moment) is types = is.2.1
may_read line (ToSaid host port) is types = (is.2.2, is.2.3.least, is.2.3.most)
may_read line (FromSaid ip) is types = types
may_read line (LookupSaid family reason) is types = tt
may_read line (Nat64Said prefix) is types = is.2.3
may_read line (ServerSaid ip reason ticks) is types = (types, is.2.4.most)
may_read line (AttemptSaid ip reason) is types = types
may_read line (UntriedSaid ip) is types = types
may_read line (EndSaid end) is types = is.2.2.most

all_may : (told : List Said) (s : Said) → AllByRecursion MaySay told → MaySay s → AllByRecursion MaySay (told ++ s ∷ [])
all_may [] s all here = (here, tt)
all_may (first ∷ told) s all here = (all.0, all_may told s all.1 here)

record_more : (told : List Said) (s : Said) → IsRecord told → PassesAfter told s → MaySay s → IsRecord (told ++ s ∷ [])
record_more told s is passes may = record { ranges = all_may told s is.ranges may; fit = fit_more told s is.fit passes }

-- one more line that is read
pub read_more : (told : List Said) (line : List ℕ) (s : Said) → IsRecord told → PassesAfter told s → Says line s → HasTypes s → IsRecord (told ++ s ∷ [])
read_more told line s is passes says types = record_more told s is passes (may_read line s says types)

-- the checks of a line that is added, of which those of its word are made first
pub fault_by_word : (told : List Said) (s : Said) (kind : TextKind) → first_fault (out_of_order told (word_said s) ∷ one_too_many told (word_said s) ∷ []) ≡ Some kind → add_fault told s ≡ Some kind
fault_by_word told s kind h = by_checks (out_of_order told (word_said s)) (one_too_many told (word_said s)) h
  where
    by_checks : (a b : Option TextKind) → first_fault (a ∷ b ∷ []) ≡ Some kind → first_fault (a ∷ b ∷ value_fault s ∷ repeated told s ∷ []) ≡ Some kind
    by_checks (Some other) b e = e
    by_checks None (Some other) e = e
    by_checks None None e = cc

then_others : (a b c d : Option TextKind) → first_fault (a ∷ b ∷ []) ≡ None → first_fault (a ∷ b ∷ c ∷ d ∷ []) ≡ first_fault (c ∷ d ∷ [])
then_others a b c d h = let none = two_none a b h in rw (none.0, none.1) refl

pub fault_by_value : (told : List Said) (s : Said) (kind : TextKind) → first_fault (out_of_order told (word_said s) ∷ one_too_many told (word_said s) ∷ []) ≡ None → value_fault s ≡ Some kind → add_fault told s ≡ Some kind
fault_by_value told s kind none h =
    then_others (out_of_order told (word_said s)) (one_too_many told (word_said s)) (value_fault s) (repeated told s) none
    ∙ ap (λ f. first_fault (f ∷ repeated told s ∷ [])) h

pub fault_by_repeat : (told : List Said) (s : Said) (kind : TextKind) → first_fault (out_of_order told (word_said s) ∷ one_too_many told (word_said s) ∷ []) ≡ None → value_fault s ≡ None → repeated told s ≡ Some kind → add_fault told s ≡ Some kind
fault_by_repeat told s kind none right h =
    then_others (out_of_order told (word_said s)) (one_too_many told (word_said s)) (value_fault s) (repeated told s) none
    ∙ ap (λ f. first_fault (f ∷ repeated told s ∷ [])) right ∙ ap (λ f. first_fault (f ∷ [])) h

no_fault : (told : List Said) (s : Said) → first_fault (out_of_order told (word_said s) ∷ one_too_many told (word_said s) ∷ []) ≡ None → value_fault s ≡ None → repeated told s ≡ None → add_fault told s ≡ None
no_fault told s none right once =
    then_others (out_of_order told (word_said s)) (one_too_many told (word_said s)) (value_fault s) (repeated told s) none
    ∙ ap (λ f. first_fault (f ∷ repeated told s ∷ [])) right ∙ ap (λ f. first_fault (f ∷ [])) once

pub add_more : (told : List Said) (s : Said) → IsRecord told → first_fault (out_of_order told (word_said s) ∷ one_too_many told (word_said s) ∷ []) ≡ None → value_fault s ≡ None → repeated told s ≡ None → HasTypes s → IsRecord (told ++ s ∷ [])
add_more told s is none right once types =
    let word = two_none (out_of_order told (word_said s)) (one_too_many told (word_said s)) none in
    record_more told s is (record { order = word.0; room = word.1; once = once }) (may_add s right types)

-- the check of a line's word, by what the lines of the program say
pub placed : (told lines : List Said) (s : Said) (word : RecordWord) (fault : Option TextKind) → lines ≡ told → word ≡ word_said s → fault ≡ first_fault (out_of_order lines word ∷ one_too_many lines word ∷ [])
    → first_fault (out_of_order told (word_said s) ∷ one_too_many told (word_said s) ∷ []) ≡ fault
placed told lines s word fault same is h =
    sym (h ∙ ap (λ (told : List Said). first_fault (out_of_order told word ∷ one_too_many told word ∷ [])) same
    ∙ ap (λ (w : RecordWord). first_fault (out_of_order told w ∷ one_too_many told w ∷ [])) is)

pub added : {E : Type 0} (told new : List Said) (s : Said) (result : Result (Unit {0}) E) → first_fault (out_of_order told (word_said s) ∷ one_too_many told (word_said s) ∷ []) ≡ None → value_fault s ≡ None → repeated told s ≡ None
    → OnOk result (new ≡ told ++ s ∷ []) → OnOk result ((new ≡ told ++ s ∷ []) × (add_fault told s ≡ None))
added told new s (Ok done) none right once pushed = (pushed, no_fault told s none right once)
added told new s (Err fault) none right once pushed = tt
