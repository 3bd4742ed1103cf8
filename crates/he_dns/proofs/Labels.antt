-- The labels of a host name's text.
use Rattle.std.proofs.Common.{◌≡◌, ◌⊎◌, ℕ, ◌+◌, ◌<◌, Bool, true, false, cond, ltb, eqb, ◌≢◌, List, [], ◌∷◌, ◌++◌, Option, Some, None, length, take, drop, position, refl, sym, ◌∙◌, ap, subst, arith, append_assoc, inl, inr}
use Rattle.std.specs.List.{AllByRecursion, position_or_len}
use Rattle.std.specs.Option.{option_or}
use Rattle.std.proofs.lemmas.Bool.{ltb-true, ltb-false, eqb-true, eqb-false}
use Rattle.std.proofs.lemmas.List.{append-nil}
use Rattle.std.proofs.lemmas.List.Splits.{slice_split_none, slice_split_first}
use Rattle.std.proofs.lemmas.List.Sums.{fails_before_first}
use Rattle.he_dns.specs.declared.fault.NameFault.{NameFault}
use Rattle.he_dns.specs.declared.fault.NameFault.TheVariants as names
use Rattle.he_dns.specs.Reading.{label_fault, labels_fault}
use Rattle.he_dns.specs.Texts.{HasNameFault, IsFirstWrong, IsLabel, body_of, labels_octets, labels_of}

found : (b : Bool) (m n : ℕ) → cond b (Some m) None ≡ Some n → (b ≡ true) × (m ≡ n)
found true m n h = (refl, cc)
found false m n h = cc

missed : (b : Bool) (m : ℕ) → cond b (Some m) None ≡ None → b ≡ false
missed true m h = cc
missed false m h = refl

-- the first label ends at the first dot
first_label : (text : List ℕ) (at : ℕ) → Some at ≡ position (λ b. eqb b 46) text → labels_of text ≡ take at text ∷ labels_of (drop (at + 1) text)
first_label text at h =
    let first : ℕ = position_or_len (λ b. eqb b 46) text in
    let is = found (ltb first (length text)) first at (sym h) in
    let P : ℕ → Type 0 = λ n. labels_of text ≡ take n text ∷ labels_of (drop (n + 1) text) in
    subst P is.1 (slice_split_first (λ b. eqb b 46) text 0 (ltb-true first (length text) is.0))

-- a text without a dot is one label
last_label : (text : List ℕ) → None ≡ position (λ b. eqb b 46) text → labels_of text ≡ text ∷ []
last_label text h =
    let first : ℕ = position_or_len (λ b. eqb b 46) text in
    let past = ltb-false first (length text) (missed (ltb first (length text)) first (sym h)) in
    slice_split_none (λ b. eqb b 46) text (λ k d below. fails_before_first (λ b. eqb b 46) text k d (omega arith))

-- what is known of a text while its labels are read: those to come have the whole's first fault, and give the rest of
-- its octets
pub record AreLeft (items rest body : List ℕ) : Type 0 where
  pub fault : labels_fault (labels_of rest) ≡ labels_fault (labels_of body)
  pub octets : items ++ labels_octets (labels_of rest) ≡ labels_octets (labels_of body)

pub left_all : (items body : List ℕ) → items ≡ [] → AreLeft items body body
left_all items body h = record { fault = refl; octets = ap (λ xs. xs ++ labels_octets (labels_of body)) h }

pub left_more : (items items' rest body : List ℕ) (at : ℕ) → AreLeft items rest body → Some at ≡ position (λ b. eqb b 46) rest
    → label_fault (take at rest) ≡ None → items' ≡ items ++ length (take at rest) ∷ take at rest → AreLeft items' (drop (at + 1) rest) body
left_more items items' rest body at l h fine is =
    let label : List ℕ = take at rest in
    let more : List (List ℕ) = labels_of (drop (at + 1) rest) in
    let split : labels_of rest ≡ label ∷ more = first_label rest at h in
    record {
      fault = sym (ap (λ (f : Option NameFault). option_or f (labels_fault more)) fine) ∙ sym (ap labels_fault split) ∙ l.fault;
      octets = ap (λ (xs : List ℕ). xs ++ labels_octets more) is ∙ append_assoc items (length label ∷ label) (labels_octets more)
          ∙ sym (ap (λ (ls : List (List ℕ)). items ++ labels_octets ls) split) ∙ l.octets;
    }

pub left_on : (items items' rest rest' body : List ℕ) (at : ℕ) → AreLeft items rest body → Some at ≡ position (λ b. eqb b 46) rest → rest' ≡ drop (at + 1) rest
    → label_fault (take at rest) ≡ None → items' ≡ items ++ length (take at rest) ∷ take at rest → AreLeft items' rest' body
left_on items items' rest rest' body at l h behind fine is =
    subst (λ (r : List ℕ). AreLeft items' r body) (sym behind) (left_more items items' rest body at l h fine is)

pub wrong_more : (items rest body : List ℕ) (at : ℕ) (fault : NameFault) → AreLeft items rest body → Some at ≡ position (λ b. eqb b 46) rest
    → label_fault (take at rest) ≡ Some fault → labels_fault (labels_of body) ≡ Some fault
wrong_more items rest body at fault l h wrong =
    sym l.fault ∙ ap labels_fault (first_label rest at h) ∙ ap (λ (f : Option NameFault). option_or f (labels_fault (labels_of (drop (at + 1) rest)))) wrong

pub left_last : (items items' rest body : List ℕ) → AreLeft items rest body → None ≡ position (λ b. eqb b 46) rest
    → label_fault rest ≡ None → items' ≡ items ++ length rest ∷ rest → (labels_fault (labels_of body) ≡ None) × (items' ≡ labels_octets (labels_of body))
left_last items items' rest body l h fine is = (
  sym l.fault ∙ ap labels_fault (last_label rest h) ∙ ap (λ (f : Option NameFault). option_or f None) fine,
  is ∙ ap (λ (xs : List ℕ). items ++ length rest ∷ xs) (sym (append-nil rest)) ∙ sym (ap (λ (ls : List (List ℕ)). items ++ labels_octets ls) (last_label rest h)) ∙ l.octets,
)

pub wrong_last : (items rest body : List ℕ) (fault : NameFault) → AreLeft items rest body → None ≡ position (λ b. eqb b 46) rest
    → label_fault rest ≡ Some fault → labels_fault (labels_of body) ≡ Some fault
wrong_last items rest body fault l h wrong =
    sym l.fault ∙ ap labels_fault (last_label rest h) ∙ ap (λ (f : Option NameFault). option_or f None) wrong

-- why a label is none
label_tests : (e l : Bool) → cond e (Some names.EmptyLabel) (cond l (Some names.LongLabel) None) ≡ None → (e ≡ false) × (l ≡ false)
label_tests true l h = cc
label_tests false true h = cc
label_tests false false h = (refl, refl)

abbrev WrongBy : NameFault → List ℕ → Type 0
WrongBy names.EmptyLabel label = length label ≡ 0
WrongBy names.LongLabel label = 63 < length label
WrongBy _ label = ⊥

wrong_tests : (f : NameFault) (label : List ℕ) (e l : Bool) → (e ≡ true → length label ≡ 0) → (l ≡ true → 63 < length label)
    → cond e (Some names.EmptyLabel) (cond l (Some names.LongLabel) None) ≡ Some f → WrongBy f label
wrong_tests names.EmptyLabel label true l empty long h = empty refl
wrong_tests names.EmptyLabel label false true empty long h = cc
wrong_tests names.EmptyLabel label false false empty long h = cc
wrong_tests names.LongLabel label true l empty long h = cc
wrong_tests names.LongLabel label false true empty long h = long refl
wrong_tests names.LongLabel label false false empty long h = cc
wrong_tests names.LongName label true l empty long h = cc
wrong_tests names.LongName label false true empty long h = cc
wrong_tests names.LongName label false false empty long h = cc
wrong_tests names.Memory label true l empty long h = cc
wrong_tests names.Memory label false true empty long h = cc
wrong_tests names.Memory label false false empty long h = cc

wrong_label : (f : NameFault) (label : List ℕ) → label_fault label ≡ Some f → WrongBy f label
wrong_label f label h = wrong_tests f label (eqb (length label) 0) (ltb 63 (length label)) (λ e. eqb-true (length label) 0 e) (λ l. ltb-true 63 (length label) l) h

fine_label : (label : List ℕ) → label_fault label ≡ None → IsLabel label
fine_label label h =
    let tests = label_tests (eqb (length label) 0) (ltb 63 (length label)) h in
    let some : length label ≢ 0 = eqb-false (length label) 0 tests.0 in
    (omega arith, ltb-false 63 (length label) tests.1)

first_none : (a b : Option NameFault) → option_or a b ≡ None → (a ≡ None) × (b ≡ None)
first_none None b h = (refl, h)
first_none (Some f) b h = cc

pub all_labels : (labels : List (List ℕ)) → labels_fault labels ≡ None → AllByRecursion IsLabel labels
all_labels [] h = tt
all_labels (label ∷ more) h =
    let both = first_none (label_fault label) (labels_fault more) h in
    (fine_label label both.0, all_labels more both.1)

wrong_here : (f : NameFault) (label : List ℕ) (more : List (List ℕ)) (o : Option NameFault) → label_fault label ≡ o → option_or o (labels_fault more) ≡ Some f
    → (labels_fault more ≡ Some f → IsFirstWrong more (WrongBy f)) → IsFirstWrong (label ∷ more) (WrongBy f)
wrong_here f label more (Some g) e h later = ([], label, more, refl, tt, wrong_label f label (e ∙ h))
wrong_here f label more None e h later =
    let w = later h in
    (label ∷ w.0, w.1, w.2, ap (λ (ls : List (List ℕ)). label ∷ ls) w.3, (fine_label label e, w.4), w.5)

first_wrong : (f : NameFault) (labels : List (List ℕ)) → labels_fault labels ≡ Some f → IsFirstWrong labels (WrongBy f)
first_wrong f [] h = cc
first_wrong f (label ∷ more) h = wrong_here f label more (label_fault label) refl h (λ later. first_wrong f more later)

-- what a fault of the labels says of the text
pub labels_wrong : (f : NameFault) (text : List ℕ) → labels_fault (labels_of (body_of text)) ≡ Some f → HasNameFault text f
labels_wrong names.EmptyLabel text h = first_wrong names.EmptyLabel (labels_of (body_of text)) h
labels_wrong names.LongLabel text h = first_wrong names.LongLabel (labels_of (body_of text)) h
labels_wrong names.LongName text h = absurd (first_wrong names.LongName (labels_of (body_of text)) h).5
labels_wrong names.Memory text h = tt

pub told_wrong : (f : NameFault) (text : List ℕ) → (f ≡ names.Memory) ⊎ (labels_fault (labels_of (body_of text)) ≡ Some f) → HasNameFault text f
told_wrong f text (inl h) = subst (λ g. HasNameFault text g) (sym h) tt
told_wrong f text (inr h) = labels_wrong f text h
