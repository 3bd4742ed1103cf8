-- What a reading answers at a place where a race's text stands.
use Rattle.std.proofs.Common.{◌≡◌, ℕ, zero, suc, ◌+◌, ◌-◌, ◌<◌, ◌≤◌, List, ◌++◌, length, take, drop, Option, Some, None, sym, ◌∙◌, ap, subst, inl, inr, ⊎_elim, arith}
use Rattle.std.specs.Prelude.{◌⊎◌, slice_range}
use Rattle.std.proofs.lemmas.Bool.{cases_lt}
use Rattle.std.proofs.lemmas.List.{length-drop, length-take-le, take-append-drop}
use Rattle.std.proofs.Math.Seq.{take-add}
use Rattle.he_timeline.specs.Race.{Race}
use Rattle.he_words.specs.declared.fault.TextKind.{TextKind}
use Rattle.he_words.specs.declared.fault.TextKind.TheVariants as kinds
use Rattle.he_reading.specs.FaultSearch.{fault_of}
use Rattle.he_reading.specs.Text.{IsRaceText, TellsFault}
use Rattle.he_reading.proofs.CompleteTexts.{no_longer, nothing_wrong, not_empty}

-- two races' texts at one place
pub record AreSame (race other : Race) (m n : ℕ) : Type 0 where
  pub value : race ≡ other
  pub place : m ≡ n

same_from : (text : List ℕ) (m n : ℕ) (race other : Race) → m ≤ n → n ≤ length text → IsRaceText (take m text) race → IsRaceText (take n text) other → AreSame race other m n
same_from text m n race other shorter within is also =
    let more : ℕ = n - m in
    let sum : m + more ≡ n = omega arith in
    let P : List ℕ → Type 0 = λ t. IsRaceText t other in
    let split : take n text ≡ take m text ++ take more (drop m text) = sym (ap (λ k. take k text) sum) ∙ take-add m more text in
    let got = no_longer (take m text) (take more (drop m text)) race other is (subst P split also) in
    let size : length (drop m text) ≡ length text - m = length-drop m text in
    let count : length (take more (drop m text)) ≡ more = length-take-le more (drop m text) (omega arith) in
    let nothing : length (take more (drop m text)) ≡ 0 = ap length got.1 in
    record { value = got.0; place = omega arith }

turned : (race other : Race) (m n : ℕ) → AreSame other race n m → AreSame race other m n
turned race other m n same = record { value = sym same.value; place = sym same.place }

same_at : (text : List ℕ) (m n : ℕ) (race other : Race) → m ≤ length text → n ≤ length text → IsRaceText (take m text) race → IsRaceText (take n text) other → AreSame race other m n
same_at text m n race other here there is also =
    ⊎_elim (λ (le : m ≤ n). same_from text m n race other le there is also) (λ (le : n ≤ m). turned race other m n (same_from text n m other race le here also is)) (either m n)
  where
    either : (a b : ℕ) → (a ≤ b) ⊎ (b ≤ a)
    either a b = by_cases (cases_lt a b)
      where
        by_cases : (a < b) ⊎ (b ≤ a) → (a ≤ b) ⊎ (b ≤ a)
        by_cases (inl less) = inl (omega arith)
        by_cases (inr le) = inr le

-- a race's text has a byte
some_text : (text : List ℕ) (m : ℕ) (race : Race) → IsRaceText (take m text) race → 0 < m
some_text text zero race is = absurd (not_empty race is)
some_text text (suc m) race is = omega arith

same_pair : (r s : Race) (m n : ℕ) → r ≡ s → m ≡ n → ◌≡◌ {A = Option (Race × ℕ)} (Some (r, m)) (Some (s, n))
same_pair r s m n e f = ap (λ x. Some (x, m)) e ∙ ap (λ k. Some (s, k)) f

-- a race that is found is the one that stands there
pub found_is : (text : List ℕ) (from end to : ℕ) (race other : Race) → end ≤ length text → IsRaceText (slice_range text from end) race → from < to → to ≤ length text → IsRaceText (slice_range text from to) other → ◌≡◌ {A = Option (Race × ℕ)} (Some (other, to)) (Some (race, end))
found_is text from end to race other within is less also_within also =
    let size : length (drop from text) ≡ length text - from = length-drop from text in
    let some : 0 < end - from = some_text (drop from text) (end - from) race is in
    let same : AreSame other race (to - from) (end - from) = same_at (drop from text) (to - from) (end - from) other race (omega arith) (omega arith) also is in
    let place = same.place in
    let ends : to ≡ end = omega arith in
    same_pair other race to end same.value ends

-- where a race's text stands, the only fault is want of memory
pub only_memory : (text : List ℕ) (from end line : ℕ) (kind : TextKind) (race : Race) → IsRaceText (slice_range text from end) race → TellsFault line kind (fault_of (drop from text)) → kind ≡ kinds.Memory
only_memory text from end line kind race is tells =
    let P : List ℕ → Type 0 = λ t. fault_of t ≡ None in
    by_fault (fault_of (drop from text)) (subst P (take-append-drop (end - from) (drop from text)) (nothing_wrong (take (end - from) (drop from text)) (drop (end - from) (drop from text)) race is)) tells
  where
    by_fault : (fault : Option (ℕ × TextKind)) → fault ≡ None → TellsFault line kind fault → kind ≡ kinds.Memory
    by_fault fault none (inl memory) = memory.0
    by_fault fault none (inr same) = cc

-- where a race's text stands there is something to read
pub not_at_end : (text : List ℕ) (from end : ℕ) (race : Race) → end ≤ length text → IsRaceText (slice_range text from end) race → from ≡ length text → ⊥
not_at_end text from end race within is last =
    let some : 0 < end - from = some_text (drop from text) (end - from) race is in
    absurd (omega arith)
