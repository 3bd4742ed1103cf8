-- What the readers tell of a text, in the words of its definitions.
use Rattle.std.proofs.Common.{◌≡◌, ℕ, ◌-◌, ◌<◌, ◌≤◌, List, length, take, drop, Option, None, Result, Ok, Err, sym, ◌∙◌, ap, subst, inl, inr, arith}
use Rattle.std.specs.Prelude.{slice_range, MatchOption, IfErr}
use Rattle.std.proofs.lemmas.List.{length-drop}
use Rattle.he_timeline.specs.Race.{Race}
use Rattle.he_timeline.specs.Timeline.{IsRace}
use Rattle.he_words.specs.declared.fault.TextKind.{TextKind}
use Rattle.he_reading.specs.FaultSearch.{fault_in}
use Rattle.he_reading.specs.Parts.{lines_of}
use Rattle.he_reading.specs.Reading.{FailsAt, read_lines}
use Rattle.he_reading.specs.Text.{IsRaceText, TellsFault}
use Rattle.he_reading.proofs.Agreement.{fault_told, fault_agrees}
use Rattle.he_reading.proofs.RaceTexts.{begins_with_race}

told_after : {A : Type 0} (n : ℕ) (read : Result A (ℕ × TextKind)) → IfErr read (λ fault. n ≤ fault.0) → MatchOption (fault_told read) (Unit {0}) (λ fault. n ≤ fault.0)
told_after n (Ok x) h = tt
told_after n (Err fault) h = h

pub tells_fault : (n : ℕ) (kind : TextKind) (lines : List (List ℕ)) → FailsAt n kind (read_lines lines) → TellsFault n kind (fault_in lines)
tells_fault n kind lines fails = elim fails [
  | inl memory ↦ let P : Option (ℕ × TextKind) → Type 0 = λ f. MatchOption f (Unit {0}) (λ fault. n ≤ fault.0) in
      inl (memory.0, subst P (fault_agrees lines) (told_after n (read_lines lines) memory.1))
  | inr same ↦ inr (sym (fault_agrees lines) ∙ ap fault_told same)
]

pub no_fault : (lines : List (List ℕ)) (x : Race × List (List ℕ)) → read_lines lines ≡ Ok x → fault_in lines ≡ None
no_fault lines x h = sym (fault_agrees lines) ∙ ap fault_told h

pub race_at : (text rest : List ℕ) (race : Race) (from left : ℕ) → from ≤ length text → length rest ≡ left → read_lines (lines_of (drop from text)) ≡ Ok (race, lines_of rest) → IsRace race
    → (from < length text - left) × (length text - left ≤ length text) × IsRaceText (slice_range text from (length text - left)) race
race_at text rest race from left within count read fits =
    let begins = begins_with_race (drop from text) rest race read fits in
    let size : length (drop from text) ≡ length text - from = length-drop from text in
    let shorter : length rest < length (drop from text) = begins.shorter in
    let n : length (drop from text) - length rest ≡ (length text - left) - from = omega arith in
    let P : ℕ → Type 0 = λ k. IsRaceText (take k (drop from text)) race in
    (omega arith, omega arith, subst P n begins.is)
