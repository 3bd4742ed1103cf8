-- The faults of what is left of an input, race by race.
use Rattle.std.proofs.Common.{ℕ, ◌≡◌, ◌+◌, ◌-◌, ◌≤◌, Bool, true, false, List, [], ◌∷◌, ◌++◌, length, take, drop, Some, None, refl, sym, subst, ◌∙◌, ap, append_assoc, length-append, arith, inl, inr}
use Rattle.he_timeline.specs.Race.{Race}
use Rattle.he_reading.specs.Parts.{lines_of}
use Rattle.he_reading.proofs.PartLaws.{parts_counted}
use Rattle.he_inputs.specs.Recorded.{IsRecordedText}
use Rattle.he_inputs.specs.Inputs.{IsFaultBehind, fault_behind, line_count}
use Rattle.he_inputs.specs.declared.input_fault.InputFault.{InputFault}
use Rattle.he_inputs.specs.declared.input_fault.InputFault.TheVariants.{Text, Read}
use Rattle.he_inputs.proofs.RaceReadingLaws.{AreTexts-snoc, line_count-append}
use Rattle.he_words.specs.Ranges.{most_races}
use Rattle.he_words.specs.declared.fault.TextFault.{TextFault}
use Rattle.he_words.specs.declared.fault.TextKind.{TextKind}
use Rattle.he_words.specs.declared.fault.TextKind.TheVariants as kinds
use Rattle.he_check.specs.AllFaults.{AreFaultsBehind, IsNextPart, SeeksAfter, behind}
use Rattle.he_check.specs.Steps.{AreFaultsAfter, AreFaultsPast}
use Rattle.he_check.proofs.Hints.{FirstFaults, fault_there}

-- a fault of a part, its line counted over the whole input
abbrev fault_over : ℕ → InputFault → InputFault
fault_over lines Read = Read
fault_over lines (Text fault) = Text (behind lines fault)

-- the line of a fault stands after so many lines
abbrev StandsBehind : ℕ → InputFault → Type 0
StandsBehind lines Read = Unit {0}
StandsBehind lines (Text fault) = lines + 1 ≤ fault.line

-- a fault after lines of a part and those before it
abbrev Over : Bool → ℕ → ℕ → ℕ × TextKind → Type 0
Over is_broken lines more found =
    (fault_behind is_broken (lines + more) found ≡ fault_over lines (fault_behind is_broken more found))
    × StandsBehind (lines + more) (fault_behind is_broken (lines + more) found)

over : (is_broken : Bool) (lines more line : ℕ) (kind : TextKind) → 1 ≤ line → Over is_broken lines more (line, kind)
over is_broken lines more line kind some = by_kind is_broken kind
  where
    same : (kind : TextKind) → Text (record { line = lines + more + line; kind = kind }) ≡ Text (record { line = lines + (more + line); kind = kind })
    same kind = ap (λ (n : ℕ). Text (record { line = n; kind = kind })) (omega arith)

    by_kind : (is_broken : Bool) (kind : TextKind) → Over is_broken lines more (line, kind)
    by_kind false kind = (same kind, omega arith)
    by_kind true kinds.Header = (same kinds.Header, omega arith)
    by_kind true kinds.Word = (same kinds.Word, omega arith)
    by_kind true kinds.Number = (same kinds.Number, omega arith)
    by_kind true kinds.Address = (same kinds.Address, omega arith)
    by_kind true kinds.Prefix = (same kinds.Prefix, omega arith)
    by_kind true kinds.Repeated = (same kinds.Repeated, omega arith)
    by_kind true kinds.Range = (same kinds.Range, omega arith)
    by_kind true kinds.TooMany = (same kinds.TooMany, omega arith)
    by_kind true kinds.Unfinished = (refl, tt)
    by_kind true (kinds.Policy fault) = (same (kinds.Policy fault), omega arith)
    by_kind true kinds.Memory = (same kinds.Memory, omega arith)

-- a fault after so many lines of an input, as that of the part
record IsOver (is_broken : Bool) (count lines more : ℕ) (rest : List ℕ) (fault : InputFault) : Type 0 where
  found : InputFault
  is : IsFaultBehind is_broken count more rest (Some found)
  told : fault ≡ fault_over lines found
  stands : StandsBehind (lines + more) fault

is_over : FirstFaults → (is_broken : Bool) (count lines more : ℕ) (rest : List ℕ) (fault : InputFault)
    → IsFaultBehind is_broken count (lines + more) rest (Some fault) → IsOver is_broken count lines more rest fault
is_over first true count lines more [] Read is = record { found = Read; is = refl; told = refl; stands = tt }
is_over first true count lines more [] (Text fault) is = cc
is_over first false count lines more [] fault is = cc
is_over first is_broken count lines more (byte ∷ rest) fault (inl (most, is)) =
    let found : TextFault = record { line = more + 1; kind = kinds.TooMany } in
    let here : fault ≡ Text (record { line = lines + more + 1; kind = kinds.TooMany }) = cc in
    let sum : lines + more + 1 ≡ lines + (more + 1) = omega arith in
    record {
      found = Text found;
      is = inl (most, refl);
      told = here ∙ ap (λ (n : ℕ). Text (record { line = n; kind = kinds.TooMany })) sum;
      stands = subst (StandsBehind (lines + more)) (sym here) (let le : lines + more + 1 ≤ lines + more + 1 = omega arith in le);
    }
is_over first is_broken count lines more (byte ∷ rest) fault (inr (few, (line, kind), at, told)) =
    let all = over is_broken lines more line kind (fault_there first (byte ∷ rest) line kind at).0 in
    let here : fault ≡ fault_behind is_broken (lines + more) (line, kind) = cc in
    record {
      found = fault_behind is_broken more (line, kind);
      is = inr (few, (line, kind), at, refl);
      told = here ∙ all.0;
      stands = subst (StandsBehind (lines + more)) (sym here) all.1;
    }

-- the line of a fault stands after those before it
pub fault_stands : FirstFaults → (is_broken : Bool) (races lines : ℕ) (text : List ℕ) (fault : TextFault) → IsFaultBehind is_broken races lines text (Some (Text fault)) → lines + 1 ≤ fault.line
fault_stands first is_broken races lines text fault is =
    let none : lines ≡ 0 + lines = omega arith in
    let stands : 0 + lines + 1 ≤ fault.line = (is_over first is_broken races 0 lines text (Text fault) (subst (λ (n : ℕ). IsFaultBehind is_broken races n text (Some (Text fault))) none is)).stands in
    omega arith

-- and is one of what is left
line_of : InputFault → ℕ
line_of Read = 0
line_of (Text fault) = fault.line

text_line : (is_broken : Bool) (lines line : ℕ) (kind : TextKind) (fault : TextFault) → Text fault ≡ fault_behind is_broken lines (line, kind) → fault.line ≡ lines + line
unfolding line_of
text_line false lines line kind fault e = ap line_of e
text_line true lines line kinds.Header fault e = ap line_of e
text_line true lines line kinds.Word fault e = ap line_of e
text_line true lines line kinds.Number fault e = ap line_of e
text_line true lines line kinds.Address fault e = ap line_of e
text_line true lines line kinds.Prefix fault e = ap line_of e
text_line true lines line kinds.Repeated fault e = ap line_of e
text_line true lines line kinds.Range fault e = ap line_of e
text_line true lines line kinds.TooMany fault e = ap line_of e
text_line true lines line kinds.Unfinished fault e = cc
text_line true lines line (kinds.Policy table) fault e = ap line_of e
text_line true lines line kinds.Memory fault e = ap line_of e

pub line_left : FirstFaults → (is_broken : Bool) (races lines : ℕ) (text : List ℕ) (fault : TextFault) → IsFaultBehind is_broken races lines text (Some (Text fault)) → fault.line - lines ≤ length (lines_of text)
unfolding line_of
line_left first true races lines [] fault is = cc
line_left first false races lines [] fault is = cc
line_left first is_broken races lines (byte ∷ rest) fault (inl (most, is)) =
    let same : ◌≡◌ {A = InputFault} (Text fault) (Text (record { line = lines + 1; kind = kinds.TooMany })) = cc (is) in
    let line : fault.line ≡ lines + 1 = ap line_of same in
    let some : line_count (byte ∷ rest) + 1 ≡ length (lines_of (byte ∷ rest)) = parts_counted 10 (byte ∷ rest) in
    omega arith
line_left first is_broken races lines (byte ∷ rest) fault (inr (few, (line, kind), at, is)) =
    let same : Text fault ≡ fault_behind is_broken lines (line, kind) = cc (is) in
    let number = text_line is_broken lines line kind fault same in
    let there = (fault_there first (byte ∷ rest) line kind at).1 in
    omega arith

-- one race more is passed
pub past_race : (is_broken : Bool) (races lines : ℕ) (own : List ℕ) (race : Race) (rest : List ℕ) (faults : List TextFault) → IsRecordedText own race
    → AreFaultsPast is_broken (races + 1) (lines + line_count own) rest faults → AreFaultsPast is_broken races lines (own ++ rest) faults
past_race is_broken races lines own race rest faults read are passed front start whole count lined =
    let longer = length-append passed (race ∷ []) in
    let more = line_count-append front own in
    subst (λ (t : List ℕ). AreFaultsBehind is_broken start t faults) (append_assoc front own rest)
    (are (passed ++ race ∷ []) (front ++ own) start (AreTexts-snoc IsRecordedText passed front whole race own read) (omega arith) (omega arith))

-- the fault of a part, and those of the parts that follow
pub past_fault : FirstFaults → (is_broken : Bool) (races lines : ℕ) (text record_lines left : List ℕ) (fault : TextFault) (others : List TextFault) → races ≤ most_races
    → IsFaultBehind is_broken races lines text (Some (Text fault)) → SeeksAfter text (fault.line - lines) record_lines left
    → AreFaultsAfter is_broken (lines + line_count record_lines) left others → AreFaultsPast is_broken races lines text (fault ∷ others)
past_fault first is_broken races lines text record_lines left fault others few is seeks after passed front start whole count lined = by_found over.found over.is over.told
  where
    here : IsFaultBehind is_broken (length passed) (start + line_count front) text (Some (Text fault))
    here =
        let Count : ℕ → Type 0 = λ n. IsFaultBehind is_broken n lines text (Some (Text fault)) in
        subst (λ (n : ℕ). IsFaultBehind is_broken (length passed) n text (Some (Text fault))) lined (subst Count (sym count) is)

    over : IsOver is_broken (length passed) start (line_count front) text (Text fault)
    over = is_over first is_broken (length passed) start (line_count front) text (Text fault) here

    by_found : (found : InputFault) → IsFaultBehind is_broken (length passed) (line_count front) text (Some found) → Text fault ≡ fault_over start found → AreFaultsBehind is_broken start (front ++ text) (fault ∷ others)
    by_found Read found_is told = cc
    by_found (Text found) found_is told =
        let same : fault ≡ behind start found = cc in
        let line : fault.line ≡ start + found.line = ap (λ (f : TextFault). f.line) same in
        let own : fault.line - lines ≡ found.line - line_count front = omega arith in (
          passed,
          found,
          record { before = front; rest = text; parts = refl; whole = whole; few = omega arith; fault_is = found_is },
          same,
          record_lines,
          left,
          subst (λ (n : ℕ). SeeksAfter text n record_lines left) own seeks,
          subst (λ (n : ℕ). AreFaultsAfter is_broken (n + line_count record_lines) left others) lined after,
        )

-- what is left ends, and nothing is wrong with it
pub past_none : (races lines : ℕ) (text : List ℕ) → races ≤ most_races → text ≡ [] → AreFaultsPast false races lines text []
past_none races lines text few none passed front start whole count lined =
    let Rest : List ℕ → Type 0 = λ t. IsFaultBehind false (length passed) (line_count front) t None in
    (passed, record { before = front; rest = text; parts = refl; whole = whole; few = omega arith; fault_is = subst Rest (sym none) refl })

pub past_read : FirstFaults → (races lines : ℕ) (text : List ℕ) → races ≤ most_races → IsFaultBehind true races lines text (Some Read) → AreFaultsPast true races lines text []
past_read first races lines text few is passed front start whole count lined = by_found over.found over.is over.told
  where
    here : IsFaultBehind true (length passed) (start + line_count front) text (Some Read)
    here =
        let Count : ℕ → Type 0 = λ n. IsFaultBehind true n lines text (Some Read) in
        subst (λ (n : ℕ). IsFaultBehind true (length passed) n text (Some Read)) lined (subst Count (sym count) is)

    over : IsOver true (length passed) start (line_count front) text Read
    over = is_over first true (length passed) start (line_count front) text Read here

    by_found : (found : InputFault) → IsFaultBehind true (length passed) (line_count front) text (Some found) → Read ≡ fault_over start found → AreFaultsBehind true start (front ++ text) []
    by_found (Text found) found_is told = let wrong : Read ≡ Text (behind start found) = told in cc
    by_found Read found_is told = (passed, record { before = front; rest = text; parts = refl; whole = whole; few = omega arith; fault_is = found_is })

-- an input that did not break off has no such fault
pub no_read : (rest : List ℕ) (races lines : ℕ) → IsFaultBehind false races lines rest (Some Read) → ⊥
no_read [] races lines is = cc
no_read (byte ∷ rest) races lines (inl (most, is)) = cc
no_read (byte ∷ rest) races lines (inr (few, (line, kind), at, is)) = cc

-- from the next part on
pub after_found : (is_broken : Bool) (lines next : ℕ) (text : List ℕ) (at : ℕ) (faults : List TextFault) → IsNextPart text at → next ≡ lines + line_count (take at text)
    → AreFaultsPast is_broken 0 next (drop at text) faults → AreFaultsAfter is_broken lines text faults
after_found is_broken lines next text at faults is lined are =
    let none : line_count [] ≡ 0 = refl in
    inr (at, is, subst (λ (n : ℕ). AreFaultsBehind is_broken n (drop at text) faults) lined (are [] [] next refl refl (omega arith)))
