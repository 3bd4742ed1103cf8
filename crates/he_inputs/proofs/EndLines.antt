-- The last whole line of a text, and what stands open after it: where the fault of a group may still be mended.
use Rattle.std.proofs.Common.{◌≡◌, ◌↔◌, ℕ, ◌+◌, ◌-◌, ◌≤◌, Bool, List, [], ◌∷◌, ◌++◌, length, take, Some, None, IsTrue, refl, sym, ◌∙◌, ap, subst, inl, inr, arith, append_assoc}
use Rattle.std.specs.List.{join_with_byte}
use Rattle.std.proofs.lemmas.List.{length-append}
use Rattle.std.proofs.lemmas.List.Splits.{join_with_byte-slice_split}
use Rattle.std.proofs.Math.Seq.{take-append_seam}
use Rattle.he_words.specs.declared.fault.TextKind.{TextKind}
use Rattle.he_words.specs.declared.words.Word.{Word}
use Rattle.he_inputs.specs.Beginnings.{EndsBehind, EndsIn, IsGroupFaultAtEnd, MayBecome, awaited}
use Rattle.he_reading.specs.Parts.{lines_of}
use Rattle.he_inputs.proofs.Beginnings.{last_whole, same_last}
use Rattle.he_inputs.proofs.OpenLines.{both_last, pieces_behind}

joined_last : (mark : ℕ) (before : List (List ℕ)) (line rest : List ℕ) → join_with_byte mark (before ++ line ∷ rest ∷ []) ≡ join_with_byte mark (before ++ line ∷ []) ++ mark ∷ rest
joined_last mark [] line rest = refl
joined_last mark (part ∷ []) line rest = sym (append_assoc part (mark ∷ line) (mark ∷ rest))
joined_last mark (part ∷ next ∷ before) line rest =
    ap (λ (t : List ℕ). part ++ mark ∷ t) (joined_last mark (next ∷ before) line rest)
    ∙ sym (append_assoc part (mark ∷ join_with_byte mark (next ∷ before ++ line ∷ [])) (mark ∷ rest))

-- the text up to the last line end, and what stands after it
cut_text : (text : List ℕ) (before : List (List ℕ)) (line rest : List ℕ) → lines_of text ≡ before ++ line ∷ rest ∷ [] → text ≡ join_with_byte 10 (before ++ line ∷ []) ++ 10 ∷ rest
cut_text text before line rest parts = sym (join_with_byte-slice_split 10 text) ∙ ap (join_with_byte 10) parts ∙ joined_last 10 before line rest

abbrev IsCut : List ℕ → List ℕ → Type 0
IsCut text rest = (front : List ℕ) × (text ≡ front ++ 10 ∷ rest)

ends_cut : (text rest : List ℕ) (n : ℕ) → EndsIn text n rest → (length rest ≡ length text → ⊥) → IsCut text rest
ends_cut text rest n (lines, parts, count) shorter = elim (last_whole lines) [
  | inl none ↦
      let whole : lines_of text ≡ rest ∷ [] = parts ∙ ap (λ (w : List (List ℕ)). w ++ rest ∷ []) none in
      absurd (shorter (ap length (sym (sym (join_with_byte-slice_split 10 text) ∙ ap (join_with_byte 10) whole))))
  | inr last ↦ (
    join_with_byte 10 (last.0 ++ last.1 ∷ []),
    cut_text text last.0 last.1 rest (parts ∙ ap (λ (w : List (List ℕ)). w ++ rest ∷ []) last.2 ∙ append_assoc last.0 (last.1 ∷ []) (rest ∷ [])),
  )
]

pub open_shorter : (text rest : List ℕ) (n : ℕ) → EndsIn text n rest → (length rest ≡ length text → ⊥) → 1 + length rest ≤ length text
open_shorter text rest n ends shorter =
    let cut : IsCut text rest = ends_cut text rest n ends shorter in
    let size : length text ≡ length cut.0 + length (10 ∷ rest) = ap length cut.1 ∙ length-append cut.0 (10 ∷ rest) in
    omega arith

-- the line before what is open
pub line_before : (text rest line : List ℕ) (n j : ℕ) → EndsIn text n rest → lines_of rest ≡ rest ∷ [] → (length rest ≡ length text → ⊥) → EndsIn (take (length text - length rest - 1) text) j line → EndsBehind text n line rest
line_before text rest line n j ends alone shorter front =
    let cut : IsCut text rest = ends_cut text rest n ends shorter in
    let size : length text ≡ length cut.0 + length (10 ∷ rest) = ap length cut.1 ∙ length-append cut.0 (10 ∷ rest) in
    let room : length text - length rest - 1 ≡ length cut.0 = omega arith in
    let same : take (length text - length rest - 1) text ≡ cut.0 = ap (λ (k : ℕ). take k text) room ∙ ap (take (length cut.0)) cut.1 ∙ take-append_seam cut.0 (10 ∷ rest) in
    let whole : lines_of cut.0 ≡ front.0 ++ line ∷ [] = ap lines_of (sym same) ∙ front.1 in
    let parts : lines_of text ≡ front.0 ++ line ∷ rest ∷ [] =
    ap lines_of cut.1 ∙ pieces_behind 10 10 cut.0 rest refl alone ∙ ap (λ (w : List (List ℕ)). w ++ rest ∷ []) whole ∙ append_assoc front.0 (line ∷ []) (rest ∷ []) in
    let ours : length (lines_of text) ≡ length ends.0 + 1 = ap length ends.1 ∙ length-append ends.0 (rest ∷ []) in
    let theirs : length (lines_of text) ≡ length front.0 + 2 = ap length parts ∙ length-append front.0 (line ∷ rest ∷ []) in
    let count : length ends.0 ≡ n = ends.2 in
    (front.0, parts, omega arith)

-- the fault of a group on the last whole line, where its word is awaited
pub mended_at_end : (text line rest : List ℕ) (n : ℕ) (kind : TextKind) (word : Word) (b : Bool) → EndsBehind text n line rest → Some word ≡ awaited line kind → IsTrue b ↔ MayBecome word rest → IsTrue b ↔ IsGroupFaultAtEnd text n kind
mended_at_end text line rest n kind word b ends waits may = (λ t. record { line = line; rest = rest; word = word; ends = ends; waits = sym waits; may = may.0 t }, by_fault)
  where
    by_fault : IsGroupFaultAtEnd text n kind → IsTrue b
    by_fault fault =
        let same = same_last text ends.0 fault.ends.0 line fault.line rest fault.rest ends.1 fault.ends.1 in
        let words : Some word ≡ Some fault.word = waits ∙ ap (λ (l : List ℕ). awaited l kind) same.1 ∙ fault.waits in
        let one : word ≡ fault.word = cc (words) in
        let W : Word → Type 0 = λ w. MayBecome w rest in
        may.1 (subst W (sym one) (subst (MayBecome fault.word) (sym same.2) fault.may))

-- where none is awaited, there is none
pub none_awaited : (text line rest : List ℕ) (n : ℕ) (kind : TextKind) → EndsBehind text n line rest → None ≡ awaited line kind → IsGroupFaultAtEnd text n kind → ⊥
none_awaited text line rest n kind ends none fault =
    let same = same_last text ends.0 fault.ends.0 line fault.line rest fault.rest ends.1 fault.ends.1 in
    let wrong : None ≡ Some fault.word = none ∙ ap (λ (l : List ℕ). awaited l kind) same.1 ∙ fault.waits in
    cc

-- the fault is on the last whole line, and after it stands what is open
pub fault_at_end : (text rest : List ℕ) (n m : ℕ) (kind : TextKind) → EndsIn text m rest → IsGroupFaultAtEnd text n kind → (m ≡ n) × (length rest ≡ length text → ⊥)
fault_at_end text rest n m kind ends fault =
    let before : List (List ℕ) = fault.ends.0 in
    let count : length before + 1 ≡ n = fault.ends.2 in
    let ours : length (lines_of text) ≡ length ends.0 + 1 = ap length ends.1 ∙ length-append ends.0 (rest ∷ []) in
    let theirs : length (lines_of text) ≡ length before + 2 = ap length fault.ends.1 ∙ length-append before (fault.line ∷ fault.rest ∷ []) in
    let our_count : length ends.0 ≡ m = ends.2 in
    let last = both_last ends.0 (before ++ fault.line ∷ []) rest fault.rest (sym ends.1 ∙ fault.ends.1 ∙ sym (append_assoc before (fault.line ∷ []) (fault.rest ∷ []))) in
    let cut : text ≡ join_with_byte 10 (before ++ fault.line ∷ []) ++ 10 ∷ fault.rest = cut_text text before fault.line fault.rest fault.ends.1 in
    let size : length text ≡ length (join_with_byte 10 (before ++ fault.line ∷ [])) + length (10 ∷ fault.rest) = ap length cut ∙ length-append (join_with_byte 10 (before ++ fault.line ∷ [])) (10 ∷ fault.rest) in
    let open_size : length rest ≡ length fault.rest = ap length last.0 in
    (omega arith, λ whole. absurd (omega (arith, whole)))
