-- The record line that a text consists of.
use Rattle.std.proofs.Common.{ℕ, ◌≡◌, ◌≤◌, ◌<◌, ◌-◌, ◌++◌, ◌∙◌, List, [], ◌∷◌, false, inl, inr, Result, Ok, Err, length, take, drop, refl, sym, ap, subst, arith}
use Rattle.std.specs.Prelude.{◌≢◌}
use Rattle.std.specs.List.{join_with_byte}
use Rattle.std.proofs.lemmas.List.{append-nil, length-drop, take_all}
use Rattle.std.proofs.lemmas.List.Splits.{join_with_byte-slice_split}
use Rattle.he_words.specs.declared.fault.TextKind.{TextKind}
use Rattle.he_words.specs.declared.fault.TextKind.TheVariants as kinds
use Rattle.he_reading.specs.Parts.{lines_of}
use Rattle.he_record.specs.FrontSearch.{FailsFront, Front, ReadsFront, front_of}
use Rattle.he_record.specs.Said.{Said}
use Rattle.he_record.specs.Text.{IsRecordText}
use Rattle.he_record.specs.Written.{record_text}
use Rattle.he_record.proofs.FrontLaws.{stops}
use Rattle.he_record.proofs.GoesOn.{no_start}
use Rattle.he_record.proofs.Stands.{record_passes}
use Rattle.he_c.specs.Records.{IsNoLine, IsWritten}

-- a record line is read as a record of one line, with nothing after it
read_alone : (text : List ℕ) (said : Said) → IsRecordText text (said ∷ []) → front_of text ≡ Ok (record { said = said ∷ []; left = [] ∷ [] })
read_alone text said is =
    ap front_of (sym (append-nil text)) ∙ record_passes text [] (said ∷ []) is ∙ stops 2 (said ∷ []) ([] ∷ []) (no_start [] refl)

-- what is read of a record line
fronts_same : (text : List ℕ) (said : Said) (front : Front) → IsRecordText text (said ∷ []) → front_of text ≡ Ok front → front ≡ record { said = said ∷ []; left = [] ∷ [] }
fronts_same text said front is found =
    let same : Ok front ≡ Ok (record { said = said ∷ []; left = [] ∷ [] }) = sym found ∙ read_alone text said is in
    cc

pub no_line_before : (text : List ℕ) (told : List Said) (end : ℕ) → ReadsFront text told end → end < length text → IsNoLine text
no_line_before text told end found short said is =
    let rest : List ℕ = drop end text in
    let same : lines_of rest ≡ [] ∷ [] = ap (λ (front : Front). front.left) (fronts_same text said (record { said = told; left = lines_of rest }) is found) in
    let none : rest ≡ [] = sym (join_with_byte-slice_split 10 rest) ∙ ap (join_with_byte 10) same in
    let nothing : length rest ≡ 0 = ap length none in
    let left : length rest ≡ length text - end = length-drop end text in
    omega (arith, nothing, left, short)

pub no_line_of_more : (text : List ℕ) (told : List Said) (end : ℕ) → ReadsFront text told end → length told ≢ 1 → IsNoLine text
no_line_of_more text told end found several said is =
    several (ap (λ (front : Front). length front.said) (fronts_same text said (record { said = told; left = lines_of (drop end text) }) is found))

-- a reading that failed
abbrev HasFailed : Result Front (ℕ × TextKind) → Type 0
HasFailed (Ok front) = ⊥
HasFailed (Err fault) = Unit {0}

pub no_line_of_fault : (text : List ℕ) (line : ℕ) (found kind : TextKind) → FailsFront text line found → kind ≡ found → kind ≢ kinds.Memory → IsNoLine text
no_line_of_fault text line found kind (inl (memory, _)) same enough said is = enough (same ∙ memory)
no_line_of_fault text line found kind (inr fails) same enough said is =
    subst HasFailed (sym fails ∙ read_alone text said is) tt

pub line_written : (text line : List ℕ) (told : List Said) (end : ℕ) → IsRecordText (take end text) told → length text ≤ end → length told ≡ 1 → line ≡ record_text told
    → IsWritten text line
line_written text line [] end is whole one written = absurd (omega (arith, one))
line_written text line (said ∷ []) end is whole one written =
    (said, subst (λ (t : List ℕ). IsRecordText t (said ∷ [])) (take_all end text whole) is, written ∙ append-nil _)
line_written text line (said ∷ other ∷ more) end is whole one written = absurd (omega (arith, one))
