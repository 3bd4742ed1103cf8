-- A text begins with a race exactly where nothing is wrong with it.
use Rattle.std.proofs.Common.{◌≡◌, ℕ, ◌-◌, ◌<◌, List, [], ◌∷◌, length, take, drop, Some, None, Result, Ok, Err, refl, sym, ◌∙◌, ap, arith}
use Rattle.std.specs.List.{AllByRecursion, join_with_byte}
use Rattle.std.proofs.lemmas.List.{take-append-drop}
use Rattle.he_timeline.specs.Race.{Race}
use Rattle.he_reading.specs.FaultSearch.{fault_of}
use Rattle.he_reading.specs.Parts.{lines_of}
use Rattle.he_reading.specs.Reading.{read_lines}
use Rattle.he_reading.specs.Text.{BeginsWithRace}
use Rattle.he_reading.proofs.Agreement.{fault_told, fault_agrees}
use Rattle.he_reading.proofs.CompleteTexts.{nothing_wrong}
use Rattle.he_reading.proofs.PartLaws.{Lacks, parts_lack, joined_parts}
use Rattle.he_reading.proofs.RaceTexts.{begins_with_race}
use Rattle.he_reading.proofs.ReadRaces.{lines_read}

-- lines are those of a text
text_of : (lines : List (List ℕ)) → 0 < length lines → AllByRecursion (Lacks 10) lines → lines_of (join_with_byte 10 lines) ≡ lines
text_of [] some lack = absurd (omega arith)
text_of (line ∷ lines) some lack = joined_parts 10 line lines lack

pub right_begins : (text : List ℕ) → fault_of text ≡ None → BeginsWithRace text
right_begins text right = by_reading (read_lines (lines_of text)) refl (fault_agrees (lines_of text) ∙ right)
  where
    by_reading : (read : Result (Race × List (List ℕ)) _) → read_lines (lines_of text) ≡ read → fault_told (read_lines (lines_of text)) ≡ None → BeginsWithRace text
    by_reading (Err fault) e none = let wrong : Some fault ≡ None = ap fault_told (sym e) ∙ none in cc
    by_reading (Ok x) e none =
        let is = lines_read (lines_of text) x e in
        let rest : List ℕ = join_with_byte 10 x.1 in
        let same : lines_of rest ≡ x.1 = text_of x.1 is.some (is.lack (parts_lack 10 text)) in
        let begins = begins_with_race text rest x.0 (e ∙ ap (λ ls. Ok (x.0, ls)) (sym same)) is.fits in
        let size : ℕ = length text - length rest in
        (take size text, drop size text, x.0, sym (take-append-drop size text), begins.is)

pub begins_right : (text : List ℕ) → BeginsWithRace text → fault_of text ≡ None
begins_right text begins = ap fault_of begins.3 ∙ nothing_wrong begins.0 begins.1 begins.2 begins.4
