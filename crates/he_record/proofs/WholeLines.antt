-- The line with which a text begins.
use Rattle.std.proofs.Common.{◌≡◌, ℕ, ◌+◌, ◌<◌, ◌≤◌, List, [], ◌∷◌, length, take, drop, Option, Some, None, sym, ◌∙◌, ap, subst, arith}
use Rattle.std.proofs.lemmas.Bool.{lt-ltb}
use Rattle.std.proofs.lemmas.List.{length-take-le, take_all}
use Rattle.memchr.specs.Find.{IsFirstByte, is_byte}
use Rattle.he_words.specs.Ranges.{most_line_bytes}
use Rattle.he_words.specs.declared.fault.TextKind.{TextKind}
use Rattle.he_words.specs.declared.fault.TextKind.TheVariants as kinds
use Rattle.he_reading.specs.Faults.{first_fault, test, too_long, unfinished}
use Rattle.he_reading.specs.Parts.{lines_of}
use Rattle.he_reading.proofs.PartLaws.{first_byte, near_found, near_missed, parts_found, parts_whole}
use Rattle.he_record.proofs.FrontLaws.{too_long_none}

-- a line whose end is found
pub record IsFound (text : List ℕ) (at : ℕ) : Type 0 where
  pub shorter : length (take at text) < length text
  pub parts : lines_of text ≡ take at text ∷ lines_of (drop (length (take at text) + 1) text)
  pub short : too_long (take at text) ≡ None

pub found : (text : List ℕ) (near at : ℕ) (r : Option ℕ) → near ≤ length text → near ≤ most_line_bytes + 1 → IsFirstByte (is_byte 10) (take near text) r → r ≡ Some at → IsFound text at
found text near at r within few first is =
    let place = near_found 10 near text at (sym (first_byte 10 (take near text) r first) ∙ is) in
    let size : length (take at text) ≡ at = length-take-le at text (omega (arith, place.1)) in
    record {
      shorter = omega (arith, place.1);
      parts = parts_found 10 text at place.0 ∙ ap (λ (n : ℕ). take at text ∷ lines_of (drop (n + 1) text)) (sym size);
      short = too_long_none (take at text) (omega (arith, place.1));
    }

-- and one whose end is not
abbrev pub IsNoLine : List ℕ → TextKind → Type 0
IsNoLine text kind =
    (line : List ℕ) × (after : List (List ℕ)) × (lines_of text ≡ line ∷ after) × (first_fault (too_long line ∷ unfinished after ∷ []) ≡ Some kind)

pub missed : (text : List ℕ) (near : ℕ) (r : Option ℕ) → near ≤ length text → most_line_bytes < near → IsFirstByte (is_byte 10) (take near text) r → r ≡ None → IsNoLine text kinds.TooMany
missed text near r within far first is =
    let part = near_missed 10 near text within (sym (first_byte 10 (take near text) r first) ∙ is) in
    (part.0, part.1, part.2, ap (λ b. first_fault (test b kinds.TooMany ∷ unfinished part.1 ∷ [])) (lt-ltb most_line_bytes (length part.0) (omega (arith, part.3))))

pub open_end : (text : List ℕ) (near : ℕ) (r : Option ℕ) → length text ≤ near → length text ≤ most_line_bytes → IsFirstByte (is_byte 10) (take near text) r → r ≡ None → IsNoLine text kinds.Unfinished
open_end text near r all short first is =
    let P : List ℕ → Type 0 = λ t. IsFirstByte (is_byte 10) t r in
    let whole = subst P (take_all near text all) first in
    (text, [], parts_whole 10 text (sym (first_byte 10 text r whole) ∙ is), ap (λ f. first_fault (f ∷ Some kinds.Unfinished ∷ [])) (too_long_none text short))
