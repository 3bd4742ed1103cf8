-- The rows of a table with a last one.
use Rattle.std.proofs.Common.{◌≡◌, ℕ, zero, suc, ◌+◌, ◌-◌, ◌<◌, ◌≤◌, ◌||◌, ◌==◌, Bool, true, false, ltb, List, [], ◌∷◌, ◌++◌, length, take, drop, Some, refl, ◌∙◌, ap, arith}
use Rattle.std.specs.Prelude.{not, option_map}
use Rattle.std.proofs.lemmas.Bool.{lt-ltb}
use Rattle.std.proofs.Math.ListN.{replicate}
use Rattle.std.proofs.Math.Seq.{take-append-add}
use Rattle.std.proofs.lemmas.List.{length-append, drop-replicate}
use Rattle.he_select.specs.declared.limits.TheConstants.{ROWS}
use Rattle.he_select.specs.declared.policy.PolicyFault.TheVariants as faults
use Rattle.he_select.specs.declared.policy.Row.{Row}
use Rattle.he_select.specs.Refusals.{first_repeat, cause_if, first_cause}
use Rattle.he_select.specs.TableFaults.{has_row, shared_from, table_fault}
use Rattle.he_select.specs.Tables.{same_row, any_address, any_v4_address}

either : (a b : Bool) → b ≡ true → (a || b) ≡ true
either true b h = refl
either false b h = h

pub too_many_rows : (rows : List Row) (last : Row) → ROWS ≤ length rows → table_fault (rows ++ last ∷ []) ≡ Some faults.Size
unfolding table_fault
too_many_rows rows last many =
    let all : List Row = rows ++ last ∷ [] in
    let size : length all ≡ length rows + 1 = length-append rows (last ∷ []) in
    ap (λ b. first_cause (
    cause_if b faults.Size
    ∷ option_map faults.Repeated (first_repeat same_row all)
    ∷ cause_if (not (has_row all any_address)) faults.NoDefault
    ∷ cause_if (not (has_row all any_v4_address)) faults.NoMapped
    ∷ option_map (λ pair. faults.SharedPrecedence pair.0 pair.1) (shared_from 0 all)
    ∷ [])) (either (length all == 0) (ltb ROWS (length all)) (lt-ltb ROWS (length all) (omega arith)))

first_of_many : (count : ℕ) (row : Row) → 1 ≤ count → take 1 (replicate count row) ≡ row ∷ []
first_of_many zero row some = absurd (omega arith)
first_of_many (suc count) row some = refl

-- rows that are put in front of as many copies of the last one as there may be rows
pub put_rows : (rows put : List Row) (last : Row) → put ≡ rows → length rows < 64 → take (length rows + 1) (put ++ drop (length rows) (replicate 64 last)) ≡ rows ++ last ∷ []
put_rows rows put last same few =
    ap (λ front. take (length rows + 1) (front ++ drop (length rows) (replicate 64 last))) same
    ∙ take-append-add rows (drop (length rows) (replicate 64 last)) 1
    ∙ ap (λ more. rows ++ take 1 more) (drop-replicate (length rows) 64 last)
    ∙ ap (λ more. rows ++ more) (first_of_many (64 - length rows) last (omega arith))
