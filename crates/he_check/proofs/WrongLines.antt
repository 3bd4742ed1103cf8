-- Lines that end in no line end: what is wrong with them is no word.
use Rattle.std.proofs.Common.{ℕ, ◌≡◌, Bool, true, false, List, [], ◌∷◌, length, Option, Some, refl, subst}
use Rattle.std.specs.Prelude.{nat_lt}
use Rattle.he_words.specs.Ranges.{most_line_bytes}
use Rattle.he_words.specs.declared.fault.TextKind.{TextKind}
use Rattle.he_words.specs.declared.fault.TextKind.TheVariants as kinds
use Rattle.he_reading.specs.Faults.{first_fault, test, unfinished}
use Rattle.he_record.specs.Faults.{line_fault}
use Rattle.he_record.specs.Said.{Said}
use Rattle.he_faults.specs.Clauses.{is_of_words}

-- the line in which a text ends is too long, or not finished
pub ends_wrong : (long : Bool) (others : List (Option TextKind)) (kind : TextKind) → first_fault (test long kinds.TooMany ∷ unfinished [] ∷ others) ≡ Some kind → is_of_words kind ≡ false
ends_wrong true others kind is = let same : kinds.TooMany ≡ kind = cc in subst (λ (k : TextKind). is_of_words k ≡ false) same refl
ends_wrong false others kind is = let same : kinds.Unfinished ≡ kind = cc in subst (λ (k : TextKind). is_of_words k ≡ false) same refl

-- the fault of a record line
abbrev pub record_fault : List Said → List ℕ → List (List ℕ) → Option TextKind
record_fault said line after = line_fault said line after

pub record_wrong : (said : List Said) (line : List ℕ) (kind : TextKind) → line_fault said line [] ≡ Some kind → is_of_words kind ≡ false
unfolding line_fault
record_wrong said line kind is = ends_wrong (nat_lt most_line_bytes (length line)) _ kind is
