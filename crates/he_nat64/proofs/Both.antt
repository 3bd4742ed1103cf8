-- The parts of an embedded address, length by length.
use Rattle.std.proofs.Common.{◌≡◌, ℕ, ◌+◌, ◌%◌, ◌^◌, ◌<◌, ◌&&◌, Bool, true, refl, arith, eq-eqb}
use Rattle.he_nat64.specs.declared.length.Length.{Length}
use Rattle.he_nat64.specs.declared.length.Length.TheVariants.{Bits32, Bits40, Bits48, Bits56, Bits64, Bits96}
use Rattle.he_nat64.specs.Discovery.{is_embedded}
use Rattle.he_nat64.specs.Embedding.{free_of, placed}
use Rattle.he_nat64.specs.Laws.{HasBoth}

pub both : (length : Length) (bits v4 : ℕ) → bits % free_of length ≡ 0 → v4 < 2 ^ 32 → HasBoth length bits v4
both Bits32 bits v4 clear small =
    record { prefix = omega arith; host = omega arith; kept = eq-eqb _ _ (omega arith); rest = omega arith }
both Bits40 bits v4 clear small =
    record { prefix = omega arith; host = omega arith; kept = eq-eqb _ _ (omega arith); rest = omega arith }
both Bits48 bits v4 clear small =
    record { prefix = omega arith; host = omega arith; kept = eq-eqb _ _ (omega arith); rest = omega arith }
both Bits56 bits v4 clear small =
    record { prefix = omega arith; host = omega arith; kept = eq-eqb _ _ (omega arith); rest = omega arith }
both Bits64 bits v4 clear small =
    record { prefix = omega arith; host = omega arith; kept = eq-eqb _ _ (omega arith); rest = omega arith }
both Bits96 bits v4 clear small =
    record { prefix = omega arith; host = omega arith; kept = refl; rest = omega arith }

and_true : (x y : Bool) → x ≡ true → y ≡ true → (x && y) ≡ true
and_true x y p q = rw p (rw q refl)

pub both_is_embedded : (length : Length) (bits v4 : ℕ) → HasBoth length bits v4
    → is_embedded v4 (bits + placed length v4) length ≡ true
both_is_embedded length bits v4 h = and_true _ _ h.kept (eq-eqb _ _ h.host)
