use Rattle.std.proofs.Common.{◌≡◌, ◌+◌, ◌-◌, ◌∙◌, ℕ, List, Option, Some, None, ap, arith, drop, inl, inr, length, length-drop, refl, subst, take}
use Rattle.std.proofs.lemmas.List.{take_all}
use Rattle.memchr.specs.Find.{FindsNeedle}
use Rattle.he_streaming.specs.Pieces.{front_of}
use Rattle.he_streaming.specs.declared.limits.TheConstants.{RACE_END}
use Rattle.he_streaming.proofs.pieces.piece_start.Goals as goal

-- the rest of some bytes, cut to its own length
rest_same : (bytes : List ℕ) (from front : ℕ) → from ≡ front → take (length bytes - from) (drop from bytes) ≡ drop front bytes
rest_same bytes from front same = take_all (length bytes - from) (drop from bytes) (omega (arith, length-drop {A = ℕ})) ∙ ap (λ (n : ℕ). drop n bytes) same

pub returns-then-number-eq0-clause-start : goal.returns-then-number-eq0-clause-start
returns-then-number-eq0-clause-start c = inl (c.if-number-eq0.true, refl)

pub returns-in-Some-clause-start : goal.returns-in-Some-clause-start
returns-in-Some-clause-start c =
    let bytes = c.args.bytes.now in
    let same = rest_same bytes c.min-from.result (front_of bytes c.args.number) c.min-from.ensures in
    inr (
      Some c.in-Some.at,
      subst (λ (found : Option ℕ). FindsNeedle (drop (front_of bytes c.args.number) bytes) RACE_END.now 0 found) c.in-Some.is
          (subst (λ (hay : List ℕ). FindsNeedle hay RACE_END.now 0 c.find.result) same c.find.ensures),
      ap (λ (n : ℕ). n + c.in-Some.at + 5) c.min-from.ensures,
    )

pub returns-in-None-clause-start : goal.returns-in-None-clause-start
returns-in-None-clause-start c =
    let bytes = c.args.bytes.now in
    let same = rest_same bytes c.min-from.result (front_of bytes c.args.number) c.min-from.ensures in
    inr (
      None,
      subst (λ (found : Option ℕ). FindsNeedle (drop (front_of bytes c.args.number) bytes) RACE_END.now 0 found) c.in-None.is
          (subst (λ (hay : List ℕ). FindsNeedle hay RACE_END.now 0 c.find.result) same c.find.ensures),
      refl,
    )
