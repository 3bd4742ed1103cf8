-- The copy of an answer that was kept.
use Rattle.std.proofs.Common.{◌≡◌, ℕ, List, Option, subst, sym}
use Rattle.std.specs.Prelude.{Result, Ok, Err, IfOk, IfSome}
use Rattle.std.specs.Result.{result_ok}
use Rattle.he_addr.specs.declared.ip.Family.{Family}
use Rattle.he_kept.specs.Answers.{IsCopy}
use Rattle.he_kept.specs.Past.{IsOfPast, WasKept}
use Rattle.he_kept.specs.declared.answer.KeptAnswer.{KeptAnswer}

module _ {E : Type 0} (past : List KeptAnswer) (now : ℕ) (host : List ℕ) (family : Family) (kept : KeptAnswer) where
  -- the copy, if there is one, is of that answer
  pub of_past : (made : Result KeptAnswer E) (copy : Option KeptAnswer) → WasKept past now host family kept
      → IfOk made (IsCopy kept) → copy ≡ result_ok made → IfSome copy (IsOfPast past now host family)
  of_past (Ok made) copy was alike is =
      subst (λ (c : Option KeptAnswer). IfSome c (IsOfPast past now host family)) (sym is) (kept, was, alike)
  of_past (Err fault) copy was alike is =
      subst (λ (c : Option KeptAnswer). IfSome c (IsOfPast past now host family)) (sym is) tt
