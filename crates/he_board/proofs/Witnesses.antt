-- From a sum or a minimum over all views to a view, and back.
use Rattle.std.proofs.Common.{◌≡◌, ◌≢◌, ℕ, suc, ◌+◌, ◌<◌, ◌≤◌, min, List, [], ◌∷◌, set, refl, sym, ◌∙◌, arith}
use mathlib.Core.Logic.{dite}
use mathlib.Core.Option.{some}
use native.Mathlib.Decide.{ℕ_discrete, dec_le}
use lib.ListN.{get_elem?}
use Rattle.atomic_table.proofs.Lists.{set_else}
use Rattle.he_board.specs.declared.limits.TheConstants.{NO_OFFER}
use Rattle.he_board.specs.declared.view.View.{View}
use Rattle.he_board.specs.Notes.{blank}
use Rattle.he_board.specs.Balance.{total, least}
use Rattle.he_board.proofs.Sums.{total-set, total-at}

-- a view at which f has this value
pub record Stands (f : View → ℕ) (views : List View) (P : ℕ → Type 0) : Type 0 where
  pub by : ℕ
  pub view : View
  pub at : get_elem? views by ≡ some view
  pub holds : P (f view)

module _ (f : View → ℕ) where
  later : (x : View) (xs : List View) (P : ℕ → Type 0) → Stands f xs P → Stands f (x ∷ xs) P
  later x xs P s = record { by = suc s.by; view = s.view; at = s.at; holds = s.holds }

  pub total-some : (views : List View) → 0 < total f views → Stands f views (λ n. 0 < n)
  total-some [] pos = absurd (omega arith)
  total-some (x ∷ xs) pos = dite (ℕ_discrete (f x) 0)
      (λ (e : f x ≡ 0). later x xs (λ n. 0 < n) (total-some xs (omega arith)))
      (λ (ne : f x ≢ 0). record { by = 0; view = x; at = refl; holds = omega arith })

  pub least-some : (views : List View) → least f views ≢ NO_OFFER → Stands f views (λ n. n ≡ least f views)
  least-some [] ne = absurd (ne refl)
  least-some (x ∷ xs) ne = dite (dec_le (f x) (least f xs))
      (λ (le : f x ≤ least f xs). record { by = 0; view = x; at = refl; holds = omega arith })
      (λ (gt : f x ≤ least f xs → ⊥). let m : least f xs ≡ min (f x) (least f xs) = omega arith in
      let s = least-some xs (λ e. ne (sym m ∙ e)) in record { by = suc s.by; view = s.view; at = s.at; holds = s.holds ∙ m })

  -- a sum of at most 1 has one place
  pub total-one : (views : List View) (i j : ℕ) (v u : View) → total f views ≤ 1 → f (blank 0) ≡ 0 → get_elem? views i ≡ some v → get_elem? views j ≡ some u → 0 < f v → 0 < f u → j ≡ i
  total-one views i j v u one none at at' pos pos' = dite (ℕ_discrete j i) (λ e. e)
      (λ ne. let t : total f (set views i (blank 0)) + f v ≡ total f views + f (blank 0) = total-set f views i v (blank 0) at in
      let m : f u ≤ total f (set views i (blank 0)) = total-at f (set views i (blank 0)) j u (set_else views i j (blank 0) ne ∙ at') in absurd (omega arith))
