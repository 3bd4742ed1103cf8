-- What two workers did, told of one pass.
use Rattle.std.proofs.Common.{◌≡◌, ℕ, ◌+◌, ◌<◌, ◌≤◌, min, List, ◌++◌, map, Option, refl, sym, subst, ap, ◌∙◌, arith}
use Rattle.std.specs.List.{All}
use Rattle.std.proofs.lemmas.List.{map-append}
use Rattle.std.proofs.lemmas.List.Elements.{All-append}
use Rattle.he_board.specs.declared.view.View.{View}
use Rattle.he_board.specs.Notes.{given, joined, kept, least_of, times}
use Rattle.he_board.proofs.Lists.{least_of-append, times-append}
use Rattle.he_plan.specs.declared.attempts.Attempt.{Attempt}
use Rattle.he_timeline.specs.Race.{Race}
use Rattle.he_pool.specs.declared.attempting.Done.{Done}
use Rattle.he_pool.specs.Batch.{IsOfSuccess, batch_jobs, job_at}
use Rattle.he_pool.specs.Working.{ArePlans, IsBlank, IsHonestAt, IsLater, IsWorked}
use Rattle.he_pool.proofs.Pooling.{honest_later, least_of-falls}

later_left : (v w : View) → IsLater v (joined v w)
later_left v w = record { offers = λ r. least_of-falls r v.offers w.offers; looked = λ r. least_of-falls r v.looked w.looked }

falls_right : (r : ℕ) (xs ys : List (ℕ × ℕ)) → least_of r (xs ++ ys) ≤ least_of r ys
falls_right r xs ys = let both : least_of r (xs ++ ys) ≡ min (least_of r xs) (least_of r ys) = least_of-append r xs ys in omega arith

later_right : (v w : View) → IsLater w (joined v w)
later_right v w = record { offers = λ r. falls_right r v.offers w.offers; looked = λ r. falls_right r v.looked w.looked }

pub real_joined : (races : List Race) (v w u : View) → u ≡ joined v w → All (IsOfSuccess races) v.offers → All (IsOfSuccess races) w.offers → All (IsOfSuccess races) u.offers
real_joined races v w u e left right = subst (λ (x : View). All (IsOfSuccess races) x.offers) (sym e) (All-append (IsOfSuccess races) v.offers w.offers left right)

pub worked_joined : (races : List Race) (v w u : View) (done other more : List Done) (plans others both : List (Option (List Attempt))) → u ≡ joined v w → more ≡ done ++ other → IsWorked races v done plans → IsWorked races w other others → ArePlans races both → IsWorked races u more both
worked_joined races v w u done other more plans others both e all left right planned =
    subst (λ (x : View). IsWorked races x more both) (sym e) (subst (λ (d : List Done). IsWorked races (joined v w) d both) (sym all) (record {
      tried = λ job from to.
          let some : 0 < times job v.known = left.tried job from to in
          let sum : times job (v.known ++ w.known) ≡ times job v.known + times job w.known = times-append job v.known w.known in
          omega arith;
      held = record {
        real = All-append (IsOfSuccess races) v.offers w.offers left.held.real right.held.real;
        sound = record {
          taken = ap (λ (xs : List ℕ). xs ++ w.taken) left.held.sound.taken ∙ (ap (λ (xs : List ℕ). map (λ (d : Done). d.job) done ++ xs) right.held.sound.taken ∙ sym (map-append (λ (d : Done). d.job) done other));
          honest = All-append P done other (honest_later races v (joined v w) done (later_left v w) left.held.sound.honest) (honest_later races w (joined v w) other (later_right v w) right.held.sound.honest);
          below = All-append Q done other left.held.sound.below right.held.sound.below;
        };
        planned = planned;
      };
    }))
  where
    P : Done → Type 0
    P = λ d. IsHonestAt races (joined v w) (job_at races d.job) d.fate

    Q : Done → Type 0
    Q = λ d. d.job < batch_jobs races

-- a fork of a pass that has noted nothing
pub blank_kept : (v w : View) → IsBlank v → w ≡ kept v → IsBlank w
blank_kept v w none e = subst (λ (x : View). IsBlank x) (sym e) (ap (λ (x : View). kept x) none)

pub blank_given : (v w : View) → w ≡ given v → IsBlank w
blank_given v w e = subst (λ (x : View). IsBlank x) (sym e) refl
