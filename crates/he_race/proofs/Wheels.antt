-- What a wheel ticker keeps of the ticks that it was asked for.
use Rattle.std.proofs.Common.{◌≡◌, ℕ, ◌<◌, Bool, true, List, [], ◌∷◌, Some, None, Option, Result, Ok, Err, OnOk, OnErr, slice_get, refl, sym, ap, subst, ◌∙◌}
use Rattle.std.specs.List.{All}
use Rattle.std.specs.Ordering.{nat_cmp}
use Rattle.std.specs.BTreeSet.{insert_key}
use Rattle.std.proofs.lemmas.Map.Views.{All-insert_key}
use Rattle.he_race.specs.Wheel.{Wheel, AreLater, Jumps, JumpsFrom, last_tick, moved}

pub later_inserted : {E : Type 0} (at next : ℕ) (old new : List ℕ) (r : Result Bool E) → AreLater at old
    → (at < last_tick → at < next) → OnOk r (new ≡ insert_key nat_cmp old next) → OnErr r (new ≡ old) → AreLater at new
later_inserted at next old new (Ok b) later above ok err = λ h.
    let P : List ℕ → Type 0 = All (λ t. at < t) in
    subst P (sym ok) (All-insert_key nat_cmp next (λ t. at < t) old (later h) (above h))
later_inserted at next old new (Err e) later above ok err = λ h.
    let P : List ℕ → Type 0 = All (λ t. at < t) in subst P (sym err) (later h)

value_of : Option ℕ → ℕ
value_of (Some n) = n
value_of None = 0

same_some : (x y : ℕ) → ◌≡◌ {A = Option ℕ} (Some x) (Some y) → x ≡ y
unfolding value_of
same_some x y e = ap value_of e

is_some_at : Option ℕ → Type 0
is_some_at (Some n) = Unit {0}
is_some_at None = ⊥

none_some : (x : ℕ) → ◌≡◌ {A = Option ℕ} None (Some x) → ⊥
unfolding is_some_at
none_some x e = subst is_some_at (sym e) tt

jumped_from : (w : Wheel) (xs : List ℕ) (next : ℕ) → slice_get xs 0 ≡ Some next → (left : Wheel) → left ≡ moved w next
    → JumpsFrom w xs true left
jumped_from w [] next e left is = absurd (none_some next e)
jumped_from w (x ∷ xs) next e left is = (refl, is ∙ ap (moved w) (sym (same_some x next e)))

pub jumped : (w : Wheel) (next : ℕ) → slice_get w.asked 0 ≡ Some next → (left : Wheel) → left ≡ moved w next → Jumps w true left
jumped w next e left is = jumped_from w w.asked next e left is
