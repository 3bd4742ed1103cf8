-- The fastest address, row by row.
use Rattle.std.proofs.Common.{◌≡◌, ◌++◌, ◌+◌, ◌≤◌, ℕ, Bool, true, false, List, [], ◌∷◌, length-append, take, ◌∙◌, arith, refl, subst, sym}
use Rattle.std.specs.Prelude.{Any, IfSome, Option, Some, None, if◌then◌else◌, nat_lt}
use Rattle.std.proofs.lemmas.Bool.{ltb-false, ltb-true}
use Rattle.std.proofs.lemmas.List.Elements.{All-push, All-weaker}
use Rattle.std.proofs.lemmas.List.Quantifiers.{Any-push}
use Rattle.std.proofs.lemmas.List.{get_or_append_left}
use Rattle.he_course.specs.declared.course.Course.{Course}
use Rattle.he_probing.specs.Fastest.{IsAt, IsFastest, faster_of, takes_of}
use Rattle.he_probing.specs.declared.fastest.Fastest.{Fastest}
use Rattle.he_probing.specs.declared.rows.AddressRow.{AddressRow}

Any-append_left : {X : Type 0} (P : X → Type 0) (xs ys : List X) → Any P xs → Any P (xs ++ ys)
Any-append_left P xs ys any =
    (any.0, any.1, omega (arith, any.2, length-append xs ys), get_or_append_left xs ys any.1 any.0 any.2 ∙ any.3, any.4)

module _ {A : Type 0} (course : Course A) where
  -- none takes less ticks
  abbrev NoneSooner : ℕ → AddressRow → Type 0
  NoneSooner ticks row = IfSome (takes_of course row) (λ other. ticks ≤ other)

  takes-at : (row : AddressRow) (takes : Option ℕ) (ticks : ℕ) → takes_of course row ≡ takes → IfSome takes (λ other. ticks ≤ other) → NoneSooner ticks row
  takes-at row takes ticks e h = subst (λ (t : Option ℕ). IfSome t (λ other. ticks ≤ other)) (sym e) h

  of-none : (ticks : ℕ) (row : AddressRow) → takes_of course row ≡ None → NoneSooner ticks row
  of-none ticks row e = takes-at row None ticks e tt

  at-most : (takes : Option ℕ) (less ticks : ℕ) → less ≤ ticks → IfSome takes (λ other. ticks ≤ other) → IfSome takes (λ other. less ≤ other)
  at-most None less ticks h k = tt
  at-most (Some other) less ticks h k = omega (arith, h, k)

  -- one more row
  pub one-more : (rows : List AddressRow) (row : AddressRow) (old : Option Fastest) (takes : Option ℕ) → takes_of course row ≡ takes
      → IsFastest course rows old → IsFastest course (rows ++ row ∷ []) (faster_of old row.ip takes)
  one-more rows row None None e is = All-push (λ r. takes_of course r ≡ None) rows row is e
  one-more rows row (Some old) None e is =
      (Any-append_left (IsAt course old) rows (row ∷ []) is.0, All-push (NoneSooner old.ticks) rows row is.1 (of-none old.ticks row e))
  one-more rows row None (Some ticks) e is = (
    Any-push (IsAt course (record { ip = row.ip; ticks = ticks })) rows row (refl, e),
    All-push (NoneSooner ticks) rows row (All-weaker (λ r. takes_of course r ≡ None) (NoneSooner ticks) (of-none ticks) rows is)
        (takes-at row (Some ticks) ticks e (omega arith)),
  )
  one-more rows row (Some old) (Some ticks) e is = by (nat_lt ticks old.ticks) refl
    where
      by : (b : Bool) → nat_lt ticks old.ticks ≡ b
          → IsFastest course (rows ++ row ∷ []) (if b then Some (record { ip = row.ip; ticks = ticks }) else Some old)
      by true less =
          let lower : ticks ≤ old.ticks = omega (arith, ltb-true ticks old.ticks less) in (
            Any-push (IsAt course (record { ip = row.ip; ticks = ticks })) rows row (refl, e),
            All-push (NoneSooner ticks) rows row
                (All-weaker (NoneSooner old.ticks) (NoneSooner ticks) (λ r h. at-most (takes_of course r) ticks old.ticks lower h) rows is.1)
                (takes-at row (Some ticks) ticks e (omega arith)),
          )
      by false less =
          let higher : old.ticks ≤ ticks = ltb-false ticks old.ticks less in (
            Any-append_left (IsAt course old) rows (row ∷ []) is.0,
            All-push (NoneSooner old.ticks) rows row is.1 (takes-at row (Some ticks) old.ticks e higher),
          )

  -- the next row
  pub next : (rows : List AddressRow) (i : ℕ) (row : AddressRow) (old new : Option Fastest) (takes : Option ℕ) → take (i + 1) rows ≡ take i rows ++ row ∷ []
      → takes ≡ takes_of course row → new ≡ faster_of old row.ip takes → IsFastest course (take i rows) old
      → IsFastest course (take (i + 1) rows) new
  next rows i row old new takes more is same before =
      subst (λ (r : List AddressRow). IsFastest course r new) (sym more)
      (subst (λ (f : Option Fastest). IsFastest course (take i rows ++ row ∷ []) f) (sym same)
      (one-more (take i rows) row old takes (sym is) before))
