-- The first repeat of a list with one more member.
use Rattle.std.proofs.Common.{◌≡◌, ℕ, ◌+◌, ◌<◌, ◌||◌, Bool, false, drop, get_or, List, [], ◌∷◌, ◌++◌, length, refl, sym, ◌∙◌, ap, arith, inl, inr, append_assoc, append-nil}
use Rattle.std.specs.List.{list_any}
use Rattle.std.specs.Option.{option_or}
use Rattle.std.proofs.lemmas.Bool.{cases_Bool}
use Rattle.std.proofs.lemmas.List.{at_drop_more}
use Rattle.he_select.specs.Laws.{RepeatsByOneMore}
use Rattle.he_select.specs.Refusals.{cause_if, first_repeat, repeat_from}

one_more : {X : Type 0} (same : X → X → Bool) (xs before : List X) (place : ℕ) (x : X)
    → repeat_from same before place (xs ++ x ∷ []) ≡ option_or (repeat_from same before place xs) (cause_if (list_any (same x) (before ++ xs)) (place + length xs))
one_more same [] before place x =
    ap (λ l. cause_if (list_any (same x) l) place) (sym (append-nil before)) ∙ ap (cause_if (list_any (same x) (before ++ []))) (omega arith)
one_more same (y ∷ ys) before place x =
    elim (cases_Bool (list_any (same y) before)) [
      | inl here ↦ rw here refl
      | inr gone ↦ rw gone (one_more same ys (before ++ y ∷ []) (place + 1) x
          ∙ ap (λ l. option_or (repeat_from same (before ++ y ∷ []) (place + 1) ys) (cause_if (list_any (same x) l) (place + 1 + length ys))) (append_assoc before (y ∷ []) ys)
          ∙ ap (λ n. option_or (repeat_from same (before ++ y ∷ []) (place + 1) ys) (cause_if (list_any (same x) (before ++ y ∷ ys)) n)) (omega arith))
    ]

pub repeats_law : {X : Type 0} (same : X → X → Bool) → RepeatsByOneMore same
repeats_law same xs x = one_more same xs [] 0 x ∙ ap (λ n. option_or (first_repeat same xs) (cause_if (list_any (same x) xs) n)) (omega arith)

-- a member that fails the test changes nothing of whether one of the rest passes it
pub none_here : {X : Type 0} (test : X → Bool) (xs : List X) (n : ℕ) (x : X) (all : Bool)
    → n < length xs → x ≡ get_or xs n x → false ≡ test x → list_any test (drop n xs) ≡ all → list_any test (drop (n + 1) xs) ≡ all
none_here test xs n x all inside is fails kept =
    ap (λ b. b || list_any test (drop (n + 1) xs)) (fails ∙ ap test is)
    ∙ sym (at_drop_more (list_any test) xs n x inside)
    ∙ kept
