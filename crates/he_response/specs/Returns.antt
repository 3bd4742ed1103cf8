-- Reads of a server with a response in progress.
use Rattle.std.proofs.Common.{◌≡◌, ℕ, Bool, List, [], ◌++◌, refl, sym, ◌∙◌, subst, append_assoc}
use Rattle.std.proofs.lemmas.List.{append-nil}
use Rattle.tokio.specs.Io.Moved.{Passes, PassesInOrder, PassesNothing}
use Rattle.he_response.specs.Answers.{GoesOn, Stands}
use Rattle.he_response.specs.declared.answer.Answer.{Answer}
use Rattle.he_response.specs.declared.returned.Returned.{Returned}

-- some octets came from the server, and these were given for them
pub record Returns {R : Type 0} (reads : Passes R) (old : Returned R) (given : List ℕ) (new : Returned R) : Type 0 where
  pub came : List ℕ
  pub read : reads old.inner came new.inner
  pub goes_on : GoesOn came given old.answer new.answer

stands_as : {to_head : Bool} {answer : Answer} (came came' gave gave' : List ℕ) → came ≡ came' → gave ≡ gave' → Stands to_head came gave answer
    → Stands to_head came' gave' answer
stands_as {to_head} {answer} came came' gave gave' c g is =
    subst (λ (t : List ℕ). Stands to_head came' t answer) g (subst (λ (t : List ℕ). Stands to_head t gave answer) c is)

pub goes_nowhere : (answer : Answer) → GoesOn [] [] answer answer
goes_nowhere answer to_head came gave is =
    stands_as came (came ++ []) gave (gave ++ []) (sym (append-nil came)) (sym (append-nil gave)) is

pub goes_further : (a b c : Answer) (cs xs ds ys : List ℕ) → GoesOn cs xs a b → GoesOn ds ys b c → GoesOn (cs ++ ds) (xs ++ ys) a c
goes_further a b c cs xs ds ys p q to_head came gave is =
    stands_as _ _ _ _ (append_assoc came cs ds) (append_assoc gave xs ys)
    (q to_head (came ++ cs) (gave ++ xs) (p to_head came gave is))

pub returns_nothing : {R : Type 0} (reads : Passes R) → PassesNothing reads → (r : Returned R) → Returns reads r [] r
returns_nothing reads none r = record { came = []; read = none r.inner; goes_on = goes_nowhere r.answer }

pub returns_in_order : {R : Type 0} (reads : Passes R) → PassesInOrder reads
    → (a : Returned R) (xs : List ℕ) (b : Returned R) (ys : List ℕ) (c : Returned R)
    → Returns reads a xs b → Returns reads b ys c → Returns reads a (xs ++ ys) c
returns_in_order reads order a xs b ys c p q = record {
  came = p.came ++ q.came;
  read = order a.inner p.came b.inner q.came c.inner p.read q.read;
  goes_on = goes_further a.answer b.answer c.answer p.came xs q.came ys p.goes_on q.goes_on;
}

-- a write leaves the response unchanged
pub writes_in_turn : {R : Type 0} (writes : Passes R) → PassesInOrder writes
    → (r s t : R) (a b c : Answer) (xs ys : List ℕ) → writes r xs s × (b ≡ a) → writes s ys t × (c ≡ b)
    → writes r (xs ++ ys) t × (c ≡ a)
writes_in_turn writes order r s t a b c xs ys p q = (order r xs s ys t p.0 q.0, q.1 ∙ p.1)

pub writes_nothing_on : {R : Type 0} (writes : Passes R) (r : R) (answer : Answer) → writes r [] r
    → writes r [] r × (answer ≡ answer)
writes_nothing_on writes r answer is = (is, refl)
