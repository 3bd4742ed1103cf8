-- The attempts that are unfinished have no outcome, and are at different addresses, while they are polled and where
-- one more begins.
use Rattle.std.proofs.Common.{◌≡◌, ℕ, zero, suc, ◌-◌, ◌<◌, ◌&&◌, ◌||◌, ◌++◌, Bool, true, false, not, List, [], ◌∷◌, if◌then◌else◌, length, take, drop, get_or, Some, Result, Ok, Err, is_ok, nat_lt, refl, sym, ◌∙◌, ap, subst, arith, inl, inr}
use Rattle.std.specs.List.{All, list_all, list_any, remove, slice_get, slice_set}
use Rattle.std.proofs.lemmas.List.Elements.{All-head, All-tail}
use Rattle.std.proofs.lemmas.List.Folds.{list_any-append}
use Rattle.he_addr.specs.declared.ip.Ip.{Ip}
use Rattle.he_addr.specs.Ip.{same_ip}
use Rattle.he_plan.specs.declared.attempts.Attempt.{Attempt}
use Rattle.he_timeline.specs.declared.outcome.Outcome.{Outcome}
use Rattle.he_plan.specs.Attempts.{AreNextInTurn, IsNext, is_tried}
use Rattle.he_timeline.specs.Building.{with_outcome, with_pause}
use Rattle.he_timeline.specs.Race.{Race, has_outcome}
use Rattle.he_timeline.proofs.Bools.{and_both, and_left, and_right, clash, or_left_none, or_none, or_right_none}
use Rattle.he_timeline.proofs.Ranges.{same_ip-sym}
use Rattle.he_turns.specs.declared.connector.Connector.{Ghosts as ConnectorOf}
use Rattle.he_turns.specs.declared.faults.AttemptFault.{AttemptFault}
use Rattle.he_turns.specs.declared.live.Unfinished.{Unfinished}
use Rattle.he_turns.specs.declared.trial.Trial.{Ghosts as TrialOf}
use Rattle.he_turns.specs.Recording.{ended_by, slept}
use Rattle.he_turns.specs.Kept.{IsUnfinished, are_untold}
use Rattle.he_turns.specs.Turns.{StartsOne, told}
use Rattle.he_turns.proofs.Turning.{drop-set, take-set}
use Rattle.he_turns.proofs.Recorded.{get_last, next_untried, same_ip-is, take_all_of, tried_made}

not_false : (b : Bool) → b ≡ false → not b ≡ true
not_false b e = ap not e

is_false : (b : Bool) → not b ≡ true → b ≡ false
is_false true h = cc
is_false false h = refl

-- one more outcome is another address's
told_more : (told : List (Ip × Outcome)) (ip other : Ip) (outcome : Outcome) → has_outcome other told ≡ false → same_ip other ip ≡ false → has_outcome other (told ++ (ip, outcome) ∷ []) ≡ false
told_more told ip other outcome none apart =
    list_any-append (λ (p : Ip × Outcome). same_ip p.0 other) told ((ip, outcome) ∷ [])
    ∙ or_none (has_outcome other told) (same_ip ip other || false) none (or_none (same_ip ip other) false (same_ip-sym ip other ∙ apart) refl)

module _ {C Conn Run : Type 0} where
  -- what is true of an attempt that is followed by others
  record Heads (told : List (Ip × Outcome)) (o : Unfinished C Conn Run) (os : List (Unfinished C Conn Run)) : Type 0 where
    first : has_outcome o.attempt.ip told ≡ false
    once : list_any (λ (p : Unfinished C Conn Run). same_ip p.attempt.ip o.attempt.ip) os ≡ false
    rest : are_untold told os ≡ true

  heads : (told : List (Ip × Outcome)) (o : Unfinished C Conn Run) (os : List (Unfinished C Conn Run)) → are_untold told (o ∷ os) ≡ true → Heads told o os
  heads told o os h =
      let first : Bool = not (has_outcome o.attempt.ip told) in
      let once : Bool = not (list_any (λ (p : Unfinished C Conn Run). same_ip p.attempt.ip o.attempt.ip) os) in
      let both : (first && once) ≡ true = and_left (first && once) (are_untold told os) h in
      record {
        first = is_false (has_outcome o.attempt.ip told) (and_left first once both);
        once = is_false (list_any (λ (p : Unfinished C Conn Run). same_ip p.attempt.ip o.attempt.ip) os) (and_right first once both);
        rest = and_right (first && once) (are_untold told os) h;
      }

  joined : (told : List (Ip × Outcome)) (o : Unfinished C Conn Run) (os : List (Unfinished C Conn Run)) → has_outcome o.attempt.ip told ≡ false → list_any (λ (p : Unfinished C Conn Run). same_ip p.attempt.ip o.attempt.ip) os ≡ false → are_untold told os ≡ true → are_untold told (o ∷ os) ≡ true
  joined told o os first once rest =
      and_both _ _ (and_both _ _ (not_false (has_outcome o.attempt.ip told) first) (not_false (list_any (λ (p : Unfinished C Conn Run). same_ip p.attempt.ip o.attempt.ip) os) once)) rest

  pub untold-rest : (told : List (Ip × Outcome)) (o : Unfinished C Conn Run) (os : List (Unfinished C Conn Run)) → are_untold told (o ∷ os) ≡ true → are_untold told os ≡ true
  untold-rest told o os h = let k : Heads told o os = heads told o os h in k.rest

  pub untold-at : (told : List (Ip × Outcome)) (os : List (Unfinished C Conn Run)) → are_untold told os ≡ true → (i : ℕ) (d : Unfinished C Conn Run) → i < length os → has_outcome (get_or os i d).attempt.ip told ≡ false
  untold-at told [] h i d lt = absurd (let no : ⊥ = omega arith in no)
  untold-at told (o ∷ os) h zero d lt = let k : Heads told o os = heads told o os h in k.first
  untold-at told (o ∷ os) h (suc i) d lt = let k : Heads told o os = heads told o os h in untold-at told os k.rest i d (omega arith)

  any_set : (q : Attempt → Bool) (os : List (Unfinished C Conn Run)) (i : ℕ) (d new : Unfinished C Conn Run) → i < length os → new.attempt ≡ (get_or os i d).attempt → list_any (λ (p : Unfinished C Conn Run). q p.attempt) (slice_set os i new) ≡ list_any (λ (p : Unfinished C Conn Run). q p.attempt) os
  any_set q [] i d new lt e = absurd (let no : ⊥ = omega arith in no)
  any_set q (o ∷ os) zero d new lt e = ap (λ (x : Attempt). q x || list_any (λ (p : Unfinished C Conn Run). q p.attempt) os) e
  any_set q (o ∷ os) (suc i) d new lt e = ap (λ (b : Bool). q o.attempt || b) (any_set q os i d new (omega arith) e)

  -- a poll leaves the attempt what it is
  pub untold-set : (told : List (Ip × Outcome)) (os : List (Unfinished C Conn Run)) → are_untold told os ≡ true → (i : ℕ) (d new : Unfinished C Conn Run) → i < length os → new.attempt ≡ (get_or os i d).attempt → are_untold told (slice_set os i new) ≡ true
  untold-set told [] h i d new lt e = absurd (let no : ⊥ = omega arith in no)
  untold-set told (o ∷ os) h zero d new lt e =
      let k : Heads told o os = heads told o os h in
      let P : Attempt → Type 0 = λ x. has_outcome x.ip told ≡ false in
      let Q : Attempt → Type 0 = λ x. list_any (λ (p : Unfinished C Conn Run). same_ip p.attempt.ip x.ip) os ≡ false in
      joined told new os (subst P (sym e) k.first) (subst Q (sym e) k.once) k.rest
  untold-set told (o ∷ os) h (suc i) d new lt e =
      let k : Heads told o os = heads told o os h in
      joined told o (slice_set os i new) k.first (any_set (λ (x : Attempt). same_ip x.ip o.attempt.ip) os i d new (omega arith) e ∙ k.once) (untold-set told os k.rest i d new (omega arith) e)

  pub same-attempt : (o p : Unfinished C Conn Run) → o ≡ p → o.attempt ≡ p.attempt
  same-attempt o p e = ap (λ (x : Unfinished C Conn Run). x.attempt) e

  pub same-at : (os : List (Unfinished C Conn Run)) (i : ℕ) (a b : Unfinished C Conn Run) → i < length os → get_or os i a ≡ get_or os i b
  same-at [] i a b lt = absurd (let no : ⊥ = omega arith in no)
  same-at (o ∷ os) zero a b lt = refl
  same-at (o ∷ os) (suc i) a b lt = same-at os i a b (omega arith)

  -- the attempt that stands there
  pub stands-at : (os : List (Unfinished C Conn Run)) (i : ℕ) (d : Unfinished C Conn Run) → i < length os → slice_get os i ≡ Some (get_or os i d)
  stands-at [] i d lt = absurd (let no : ⊥ = omega arith in no)
  stands-at (o ∷ os) zero d lt = refl
  stands-at (o ∷ os) (suc i) d lt = stands-at os i d (omega arith)

  untold_more : (told : List (Ip × Outcome)) (ip : Ip) (outcome : Outcome) (os : List (Unfinished C Conn Run)) → list_any (λ (p : Unfinished C Conn Run). same_ip p.attempt.ip ip) os ≡ false → are_untold told os ≡ true → are_untold (told ++ (ip, outcome) ∷ []) os ≡ true
  untold_more told ip outcome [] none h = refl
  untold_more told ip outcome (o ∷ os) none h =
      let k : Heads told o os = heads told o os h in
      joined (told ++ (ip, outcome) ∷ []) o os (told_more told ip o.attempt.ip outcome k.first (or_left_none _ _ none)) k.once (untold_more told ip outcome os (or_right_none _ _ none) k.rest)

  none_at : (q : Unfinished C Conn Run → Bool) (os : List (Unfinished C Conn Run)) → list_any q os ≡ false → (i : ℕ) (d : Unfinished C Conn Run) → i < length os → q (get_or os i d) ≡ false
  none_at q [] h i d lt = absurd (let no : ⊥ = omega arith in no)
  none_at q (o ∷ os) h zero d lt = or_left_none _ _ h
  none_at q (o ∷ os) h (suc i) d lt = none_at q os (or_right_none _ _ h) i d (omega arith)

  none_left : (q : Unfinished C Conn Run → Bool) (os : List (Unfinished C Conn Run)) → list_any q os ≡ false → (i : ℕ) → list_any q (take i os ++ drop (suc i) os) ≡ false
  none_left q [] h zero = refl
  none_left q [] h (suc i) = refl
  none_left q (o ∷ os) h zero = or_right_none _ _ h
  none_left q (o ∷ os) h (suc i) = or_none _ _ (or_left_none _ _ h) (none_left q os (or_right_none _ _ h) i)

  -- where one is told, the others are not
  pub untold-left : (told : List (Ip × Outcome)) (os : List (Unfinished C Conn Run)) → are_untold told os ≡ true → (i : ℕ) (d : Unfinished C Conn Run) → i < length os → (outcome : Outcome) → are_untold (told ++ ((get_or os i d).attempt.ip, outcome) ∷ []) (take i os ++ drop (suc i) os) ≡ true
  untold-left told [] h i d lt outcome = absurd (let no : ⊥ = omega arith in no)
  untold-left told (o ∷ os) h zero d lt outcome =
      let k : Heads told o os = heads told o os h in untold_more told o.attempt.ip outcome os k.once k.rest
  untold-left told (o ∷ os) h (suc i) d lt outcome =
      let k : Heads told o os = heads told o os h in
      let apart : same_ip (get_or os i d).attempt.ip o.attempt.ip ≡ false = none_at (λ (p : Unfinished C Conn Run). same_ip p.attempt.ip o.attempt.ip) os k.once i d (omega arith) in
      joined (told ++ ((get_or os i d).attempt.ip, outcome) ∷ []) o (take i os ++ drop (suc i) os)
      (told_more told (get_or os i d).attempt.ip o.attempt.ip outcome k.first (same_ip-sym o.attempt.ip (get_or os i d).attempt.ip ∙ apart))
      (none_left (λ (p : Unfinished C Conn Run). same_ip p.attempt.ip o.attempt.ip) os k.once i)
      (untold-left told os k.rest i d (omega arith) outcome)

  -- an attempt that answered is told, and is no longer among them
  pub untold-gone : (told more : List (Ip × Outcome)) (os left : List (Unfinished C Conn Run)) → are_untold told os ≡ true → (i : ℕ) (o x : Unfinished C Conn Run) (d : Unfinished C Conn Run) → i < length os → o ≡ get_or os i d → (outcome : Outcome) → more ≡ told ++ (o.attempt.ip, outcome) ∷ [] → left ≡ remove (slice_set os i x) i → are_untold more left ≡ true
  untold-gone told more os left h i o x d lt is outcome e f =
      let gone : left ≡ take i os ++ drop (suc i) os = f ∙ rw (take-set os i x, drop-set os i x) refl in
      let one : more ≡ told ++ ((get_or os i d).attempt.ip, outcome) ∷ [] = e ∙ ap (λ (p : Unfinished C Conn Run). told ++ (p.attempt.ip, outcome) ∷ []) is in
      rw (one, gone) (untold-left told os h i d lt outcome)

  -- one more attempt, at an address that stands nowhere yet
  untold_joined : (told : List (Ip × Outcome)) (os : List (Unfinished C Conn Run)) (o : Unfinished C Conn Run) → has_outcome o.attempt.ip told ≡ false → list_any (λ (p : Unfinished C Conn Run). same_ip p.attempt.ip o.attempt.ip) os ≡ false → are_untold told os ≡ true → are_untold told (os ++ o ∷ []) ≡ true
  untold_joined told [] o first once h = joined told o [] first refl refl
  untold_joined told (p ∷ os) o first once h =
      let k : Heads told p os = heads told p os h in
      joined told p (os ++ o ∷ []) k.first
      (list_any-append (λ (q : Unfinished C Conn Run). same_ip q.attempt.ip p.attempt.ip) os (o ∷ [])
      ∙ or_none (list_any (λ (q : Unfinished C Conn Run). same_ip q.attempt.ip p.attempt.ip) os) (same_ip o.attempt.ip p.attempt.ip || false) k.once (or_none (same_ip o.attempt.ip p.attempt.ip) false (same_ip-sym o.attempt.ip p.attempt.ip ∙ or_left_none _ _ once) refl))
      (untold_joined told os o first (or_right_none _ _ once) k.rest)

  -- what was not tried is no address of the unfinished attempts
  none_held : (connector : ConnectorOf C Conn Run) (trial : TrialOf Run Conn) (xs : List Attempt) (ip : Ip) → is_tried xs ip ≡ false → (os : List (Unfinished C Conn Run)) → All (IsUnfinished connector trial xs) os → list_any (λ (p : Unfinished C Conn Run). same_ip p.attempt.ip ip) os ≡ false
  none_held connector trial xs ip untried [] all = refl
  none_held connector trial xs ip untried (o ∷ os) all =
      or_none _ _ (by_test (same_ip o.attempt.ip ip) refl) (none_held connector trial xs ip untried os (All-tail (IsUnfinished connector trial xs) o os all))
    where
      by_test : (b : Bool) → same_ip o.attempt.ip ip ≡ b → b ≡ false
      by_test false e = refl
      by_test true e =
          let u : IsUnfinished connector trial xs o = All-head (IsUnfinished connector trial xs) o os all in
          absurd (clash (is_tried xs ip) (ap (is_tried xs) (sym (same_ip-is o.attempt.ip ip e)) ∙ tried_made xs o.attempt u.made) untried)

-- nor has it an outcome
none_told : (xs : List Attempt) (told : List (Ip × Outcome)) (ip : Ip) → list_all (λ (p : Ip × Outcome). is_tried xs p.0) told ≡ true → is_tried xs ip ≡ false → has_outcome ip told ≡ false
none_told xs [] ip all untried = refl
none_told xs (p ∷ told) ip all untried = or_none _ _ (by_test (same_ip p.0 ip) refl) (none_told xs told ip (and_right _ _ all) untried)
  where
    by_test : (b : Bool) → same_ip p.0 ip ≡ b → b ≡ false
    by_test false e = refl
    by_test true e = absurd (clash (is_tried xs ip) (ap (is_tried xs) (sym (same_ip-is p.0 ip e)) ∙ and_left _ _ all) untried)

module _ {C Conn Run : Type 0} (connector : ConnectorOf C Conn Run) (trial : TrialOf Run Conn) where
  -- at the end of a turn that goes on
  pub untold-started : (race : Race) (now : ℕ) (xs all : List Attempt) (os new : List (Unfinished C Conn Run)) (c c' : C) → AreNextInTurn race all → list_all (λ (p : Ip × Outcome). is_tried xs p.0) race.outcomes ≡ true → All (IsUnfinished connector trial xs) os → are_untold race.outcomes os ≡ true → StartsOne connector trial c now xs all os c' new → are_untold race.outcomes new ≡ true
  untold-started race now xs all os new c c' turn tried held untold (inl s) = subst (λ (ys : List (Unfinished C Conn Run)). are_untold race.outcomes ys ≡ true) (sym s.same) untold
  untold-started race now xs all os new c c' turn tried held untold (inr n) =
      let made : AreNextInTurn race (xs ++ n.x ∷ []) = subst (AreNextInTurn race) n.more turn in
      let next : IsNext race xs n.x = subst (λ (ys : List Attempt). IsNext race ys n.x) (take_all_of xs n.x) (made (length xs) n.x (get_last xs n.x)) in
      let untried : is_tried xs n.o.attempt.ip ≡ false = subst (λ (x : Attempt). is_tried xs x.ip ≡ false) (sym n.begins.attempt) (next_untried race xs n.x next) in
      subst (λ (ys : List (Unfinished C Conn Run)). are_untold race.outcomes ys ≡ true) (sym n.next)
      (untold_joined race.outcomes os n.o (none_told xs race.outcomes n.o.attempt.ip tried untried) (none_held connector trial xs n.o.attempt.ip untried os held) untold)

-- nor where the client has slept
pub slept-outcomes : (race : Race) (due now : ℕ) → (slept race due now).outcomes ≡ race.outcomes
slept-outcomes race due now = by_test (nat_lt due now)
  where
    by_test : (b : Bool) → (if b then with_pause race due now else race).outcomes ≡ race.outcomes
    by_test true = refl
    by_test false = refl

-- how an attempt that answered is recorded
pub ended-told : {Conn : Type 0} (race : Race) (x : Attempt) (now : ℕ) (answer : Result Conn AttemptFault) (won : Bool) → won ≡ is_ok answer → with_outcome race x.ip (ended_by won (now - x.tick)) ≡ told race x now answer
ended-told race x now (Ok conn) won e = ap (λ (b : Bool). with_outcome race x.ip (ended_by b (now - x.tick))) e
ended-told race x now (Err fault) won e = ap (λ (b : Bool). with_outcome race x.ip (ended_by b (now - x.tick))) e
