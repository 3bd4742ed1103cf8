-- What holds of each unfinished attempt of a race by a script holds of each that has no outcome yet.
use Rattle.std.proofs.Common.{◌≡◌, true, List, [], ◌∷◌, None, subst, inl, inr}
use Rattle.std.specs.List.{All, Contains, list_all, list_any}
use Rattle.std.proofs.lemmas.List.Elements.{All-head, All-tail}
use Rattle.he_addr.specs.Ip.{same_ip}
use Rattle.he_plan.specs.declared.attempts.Attempt.{Attempt}
use Rattle.he_plan.specs.Attempts.{AreNextInTurn}
use Rattle.he_timeline.specs.Race.{outcome_of, Race, has_outcome}
use Rattle.he_timeline.proofs.Bools.{clash, or_one}
use Rattle.he_turns.specs.declared.live.Unfinished.{Unfinished}
use Rattle.he_race.specs.declared.scripted.ScriptedTrial.{ScriptedTrial}
use Rattle.he_race.specs.Following.{is_held}
use Rattle.he_turns.proofs.Failing.{at-one}
use Rattle.he_turns.proofs.Recorded.{same-attempt}
use Rattle.he_race.proofs.Replayed.{none-told}

abbrev Held : Type 0 → Type 0
Held C = Unfinished C (Unit {0}) ScriptedTrial

module _ {C : Type 0} where
  -- what holds of each unfinished attempt holds of one without an outcome
  held_one : (race end : Race) (xs : List Attempt) → AreNextInTurn race xs → (Q : Attempt → Type 0) (os : List (Held C)) → All (λ (o : Held C). Contains xs o.attempt × Q o.attempt) os → (x : Attempt) → Contains xs x → list_any (λ (o : Held C). same_ip o.attempt.ip x.ip) os ≡ true → Q x
  held_one race end xs turn Q [] h x made k = cc
  held_one race end xs turn Q (o ∷ os) h x made k =
      let P : Held C → Type 0 = λ p. Contains xs p.attempt × Q p.attempt in
      elim (or_one (same_ip o.attempt.ip x.ip) (list_any (λ (p : Held C). same_ip p.attempt.ip x.ip) os) k) [
        | inl here ↦ let own : P o = All-head P o os h in subst Q (same-attempt race xs turn x o.attempt made own.0 here) own.1
        | inr there ↦ held_one race end xs turn Q os (All-tail P o os h) x made there
      ]

  one_held : (os : List (Held C)) (end : Race) (x : Attempt) → is_held os end x ≡ true → outcome_of end x.ip ≡ None → list_any (λ (o : Held C). same_ip o.attempt.ip x.ip) os ≡ true
  one_held os end x h none = elim (or_one (list_any (λ (o : Held C). same_ip o.attempt.ip x.ip) os) (has_outcome x.ip end.outcomes) h) [
    | inl held ↦ held
    | inr told ↦ absurd (clash (has_outcome x.ip end.outcomes) told (none-told end.outcomes x.ip none))
  ]

  -- what holds of each unfinished attempt holds of each without an outcome
  pub held-all : (race end : Race) (xs : List Attempt) → AreNextInTurn race xs → (Q : Attempt → Type 0) (os : List (Held C)) → All (λ (o : Held C). Contains xs o.attempt × Q o.attempt) os → list_all (is_held os end) xs ≡ true → (x : Attempt) → Contains xs x → outcome_of end x.ip ≡ None → Q x
  held-all race end xs turn Q os h held x made none =
      held_one race end xs turn Q os h x made (one_held os end x (at-one (is_held os end) xs x held made) none)
