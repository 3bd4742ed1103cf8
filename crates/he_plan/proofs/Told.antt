-- The transcript of told fates is that of the race's own.
use Rattle.std.proofs.Common.{◌≡◌, ℕ, zero, suc, ◌≤◌, ◌<◌, ◌+◌, ◌++◌, Bool, true, false, List, [], ◌∷◌, if◌then◌else◌, length, drop, get_or, map, filter, max, Option, Some, None, IfNone, nat_lt, refl, sym, ◌∙◌, ap, arith, inl, inr, subst, append_assoc, add-one, drop-cons}
use Rattle.std.specs.List.{AllZip, slice_get}
use Rattle.he_plan.specs.declared.attempts.Attempt.{Attempt}
use Rattle.he_plan.specs.declared.finish.Fate.{Fate}
use Rattle.he_plan.specs.declared.finish.Fate.TheVariants.{Succeeded, Failed, Running, Skipped}
use Rattle.he_plan.specs.declared.transcript.Line.{Line}
use Rattle.he_plan.specs.Attempts.{AreAttempts}
use Rattle.he_plan.specs.Finish.{fate_of, IsSuccess, ComesFirst, IsWinner}
use Rattle.he_plan.specs.Planning.{last_failure, told_line, told_one, told_lines}
use Rattle.he_timeline.specs.Race.{Race}
use Rattle.he_timeline.specs.Timeline.{IsRace}
use Rattle.he_plan.specs.Transcript.{IsTranscript, AreTold, IsToldFate, failures, greatest, stop_of, line_of, lines_of, result_of}
use Rattle.he_timeline.proofs.Bools.{lt_from}
use Rattle.he_plan.proofs.Finishing.{success_after}

abbrev pub ToldAll : Race → List Fate → List Attempt → List Fate → Type 0
ToldAll race all attempts told = AllZip (IsToldFate race all) attempts told

pub length-told : (race : Race) (all : List Fate) (attempts : List Attempt) (told : List Fate) → ToldAll race all attempts told → length attempts ≡ length told
length-told race all [] [] t = refl
length-told race all [] (fate ∷ told) t = absurd t
length-told race all (x ∷ attempts) [] t = absurd t
length-told race all (x ∷ attempts) (fate ∷ told) t = ap suc (length-told race all attempts told t.1)

-- what is told of the attempt at a place
told_at : (race : Race) (all : List Fate) (attempts : List Attempt) (told : List Fate) (i : ℕ) (fate : Fate) → ToldAll race all attempts told → slice_get told i ≡ Some fate → (x : Attempt) × ((slice_get (map (fate_of race) attempts) i ≡ Some (fate_of race x)) × IsToldFate race all x fate)
told_at race all [] [] i fate t h = cc
told_at race all [] (other ∷ told) i fate t h = absurd t
told_at race all (x ∷ attempts) [] i fate t h = absurd t
told_at race all (x ∷ attempts) (other ∷ told) zero fate t h = (x, (refl, subst (λ (f : Fate). IsToldFate race all x f) (some_is other fate h) t.0))
  where
    some_is : (a b : Fate) → Some a ≡ Some b → a ≡ b
    some_is a b h = cc
told_at race all (x ∷ attempts) (other ∷ told) (suc i) fate t h = told_at race all attempts told i fate t.1 h

-- what is told of the attempt at a place that has a fate
own_at : (race : Race) (all : List Fate) (attempts : List Attempt) (told : List Fate) (i : ℕ) (own : Fate) → ToldAll race all attempts told → slice_get (map (fate_of race) attempts) i ≡ Some own → (x : Attempt) × ((fate : Fate) × ((fate_of race x ≡ own) × ((slice_get told i ≡ Some fate) × IsToldFate race all x fate)))
own_at race all [] told i own t h = cc
own_at race all (x ∷ attempts) [] i own t h = absurd t
own_at race all (x ∷ attempts) (fate ∷ told) zero own t h = (x, (fate, (some_is (fate_of race x) own h, (refl, t.0))))
  where
    some_is : (a b : Fate) → Some a ≡ Some b → a ≡ b
    some_is a b h = cc
own_at race all (x ∷ attempts) (fate ∷ told) (suc i) own t h = own_at race all attempts told i own t.1 h

-- a success that is told is the race's own
told_success : (race : Race) (attempts : List Attempt) (told : List Fate) (key : ℕ × ℕ) → ToldAll race told attempts told → IsSuccess told key → IsSuccess (map (fate_of race) attempts) key
told_success race attempts told key t h =
    let at : (x : Attempt) × ((slice_get (map (fate_of race) attempts) key.1 ≡ Some (fate_of race x)) × IsToldFate race told x (Succeeded key.0)) = told_at race told attempts told key.1 (Succeeded key.0) t h in
    elim at.1.1 [ inl own ↦ at.1.0 ∙ ap Some (sym own) | inr skipped ↦ cc skipped.0 ]

-- no success of the race comes before the winner of what is told
first_of_all : (race : Race) → IsRace race → (attempts : List Attempt) (told : List Fate) (w key : ℕ × ℕ) → ToldAll race told attempts told → ((k : ℕ × ℕ) → IsSuccess told k → ComesFirst w k) → IsSuccess (map (fate_of race) attempts) key → ComesFirst w key
first_of_all race r attempts told w key t least h =
    let at : (x : Attempt) × ((fate : Fate) × ((fate_of race x ≡ Succeeded key.0) × ((slice_get told key.1 ≡ Some fate) × IsToldFate race told x fate))) = own_at race told attempts told key.1 (Succeeded key.0) t h in
    elim at.1.1.1.1 [
      | inl own ↦ least key (at.1.1.1.0 ∙ ap Some (own ∙ at.1.1.0))
      | inr skipped ↦ inl (late (least skipped.1.key skipped.1.success) skipped.1.before (success_after race r at.0 key.0 at.1.1.0))
    ]
  where
    late : {k : ℕ × ℕ} {start : ℕ} → ComesFirst w k → k.0 ≤ start → start < key.0 → w.0 < key.0
    late (inl f) s e = omega arith
    late (inr f) s e = omega (arith, f.0)

told_winner : (race : Race) → IsRace race → (attempts : List Attempt) (told : List Fate) (winner : Option (ℕ × ℕ)) → ToldAll race told attempts told → IsWinner told winner → IsWinner (map (fate_of race) attempts) winner
told_winner race r attempts told None t w = λ key h.
    let at : (x : Attempt) × ((fate : Fate) × ((fate_of race x ≡ Succeeded key.0) × ((slice_get told key.1 ≡ Some fate) × IsToldFate race told x fate))) = own_at race told attempts told key.1 (Succeeded key.0) t h in
    elim at.1.1.1.1 [ inl own ↦ w key (at.1.1.1.0 ∙ ap Some (own ∙ at.1.1.0)) | inr skipped ↦ w skipped.1.key skipped.1.success ]
told_winner race r attempts told (Some winner) t w =
    (told_success race attempts told winner t w.0, λ key h. first_of_all race r attempts told winner key t w.1 h)

-- before the stop an attempt's own fate is told
abbrev IsOwnBefore : Race → ℕ → (Attempt → Fate → Type 0) → Type 0
IsOwnBefore race stop R = (x : Attempt) (fate : Fate) → R x fate → x.tick < stop → fate ≡ fate_of race x

told_own : (race : Race) (told : List Fate) (winner : Option (ℕ × ℕ)) → IsWinner told winner → IsOwnBefore race (stop_of race winner) (IsToldFate race told)
told_own race told None w x fate (inl own) before = own
told_own race told None w x fate (inr skipped) before = absurd (w skipped.1.key skipped.1.success)
told_own race told (Some winner) w x fate (inl own) before = own
told_own race told (Some winner) w x fate (inr skipped) before = absurd (early (w.1 skipped.1.key skipped.1.success) skipped.1.before before)
  where
    early : {k : ℕ × ℕ} → ComesFirst winner k → k.0 ≤ x.tick → x.tick < winner.0 → ⊥
    early (inl f) s e = omega arith
    early (inr f) s e = omega (arith, f.0)

told_lines-own : (race : Race) (winner : Option (ℕ × ℕ)) (R : Attempt → Fate → Type 0) (attempts : List Attempt) (told : List Fate) → IsOwnBefore race (stop_of race winner) R → AllZip R attempts told → told_lines (stop_of race winner) winner attempts told ≡ lines_of race winner attempts
told_lines-own race winner R [] told own t = refl
told_lines-own race winner R (x ∷ attempts) [] own t = absurd t
told_lines-own race winner R (x ∷ attempts) (fate ∷ told) own t =
    lines_by (nat_lt x.tick (stop_of race winner)) refl (told_lines-own race winner R attempts told own t.1)
  where
    lines_by : (b : Bool) → nat_lt x.tick (stop_of race winner) ≡ b → told_lines (stop_of race winner) winner attempts told ≡ lines_of race winner attempts → (if b then told_line (stop_of race winner) winner x fate ∷ [] else []) ++ told_lines (stop_of race winner) winner attempts told ≡ map (line_of race winner) (if b then x ∷ filter (λ y. nat_lt y.tick (stop_of race winner)) attempts else filter (λ y. nat_lt y.tick (stop_of race winner)) attempts)
    lines_by true before rest =
        let same : fate ≡ fate_of race x = own x fate t.0 (lt_from _ _ before) in
        rw (same, rest)
    lines_by false before rest = rest

-- one more line
told_step : (stop : ℕ) (winner : Option (ℕ × ℕ)) (x : Attempt) (fate : Fate) (attempts xs : List Attempt) (told fates : List Fate) (lines more whole : List Line) → attempts ≡ x ∷ xs → told ≡ fate ∷ fates → lines ++ told_lines stop winner attempts told ≡ whole → more ≡ lines ++ told_one stop winner x fate → more ++ told_lines stop winner xs fates ≡ whole
told_step stop winner x fate attempts xs told fates lines more whole here there so_far one =
    rw one (append_assoc lines (told_one stop winner x fate) (told_lines stop winner xs fates) ∙ (rw (here, there) at so_far))

pub told_more : (stop : ℕ) (winner : Option (ℕ × ℕ)) (attempts : List Attempt) (told : List Fate) (i : ℕ) (d : Attempt) (e : Fate) (lines more whole : List Line) → i < length attempts → i < length told → lines ++ told_lines stop winner (drop i attempts) (drop i told) ≡ whole → more ≡ lines ++ told_one stop winner (get_or attempts i d) (get_or told i e) → more ++ told_lines stop winner (drop (i + 1) attempts) (drop (i + 1) told) ≡ whole
told_more stop winner attempts told i d e lines more whole below there so_far one =
    told_step stop winner (get_or attempts i d) (get_or told i e) (drop i attempts) (drop (i + 1) attempts) (drop i told) (drop (i + 1) told) lines more whole
    (rw add-one (drop-cons attempts i d below)) (rw add-one (drop-cons told i e there)) so_far one

told_all_own : (race : Race) (told all : List Fate) (attempts : List Attempt) → IsWinner all None → ToldAll race all attempts told → told ≡ map (fate_of race) attempts
told_all_own race [] all [] w t = refl
told_all_own race (fate ∷ told) all [] w t = absurd t
told_all_own race [] all (x ∷ attempts) w t = absurd t
told_all_own race (fate ∷ told) all (x ∷ attempts) w t =
    let same : fate ≡ fate_of race x = elim t.0 [ inl own ↦ own | inr skipped ↦ absurd (w skipped.1.key skipped.1.success) ] in
    rw (same, told_all_own race told all attempts w t.1)

result_own : (race : Race) (attempts : List Attempt) (told : List Fate) (winner : Option (ℕ × ℕ)) → ToldAll race told attempts told → IsWinner told winner → result_of race attempts told winner ≡ result_of race attempts (map (fate_of race) attempts) winner
result_own race attempts told None t w = ap (λ fates. result_of race attempts fates None) (told_all_own race told told attempts w t)
result_own race attempts told (Some winner) t w = refl

pub told-is : (race : Race) → IsRace race → (attempts : List Attempt) (told : List Fate) (winner : Option (ℕ × ℕ)) → AreTold race attempts told winner → IsTranscript race (record { lines = told_lines (stop_of race winner) winner attempts told; result = result_of race attempts told winner })
told-is race r attempts told winner a = record {
  attempts = attempts;
  winner = winner;
  are = a.are;
  wins = told_winner race r attempts told winner a.fates a.wins;
  lines = told_lines-own race winner (IsToldFate race told) attempts told (told_own race told winner a.wins) a.fates;
  result = result_own race attempts told winner a.fates a.wins;
}

pub told-all : (race : Race) (attempts : List Attempt) (told : List Fate) (winner : Option (ℕ × ℕ)) → AreTold race attempts told winner → IfNone winner (AreAttempts race attempts)
told-all race attempts told None a = a.are
told-all race attempts told (Some w) a = tt

last_failure-max : (tick : ℕ) (told : List Fate) → last_failure tick told ≡ max tick (greatest (failures told))
last_failure-max tick [] = omega arith
last_failure-max tick (Failed finish ∷ told) = last_failure-max (max tick finish) told ∙ omega arith
last_failure-max tick (Succeeded finish ∷ told) = last_failure-max tick told
last_failure-max tick (Running ∷ told) = last_failure-max tick told
last_failure-max tick (Skipped ∷ told) = last_failure-max tick told

-- the latest failure after both answers is the greatest of all these ticks
pub last_failure-is : (x y : ℕ) (told : List Fate) → last_failure (max x y) told ≡ greatest (x ∷ y ∷ failures told)
last_failure-is x y told = last_failure-max (max x y) told ∙ omega arith
