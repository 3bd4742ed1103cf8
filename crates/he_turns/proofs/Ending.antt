-- What is known at the end of a race that is being run.
use Rattle.std.proofs.Common.{◌≡◌, ℕ, zero, suc, ◌+◌, ◌-◌, ◌≤◌, ◌<◌, Bool, true, false, List, [], ◌∷◌, if◌then◌else◌, length, get_or, map, Option, Some, None, Result, Ok, Err, IfSome, IfOk, is_some, refl, sym, ◌∙◌, ap, subst, arith}
use Rattle.std.specs.List.{All, slice_get}
use Rattle.std.proofs.lemmas.List.Elements.{All-contains, All-head, All-tail}
use Rattle.he_plan.specs.declared.attempts.Attempt.{Attempt}
use Rattle.he_plan.specs.declared.finish.Fate.{Fate}
use Rattle.he_plan.specs.declared.finish.Fate.TheVariants.{Succeeded, Failed, Running, Skipped}
use Rattle.he_timeline.specs.declared.outcome.Outcome.{Outcome}
use Rattle.he_timeline.specs.declared.outcome.Outcome.TheVariants as outcomes
use Rattle.he_plan.specs.declared.transcript.Outcome3.{Outcome3}
use Rattle.he_plan.specs.declared.transcript.Outcome3.TheVariants as results
use Rattle.he_timeline.specs.Seen.{seen}
use Rattle.he_plan.specs.Finish.{IsWinner, fate_of, known_at, known_by}
use Rattle.he_timeline.specs.Race.{outcome_of, Race, Reply}
use Rattle.he_plan.specs.Transcript.{AreKnown, failures, greatest, is_exhausted, result_of, without_winner}
use Rattle.he_timeline.proofs.Bools.{le_test}
use Rattle.he_plan.proofs.Dueness.{finish-failed, finish-silent, finish-succeeded}
use Rattle.he_turns.specs.Kept.{IsEnded}
use Rattle.he_turns.specs.Recording.{EndedBy, EndsRace, HasSuccess, is_won}

-- what became of an attempt by the stop
Settled : ℕ → Bool → Fate → Type 0
Settled stop won (Succeeded finish) = (won ≡ true) × (finish ≡ stop)
Settled stop won (Failed finish) = finish ≤ stop
Settled stop won Running = Unit {0}
Settled stop won Skipped = ⊥

settled_one : (race : Race) (stop : ℕ) (xs : List Attempt) (won : Bool) → EndsRace race stop xs won → (x : Attempt) → x.tick ≤ stop → (o : Option Outcome) → outcome_of race x.ip ≡ o → IfSome o (EndedBy race stop won x) → Settled stop won (fate_of race x)
unfolding Settled
settled_one race stop xs won e x up None is h = subst (Settled stop won) (sym (finish-silent race x is)) tt
settled_one race stop xs won e x up (Some (outcomes.Ok d)) is h =
    let at : d ≡ stop - x.tick = omega (arith, h.1) in
    let fate : fate_of race x ≡ Succeeded stop = finish-succeeded race e.valid x stop (e.free h.0) up e.early (is ∙ ap (λ (k : ℕ). Some (outcomes.Ok k)) at) in
    subst (Settled stop won) (sym fate) (h.0, refl)
settled_one race stop xs won e x up (Some (outcomes.Fail d)) is h =
    let at : d ≡ (x.tick + d) - x.tick = omega arith in
    let fate : fate_of race x ≡ Failed (x.tick + d) = finish-failed race e.valid x (x.tick + d) h.0 (omega arith) (omega (arith, h.1, e.early)) (is ∙ ap (λ (k : ℕ). Some (outcomes.Fail k)) at) in
    subst (Settled stop won) (sym fate) h.1

settled_all : (race : Race) (stop : ℕ) (xs : List Attempt) (won : Bool) → EndsRace race stop xs won → All (λ (x : Attempt). Settled stop won (fate_of race x)) xs
settled_all race stop xs won e k d lt = settled_one race stop xs won e (get_or xs k d) (e.past k d lt) (outcome_of race (get_or xs k d).ip) refl (e.ended k d lt)

known_still : (stop later : ℕ) (won : Bool) → stop ≤ later → (fate : Fate) → Settled stop won fate → fate ≡ known_by later fate
unfolding Settled
known_still stop later won up (Succeeded f) h = rw (le_test f later (omega (arith, h.1)))
known_still stop later won up (Failed f) h = rw (le_test f later (omega arith))
known_still stop later won up Running h = refl
known_still stop later won up Skipped h = absurd h

known_map : (race : Race) (stop later : ℕ) (won : Bool) → stop ≤ later → (xs : List Attempt) → All (λ (x : Attempt). Settled stop won (fate_of race x)) xs → map (fate_of race) xs ≡ map (known_at race later) xs
known_map race stop later won up [] h = refl
known_map race stop later won up (x ∷ xs) h =
    let P : Attempt → Type 0 = λ y. Settled stop won (fate_of race y) in
    let head : fate_of race x ≡ known_at race later x = known_still stop later won up (fate_of race x) (All-head P x xs h) in
    let tail : map (fate_of race) xs ≡ map (known_at race later) xs = known_map race stop later won up xs (All-tail P x xs h) in
    cc

-- a success in the list
success_at : (race : Race) (stop finish : ℕ) (won : Bool) (xs : List Attempt) → All (λ (x : Attempt). Settled stop won (fate_of race x)) xs → (k : ℕ) → slice_get (map (fate_of race) xs) k ≡ Some (Succeeded finish) → (won ≡ true) × (finish ≡ stop)
unfolding Settled
success_at race stop finish won [] h k e = cc
success_at race stop finish won (x ∷ xs) h zero e =
    let P : Attempt → Type 0 = λ y. Settled stop won (fate_of race y) in
    let fate : fate_of race x ≡ Succeeded finish = cc in
    subst (Settled stop won) fate (All-head P x xs h)
success_at race stop finish won (x ∷ xs) h (suc k) e =
    let P : Attempt → Type 0 = λ y. Settled stop won (fate_of race y) in
    success_at race stop finish won xs (All-tail P x xs h) k e

get_map : (race : Race) (xs : List Attempt) (k : ℕ) (x : Attempt) → k < length xs → get_or xs k x ≡ x → slice_get (map (fate_of race) xs) k ≡ Some (fate_of race x)
get_map race [] k x lt e = absurd (let no : ⊥ = omega arith in no)
get_map race (y ∷ xs) zero x lt e = ap (λ (z : Attempt). Some (fate_of race z)) e
get_map race (y ∷ xs) (suc k) x lt e = get_map race xs k x (omega arith) e

-- an attempt that has succeeded did at the stop
pub won-stop : (race : Race) (stop : ℕ) (xs : List Attempt) (won : Bool) → EndsRace race stop xs won → (h : HasSuccess race xs) → fate_of race h.x ≡ Succeeded stop
won-stop race stop xs won e h =
    let P : Attempt → Type 0 = λ x. IfSome (outcome_of race x.ip) (EndedBy race stop won x) in
    let ended : P h.x = All-contains P xs h.x e.ended h.made in
    let at : EndedBy race stop won h.x (outcomes.Ok h.duration) = subst (λ (o : Option Outcome). IfSome o (EndedBy race stop won h.x)) h.success ended in
    let same : h.duration ≡ stop - h.x.tick = omega (arith, at.1) in
    finish-succeeded race e.valid h.x stop (e.free at.0) (omega (arith, at.1)) e.early (h.success ∙ ap (λ (k : ℕ). Some (outcomes.Ok k)) same)

pub success-stop : (race : Race) (stop : ℕ) (xs : List Attempt) (won : Bool) → EndsRace race stop xs won → (k finish : ℕ) → slice_get (map (fate_of race) xs) k ≡ Some (Succeeded finish) → finish ≡ stop
success-stop race stop xs won e k finish at =
    let both : (won ≡ true) × (finish ≡ stop) = success_at race stop finish won xs (settled_all race stop xs won e) k at in
    both.1

-- the winner's finish is the stop
pub winner-stop : (race : Race) (stop : ℕ) (xs : List Attempt) (won : Bool) → EndsRace race stop xs won → (winner : ℕ × ℕ) → IsWinner (map (fate_of race) xs) (Some winner) → winner.0 ≡ stop
winner-stop race stop xs won e winner w =
    let at : (won ≡ true) × (winner.0 ≡ stop) = success_at race stop winner.0 won xs (settled_all race stop xs won e) winner.1 w.0 in
    at.1

pub record Known (race : Race) (xs : List Attempt) (won : Bool) (winner : Option (ℕ × ℕ)) : Type 0 where
  pub known : AreKnown race xs (map (fate_of race) xs) winner
  pub same : is_some winner ≡ won

not_true : (b : Bool) → (b ≡ true → ⊥) → b ≡ false
not_true true h = absurd (h refl)
not_true false h = refl

pub ended-known : (race : Race) (xs : List Attempt) (won : Bool) → IsEnded race xs won → (winner : Option (ℕ × ℕ)) → IsWinner (map (fate_of race) xs) winner → Known race xs won winner
ended-known race xs won ended None w =
    let e : EndsRace race ended.stop xs won = ended.ends in
    let lost : won ≡ false = not_true won (λ yes. (let h : HasSuccess race xs = e.success yes in w (ended.stop, h.made.0) (get_map race xs h.made.0 h.x h.made.1 h.made.2 ∙ ap Some (won-stop race ended.stop xs won e h)))) in
    record {
      known = record {
        in_turn = e.in_turn;
        stops = λ t m. absurd (e.over lost t m);
        fates = known_map race ended.stop race.settings.limit won e.early xs (settled_all race ended.stop xs won e);
        wins = w;
      };
      same = sym lost;
    }
ended-known race xs won ended (Some key) w =
    let e : EndsRace race ended.stop xs won = ended.ends in
    let at : (won ≡ true) × (key.0 ≡ ended.stop) = success_at race ended.stop key.0 won xs (settled_all race ended.stop xs won e) key.1 w.0 in
    record {
      known = record {
        in_turn = e.in_turn;
        stops = λ t m. omega (arith, e.stops t m, at.1);
        fates = known_map race ended.stop key.0 won (omega (arith, at.1)) xs (settled_all race ended.stop xs won e);
        wins = w;
      };
      same = sym at.0;
    }

lost_by : (race : Race) (xs : List Attempt) (known : List Fate) (aaaa a : Option Reply) → is_won (without_winner race xs known aaaa a) ≡ false
lost_by race xs known None a = refl
lost_by race xs known (Some s) None = refl
lost_by race xs known (Some s) (Some r) = by_test (is_exhausted race xs known s r)
  where
    by_test : (b : Bool) → is_won (if b then results.Exhausted (greatest (seen race s.tick ∷ seen race r.tick ∷ failures known)) else results.Limit race.settings.limit) ≡ false
    by_test true = refl
    by_test false = refl

pub result-won : (race : Race) (xs : List Attempt) (known : List Fate) (winner : Option (ℕ × ℕ)) → is_won (result_of race xs known winner) ≡ is_some winner
result-won race xs known None = lost_by race xs known race.aaaa race.a
result-won race xs known (Some key) = refl

pub ending-ok : {P E : Type 0} (ending : P → Outcome3) (race : Race) (xs : List Attempt) (winner : Option (ℕ × ℕ)) (r : Result P E) → IsWinner (map (fate_of race) xs) winner → IfOk r (λ t. ending t ≡ result_of race xs (map (fate_of race) xs) winner) → IfOk r (λ t. (won : Bool) → IsEnded race xs won → is_won (ending t) ≡ won)
ending-ok ending race xs winner (Ok t) w e = λ won ended.
    let k : Known race xs won winner = ended-known race xs won ended winner w in
    ap is_won e ∙ result-won race xs (map (fate_of race) xs) winner ∙ k.same
ending-ok ending race xs winner (Err f) w e = tt
