-- What the notes of a pass tell as they grow.
use Rattle.std.proofs.Common.{◌≡◌, ℕ, ◌<◌, ◌≤◌, ◌/◌, ◌%◌, Bool, true, cond, nat_eq, eq-eqb, min, List, [], ◌∷◌, ◌++◌, map, Some, refl, sym, subst, ap, ◌∙◌, inl, inr, ⊎_elim, arith}
use Rattle.std.specs.Prelude.{All, slice_get, slice_index_or, option_map}
use Rattle.std.proofs.lemmas.List.{map-append}
use Rattle.std.proofs.lemmas.Option.{slice_get-map}
use Rattle.std.proofs.lemmas.List.Elements.{All-nil, All-cons, All-append}
use Rattle.he_board.specs.declared.limits.TheConstants.{NO_OFFER, PLACES}
use Rattle.he_board.specs.declared.view.View.{View}
use Rattle.he_board.specs.Notes.{key_of, knowing, least_of, looking, offering, taking}
use Rattle.he_board.specs.Plays.{IsAtMostNoted}
use Rattle.he_plan.specs.declared.attempts.Attempt.{Attempt}
use Rattle.he_plan.specs.declared.finish.Fate.{Fate}
use Rattle.he_plan.specs.declared.finish.Fate.TheVariants.{Skipped, Succeeded}
use Rattle.he_plan.specs.Attempts.{AreAttempts}
use Rattle.he_plan.specs.Finish.{fate_of, IsSuccess}
use Rattle.he_timeline.specs.Race.{Race}
use Rattle.he_pool.specs.Batch.{IsOfSuccess, batch_jobs, job_at}
use Rattle.he_pool.specs.Working.{AreHonest, IsHonest, IsHonestAt, IsLater, IsRun, IsSkipped, IsSound}
use Rattle.he_pool.specs.declared.attempting.Done.{Done}
use Rattle.he_board.proofs.Lists.{least_of-append}
use Rattle.he_plan.proofs.Lawful.{plan-one}

pub least_of-falls : (r : ℕ) (xs ys : List (ℕ × ℕ)) → least_of r (xs ++ ys) ≤ least_of r xs
least_of-falls r xs ys = let both : least_of r (xs ++ ys) ≡ min (least_of r xs) (least_of r ys) = least_of-append r xs ys in omega arith

-- the least value is at most the last
pub least_of-last : (r n : ℕ) (xs : List (ℕ × ℕ)) → least_of r (xs ++ (r, n) ∷ []) ≤ n
least_of-last r n xs =
    let e : nat_eq r r ≡ true = eq-eqb r r refl in
    let F : Bool → ℕ = λ b. cond b (min n NO_OFFER) NO_OFFER in
    let one : least_of r ((r, n) ∷ []) ≡ min n NO_OFFER = ap F e in
    let both : least_of r (xs ++ (r, n) ∷ []) ≡ min (least_of r xs) (least_of r ((r, n) ∷ [])) = least_of-append r xs ((r, n) ∷ []) in
    omega arith

pub looked_later : (number value : ℕ) (v w : View) → w ≡ looking number value v → IsLater v w
looked_later number value v w e = subst (λ (u : View). IsLater v u) (sym e)
    (record { offers = λ r. (omega arith); looked = λ r. least_of-falls r v.looked ((number, value) ∷ []) })

pub offered_later : (number key value : ℕ) (v w : View) → w ≡ offering number key value v → IsLater v w
offered_later number key value v w e = subst (λ (u : View). IsLater v u) (sym e)
    (record { offers = λ r. least_of-falls r v.offers ((number, key) ∷ []); looked = λ r. least_of-falls r v.looked ((number, min value key) ∷ []) })

pub later_then : (u v w : View) → IsLater u v → IsLater v w → IsLater u w
later_then u v w f g = record {
  offers = λ r. let a : least_of r v.offers ≤ least_of r u.offers = f.offers r in let b : least_of r w.offers ≤ least_of r v.offers = g.offers r in omega arith;
  looked = λ r. let a : least_of r v.looked ≤ least_of r u.looked = f.looked r in let b : least_of r w.looked ≤ least_of r v.looked = g.looked r in omega arith;
}

-- an attempt that starts at or after the tick of a value that was looked at may be skipped
pub skipped_honest : (race : Race) (number place value : ℕ) (v w : View) (x : Attempt) → w ≡ looking number value v → value / PLACES ≤ x.tick → IsHonest race number place w x Skipped
skipped_honest race number place value v w x e late = subst (λ (u : View). IsHonest race number place u x Skipped) (sym e)
    (let le : least_of number (v.looked ++ (number, value) ∷ []) ≤ value = least_of-last number value v.looked in
    inr (record { skipped = refl; late = omega arith }))

-- an attempt that starts below the tick of a value just looked at starts below that of each noted before
pub not_late : (number value tick : ℕ) (v : View) (fate : Fate) → IsAtMostNoted number value v → tick < value / PLACES → least_of number v.looked / PLACES ≤ tick → fate ≡ Skipped
not_late number value tick v fate noted early late = let le : value ≤ least_of number v.looked = noted.looked in absurd (omega arith)

-- a success that was offered
pub success_honest : (race : Race) (number place finish value : ℕ) (v w : View) (x : Attempt) → w ≡ offering number (key_of finish place) value v → Succeeded finish ≡ fate_of race x → IsHonest race number place w x (Succeeded finish)
success_honest race number place finish value v w x e own = subst (λ (u : View). IsHonest race number place u x (Succeeded finish)) (sym e)
    (inl (record { own = own; offered = λ f same. offered f (same_finish f same) }))
  where
    same_finish : (f : ℕ) → Succeeded finish ≡ Succeeded f → finish ≡ f
    same_finish f same = cc

    offered : (f : ℕ) → finish ≡ f → least_of number (v.offers ++ (number, key_of finish place) ∷ []) ≤ key_of f place
    offered f same = subst (λ (n : ℕ). least_of number (v.offers ++ (number, key_of finish place) ∷ []) ≤ key_of n place) same
        (least_of-last number (key_of finish place) v.offers)

-- a fate that is no success
pub other_honest : (race : Race) (number place : ℕ) (w : View) (x : Attempt) (fate : Fate) → fate ≡ fate_of race x → ((finish : ℕ) → fate ≡ Succeeded finish → ⊥) → IsHonest race number place w x fate
other_honest race number place w x fate own none = inl (record { own = own; offered = λ f same. absurd (none f same) })

-- an offer of an attempt's success
pub success_real : (races : List Race) (race : Race) (attempts : List Attempt) (x : Attempt) (number place finish value : ℕ) (v w : View) → slice_get races number ≡ Some race → AreAttempts race attempts → slice_get attempts place ≡ Some x → Succeeded finish ≡ fate_of race x → place < PLACES → w ≡ offering number (key_of finish place) value v → All (IsOfSuccess races) v.offers → All (IsOfSuccess races) w.offers
success_real races race attempts x number place finish value v w stands are at own near e real =
    subst (λ (u : View). All (IsOfSuccess races) u.offers) (sym e) (All-append (IsOfSuccess races) v.offers ((number, key_of finish place) ∷ []) real (All-cons (IsOfSuccess races) (number, key_of finish place) [] offer (All-nil (IsOfSuccess races))))
  where
    is : slice_get (map (fate_of race) attempts) place ≡ Some (Succeeded finish)
    is = slice_get-map (fate_of race) attempts place ∙ (ap (option_map (fate_of race)) at ∙ ap (λ (f : Fate). Some f) (sym own))

    tick : key_of finish place / PLACES ≡ finish
    tick = omega arith

    rest : key_of finish place % PLACES ≡ place
    rest = omega arith

    pair : ◌≡◌ {A = ℕ × ℕ} (key_of finish place / PLACES, key_of finish place % PLACES) (finish, place)
    pair = λ i. (tick i, rest i)

    offer : IsOfSuccess races (number, key_of finish place)
    offer = record { race = race; stands = stands; success = record { attempts = attempts; are = are; success = subst (λ (q : ℕ × ℕ). IsSuccess (map (fate_of race) attempts) q) (sym pair) is } }

-- what was told of an attempt holds as the notes grow
pub honest_later : (races : List Race) (v w : View) (done : List Done) → IsLater v w → AreHonest races v done → AreHonest races w done
honest_later races v w done later honest = λ k d below race stands attempts are x at.
    let le : least_of (job_at races (slice_index_or done k d).job).0 w.offers ≤ least_of (job_at races (slice_index_or done k d).job).0 v.offers = later.offers _ in
    let looked : least_of (job_at races (slice_index_or done k d).job).0 w.looked ≤ least_of (job_at races (slice_index_or done k d).job).0 v.looked = later.looked _ in
    ⊎_elim
    (λ (r : IsRun race (job_at races (slice_index_or done k d).job).0 (job_at races (slice_index_or done k d).job).1 v x (slice_index_or done k d).fate).
    inl (record { own = r.own; offered = λ finish same. le_then _ _ _ le (r.offered finish same) }))
    (λ (s : IsSkipped (job_at races (slice_index_or done k d).job).0 v x (slice_index_or done k d).fate).
    inr (record { skipped = s.skipped; late = earlier_still _ _ _ looked s.late }))
    (honest k d below race stands attempts are x at)
  where
    le_then : (a b c : ℕ) → a ≤ b → b ≤ c → a ≤ c
    le_then a b c p q = omega arith

    earlier_still : (a b t : ℕ) → a ≤ b → b / PLACES ≤ t → a / PLACES ≤ t
    earlier_still a b t p q = omega arith

-- what was told of one job
pub honest_at_later : (races : List Race) (v w : View) (job : ℕ × ℕ) (fate : Fate) → IsLater v w → IsHonestAt races v job fate → IsHonestAt races w job fate
honest_at_later races v w job fate later honest = λ race stands attempts are x at.
    let le : least_of job.0 w.offers ≤ least_of job.0 v.offers = later.offers _ in
    let looked : least_of job.0 w.looked ≤ least_of job.0 v.looked = later.looked _ in
    ⊎_elim
    (λ (r : IsRun race job.0 job.1 v x fate). inl (record { own = r.own; offered = λ finish same. le_trans _ _ _ le (r.offered finish same) }))
    (λ (s : IsSkipped job.0 v x fate). inr (record { skipped = s.skipped; late = sooner_still _ _ _ looked s.late }))
    (honest race stands attempts are x at)
  where
    le_trans : (a b c : ℕ) → a ≤ b → b ≤ c → a ≤ c
    le_trans a b c p q = omega arith

    sooner_still : (a b t : ℕ) → a ≤ b → b / PLACES ≤ t → a / PLACES ≤ t
    sooner_still a b t p q = omega arith

-- a job that another has taken
pub known_sound : (races : List Race) (job : ℕ) (v w : View) (done : List Done) → w ≡ knowing job v → IsSound races v done → IsSound races w done
known_sound races job v w done e sound = subst (λ (u : View). IsSound races u done) (sym e)
    (record { taken = sound.taken; honest = honest_later races v (knowing job v) done (record { offers = λ r. omega arith; looked = λ r. omega arith }) sound.honest; below = sound.below })

-- a job that was taken, and what is handed back of it
pub taken_sound : (races : List Race) (job : ℕ) (fate : Fate) (u v w : View) (done more : List Done) → v ≡ taking job u → IsLater v w → w.taken ≡ v.taken → more ≡ done ++ (record { job = job; fate = fate }) ∷ [] → IsSound races u done → job < batch_jobs races → IsHonestAt races w (job_at races job) fate → IsSound races w more
taken_sound races job fate u v w done more e later same pushed sound low honest = subst (λ (d : List Done). IsSound races w d) (sym pushed)
    (record {
      taken = same ∙ (ap (λ (x : View). x.taken) e ∙ (ap (λ (xs : List ℕ). xs ++ job ∷ []) sound.taken ∙ sym (map-append (λ (d : Done). d.job) done (last ∷ []))));
      honest = All-append P done (last ∷ []) (honest_later races u w done since sound.honest) (All-cons P last [] honest (All-nil P));
      below = All-append Q done (last ∷ []) sound.below (All-cons Q last [] low (All-nil Q));
    })
  where
    last : Done
    last = record { job = job; fate = fate }

    Q : Done → Type 0
    Q = λ d. d.job < batch_jobs races

    P : Done → Type 0
    P = λ d. IsHonestAt races w (job_at races d.job) d.fate

    first : IsLater u (taking job u)
    first = record { offers = λ r. omega arith; looked = λ r. omega arith }

    since : IsLater u w
    since = later_then u v w (subst (λ (x : View). IsLater u x) (sym e) first) later

-- what is told of the attempt of a plan is told of the race's
pub honest_at : (races : List Race) (race : Race) (plan : List Attempt) (number place job : ℕ) (w : View) (fate : Fate) → slice_get races number ≡ Some race → AreAttempts race plan → job_at races job ≡ (number, place) → ((x : Attempt) → slice_get plan place ≡ Some x → IsHonest race number place w x fate) → IsHonestAt races w (job_at races job) fate
honest_at races race plan number place job w fate stands are is honest = subst (λ (p : ℕ × ℕ). IsHonestAt races w p fate) (sym is)
    (λ other stands' attempts are' x at. let same : race ≡ other = one_race other (sym stands ∙ stands') in
    subst (λ (r : Race). IsHonest r number place w x fate) same
    (honest x (subst (λ (xs : List Attempt). slice_get xs place ≡ Some x) (plan-one race attempts plan (subst (λ (r : Race). AreAttempts r attempts) (sym same) are') are) at)))
  where
    one_race : (other : Race) → Some race ≡ Some other → race ≡ other
    one_race other h = cc

-- a plan of the race of this number
pub planned_at : (races : List Race) (number : ℕ) (race : Race) (plan : List Attempt) → slice_get races number ≡ Some race → AreAttempts race plan → (other : Race) → slice_get races number ≡ Some other → AreAttempts other plan
planned_at races number race plan stands are other stands' = subst (λ (r : Race). AreAttempts r plan) (one_race (sym stands ∙ stands')) are
  where
    one_race : Some race ≡ Some other → race ≡ other
    one_race h = cc
