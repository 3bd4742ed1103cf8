-- The numbers of jobs, which of them are known to be taken, and the plans of races.
use Rattle.std.proofs.Common.{◌≡◌, ℕ, zero, suc, ◌+◌, ◌-◌, ◌*◌, ◌<◌, ◌≤◌, inl, inr, set, List, [], ◌∷◌, ◌++◌, length, take, get_or, replicate, Option, Some, None, IfSome, refl, sym, subst, ap, ◌∙◌, arith}
use Rattle.std.specs.List.{All, slice_get}
use Rattle.std.proofs.lemmas.Bool.{cond-true, cond-false, lt-ltb, le-ltb, cases_lt}
use Rattle.std.proofs.lemmas.List.{take_all, take_more}
use Rattle.std.proofs.lemmas.Option.{get_or_from_slice_get, slice_get-get_or, slice_get_within}
use Rattle.std.proofs.lemmas.List.Elements.{All-nil, All-push}
use Rattle.he_board.specs.declared.limits.TheConstants.{PLACES}
use Rattle.he_board.specs.declared.view.View.{View}
use Rattle.he_board.specs.Notes.{blank, times}
use Rattle.he_board.specs.Workers.{IsTried}
use Rattle.he_board.proofs.Lists.{times-append}
use Rattle.he_board.proofs.Trying.{tried-next}
use Rattle.he_plan.specs.declared.attempts.Attempt.{Attempt}
use Rattle.he_plan.specs.Attempts.{AreAttempts}
use Rattle.he_timeline.specs.Race.{Race}
use Rattle.he_pool.specs.declared.attempting.Done.{Done}
use Rattle.he_pool.specs.Batch.{IsOfSuccess, batch_jobs, job_at, job_count}
use Rattle.he_pool.specs.Working.{ArePlans, HasTried, IsBlank, IsHeld, IsHonestAt, IsMore, IsSound, IsTrying, IsWorked, firsts_from}

pub firsts-at : (job n d : ℕ) (races : List Race) → n ≤ length races → get_or (firsts_from job races) n d ≡ job + batch_jobs (take n races)
firsts-at job zero d [] le = omega arith
firsts-at job (suc n) d [] le = absurd (omega arith)
firsts-at job zero d (race ∷ races) le = omega arith
firsts-at job (suc n) d (race ∷ races) le =
    let i : get_or (firsts_from (job + job_count race) races) n d ≡ job + job_count race + batch_jobs (take n races) = firsts-at (job + job_count race) n d races (omega arith) in
    omega arith

pub firsts-length : (job : ℕ) (races : List Race) → length (firsts_from job races) ≡ length races + 1
firsts-length job [] = refl
firsts-length job (race ∷ races) = let i : length (firsts_from (job + job_count race) races) ≡ length races + 1 = firsts-length (job + job_count race) races in omega arith

-- the numbers grow at the end
pub firsts-more : (job : ℕ) (races : List Race) (race : Race) → firsts_from job (races ++ race ∷ []) ≡ firsts_from job races ++ (job + batch_jobs races + job_count race) ∷ []
firsts-more job [] race = let same : job + job_count race ≡ job + 0 + job_count race = omega arith in ap (λ n. job ∷ n ∷ []) same
firsts-more job (other ∷ races) race =
    let same : job + job_count other + batch_jobs races + job_count race ≡ job + (job_count other + batch_jobs races) + job_count race = omega arith in
    ap (λ ns. job ∷ ns) (firsts-more (job + job_count other) races race)
    ∙ ap (λ n. job ∷ (firsts_from (job + job_count other) races ++ n ∷ [])) same

jobs-suc : (races : List Race) (n : ℕ) (race : Race) → slice_get races n ≡ Some race → batch_jobs (take (suc n) races) ≡ batch_jobs (take n races) + job_count race
jobs-suc [] n race h = cc
jobs-suc (other ∷ races) zero race h = let same : job_count other ≡ job_count race = ap job_count (one_race other race h) in omega arith
  where
    one_race : (x y : Race) → Some x ≡ Some y → x ≡ y
    one_race x y e = cc
jobs-suc (other ∷ races) (suc n) race h = let i : batch_jobs (take (suc n) races) ≡ batch_jobs (take n races) + job_count race = jobs-suc races n race h in omega arith

add-one : (n : ℕ) → n + 1 ≡ suc n
add-one n = omega arith

pub jobs-more : (races : List Race) (n : ℕ) (race : Race) → slice_get races n ≡ Some race → batch_jobs (take (n + 1) races) ≡ batch_jobs (take n races) + job_count race
jobs-more races n race h = let F : ℕ → ℕ = λ m. batch_jobs (take m races) in ap F (add-one n) ∙ jobs-suc races n race h

pub jobs-le : (races : List Race) (n : ℕ) → batch_jobs (take n races) ≤ batch_jobs races
jobs-le [] zero = omega arith
jobs-le [] (suc n) = omega arith
jobs-le (race ∷ races) zero = omega arith
jobs-le (race ∷ races) (suc n) = let i : batch_jobs (take n races) ≤ batch_jobs races = jobs-le races n in omega arith

pub jobs-all : (races : List Race) (n : ℕ) → n ≡ length races → batch_jobs (take n races) ≡ batch_jobs races
jobs-all races n e = ap batch_jobs (take_all n races (omega arith))

pub job_at-first : (races : List Race) (n place job : ℕ) (race : Race) → slice_get races n ≡ Some race → place < job_count race → job ≡ batch_jobs (take n races) + place → job_at races job ≡ (n, place)
job_at-first [] n place job race h lt e = cc
job_at-first (other ∷ races) zero place job race h lt e =
    let same : job_count other ≡ job_count race = ap job_count (one_race other race h) in
    let is : job ≡ place = omega arith in
    let G : ℕ → ℕ × ℕ = λ m. (0, m) in
    cond-true _ _ _ (lt-ltb job (job_count other) (omega arith)) ∙ ap G is
  where
    one_race : (x y : Race) → Some x ≡ Some y → x ≡ y
    one_race x y e = cc
job_at-first (other ∷ races) (suc n) place job race h lt e =
    let i : job_at races (job - job_count other) ≡ (n, place) = job_at-first races n place (job - job_count other) race h lt (omega arith) in
    let G : ℕ × ℕ → ℕ × ℕ = λ p. (1 + p.0, p.1) in
    let H : ℕ → ℕ × ℕ = λ m. (m, place) in
    let next : 1 + n ≡ suc n = omega arith in
    cond-false _ _ _ (le-ltb job (job_count other) (omega arith)) ∙ (ap G i ∙ ap H next)

pub more-same : (known : List ℕ) → IsMore known known
more-same known job = omega arith

pub more-then : (xs ys zs : List ℕ) → IsMore xs ys → IsMore ys zs → IsMore xs zs
more-then xs ys zs f g job = let a : times job xs ≤ times job ys = f job in let b : times job ys ≤ times job zs = g job in omega arith

pub more-end : (xs ys zs : List ℕ) → ys ≡ xs ++ zs → IsMore xs ys
more-end xs ys zs e job = let a : times job ys ≡ times job xs + times job zs = ap (times job) e ∙ times-append job xs zs in omega arith

pub tried-more : (low high : ℕ) (old new : List ℕ) → IsTried low high old → IsMore old new → IsTried low high new
tried-more low high old new tried more job from to = let a : 0 < times job old = tried job from to in let b : times job old ≤ times job new = more job in omega arith

pub tried-none : (low high : ℕ) (known : List ℕ) → high ≤ low → IsTried low high known
tried-none low high known le job from to = absurd (omega arith)

pub tried-join : (low middle high : ℕ) (known : List ℕ) → IsTried low middle known → IsTried middle high known → IsTried low high known
tried-join low middle high known first second job from to =
    elim (cases_lt job middle) [
      | inl before ↦ first job from before
      | inr after ↦ second job after to
    ]

IsPlan : Race → Option (List Attempt) → Type 0
IsPlan race made = IfSome made (AreAttempts race)

pub plans-none : (races : List Race) (n : ℕ) → n ≡ length races → ArePlans races (replicate n None)
plans-none [] zero e = tt
plans-none [] (suc n) e = absurd (omega arith)
plans-none (race ∷ races) zero e = absurd (omega arith)
plans-none (race ∷ races) (suc n) e = (tt, plans-none races n (omega arith))

pub plans-set : (races : List Race) (plans : List (Option (List Attempt))) (n : ℕ) (made : Option (List Attempt)) → ArePlans races plans → ((race : Race) → slice_get races n ≡ Some race → IfSome made (AreAttempts race)) → ArePlans races (set plans n made)
plans-set [] [] n made are is = are
plans-set [] (plan ∷ plans) n made are is = absurd are
plans-set (race ∷ races) [] n made are is = absurd are
plans-set (race ∷ races) (plan ∷ plans) zero made are is = (is race refl, are.1)
plans-set (race ∷ races) (plan ∷ plans) (suc n) made are is = (are.0, plans-set races plans n made are.1 is)

pub plans-at : (races : List Race) (plans : List (Option (List Attempt))) (n : ℕ) (race : Race) (made : Option (List Attempt)) → ArePlans races plans → slice_get races n ≡ Some race → slice_get plans n ≡ Some made → IfSome made (AreAttempts race)
plans-at [] plans n race made are at there = cc
plans-at (other ∷ races) [] n race made are at there = absurd are
plans-at (other ∷ races) (plan ∷ plans) zero race made are at there = subst (λ (m : Option (List Attempt)). IfSome m (AreAttempts race)) (one _ _ there) (subst (λ (r : Race). IfSome plan (AreAttempts r)) (one_race _ _ at) are.0)
  where
    one : (x y : Option (List Attempt)) → Some x ≡ Some y → x ≡ y
    one x y e = cc

    one_race : (x y : Race) → Some x ≡ Some y → x ≡ y
    one_race x y e = cc
plans-at (other ∷ races) (plan ∷ plans) (suc n) race made are at there = plans-at races plans n race made are.1 at there

pub plans-length : (races : List Race) (plans : List (Option (List Attempt))) → ArePlans races plans → length plans ≡ length races
plans-length [] [] are = refl
plans-length [] (plan ∷ plans) are = absurd are
plans-length (race ∷ races) [] are = absurd are
plans-length (race ∷ races) (plan ∷ plans) are = ap suc (plans-length races plans are.1)

-- a worker begins with a race
pub trying_none : (races : List Race) (number : ℕ) (v : View) (done : List Done) (plans : List (Option (List Attempt))) → IsHeld races v done plans → IsTrying races number 0 v v done plans None
trying_none races number v done plans held = record {
  parts = refl;
  held = held;
  planned = λ race stands. tt;
  more = more-same v.known;
  tried = tried-none _ _ v.known (omega arith);
}

-- and goes on to the next place
pub trying_next : (races : List Race) (number place : ℕ) (old v w : View) (done more : List Done) (plans : List (Option (List Attempt))) (made next : Option (List Attempt)) (first : ℕ) → first ≡ batch_jobs (take number races) → IsTrying races number place old v done plans made
    → w.parts ≡ v.parts → w.known ≡ v.known ++ (first + place) ∷ [] → All (IsOfSuccess races) w.offers → IsSound races w more → ((race : Race) → slice_get races number ≡ Some race → IfSome next (AreAttempts race))
    → IsTrying races number (place + 1) old w more plans next
trying_next races number place old v w done more plans made next first is trying parts added real sound planned = let known : w.known ≡ v.known ++ (batch_jobs (take number races) + place) ∷ [] = added ∙ ap (λ (n : ℕ). v.known ++ (n + place) ∷ []) is in record {
  parts = parts ∙ trying.parts;
  held = record { real = real; sound = sound; planned = trying.held.planned };
  planned = planned;
  more = more-then old.known v.known w.known trying.more (more-end v.known w.known _ known);
  tried = tried-next (batch_jobs (take number races)) (batch_jobs (take number races) + place) (batch_jobs (take number races) + (place + 1)) v.known w.known trying.tried known (omega arith);
}

pub trying_tried : (races : List Race) (number place : ℕ) (old v : View) (done : List Done) (plans : List (Option (List Attempt))) (made : Option (List Attempt)) → IsTrying races number place old v done plans made → batch_jobs (take number races) + place ≡ batch_jobs (take (number + 1) races) → IsTried (batch_jobs (take number races)) (batch_jobs (take (number + 1) races)) v.known
trying_tried races number place old v done plans made trying end = subst (λ (n : ℕ). IsTried (batch_jobs (take number races)) n v.known) end trying.tried

-- the plan that was made is kept
pub trying_held : (races : List Race) (number place : ℕ) (old v : View) (done : List Done) (plans : List (Option (List Attempt))) (made : Option (List Attempt)) → IsTrying races number place old v done plans made → IsHeld races v done (set plans number made)
trying_held races number place old v done plans made trying = record {
  real = trying.held.real;
  sound = trying.held.sound;
  planned = plans-set races plans number made trying.held.planned trying.planned;
}

pub tried_none : (races : List Race) (from : ℕ) (v : View) (done : List Done) (plans : List (Option (List Attempt))) → IsHeld races v done plans → HasTried races from from v v done plans
tried_none races from v done plans held = record {
  parts = refl;
  held = held;
  more = more-same v.known;
  tried = tried-none _ _ v.known (omega arith);
}

pub tried_next : (races : List Race) (from to : ℕ) (old v w : View) (done more : List Done) (plans others : List (Option (List Attempt))) → HasTried races from to old v done plans → w.parts ≡ v.parts → IsMore v.known w.known → IsTried (batch_jobs (take to races)) (batch_jobs (take (to + 1) races)) w.known → IsHeld races w more others → HasTried races from (to + 1) old w more others
tried_next races from to old v w done more plans others tried parts grown last held = record {
  parts = parts ∙ tried.parts;
  held = held;
  more = more-then old.known v.known w.known tried.more grown;
  tried = tried-join (batch_jobs (take from races)) (batch_jobs (take to races)) (batch_jobs (take (to + 1) races)) w.known (tried-more _ _ v.known w.known tried.tried grown) last;
}

-- all races from one on, and then those before it
pub tried_all : (races : List Race) (first count : ℕ) (v w : View) (done : List Done) (plans : List (Option (List Attempt))) → count ≡ length races → IsTried (batch_jobs (take first races)) (batch_jobs (take count races)) v.known → IsMore v.known w.known → IsTried (batch_jobs (take 0 races)) (batch_jobs (take first races)) w.known → IsHeld races w done plans → IsWorked races w done plans
tried_all races first count v w done plans all later grown sooner held = record {
  tried = subst (λ (n : ℕ). IsTried 0 n w.known) (jobs-all races count all) (tried-join 0 (batch_jobs (take first races)) (batch_jobs (take count races)) w.known (tried-sooner sooner) (tried-more _ _ v.known w.known later grown));
  held = held;
}
  where
    tried-sooner : IsTried (batch_jobs (take 0 races)) (batch_jobs (take first races)) w.known → IsTried 0 (batch_jobs (take first races)) w.known
    tried-sooner tried = tried

-- nothing is in hand yet
pub held_none : (races : List Race) (v : View) (done : List Done) (plans : List (Option (List Attempt))) (n : ℕ) → IsBlank v → done ≡ [] → plans ≡ replicate n None → n ≡ length races → IsHeld races v done plans
held_none races v done plans n fresh none empty all =
    subst (λ (x : View). IsHeld races x done plans) (sym fresh) (subst (λ (d : List Done). IsHeld races (blank v.parts) d plans) (sym none) (subst (λ (p : List (Option (List Attempt))). IsHeld races (blank v.parts) [] p) (sym empty) (record {
      real = All-nil (IsOfSuccess races);
      sound = record { taken = refl; honest = All-nil P; below = All-nil Q };
      planned = plans-none races n all;
    })))
  where
    P : Done → Type 0
    P = λ d. IsHonestAt races (blank v.parts) (job_at races d.job) d.fate

    Q : Done → Type 0
    Q = λ d. d.job < batch_jobs races

-- the numbers of one race more
pub firsts_next : (races : List Race) (i : ℕ) (race : Race) (firsts more : List ℕ) (jobs n : ℕ) → i < length races → race ≡ get_or races i race → firsts ≡ firsts_from 0 (take i races) → jobs ≡ batch_jobs (take i races) → jobs ≤ i * PLACES → All (λ (r : Race). job_count r ≤ PLACES) (take i races) → n ≡ job_count race → n ≤ PLACES → more ≡ firsts ++ (jobs + n) ∷ []
    → (more ≡ firsts_from 0 (take (i + 1) races)) × (jobs + n ≡ batch_jobs (take (i + 1) races)) × (jobs + n ≤ (i + 1) * PLACES) × All (λ (r : Race). job_count r ≤ PLACES) (take (i + 1) races)
firsts_next races i race firsts more jobs n lt at numbers sum most few is small pushed =
    let step : take (i + 1) races ≡ take i races ++ race ∷ [] = take_more races i race lt ∙ ap (λ (r : Race). take i races ++ r ∷ []) (sym at) in
    let count : 0 + batch_jobs (take i races) + job_count race ≡ jobs + n = omega arith in
    let all : batch_jobs (take (i + 1) races) ≡ batch_jobs (take i races) + job_count race = jobs-more races i race (slice_get-get_or races i race lt ∙ ap (λ (r : Race). Some r) (sym at)) in (
      pushed ∙ (ap (λ (ns : List ℕ). ns ++ (jobs + n) ∷ []) numbers ∙ (ap (λ (m : ℕ). firsts_from 0 (take i races) ++ m ∷ []) (sym count) ∙ (sym (firsts-more 0 (take i races) race) ∙ ap (firsts_from 0) (sym step)))),
      omega arith,
      omega arith,
      subst (λ (rs : List Race). All (λ (r : Race). job_count r ≤ PLACES) rs) (sym step) (All-push (λ (r : Race). job_count r ≤ PLACES) (take i races) race few (let e : job_count race ≤ PLACES = omega arith in e)),
    )

pub first_is : (races : List Race) (firsts : List ℕ) (n d : ℕ) → firsts ≡ firsts_from 0 races → n ≤ length races → get_or firsts n d ≡ batch_jobs (take n races)
first_is races firsts n d e le = let is : get_or (firsts_from 0 races) n d ≡ 0 + batch_jobs (take n races) = firsts-at 0 n d races le in ap (λ (ns : List ℕ). get_or ns n d) e ∙ (is ∙ (let z : 0 + batch_jobs (take n races) ≡ batch_jobs (take n races) = omega arith in z))

pub first_within : (races : List Race) (firsts : List ℕ) (n : ℕ) → firsts ≡ firsts_from 0 races → n ≤ length races → n < length firsts
first_within races firsts n e le = let is : length firsts ≡ length races + 1 = ap (λ (ns : List ℕ). length ns) e ∙ firsts-length 0 races in omega arith

race_there : (races : List Race) (n : ℕ) → n < length races → (race : Race) × (slice_get races n ≡ Some race)
race_there [] n lt = absurd (omega arith)
race_there (race ∷ races) zero lt = (race, refl)
race_there (race ∷ races) (suc n) lt = race_there races n (omega arith)

few_there : (races : List Race) (n : ℕ) (race : Race) → All (λ (r : Race). job_count r ≤ PLACES) races → slice_get races n ≡ Some race → job_count race ≤ PLACES
few_there races n race few at = let here : job_count (get_or races n race) ≤ PLACES = few n race (slice_get_within races n race at) in subst (λ (r : Race). job_count r ≤ PLACES) (get_or_from_slice_get races n race race at) here

-- what the numbers tell of the jobs of a race
pub record AreJobs (races : List Race) (number first count : ℕ) : Type 0 where
  pub end : first + count ≡ batch_jobs (take (number + 1) races)
  pub few : count ≤ PLACES
  pub below : first + count ≤ batch_jobs races
  pub at : (place : ℕ) → place < count → job_at races (first + place) ≡ (number, place)

pub jobs_le : (races : List Race) (number : ℕ) → number < length races → batch_jobs (take number races) ≤ batch_jobs (take (number + 1) races)
jobs_le races number lt = let there = race_there races number lt in let more : batch_jobs (take (number + 1) races) ≡ batch_jobs (take number races) + job_count there.0 = jobs-more races number there.0 there.1 in omega arith

pub are_jobs : (races : List Race) (number first next : ℕ) → number < length races → All (λ (r : Race). job_count r ≤ PLACES) races → first ≡ batch_jobs (take number races) → next ≡ batch_jobs (take (number + 1) races) → AreJobs races number first (next - first)
are_jobs races number first next lt few is_first is_next =
    let there = race_there races number lt in
    let more : batch_jobs (take (number + 1) races) ≡ batch_jobs (take number races) + job_count there.0 = jobs-more races number there.0 there.1 in
    let most : job_count there.0 ≤ PLACES = few_there races number there.0 few there.1 in
    let all : batch_jobs (take (number + 1) races) ≤ batch_jobs races = jobs-le races (number + 1) in
    record {
      end = omega arith;
      few = omega arith;
      below = omega arith;
      at = λ place lt'. job_at-first races number place (first + place) there.0 there.1 (omega arith) (omega arith);
    }

pub jobs_next : (races : List Race) (i : ℕ) (race : Race) (jobs n : ℕ) → i < length races → race ≡ get_or races i race → jobs ≡ batch_jobs (take i races) → jobs ≤ i * PLACES → n ≡ job_count race → n ≤ PLACES → (jobs + n ≡ batch_jobs (take (i + 1) races)) × (jobs + n ≤ (i + 1) * PLACES)
jobs_next races i race jobs n lt at sum most is small =
    let all : batch_jobs (take (i + 1) races) ≡ batch_jobs (take i races) + job_count race = jobs-more races i race (slice_get-get_or races i race lt ∙ ap (λ (r : Race). Some r) (sym at)) in
    (omega arith, omega arith)
