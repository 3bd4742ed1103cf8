-- What the workers handed back: a fate of each job, and of each attempt of a race.
use Rattle.std.proofs.Common.{get_or, ◌≡◌, ◌⊎◌, ℕ, zero, suc, ◌+◌, ◌-◌, ◌<◌, ◌≤◌, Bool, cond, set, ne_eqb, List, [], ◌∷◌, ◌++◌, length, length-take, length-drop, map, take, drop, replicate, Option, Some, Result, Ok, Err, IfOk, refl, sym, subst, ap, ◌∙◌, inl, inr, ⊎_elim, arith}
use Rattle.std.specs.List.{All, AllZip, Contains, slice_get, slice_range}
use Rattle.std.proofs.lemmas.Bool.{cases_eq, cases_lt, cond-true, cond-false, lt-ltb, le-ltb}
use Rattle.std.proofs.lemmas.List.{length-set, take_all, take_more}
use Rattle.std.proofs.lemmas.List.Elements.{All-contains, All-head, All-tail}
use Rattle.std.proofs.lemmas.Option.{slice_get_within}
use Rattle.he_board.specs.declared.limits.TheConstants.{PLACES}
use Rattle.he_board.specs.declared.view.View.{View}
use Rattle.he_board.specs.Notes.{least_of, looking, times, winner_of}
use Rattle.he_plan.specs.declared.attempts.Attempt.{Attempt}
use Rattle.he_plan.specs.declared.finish.Fate.{Fate}
use Rattle.he_plan.specs.declared.finish.Fate.TheVariants.{Skipped}
use Rattle.he_plan.specs.Attempts.{AreAttempts}
use Rattle.he_timeline.specs.Race.{Race}
use Rattle.he_timeline.specs.Timeline.{IsRace}
use Rattle.he_plan.specs.Transcript.{AreTold, IsTranscript, Report}
use Rattle.he_plan.proofs.Few.{plan-few}
use Rattle.he_pool.specs.declared.attempting.Done.{Done}
use Rattle.he_pool.specs.Batch.{HasTakenAll, HasWinners, IsOfSuccess, IsWinnerOf, batch_jobs, job_at, job_count}
use Rattle.he_pool.specs.Working.{AreFates, AreHonestTold, AreSettled, IsHonestAt, IsKept, IsWorked, filled}
use Rattle.he_pool.proofs.Pooling.{honest_at_later, later_then, looked_later}
use Rattle.he_pool.proofs.Winning.{settled}
use Rattle.he_pool.proofs.Trying.{job_at-first, jobs-le, jobs-more}

abbrev job_of : Done → ℕ
job_of d = d.job

abbrev done_of : ℕ → Fate → Done
done_of job fate = record { job = job; fate = fate }

contains_first : (x : Done) (xs : List Done) → Contains (x ∷ xs) x
contains_first x xs = (0, omega arith, refl)

contains_later : (x y : Done) (xs : List Done) → Contains xs y → Contains (x ∷ xs) y
contains_later x y xs (k, near, is) = (suc k, omega arith, is)

set_same : (fates : List Fate) (n : ℕ) (a b : Fate) → slice_get (set fates n a) n ≡ Some b → a ≡ b
set_same [] n a b h = cc
set_same (f ∷ fates) zero a b h = cc
set_same (f ∷ fates) (suc n) a b h = set_same fates n a b h

set_other : (fates : List Fate) (n m : ℕ) (a b : Fate) → (n ≡ m → ⊥) → slice_get (set fates n a) m ≡ Some b → slice_get fates m ≡ Some b
set_other [] n m a b ne h = cc
set_other (f ∷ fates) zero zero a b ne h = absurd (ne refl)
set_other (f ∷ fates) zero (suc m) a b ne h = h
set_other (f ∷ fates) (suc n) zero a b ne h = h
set_other (f ∷ fates) (suc n) (suc m) a b ne h = set_other fates n m a b (λ e. ne (ap suc e)) h

filled_length : (done : List Done) (fates : List Fate) → length (filled done fates) ≡ length fates
filled_length [] fates = refl
filled_length (d ∷ done) fates = filled_length done (set fates d.job d.fate) ∙ length-set fates d.job d.fate

-- what stands in the table of a job was handed back of it, or stood there before
filled_at : (done : List Done) (fates : List Fate) (job : ℕ) (fate : Fate) → slice_get (filled done fates) job ≡ Some fate → Contains done (done_of job fate) ⊎ ((slice_get fates job ≡ Some fate) × (times job (map job_of done) ≡ 0))
filled_at [] fates job fate h = inr (h, refl)
filled_at (d ∷ done) fates job fate h =
    elim (filled_at done (set fates d.job d.fate) job fate h) [
      | inl later ↦ inl (contains_later d (done_of job fate) done later)
      | inr (there, none) ↦ elim (cases_eq d.job job) [
        | inl same ↦
            let set : slice_get (set fates job d.fate) job ≡ Some fate = subst (λ (n : ℕ). slice_get (set fates n d.fate) job ≡ Some fate) same there in
            let is : d.fate ≡ fate = set_same fates job d.fate fate set in
            let whole : d ≡ done_of job fate = ap (λ (n : ℕ). done_of n d.fate) same ∙ ap (λ (f : Fate). done_of job f) is in
            inl (subst (λ (x : Done). Contains (d ∷ done) x) whole (contains_first d done))
        | inr other ↦
            let F : Bool → ℕ = λ b. cond b 1 0 + times job (map job_of done) in
            let zero_too : 0 + times job (map job_of done) ≡ 0 = omega (arith, none) in
            inr (set_other fates d.job job d.fate fate other there, ap F (ne_eqb d.job job other) ∙ zero_too)
      ]
    ]

pub fates_are : (races : List Race) (v : View) (done : List Done) (plans : List (Option (List Attempt))) (n : ℕ) → IsWorked races v done plans → n ≡ batch_jobs races → AreFates races v (filled done (replicate n Skipped))
fates_are races v done plans n worked all = record {
  size = filled_length done (replicate n Skipped) ∙ (length_replicate n ∙ all);
  tried = worked.tried;
  honest = λ job fate at taken. ⊎_elim
      (λ (there : Contains done (done_of job fate)). All-contains (λ (d : Done). IsHonestAt races v (job_at races d.job) d.fate) done (done_of job fate) worked.held.sound.honest there)
      (λ (none : (slice_get (replicate n Skipped) job ≡ Some fate) × (times job (map job_of done) ≡ 0)).
      let same : times job v.taken ≡ times job (map job_of done) = ap (times job) worked.held.sound.taken in
      let zero_too : times job (map job_of done) ≡ 0 = none.1 in
      absurd (omega arith))
      (filled_at done (replicate n Skipped) job fate at);
}
  where
    length_replicate : (n : ℕ) → length (replicate n Skipped) ≡ n
    length_replicate zero = refl
    length_replicate (suc n) = ap suc (length_replicate n)

pub fates_kept : (races : List Race) (v w : View) (fates : List Fate) → IsKept v w → AreFates races v fates → AreFates races w fates
fates_kept races v w fates kept are = record {
  size = are.size;
  tried = λ job from to. let same : times job w.known ≡ times job v.known = ap (times job) kept.known in let some : 0 < times job v.known = are.tried job from to in omega arith;
  honest = λ job fate at taken.
      let same : times job w.taken ≡ times job v.taken = ap (times job) kept.taken in
      honest_at_later races v w (job_at races job) fate kept.later (are.honest job fate at (omega arith));
}

get_drop : (fates : List Fate) (n place : ℕ) → slice_get (drop n fates) place ≡ slice_get fates (n + place)
get_drop fates zero place = let F : ℕ → Option Fate = λ m. slice_get fates m in let e : place ≡ 0 + place = omega arith in ap F e
get_drop [] (suc n) place = refl
get_drop (f ∷ fates) (suc n) place = let F : ℕ → Option Fate = λ m. slice_get (f ∷ fates) m in let e : suc (n + place) ≡ suc n + place = omega arith in get_drop fates n place ∙ ap F e

get_take : (fates : List Fate) (n place : ℕ) → place < n → slice_get (take n fates) place ≡ slice_get fates place
get_take fates zero place lt = absurd (omega arith)
get_take [] (suc n) place lt = refl
get_take (f ∷ fates) (suc n) zero lt = refl
get_take (f ∷ fates) (suc n) (suc place) lt = get_take fates n place (omega arith)

-- the fates of a race's attempts stand from its first job on
pub told_honest : (races : List Race) (race : Race) (number : ℕ) (v : View) (attempts : List Attempt) (fates : List Fate) → slice_get races number ≡ Some race → AreAttempts race attempts → AreFates races v fates
    → ((job : ℕ) → 0 < times job v.known → times job v.taken ≡ 1)
    → AreHonestTold race number v attempts (take (length attempts) (drop (batch_jobs (take number races)) fates))
told_honest races race number v attempts fates stands are ready once =
    let few : length attempts ≤ job_count race = plan-few race attempts are in
    let more : batch_jobs (take (number + 1) races) ≡ batch_jobs (take number races) + job_count race = jobs-more races number race stands in
    let all : batch_jobs (take (number + 1) races) ≤ batch_jobs races = jobs-le races (number + 1) in
    let size : length fates ≡ batch_jobs races = ready.size in
    record {
      size = omega (arith, length-take (length attempts) (drop (batch_jobs (take number races)) fates), length-drop (batch_jobs (take number races)) fates);
      honest = λ place x fate at there.
          let lt : place < length attempts = slice_get_within attempts place x at in
          let in_table : slice_get fates (batch_jobs (take number races) + place) ≡ Some fate = sym (get_drop fates (batch_jobs (take number races)) place) ∙ (sym (get_take (drop (batch_jobs (take number races)) fates) (length attempts) place lt) ∙ there) in
          let known : 0 < times (batch_jobs (take number races) + place) v.known = ready.tried (batch_jobs (take number races) + place) (omega arith) (omega arith) in
          let taken : times (batch_jobs (take number races) + place) v.taken ≡ 1 = once (batch_jobs (take number races) + place) known in
          let is : IsHonestAt races v (job_at races (batch_jobs (take number races) + place)) fate = ready.honest (batch_jobs (take number races) + place) fate in_table (omega arith) in
          let here : IsHonestAt races v (number, place) fate = subst (λ (p : ℕ × ℕ). IsHonestAt races v p fate) (job_at-first races number place (batch_jobs (take number races) + place) race stands (omega arith) refl) is in
          here race stands attempts are x at;
    }

pub enough : (races : List Race) (race : Race) (number : ℕ) (v : View) (attempts : List Attempt) (fates : List Fate) → slice_get races number ≡ Some race → AreAttempts race attempts → AreFates races v fates → batch_jobs (take number races) + length attempts ≤ length fates
enough races race number v attempts fates stands are ready =
    let few : length attempts ≤ job_count race = plan-few race attempts are in
    let more : batch_jobs (take (number + 1) races) ≡ batch_jobs (take number races) + job_count race = jobs-more races number race stands in
    let all : batch_jobs (take (number + 1) races) ≤ batch_jobs races = jobs-le races (number + 1) in
    let size : length fates ≡ batch_jobs races = ready.size in
    omega arith

pub looked_kept : (u v w : View) (number value : ℕ) → IsKept u v → w ≡ looking number value v → IsKept u w
looked_kept u v w number value kept e = record {
  parts = ap (λ (x : View). x.parts) e ∙ kept.parts;
  taken = ap (λ (x : View). x.taken) e ∙ kept.taken;
  known = ap (λ (x : View). x.known) e ∙ kept.known;
  offers = ap (λ (x : View). x.offers) e ∙ kept.offers;
  later = later_then u v w kept.later (looked_later number value v w e);
}

pub kept_same : (v : View) → IsKept v v
kept_same v = record { parts = refl; taken = refl; known = refl; offers = refl; later = record { offers = λ r. omega arith; looked = λ r. omega arith } }

all_zip_suc : (races : List Race) (reports : List Report) (n : ℕ) (race : Race) (report : Report) → slice_get races n ≡ Some race → AllZip IsTranscript (take n races) reports → IsTranscript race report → AllZip IsTranscript (take (suc n) races) (reports ++ report ∷ [])
all_zip_suc [] reports n race report at are is = cc
all_zip_suc (other ∷ races) [] zero race report at are is = (subst (λ (r : Race). IsTranscript r report) (sym (one other race at)) is, tt)
  where
    one : (x y : Race) → Some x ≡ Some y → x ≡ y
    one x y e = cc
all_zip_suc (other ∷ races) (first ∷ reports) zero race report at are is = absurd are
all_zip_suc (other ∷ races) [] (suc n) race report at are is = absurd are
all_zip_suc (other ∷ races) (first ∷ reports) (suc n) race report at are is = (are.0, all_zip_suc races reports n race report at are.1 is)

all_zip_more : (races : List Race) (reports : List Report) (n : ℕ) (race : Race) (report : Report) → slice_get races n ≡ Some race → AllZip IsTranscript (take n races) reports → IsTranscript race report → AllZip IsTranscript (take (n + 1) races) (reports ++ report ∷ [])
all_zip_more races reports n race report at are is = let next : suc n ≡ n + 1 = omega arith in subst (λ (m : ℕ). AllZip IsTranscript (take m races) (reports ++ report ∷ [])) next (all_zip_suc races reports n race report at are is)

-- one race more is settled
pub settled_more : (races : List Race) (n : ℕ) (v w : View) (value : ℕ) (reports : List Report) (race : Race) (report : Report) → AreSettled races n v reports → w ≡ looking n value v → slice_get races n ≡ Some race
    → ((job : ℕ) → 0 < times job v.known → times job v.taken ≡ 1) → IsWinnerOf race (winner_of (least_of n v.offers)) → IsTranscript race report
    → AreSettled races (n + 1) w (reports ++ report ∷ [])
settled_more races n v w value reports race report settled e at once wins is = subst (λ (u : View). AreSettled races (n + 1) u (reports ++ report ∷ [])) (sym e) (record {
  transcripts = all_zip_more races reports n race report at settled.transcripts is;
  winners = λ number other lt stands. elim (cases_lt number n) [
    | inl before ↦ settled.winners number other before stands
    | inr after ↦
        let last : n ≡ number = omega arith in
        let there : slice_get races n ≡ Some other = subst (λ (m : ℕ). slice_get races m ≡ Some other) (sym last) stands in
        let same : race ≡ other = one race other (sym at ∙ there) in
        subst (λ (m : ℕ). IsWinnerOf other (winner_of (least_of m v.offers))) last (subst (λ (r : Race). IsWinnerOf r (winner_of (least_of n v.offers))) same wins)
  ];
  once = λ some. once;
})
  where
    one : (x y : Race) → Some x ≡ Some y → x ≡ y
    one x y e = cc

none_above : (job n : ℕ) (done : List Done) → n ≤ job → All (λ (d : Done). d.job < n) done → times job (map job_of done) ≡ 0
none_above job n [] le below = refl
none_above job n (d ∷ done) le below =
    let here : d.job < n = All-head (λ (d : Done). d.job < n) d done below in
    let F : Bool → ℕ = λ b. cond b 1 0 + times job (map job_of done) in
    let none : times job (map job_of done) ≡ 0 = none_above job n done le (All-tail (λ (d : Done). d.job < n) d done below) in
    let rest : 0 + times job (map job_of done) ≡ 0 = omega arith in
    ap F (ne_eqb d.job job (λ e. absurd (omega arith))) ∙ rest

pub all_taken : (races : List Race) (v w : View) (done : List Done) (plans : List (Option (List Attempt))) (reports : List Report) → IsWorked races v done plans → IsKept v w → AreSettled races (length races) w reports → HasTakenAll races w
all_taken races v w done plans reports worked kept settled job =
    elim (cases_lt job (batch_jobs races)) [
      | inl below ↦
          let known : 0 < times job v.known = worked.tried job (omega arith) below in
          let same : times job w.known ≡ times job v.known = ap (times job) kept.known in
          settled.once (some_race races below) job (omega arith) ∙ sym (cond-true _ 1 0 (lt-ltb job (batch_jobs races) below))
      | inr above ↦
          ap (times job) kept.taken ∙ (ap (times job) worked.held.sound.taken ∙ (none_above job (batch_jobs races) done above worked.held.sound.below ∙ sym (cond-false _ 1 0 (le-ltb job (batch_jobs races) above))))
    ]
  where
    some_race : (races : List Race) → job < batch_jobs races → 0 < length races
    some_race [] below = absurd (omega arith)
    some_race (race ∷ races) below = omega arith

pub winners_all : (races : List Race) (w : View) (reports : List Report) → AreSettled races (length races) w reports → HasWinners races w
winners_all races w reports settled number race stands = settled.winners number race (slice_get_within races number race stands) stands

pub transcripts_all : (races : List Race) (w : View) (reports : List Report) → AreSettled races (length races) w reports → AllZip IsTranscript races reports
transcripts_all races w reports settled = subst (λ (rs : List Race). AllZip IsTranscript rs reports) (take_all (length races) races (omega arith)) settled.transcripts

pub if_ok_all : {X E : Type 0} (r : Result X E) (P : Type 0) → P → IfOk r (λ x. P)
if_ok_all (Ok x) P p = p
if_ok_all (Err e) P p = tt

same_race : (x y : Race) → Some x ≡ Some y → x ≡ y
same_race x y e = cc

pub told_of : {E : Type 0} (race other : Race) (r : Result Report E) → Some race ≡ Some other → IfOk r (IsTranscript race) → IfOk r (IsTranscript other)
told_of {E} race other r e told = subst (λ (x : Race). IfOk r (IsTranscript x)) (same_race race other e) told

pub won_by : (race other : Race) (winner : Option (ℕ × ℕ)) → Some race ≡ Some other → IsWinnerOf race winner → IsWinnerOf other winner
won_by race other winner e wins = subst (λ (x : Race). IsWinnerOf x winner) (same_race race other e) wins

-- what the winner word and the fates tell of a race
pub race_settled : (races : List Race) (race : Race) (number first : ℕ) (v : View) (attempts : List Attempt) (fates : List Fate) (winner : Option (ℕ × ℕ)) → slice_get races number ≡ Some race → IsRace race → AreAttempts race attempts → job_count race ≤ PLACES → All (IsOfSuccess races) v.offers → AreFates races v fates
    → ((job : ℕ) → 0 < times job v.known → times job v.taken ≡ 1) → least_of number v.offers ≤ least_of number v.looked → first ≡ batch_jobs (take number races) → winner ≡ winner_of (least_of number v.offers)
    → IsWinnerOf race (winner_of (least_of number v.offers)) × AreTold race attempts (slice_range fates first (first + length attempts)) winner
race_settled races race number first v attempts fates winner stands is_race are few real ready once below is wins =
    let fewer : length attempts ≤ job_count race = plan-few race attempts are in
    let told = take (length attempts) (drop (batch_jobs (take number races)) fates) in
    let all = settled races race number v attempts (take (length attempts) (drop (batch_jobs (take number races)) fates)) stands is_race are (omega arith) real (told_honest races race number v attempts fates stands are ready once) below in
    let count : length attempts ≡ first + length attempts - first = omega arith in
    let P : ℕ → Type 0 = λ n. AreTold race attempts (take n (drop first fates)) winner in
    let Q : ℕ → Type 0 = λ n. AreTold race attempts (take (length attempts) (drop n fates)) winner in
    let R : Option (ℕ × ℕ) → Type 0 = λ w. AreTold race attempts (take (length attempts) (drop (batch_jobs (take number races)) fates)) w in
    (record { attempts = attempts; are = are; wins = all.0 }, subst P count (subst Q (sym is) (subst R (sym wins) all.1)))

pub settled_none : (races : List Race) (v : View) → AreSettled races 0 v []
settled_none races v = record {
  transcripts = nothing_told races;
  winners = λ number race lt stands. absurd (omega arith);
  once = λ some. absurd (omega arith);
}
  where
    nothing_told : (races : List Race) → AllZip IsTranscript (take 0 races) []
    nothing_told [] = tt
    nothing_told (race ∷ races) = tt

filled_end : (done : List Done) (d : Done) (fates : List Fate) → filled (done ++ d ∷ []) fates ≡ set (filled done fates) d.job d.fate
filled_end [] d fates = refl
filled_end (first ∷ done) d fates = filled_end done d (set fates first.job first.fate)

pub filled_next : (done : List Done) (i : ℕ) (d : Done) (fates more start : List Fate) → i < length done → fates ≡ filled (take i done) start → more ≡ set fates (get_or done i d).job (get_or done i d).fate → more ≡ filled (take (i + 1) done) start
filled_next done i d fates more start lt is put =
    put ∙ (ap (λ (f : List Fate). set f (get_or done i d).job (get_or done i d).fate) is ∙ (sym (filled_end (take i done) (get_or done i d) start) ∙ ap (λ (ds : List Done). filled ds start) (sym (take_more done i d lt))))

pub if_ok_map : {X E : Type 0} (r : Result X E) (P Q : X → Type 0) → ((x : X) → P x → Q x) → IfOk r P → IfOk r Q
if_ok_map (Ok x) P Q f p = f x p
if_ok_map (Err e) P Q f p = tt

pub some_race : (races : List Race) (n : ℕ) → n < length races → (race : Race) × (slice_get races n ≡ Some race)
some_race [] n lt = absurd (omega arith)
some_race (race ∷ races) zero lt = (race, refl)
some_race (race ∷ races) (suc n) lt = some_race races n (omega arith)
