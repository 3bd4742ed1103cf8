-- Files, one after the other.
use Rattle.std.proofs.Common.{◌≡◌, ◌≢◌, ◌≤◌, ◌⊎◌, ◌++◌, ◌∙◌, ℕ, zero, suc, Bool, true, false, List, [], ◌∷◌, Some, inl, inr, refl, sym, subst, arith, codes, drop, get_or, length, take}
use Rattle.std.proofs.lemmas.List.{take-append-drop}
use Rattle.std.specs.Borrow.{Bor}
use Rattle.he_stream.specs.declared.stream.InputStream as inputs
use Rattle.he_options.specs.Shown.{shown}
use Rattle.he_tasks.specs.Status.{first_fault}
use Rattle.he_tasks.specs.Texts.{OfText, RunsFile, RunsFiles}

pub first_of_three : (one two three : ℕ) → first_fault (first_fault one two) three ≡ first_fault one (first_fault two three)
first_of_three zero two three = refl
first_of_three (suc one) two three = refl

rest_done : (one two : ℕ) → first_fault one two ≡ 0 → two ≡ 0
rest_done zero two done = done
rest_done (suc one) two done = cc

both_done : (one two : ℕ) → one ≡ 0 → two ≡ 0 → first_fault one two ≡ 0
both_done one two done also = rw (done, also) refl

goes : (goes_on : Bool) (own others status : ℕ) → status ≡ first_fault own others → (goes_on ≡ true) ⊎ (status ≡ 0) → (goes_on ≡ true) ⊎ (others ≡ 0)
goes goes_on own others status is (inl on) = inl on
goes goes_on own others status is (inr done) = inr (rest_done own others (sym is ∙ done))

own_done : (own : ℕ) → (false ≡ true) ⊎ (own ≡ 0) → own ≡ 0
own_done own (inl never) = cc
own_done own (inr done) = done

-- all files of a front were read, whether they have faults or not, and then those after it
pub in_turn : {N I S : Type 0} (goes_on : Bool) (Runs : N → I → I → S → S → ℕ → Type 0) (front back : List N) (first next last : I) (before between after : S) (one rest : ℕ)
    → RunsFiles goes_on Runs front first next before between one → (goes_on ≡ true) ⊎ (one ≡ 0) → RunsFiles goes_on Runs back next last between after rest
    → RunsFiles goes_on Runs (front ++ back) first last before after (first_fault one rest)
in_turn goes_on Runs [] back first next last before between after one rest (same, kept, done) going others =
    rw (done, ← same, ← kept) others
in_turn goes_on Runs (name ∷ more) back first next last before between after one rest (inl (stops, fault, runs)) (inl on) others = cc
in_turn goes_on Runs (name ∷ more) back first next last before between after one rest (inl (stops, fault, runs)) (inr done) others = absurd (fault done)
in_turn goes_on Runs (name ∷ more) back first next last before between after one rest (inr (own, later, mid, middle, going_own, runs, walked, is)) going others =
    inr (
      own,
      first_fault later rest,
      mid,
      middle,
      going_own,
      runs,
      in_turn goes_on Runs more back mid next last middle between after later rest walked (goes goes_on own later one is going) others,
      rw is (first_of_three own later rest),
    )

-- one of a front has a fault, and those after it are left out
pub cut_short : {N I S : Type 0} (Runs : N → I → I → S → S → ℕ → Type 0) (front back : List N) (first last : I) (before after : S) (one : ℕ)
    → RunsFiles false Runs front first last before after one → one ≢ 0 → RunsFiles false Runs (front ++ back) first last before after one
cut_short Runs [] back first last before after one (same, kept, done) fault = absurd (fault done)
cut_short Runs (name ∷ more) back first last before after one (inl (stops, wrong, runs)) fault = inl (stops, wrong, runs)
cut_short Runs (name ∷ more) back first last before after one (inr (own, rest, next, between, going, runs, walked, is)) fault =
    inr (
      own,
      rest,
      next,
      between,
      going,
      runs,
      cut_short Runs more back next last between after rest walked (λ e. fault (is ∙ both_done own rest (own_done own going) e)),
      is,
    )

none_after : (own : ℕ) → own ≡ first_fault own 0
none_after zero = refl
none_after (suc own) = refl

-- a file alone
pub alone : {N I S : Type 0} (goes_on : Bool) (Runs : N → I → I → S → S → ℕ → Type 0) (name : N) (first last : I) (before after : S) (own : ℕ)
    → Runs name first last before after own → RunsFiles goes_on Runs (name ∷ []) first last before after own
alone true Runs name first last before after own runs =
    inr (own, 0, last, after, inl refl, runs, (refl, refl, refl), none_after own)
alone false Runs name first last before after zero runs = inr (0, 0, last, after, inr refl, runs, (refl, refl, refl), refl)
alone false Runs name first last before after (suc own) runs = inl (refl, (λ e. cc), runs)

-- the same, of a list that is no longer
pub only_one : {N I S : Type 0} (goes_on : Bool) (Runs : N → I → I → S → S → ℕ → Type 0) (names : List N) (default : N) (first last : I) (before after : S) (own : ℕ)
    → 1 ≤ length names → length names ≤ 1 → Runs (get_or names 0 default) first last before after own → RunsFiles goes_on Runs names first last before after own
only_one goes_on Runs [] default first last before after own some few runs = absurd (omega arith)
only_one goes_on Runs (name ∷ []) default first last before after own some few runs = alone goes_on Runs name first last before after own runs
only_one goes_on Runs (name ∷ next ∷ more) default first last before after own some few runs = absurd (omega arith)

halves : {N : Type 0} (names front back : List N) (half : ℕ) → front ≡ take half names → back ≡ drop half names → front ++ back ≡ names
halves names front back half one two = rw (one, two) (take-append-drop half names)

-- the two halves of a list, one after the other
pub both_halves : {N I S : Type 0} (goes_on : Bool) (Runs : N → I → I → S → S → ℕ → Type 0) (names front back : List N) (half : ℕ) (first next last : I) (before between after : S) (one rest status : ℕ)
    → front ≡ take half names → back ≡ drop half names → RunsFiles goes_on Runs front first next before between one → (goes_on ≡ true) ⊎ (one ≡ 0)
    → RunsFiles goes_on Runs back next last between after rest → status ≡ first_fault one rest → RunsFiles goes_on Runs names first last before after status
both_halves goes_on Runs names front back half first next last before between after one rest status is_front is_back fronts going backs is =
    subst (λ n. RunsFiles goes_on Runs names first last before after n) (sym is)
    (subst (λ list. RunsFiles goes_on Runs list first last before after (first_fault one rest)) (halves names front back half is_front is_back)
    (in_turn goes_on Runs front back first next last before between after one rest fronts going backs))

-- one of the first half has a fault, and the second half is left out
pub half_short : {N I S : Type 0} (goes_on : Bool) (Runs : N → I → I → S → S → ℕ → Type 0) (names front back : List N) (half : ℕ) (first last : I) (before after : S) (one : ℕ)
    → front ≡ take half names → back ≡ drop half names → goes_on ≡ false → one ≢ 0
    → RunsFiles goes_on Runs front first last before after one → RunsFiles goes_on Runs names first last before after one
half_short true Runs names front back half first last before after one is_front is_back stops fault fronts = cc
half_short false Runs names front back half first last before after one is_front is_back stops fault fronts =
    subst (λ list. RunsFiles false Runs list first last before after one) (halves names front back half is_front is_back)
    (cut_short Runs front back first last before after one fronts fault)

-- a file that was opened, whose text is shown by its name
pub of_file : {I F S : Type 0} (Runs : OfText S) (input : inputs.Ghosts I) (file : inputs.Ghosts F) (name : Bor (List ℕ)) (text : List ℕ) (first : I) (opened closed : F) (before after : S) (status : ℕ)
    → text ≡ shown name.now → name.now ≢ codes "-" → Runs (Some (record { path = name.now; shown = text })) F file opened closed before after status
    → RunsFile Runs input file name first first before after status
of_file {I} {F} Runs input file name text first opened closed before after status same other runs =
    inr (other, refl, inl (opened, closed, subst (λ t. Runs (Some (record { path = name.now; shown = t })) F file opened closed before after status) same runs))
