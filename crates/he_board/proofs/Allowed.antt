-- What the table asks of each step, for the steps of a pass.
use Rattle.std.proofs.Common.{◌≡◌, ℕ, ◌<◌, ◌≤◌, cond, nat_eq, min, List, get_or, set, refl, sym, subst, arith}
use mathlib.Core.Option.{none}
use Rattle.std.proofs.lemmas.List.{set-get_or}
use Rattle.atomic_table.specs.Table.{Me, step, keeps, Allows, Splits, Joins}
use Rattle.atomic_table.proofs.Lists.{set_again}
use Rattle.he_board.specs.declared.limits.TheConstants.{PARTS, NO_OFFER}
use Rattle.he_board.specs.declared.view.View.{View}
use Rattle.he_board.specs.declared.view.Layout.{Layout}
use Rattle.he_board.specs.Notes.{blank, taking, knowing, looking, offering, kept, given, joined}
use Rattle.he_board.specs.Balance.{winner_word, job_word, Balanced, IsBalanced}
use Rattle.he_board.specs.Plays.{IsAtMostNoted, IsDecided, job_swapped, winner_loaded, winner_lowered, parts_counted}
use Rattle.he_board.proofs.Keeping.{at_most_noted, decided, parts_within, taken_by_all, swap_keeps, look_keeps, lower_keeps, fork_keeps, rejoin_keeps}

module _ {S : Type 0} (k : Layout) (slots id : ℕ) (me : Me S View) (some_part : 0 < me.0.parts) where
  pub may_swap : (job : ℕ) → job < k.jobs → Allows (IsBalanced {S = S} k) slots id me (job_word job) (λ _. 1) (job_swapped (step slots (job_word job) 1 0 none) me)
  may_swap job near s law long at word =
      let n : ℕ = get_or s.words (job_word job) 0 in
      let w : View = cond (nat_eq n 0) (taking job me.0) (knowing job me.0) in (
        w,
        keeps,
        tt,
        swap_keeps k.jobs k.races s.words s.views law id me.0 at some_part job near,
        λ j e. let F : ℕ → Type 0 = λ i. (w ≡ cond (nat_eq n 0) (taking i me.0) (knowing i me.0)) × (me.1 ≡ me.1) in
            let same : job ≡ j = omega arith in subst F same (refl, refl),
      )

  pub may_look : (race : ℕ) → race < k.races → Allows (IsBalanced {S = S} k) slots id me (winner_word race) (λ n. n) (winner_loaded (step slots (winner_word race) 0 0 none) me)
  may_look race near s law long at word =
      let n : ℕ = get_or s.words (winner_word race) 0 in
      let w : View = looking race n me.0 in (
        w,
        keeps,
        tt,
        subst (λ (ws : List ℕ). Balanced k.jobs k.races ws (set s.views id w)) (sym (set-get_or s.words (winner_word race) 0)) (look_keeps k.jobs k.races s.words s.views law id me.0 at some_part race near),
        λ r e. let F : ℕ → Type 0 = λ i. (w ≡ looking i n me.0) × (me.1 ≡ me.1) × IsAtMostNoted i n me.0 × (me.0.parts ≡ PARTS → IsDecided i n me.0) in
            let same : race ≡ r = omega arith in
            subst F same (refl, refl, at_most_noted k.jobs k.races s.words s.views law id me.0 at some_part race near, decided k.jobs k.races s.words s.views law id me.0 at some_part race near),
      )

  pub may_lower : (race key : ℕ) → race < k.races → key < NO_OFFER → Allows (IsBalanced {S = S} k) slots id me (winner_word race) (λ n. min n key) (winner_lowered (step slots (winner_word race) key 0 none) me)
  may_lower race key near fits s law long at word =
      let n : ℕ = get_or s.words (winner_word race) 0 in
      let w : View = offering race key n me.0 in (
        w,
        keeps,
        tt,
        lower_keeps k.jobs k.races s.words s.views law id me.0 at some_part race key near fits,
        λ r e. let F : ℕ → Type 0 = λ i. (w ≡ offering i key n me.0) × (me.1 ≡ me.1) × IsAtMostNoted i n me.0 in
            let same : race ≡ r = omega arith in
            subst F same (refl, refl, at_most_noted k.jobs k.races s.words s.views law id me.0 at some_part race near),
      )

  pub may_count : Allows (IsBalanced {S = S} k) slots id me 0 (λ n. n) (parts_counted (step slots 0 0 0 none) me)
  may_count s law long at word = (
    me.0,
    keeps,
    tt,
    subst (λ (ws : List ℕ). Balanced k.jobs k.races ws (set s.views id me.0)) (sym (set-get_or s.words 0 0)) (subst (λ (vs : List View). Balanced k.jobs k.races s.words vs) (sym (set_again s.views id me.0 at)) law),
    (
      refl,
      refl,
      parts_within k.jobs k.races s.words s.views law id me.0 at some_part,
      taken_by_all k.jobs k.races s.words s.views law id me.0 at some_part,
    ),
  )

module _ {S : Type 0} (k : Layout) (id : ℕ) (v : View) where
  pub may_fork : 2 ≤ v.parts → Splits (IsBalanced {S = S} k) id v (kept v) (given v)
  may_fork enough s law at = fork_keeps k.jobs k.races s.words s.views id v law at enough

  pub may_rejoin : (other : ℕ) (w : View) → 0 < v.parts → Joins (IsBalanced {S = S} k) id v other w (joined v w) (blank 0)
  may_rejoin other w some_part s law at apart there = rejoin_keeps k.jobs k.races s.words s.views id v other w law at apart there some_part
