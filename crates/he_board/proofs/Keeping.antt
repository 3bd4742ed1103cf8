-- Each step keeps the board's rule.
use Rattle.std.proofs.Common.{◌≡◌, ◌≢◌, ℕ, zero, suc, ◌+◌, ◌-◌, ◌/◌, ◌<◌, ◌≤◌, Bool, true, cond, nat_eq, eq-eqb, ne_eqb, min, List, [], ◌∷◌, ◌++◌, length, get_or, set, refl, sym, ap, ◌∙◌, subst, ⊎_elim, arith}
use mathlib.Core.Logic.{dite}
use mathlib.Core.Option.{some, some-ne-none}
use native.Mathlib.Decide.{ℕ_discrete}
use lib.ListN.{get_elem?, length-set}
use Rattle.std.proofs.lemmas.List.{get_or-set_same, get_or-set_other}
use Rattle.atomic_table.proofs.Lists.{at_set, at_snoc, set_else}
use Rattle.he_board.specs.declared.limits.TheConstants.{RACES, PARTS, NO_OFFER}
use Rattle.he_board.specs.declared.view.View.{View}
use Rattle.he_board.specs.Notes.{times, least_of, count_of, are_keys, blank, taking, knowing, looking, offering, kept, given, joined}
use Rattle.he_board.specs.Balance.{total, least, winner_word, job_word, takers, knowers, least_offer, least_looked, Balanced}
use Rattle.he_board.specs.Plays.{IsAtMostNoted, IsDecided, IsTakenOnce}
use Rattle.he_board.proofs.Lists.{times-append, times-one_same, times-one_other, least_of-le_top, least_of-append, least_of-one_same, least_of-one_other, least_of-none, count_of-none, are_keys-append, one_key}
use Rattle.he_board.proofs.Sums.{total-set, total-same, total-snoc, total-at, total-alone, least-le_top, least-set, least-same, least-snoc, least-at, least-drop, least-alone}

abbrev pub parts_of : View → ℕ
parts_of v = v.parts

abbrev pub taken_of : ℕ → View → ℕ
taken_of job v = times job v.taken

abbrev pub known_of : ℕ → View → ℕ
known_of job v = times job v.known

abbrev pub offer_of : ℕ → View → ℕ
offer_of race v = least_of race v.offers

abbrev pub looked_of : ℕ → View → ℕ
looked_of race v = least_of race v.looked

-- one view changes, and what is said of each view alone holds of the new one
pub keys_set : (views : List View) (id : ℕ) (w : View) → ((i : ℕ) (u : View) → get_elem? views i ≡ some u → are_keys u.offers ≡ true) → are_keys w.offers ≡ true
    → (i : ℕ) (u : View) → get_elem? (set views id w) i ≡ some u → are_keys u.offers ≡ true
keys_set views id w each new i u e = ⊎_elim
    (λ (t : (i ≡ id) × (w ≡ u)). subst (λ (x : View). are_keys x.offers ≡ true) t.1 new)
    (λ (t : (i ≢ id) × (get_elem? views i ≡ some u)). each i u t.1)
    (at_set views id i w u e)

pub idle_set : (views : List View) (id : ℕ) (w : View) → ((i : ℕ) (u : View) → get_elem? views i ≡ some u → u.parts ≡ 0 → u ≡ blank 0) → (w.parts ≡ 0 → w ≡ blank 0)
    → (i : ℕ) (u : View) → get_elem? (set views id w) i ≡ some u → u.parts ≡ 0 → u ≡ blank 0
idle_set views id w each new i u e = ⊎_elim
    (λ (t : (i ≡ id) × (w ≡ u)). subst (λ (x : View). x.parts ≡ 0 → x ≡ blank 0) t.1 new)
    (λ (t : (i ≢ id) × (get_elem? views i ≡ some u)). each i u t.1)
    (at_set views id i w u e)

active : (w : View) → 0 < w.parts → w.parts ≡ 0 → w ≡ blank 0
active w pos none = absurd (omega arith)

module _ (jobs races : ℕ) (words : List ℕ) (views : List View) (law : Balanced jobs races words views) (id : ℕ) (v : View) (at : get_elem? views id ≡ some v) (some_part : 0 < v.parts) where
  top : (race : ℕ) → race < races → get_or words (winner_word race) 0 ≤ NO_OFFER
  top race near = let e : get_or words (winner_word race) 0 ≡ least_offer race views = law.offered race near in
      let t : least_offer race views ≤ NO_OFFER = least-le_top (offer_of race) views in omega arith

  -- what a winner word tells the pass that looks at it
  pub at_most_noted : (race : ℕ) → race < races → IsAtMostNoted race (get_or words (winner_word race) 0) v
  at_most_noted race near =
      let e : get_or words (winner_word race) 0 ≡ least_offer race views = law.offered race near in
      let o : least_offer race views ≤ least_of race v.offers = least-at (offer_of race) views id v at in
      let f : get_or words (winner_word race) 0 ≤ least_looked race views = law.looked race near in
      let l : least_looked race views ≤ least_of race v.looked = least-at (looked_of race) views id v at in
      record { offers = omega arith; looked = omega arith }

  others_idle : v.parts ≡ PARTS → (j : ℕ) (u : View) → j ≢ id → get_elem? views j ≡ some u → u ≡ blank 0
  others_idle full j u ne at' = law.idle j u at'
      (let t : total parts_of (set views id (blank 0)) + v.parts ≡ total parts_of views + 0 = total-set parts_of views id v (blank 0) at in
      let s : total parts_of views ≡ PARTS = law.parts in
      let m : u.parts ≤ total parts_of (set views id (blank 0)) = total-at parts_of (set views id (blank 0)) j u (set_else views id j (blank 0) ne ∙ at') in omega arith)

  -- who has all parts took each job that it knows to be taken, once
  pub taken_by_all : v.parts ≡ PARTS → IsTakenOnce v
  taken_by_all full job known =
      let t : takers job views ≡ times job v.taken = total-alone (taken_of job) views id v at (λ j u ne at'. ap (taken_of job) (others_idle full j u ne at')) in
      let k : times job v.known ≤ knowers job views = total-at (known_of job) views id v at in
      let one : takers job views ≤ 1 = law.one_taker job in
      let free : takers job views ≡ 0 → knowers job views ≡ 0 = law.free_unknown job in
      taken_once (takers job views) (knowers job views) (times job v.taken) (times job v.known) t k one free known
    where
      taken_once : (t k a b : ℕ) → t ≡ a → b ≤ k → t ≤ 1 → (t ≡ 0 → k ≡ 0) → 0 < b → a ≡ 1
      taken_once zero k a b same below one free known = let z : k ≡ 0 = free refl in absurd (omega arith)
      taken_once (suc t) k a b same below one free known = omega arith

  pub decided : (race : ℕ) → race < races → v.parts ≡ PARTS → IsDecided race (get_or words (winner_word race) 0) v
  decided race near full =
      let least_here : least_offer race views ≡ least_of race v.offers = least-alone (offer_of race) views id v at (least_of-le_top race v.offers)
      (λ j u ne at'. let e : offer_of race u ≡ NO_OFFER = ap (offer_of race) (others_idle full j u ne at') in omega arith) in
      let here : get_or words (winner_word race) 0 ≡ least_of race v.offers = law.offered race near ∙ least_here in
      record {
        least = here;
        offered = λ some_key. let back : count_of race v.offers ≡ 0 → least_of race v.offers ≡ NO_OFFER = least_of-none race v.offers in positive (count_of race v.offers) (λ none. some_key (here ∙ back none));
        none = λ none. here ∙ least_of-none race v.offers none;
        unoffered = λ top_now. count_of-none race v.offers (law.keys id v at) (sym here ∙ top_now);
        taken = taken_by_all full;
      }
    where
      positive : (n : ℕ) → (n ≡ 0 → ⊥) → 0 < n
      positive zero not_zero = absurd (not_zero refl)
      positive (suc n) not_zero = omega arith

  pub parts_within : v.parts ≤ PARTS
  parts_within = let s : total parts_of views ≡ PARTS = law.parts in let m : v.parts ≤ total parts_of views = total-at parts_of views id v at in omega arith

  -- a job's word becomes 1, where it was 0
  taken_keeps : (job : ℕ) → job < jobs → get_or words (job_word job) 0 ≡ 0 → Balanced jobs races (set words (job_word job) 1) (set views id (taking job v))
  taken_keeps job near free =
      let w : View = taking job v in
      let long : length words ≡ 1 + RACES + jobs = law.size in
      let more : (j : ℕ) → takers j (set views id w) ≡ takers j views + times j (job ∷ []) = λ j.
      (let s : takers j (set views id w) + times j v.taken ≡ takers j views + times j (v.taken ++ job ∷ []) = total-set (taken_of j) views id v w at in
      let a : times j (v.taken ++ job ∷ []) ≡ times j v.taken + times j (job ∷ []) = times-append j v.taken (job ∷ []) in omega arith) in
      let known_more : (j : ℕ) → knowers j (set views id w) ≡ knowers j views + times j (job ∷ []) = λ j.
      (let s : knowers j (set views id w) + times j v.known ≡ knowers j views + times j (v.known ++ job ∷ []) = total-set (known_of j) views id v w at in
      let a : times j (v.known ++ job ∷ []) ≡ times j v.known + times j (job ∷ []) = times-append j v.known (job ∷ []) in omega arith) in
      let none : takers job views ≡ 0 = sym (law.job_words job near) ∙ free in
      record {
        size = length-set words (job_word job) 1 ∙ law.size;
        few = law.few;
        job_words = λ j near'. dite (ℕ_discrete j job)
            (λ (e : j ≡ job). subst (λ (i : ℕ). get_or (set words (job_word job) 1) (job_word i) 0 ≡ takers i (set views id w)) (sym e)
            (get_or-set_same words (job_word job) 1 0 (omega arith) ∙ (let m : takers job (set views id w) ≡ takers job views + times job (job ∷ []) = more job in let o : times job (job ∷ []) ≡ 1 = times-one_same job in omega arith)))
            (λ (ne : j ≢ job). get_or-set_other words (job_word job) (job_word j) 1 0 (λ e. ne (omega arith)) ∙ law.job_words j near'
            ∙ (let m : takers j (set views id w) ≡ takers j views + times j (job ∷ []) = more j in let o : times j (job ∷ []) ≡ 0 = times-one_other j job (λ e. ne (sym e)) in omega arith));
        one_taker = λ j. dite (ℕ_discrete j job)
            (λ (e : j ≡ job). subst (λ (i : ℕ). takers i (set views id w) ≤ 1) (sym e)
            (let m : takers job (set views id w) ≡ takers job views + times job (job ∷ []) = more job in let o : times job (job ∷ []) ≡ 1 = times-one_same job in omega arith))
            (λ (ne : j ≢ job). let m : takers j (set views id w) ≡ takers j views + times j (job ∷ []) = more j in let o : times j (job ∷ []) ≡ 0 = times-one_other j job (λ e. ne (sym e)) in
            let one : takers j views ≤ 1 = law.one_taker j in omega arith);
        free_unknown = λ j zero_now.
            let m : takers j (set views id w) ≡ takers j views + times j (job ∷ []) = more j in
            let k : knowers j (set views id w) ≡ knowers j views + times j (job ∷ []) = known_more j in
            let was : knowers j views ≡ 0 = law.free_unknown j (omega arith) in omega arith;
        offered = λ race near'. get_or-set_other words (job_word job) (winner_word race) 1 0 (λ e. let f : races ≤ RACES = law.few in absurd (omega arith)) ∙ law.offered race near' ∙ sym (least-same (offer_of race) views id v w at refl);
        looked = λ race near'.
            let same : get_or (set words (job_word job) 1) (winner_word race) 0 ≡ get_or words (winner_word race) 0 = get_or-set_other words (job_word job) (winner_word race) 1 0 (λ e. let f : races ≤ RACES = law.few in absurd (omega arith)) in
            let l : least_looked race (set views id w) ≡ least_looked race views = least-same (looked_of race) views id v w at refl in
            let was : get_or words (winner_word race) 0 ≤ least_looked race views = law.looked race near' in omega arith;
        keys = keys_set views id w law.keys (law.keys id v at);
        parts = total-same parts_of views id v w at refl ∙ law.parts;
        idle = idle_set views id w law.idle (active w some_part);
      }

  -- a job's word stays 1
  refused_keeps : (job : ℕ) → job < jobs → get_or words (job_word job) 0 ≢ 0 → Balanced jobs races (set words (job_word job) 1) (set views id (knowing job v))
  refused_keeps job near busy =
      let w : View = knowing job v in
      let long : length words ≡ 1 + RACES + jobs = law.size in
      let same : (j : ℕ) → takers j (set views id w) ≡ takers j views = λ j. total-same (taken_of j) views id v w at refl in
      let known_more : (j : ℕ) → knowers j (set views id w) ≡ knowers j views + times j (job ∷ []) = λ j.
      (let s : knowers j (set views id w) + times j v.known ≡ knowers j views + times j (v.known ++ job ∷ []) = total-set (known_of j) views id v w at in
      let a : times j (v.known ++ job ∷ []) ≡ times j v.known + times j (job ∷ []) = times-append j v.known (job ∷ []) in omega arith) in
      let one_now : takers job views ≡ 1 = (let one : takers job views ≤ 1 = law.one_taker job in let word : get_or words (job_word job) 0 ≡ takers job views = law.job_words job near in omega arith) in
      record {
        size = length-set words (job_word job) 1 ∙ law.size;
        few = law.few;
        job_words = λ j near'. dite (ℕ_discrete j job)
            (λ (e : j ≡ job). subst (λ (i : ℕ). get_or (set words (job_word job) 1) (job_word i) 0 ≡ takers i (set views id w)) (sym e)
            (get_or-set_same words (job_word job) 1 0 (omega arith) ∙ sym one_now ∙ sym (same job)))
            (λ (ne : j ≢ job). get_or-set_other words (job_word job) (job_word j) 1 0 (λ e. ne (omega arith)) ∙ law.job_words j near' ∙ sym (same j));
        one_taker = λ j. let s : takers j (set views id w) ≡ takers j views = same j in let one : takers j views ≤ 1 = law.one_taker j in omega arith;
        free_unknown = λ j zero_now. dite (ℕ_discrete j job)
            (λ (e : j ≡ job). let z : takers job views ≡ 0 = subst (λ (i : ℕ). takers i views ≡ 0) e (sym (same j) ∙ zero_now) in absurd (omega arith))
            (λ (ne : j ≢ job). let k : knowers j (set views id w) ≡ knowers j views + times j (job ∷ []) = known_more j in
            let o : times j (job ∷ []) ≡ 0 = times-one_other j job (λ e. ne (sym e)) in
            let was : knowers j views ≡ 0 = law.free_unknown j (sym (same j) ∙ zero_now) in omega arith);
        offered = λ race near'. get_or-set_other words (job_word job) (winner_word race) 1 0 (λ e. let f : races ≤ RACES = law.few in absurd (omega arith)) ∙ law.offered race near' ∙ sym (least-same (offer_of race) views id v w at refl);
        looked = λ race near'.
            let kept_word : get_or (set words (job_word job) 1) (winner_word race) 0 ≡ get_or words (winner_word race) 0 = get_or-set_other words (job_word job) (winner_word race) 1 0 (λ e. let f : races ≤ RACES = law.few in absurd (omega arith)) in
            let l : least_looked race (set views id w) ≡ least_looked race views = least-same (looked_of race) views id v w at refl in
            let was : get_or words (winner_word race) 0 ≤ least_looked race views = law.looked race near' in omega arith;
        keys = keys_set views id w law.keys (law.keys id v at);
        parts = total-same parts_of views id v w at refl ∙ law.parts;
        idle = idle_set views id w law.idle (active w some_part);
      }

  pub swap_keeps : (job : ℕ) → job < jobs → Balanced jobs races (set words (job_word job) 1) (set views id (cond (nat_eq (get_or words (job_word job) 0) 0) (taking job v) (knowing job v)))
  swap_keeps job near = let n : ℕ = get_or words (job_word job) 0 in let P : Bool → Type 0 = λ b. Balanced jobs races (set words (job_word job) 1) (set views id (cond b (taking job v) (knowing job v))) in
      dite (ℕ_discrete n 0) (λ e. subst P (sym (eq-eqb n 0 e)) (taken_keeps job near e)) (λ ne. subst P (sym (ne_eqb n 0 ne)) (refused_keeps job near ne))

  -- a winner word is looked at
  pub look_keeps : (race : ℕ) → race < races → Balanced jobs races words (set views id (looking race (get_or words (winner_word race) 0) v))
  look_keeps race near =
      let n : ℕ = get_or words (winner_word race) 0 in
      let w : View = looking race n v in
      record {
        size = law.size;
        few = law.few;
        job_words = λ j near'. law.job_words j near' ∙ sym (total-same (taken_of j) views id v w at refl);
        one_taker = λ j. let s : takers j (set views id w) ≡ takers j views = total-same (taken_of j) views id v w at refl in let one : takers j views ≤ 1 = law.one_taker j in omega arith;
        free_unknown = λ j zero_now. total-same (known_of j) views id v w at refl ∙ law.free_unknown j (sym (total-same (taken_of j) views id v w at refl) ∙ zero_now);
        offered = λ q near'. law.offered q near' ∙ sym (least-same (offer_of q) views id v w at refl);
        looked = λ q near'.
            let l : least_looked q (set views id w) ≡ min (least_looked q views) (least_of q ((race, n) ∷ [])) = least-set (looked_of q) views id v w (least_of q ((race, n) ∷ [])) at (least_of-append q v.looked ((race, n) ∷ [])) in
            let was : get_or words (winner_word q) 0 ≤ least_looked q views = law.looked q near' in
            let new : get_or words (winner_word q) 0 ≤ least_of q ((race, n) ∷ []) = at_most_new race n q (top race near) (top q near') (λ e. ap (λ (i : ℕ). get_or words (winner_word i) 0) e) in omega arith;
        keys = keys_set views id w law.keys (law.keys id v at);
        parts = total-same parts_of views id v w at refl ∙ law.parts;
        idle = idle_set views id w law.idle (active w some_part);
      }
    where
      at_most_new : (r n q : ℕ) → n ≤ NO_OFFER → get_or words (winner_word q) 0 ≤ NO_OFFER → (q ≡ r → get_or words (winner_word q) 0 ≡ n) → get_or words (winner_word q) 0 ≤ least_of q ((r, n) ∷ [])
      at_most_new r n q le le' same = dite (ℕ_discrete q r)
          (λ (e : q ≡ r). let s : get_or words (winner_word q) 0 ≡ n = same e in
          let o : least_of q ((r, n) ∷ []) ≡ n = subst (λ (i : ℕ). least_of i ((r, n) ∷ []) ≡ n) (sym e) (least_of-one_same r n le) in omega arith)
          (λ (ne : q ≢ r). let o : least_of q ((r, n) ∷ []) ≡ NO_OFFER = least_of-one_other q r n (λ e. ne (sym e)) in omega arith)

  -- a winner word falls to the key, where it is not below
  pub lower_keeps : (race key : ℕ) → race < races → key < NO_OFFER
      → Balanced jobs races (set words (winner_word race) (min (get_or words (winner_word race) 0) key)) (set views id (offering race key (get_or words (winner_word race) 0) v))
  lower_keeps race key near fits =
      let n : ℕ = get_or words (winner_word race) 0 in
      let words' : List ℕ = set words (winner_word race) (min n key) in
      let w : View = offering race key n v in
      let long : length words ≡ 1 + RACES + jobs = law.size in
      let few : races ≤ RACES = law.few in
      let offer_more : (q : ℕ) → least_offer q (set views id w) ≡ min (least_offer q views) (least_of q ((race, key) ∷ [])) = λ q.
      least-set (offer_of q) views id v w (least_of q ((race, key) ∷ [])) at (least_of-append q v.offers ((race, key) ∷ [])) in
      let looked_more : (q : ℕ) → least_looked q (set views id w) ≡ min (least_looked q views) (least_of q ((race, min n key) ∷ [])) = λ q.
      least-set (looked_of q) views id v w (least_of q ((race, min n key) ∷ [])) at (least_of-append q v.looked ((race, min n key) ∷ [])) in
      let word_here : get_or words' (winner_word race) 0 ≡ min n key = get_or-set_same words (winner_word race) (min n key) 0 (omega arith) in
      let word_there : (q : ℕ) → q ≢ race → get_or words' (winner_word q) 0 ≡ get_or words (winner_word q) 0 = λ q ne. get_or-set_other words (winner_word race) (winner_word q) (min n key) 0 (λ e. ne (omega arith)) in
      record {
        size = length-set words (winner_word race) (min n key) ∙ law.size;
        few = law.few;
        job_words = λ j near'. get_or-set_other words (winner_word race) (job_word j) (min n key) 0 (λ e. absurd (omega arith)) ∙ law.job_words j near' ∙ sym (total-same (taken_of j) views id v w at refl);
        one_taker = λ j. let s : takers j (set views id w) ≡ takers j views = total-same (taken_of j) views id v w at refl in let one : takers j views ≤ 1 = law.one_taker j in omega arith;
        free_unknown = λ j zero_now. total-same (known_of j) views id v w at refl ∙ law.free_unknown j (sym (total-same (taken_of j) views id v w at refl) ∙ zero_now);
        offered = λ q near'. dite (ℕ_discrete q race)
            (λ (e : q ≡ race). subst (λ (i : ℕ). get_or words' (winner_word i) 0 ≡ least_offer i (set views id w)) (sym e)
            (let m : least_offer race (set views id w) ≡ min (least_offer race views) (least_of race ((race, key) ∷ [])) = offer_more race in
            let o : least_of race ((race, key) ∷ []) ≡ key = least_of-one_same race key (omega arith) in
            let was : n ≡ least_offer race views = law.offered race near in omega arith))
            (λ (ne : q ≢ race). let m : least_offer q (set views id w) ≡ min (least_offer q views) (least_of q ((race, key) ∷ [])) = offer_more q in
            let o : least_of q ((race, key) ∷ []) ≡ NO_OFFER = least_of-one_other q race key (λ e. ne (sym e)) in
            let was : get_or words (winner_word q) 0 ≡ least_offer q views = law.offered q near' in
            let same : get_or words' (winner_word q) 0 ≡ get_or words (winner_word q) 0 = word_there q ne in
            let t : least_offer q views ≤ NO_OFFER = least-le_top (offer_of q) views in omega arith);
        looked = λ q near'. dite (ℕ_discrete q race)
            (λ (e : q ≡ race). subst (λ (i : ℕ). get_or words' (winner_word i) 0 ≤ least_looked i (set views id w)) (sym e)
            (let m : least_looked race (set views id w) ≡ min (least_looked race views) (least_of race ((race, min n key) ∷ [])) = looked_more race in
            let o : least_of race ((race, min n key) ∷ []) ≡ min n key = least_of-one_same race (min n key) (omega arith) in
            let was : n ≤ least_looked race views = law.looked race near in omega arith))
            (λ (ne : q ≢ race). let m : least_looked q (set views id w) ≡ min (least_looked q views) (least_of q ((race, min n key) ∷ [])) = looked_more q in
            let o : least_of q ((race, min n key) ∷ []) ≡ NO_OFFER = least_of-one_other q race (min n key) (λ e. ne (sym e)) in
            let was : get_or words (winner_word q) 0 ≤ least_looked q views = law.looked q near' in
            let same : get_or words' (winner_word q) 0 ≡ get_or words (winner_word q) 0 = word_there q ne in
            let t : get_or words (winner_word q) 0 ≤ NO_OFFER = top q near' in omega arith);
        keys = keys_set views id w law.keys (are_keys-append v.offers ((race, key) ∷ []) (law.keys id v at) (one_key race key fits));
        parts = total-same parts_of views id v w at refl ∙ law.parts;
        idle = idle_set views id w law.idle (active w some_part);
      }

-- a pass is cut in two
pub fork_keeps : (jobs races : ℕ) (words : List ℕ) (views : List View) (id : ℕ) (v : View) → Balanced jobs races words views → get_elem? views id ≡ some v → 2 ≤ v.parts → Balanced jobs races words (set views id (kept v) ++ given v ∷ [])
fork_keeps jobs races words views id v law at enough =
    let w : View = kept v in
    let vs : List View = set views id w in
    let same : (f : View → ℕ) → f w ≡ f v → f (given v) ≡ 0 → total f (vs ++ given v ∷ []) ≡ total f views = λ f e none.
    (let s : total f (vs ++ given v ∷ []) ≡ total f vs + f (given v) = total-snoc f vs (given v) in let t : total f vs ≡ total f views = total-same f views id v w at e in omega arith) in
    let least_stays : (f : View → ℕ) → f w ≡ f v → f (given v) ≡ NO_OFFER → least f (vs ++ given v ∷ []) ≡ least f views = λ f e none.
    (let s : least f (vs ++ given v ∷ []) ≡ min (least f vs) (f (given v)) = least-snoc f vs (given v) in let t : least f vs ≡ least f views = least-same f views id v w at e in
    let m : least f views ≤ NO_OFFER = least-le_top f views in omega arith) in
    record {
      size = law.size;
      few = law.few;
      job_words = λ j near. law.job_words j near ∙ sym (same (taken_of j) refl refl);
      one_taker = λ j. let s : takers j (vs ++ given v ∷ []) ≡ takers j views = same (taken_of j) refl refl in let one : takers j views ≤ 1 = law.one_taker j in omega arith;
      free_unknown = λ j none. same (known_of j) refl refl ∙ law.free_unknown j (sym (same (taken_of j) refl refl) ∙ none);
      offered = λ r near. law.offered r near ∙ sym (least_stays (offer_of r) refl refl);
      looked = λ r near. let s : least_looked r (vs ++ given v ∷ []) ≡ least_looked r views = least_stays (looked_of r) refl refl in let was : get_or words (winner_word r) 0 ≤ least_looked r views = law.looked r near in omega arith;
      keys = λ i u e. ⊎_elim (λ (old : get_elem? vs i ≡ some u). keys_set views id w law.keys (law.keys id v at) i u old)
          (λ (new : given v ≡ u). subst (λ (x : View). are_keys x.offers ≡ true) new refl) (at_snoc vs (given v) u i e);
      parts = (let s : total parts_of (vs ++ given v ∷ []) ≡ total parts_of vs + v.parts / 2 = total-snoc parts_of vs (given v) in
          let t : total parts_of vs + v.parts ≡ total parts_of views + (v.parts - v.parts / 2) = total-set parts_of views id v w at in
          let p : total parts_of views ≡ PARTS = law.parts in omega arith);
      idle = λ i u e. ⊎_elim (λ (old : get_elem? vs i ≡ some u). idle_set views id w law.idle (λ none. absurd (omega arith)) i u old)
          (λ (new : given v ≡ u). subst (λ (x : View). x.parts ≡ 0 → x ≡ blank 0) new (λ none. absurd (omega arith))) (at_snoc vs (given v) u i e);
    }

-- two passes are made one
pub rejoin_keeps : (jobs races : ℕ) (words : List ℕ) (views : List View) (id : ℕ) (v : View) (other : ℕ) (w : View) → Balanced jobs races words views → get_elem? views id ≡ some v → other ≢ id
    → get_elem? (set views id (joined v w)) other ≡ some w → 0 < v.parts → Balanced jobs races words (set (set views id (joined v w)) other (blank 0))
rejoin_keeps jobs races words views id v other w law at apart there some_part =
    let both : View = joined v w in
    let vs : List View = set views id both in
    let at_other : get_elem? views other ≡ some w = sym (set_else views id other both apart) ∙ there in
    let at_both : get_elem? vs id ≡ some both = set_known views id v both at in
    let same : (f : View → ℕ) → f both ≡ f v + f w → f (blank 0) ≡ 0 → total f (set vs other (blank 0)) ≡ total f views = λ f e none.
    (let s : total f (set vs other (blank 0)) + f w ≡ total f vs + f (blank 0) = total-set f vs other w (blank 0) there in
    let t : total f vs + f v ≡ total f views + f both = total-set f views id v both at in omega arith) in
    let least_stays : (f : View → ℕ) → f both ≡ min (f v) (f w) → f (blank 0) ≡ NO_OFFER → least f (set vs other (blank 0)) ≡ least f views = λ f e none.
    (let s : least f (set vs other (blank 0)) ≡ least f vs = least-drop f vs id other both w (blank 0) at_both there apart (omega arith) (omega arith) in
    let t : least f vs ≡ min (least f views) (f w) = least-set f views id v both (f w) at e in
    let m : least f views ≤ f w = least-at f views other w at_other in omega arith) in
    let takers_same : (j : ℕ) → takers j (set vs other (blank 0)) ≡ takers j views = λ j. same (taken_of j) (times-append j v.taken w.taken) refl in
    record {
      size = law.size;
      few = law.few;
      job_words = λ j near. law.job_words j near ∙ sym (takers_same j);
      one_taker = λ j. let s : takers j (set vs other (blank 0)) ≡ takers j views = takers_same j in let one : takers j views ≤ 1 = law.one_taker j in omega arith;
      free_unknown = λ j none. same (known_of j) (times-append j v.known w.known) refl ∙ law.free_unknown j (sym (takers_same j) ∙ none);
      offered = λ r near. law.offered r near ∙ sym (least_stays (offer_of r) (least_of-append r v.offers w.offers) refl);
      looked = λ r near. let s : least_looked r (set vs other (blank 0)) ≡ least_looked r views = least_stays (looked_of r) (least_of-append r v.looked w.looked) refl in let was : get_or words (winner_word r) 0 ≤ least_looked r views = law.looked r near in omega arith;
      keys = keys_set vs other (blank 0) (keys_set views id both law.keys (are_keys-append v.offers w.offers (law.keys id v at) (law.keys other w at_other))) refl;
      parts = same parts_of refl refl ∙ law.parts;
      idle = idle_set vs other (blank 0) (idle_set views id both law.idle (λ none. absurd (omega arith))) (λ _. refl);
    }
  where
    set_known : (vs : List View) (i : ℕ) (v w : View) → get_elem? vs i ≡ some v → get_elem? (set vs i w) i ≡ some w
    set_known [] i v w at = absurd (some-ne-none v (sym at))
    set_known (x ∷ xs) zero v w at = refl
    set_known (x ∷ xs) (suc i) v w at = set_known xs i v w at
