-- The rule by sums and minima holds exactly of the lawful states.
use Rattle.std.proofs.Common.{◌≡◌, ◌≢◌, ◌⊎◌, ℕ, ◌<◌, ◌≤◌, List, get_or, refl, sym, ◌∙◌, subst, inl, inr, ⊎_elim, arith}
use Rattle.std.specs.Prelude.{Contains}
use mathlib.Core.Logic.{dite}
use native.Mathlib.Decide.{ℕ_discrete}
use Rattle.he_board.specs.declared.limits.TheConstants.{NO_OFFER}
use Rattle.he_board.specs.declared.view.View.{View}
use Rattle.he_board.specs.Notes.{times, least_of}
use Rattle.he_board.specs.Balance.{winner_word, job_word, takers, knowers, least_offer, least_looked, Balanced}
use Rattle.he_board.specs.Lawful.{TakenOnce, IsFree, IsOffered, IsUnoffered, Lawful}
use Rattle.he_board.proofs.Found.{times-contains, times-none, least_of-contains, least_of-ge, least_of-one_of, are_keys-contains, are_keys-each}
use Rattle.he_board.proofs.Keeping.{taken_of, known_of, offer_of, looked_of}
use Rattle.he_board.proofs.Sums.{total-at, total-none, total-alone, least-at, least-ge, least-le_top}
use Rattle.he_board.proofs.Witnesses.{total-some, least-some, total-one}

module _ (jobs races : ℕ) (words : List ℕ) (views : List View) where
  taken_once : Balanced jobs races words views → (job : ℕ) → 0 < takers job views → TakenOnce views job
  taken_once law job pos =
      let s = total-some (taken_of job) views pos in
      let one : takers job views ≤ 1 = law.one_taker job in
      let below : times job s.view.taken ≤ takers job views = total-at (taken_of job) views s.by s.view s.at in
      let holds : 0 < times job s.view.taken = s.holds in record {
        by = s.by;
        taker = s.view;
        stands = s.at;
        once = omega arith;
        alone = λ i v at has. total-one (taken_of job) views s.by i s.view v one refl s.at at s.holds (times-contains job v.taken has);
      }

  free : Balanced jobs races words views → (job : ℕ) → takers job views ≡ 0 → IsFree views job
  free law job none = record {
    untaken = λ i v at has. (let m : times job v.taken ≤ takers job views = total-at (taken_of job) views i v at in let p : 0 < times job v.taken = times-contains job v.taken has in absurd (omega arith));
    unknown = λ i v at has. (let k : knowers job views ≡ 0 = law.free_unknown job none in let m : times job v.known ≤ knowers job views = total-at (known_of job) views i v at in
        let p : 0 < times job v.known = times-contains job v.known has in absurd (omega arith));
  }

  offered_or_not : Balanced jobs races words views → (race : ℕ) → race < races → IsOffered views race (get_or words (winner_word race) 0) ⊎ (get_or words (winner_word race) 0 ≡ NO_OFFER) × IsUnoffered views race
  offered_or_not law race near =
      let word : get_or words (winner_word race) 0 ≡ least_offer race views = law.offered race near in
      dite (ℕ_discrete (least_offer race views) NO_OFFER)
      (λ (e : least_offer race views ≡ NO_OFFER). inr (
        word ∙ e,
        λ i v at key has.
            (let m : least_offer race views ≤ least_of race v.offers = least-at (offer_of race) views i v at in
            let c : least_of race v.offers ≤ key = least_of-contains race key v.offers has in
            let k : key < NO_OFFER = are_keys-contains race key v.offers (law.keys i v at) has in absurd (omega arith)),
      ))
      (λ (ne : least_offer race views ≢ NO_OFFER). let s = least-some (offer_of race) views ne in
      let is : least_of race s.view.offers ≡ get_or words (winner_word race) 0 = s.holds ∙ sym word in
      inl record {
        by = s.by;
        offerer = s.view;
        stands = s.at;
        offers = ⊎_elim (λ (has : Contains s.view.offers (race, least_of race s.view.offers)). subst (λ (n : ℕ). Contains s.view.offers (race, n)) is has)
            (λ (top : least_of race s.view.offers ≡ NO_OFFER). absurd (ne (sym s.holds ∙ top))) (least_of-one_of race s.view.offers);
      })

  pub lawful : Balanced jobs races words views → Lawful jobs races words views
  lawful law = record {
    size = law.size;
    few = law.few;
    job_words = λ job. dite (ℕ_discrete (takers job views) 0)
        (λ (e : takers job views ≡ 0). inr ((λ near. law.job_words job near ∙ e), free law job e))
        (λ (ne : takers job views ≢ 0). let one : takers job views ≤ 1 = law.one_taker job in
        inl ((λ near. let word : get_or words (job_word job) 0 ≡ takers job views = law.job_words job near in omega arith), taken_once law job (omega arith)));
    winner_words = λ race near. offered_or_not law race near;
    offers = λ race near i v at key has. (let word : get_or words (winner_word race) 0 ≡ least_offer race views = law.offered race near in
        let m : least_offer race views ≤ least_of race v.offers = least-at (offer_of race) views i v at in let c : least_of race v.offers ≤ key = least_of-contains race key v.offers has in omega arith);
    looked = λ race near i v at value has. (let word : get_or words (winner_word race) 0 ≤ least_looked race views = law.looked race near in
        let m : least_looked race views ≤ least_of race v.looked = least-at (looked_of race) views i v at in let c : least_of race v.looked ≤ value = least_of-contains race value v.looked has in omega arith);
    keys = λ i v at race key has. are_keys-contains race key v.offers (law.keys i v at) has;
    parts = law.parts;
    idle = law.idle;
  }

  takers_one : (job : ℕ) → TakenOnce views job → takers job views ≡ 1
  takers_one job t = total-alone (taken_of job) views t.by t.taker t.stands (λ j u ne at. times-none job u.taken (λ has. ne (t.alone j u at has))) ∙ t.once

  takers_none : (job : ℕ) → IsFree views job → takers job views ≡ 0
  takers_none job t = total-none (taken_of job) views (λ i u at. times-none job u.taken (t.untaken i u at))

  knowers_none : (job : ℕ) → IsFree views job → knowers job views ≡ 0
  knowers_none job t = total-none (known_of job) views (λ i u at. times-none job u.known (t.unknown i u at))

  word_in_range : Lawful jobs races words views → (race : ℕ) → race < races → get_or words (winner_word race) 0 ≤ NO_OFFER
  word_in_range law race near = ⊎_elim
      (λ (o : IsOffered views race (get_or words (winner_word race) 0)). let k : get_or words (winner_word race) 0 < NO_OFFER = law.keys o.by o.offerer o.stands race (get_or words (winner_word race) 0) o.offers in omega arith)
      (λ (n : (get_or words (winner_word race) 0 ≡ NO_OFFER) × IsUnoffered views race). let e : get_or words (winner_word race) 0 ≡ NO_OFFER = n.0 in omega arith)
      (law.winner_words race near)

  word_is_least : Lawful jobs races words views → (race : ℕ) → race < races → get_or words (winner_word race) 0 ≡ least_offer race views
  word_is_least law race near =
      let range : get_or words (winner_word race) 0 ≤ NO_OFFER = word_in_range law race near in
      let below : get_or words (winner_word race) 0 ≤ least_offer race views = least-ge (offer_of race) views (get_or words (winner_word race) 0) range
      (λ i v at. least_of-ge race (get_or words (winner_word race) 0) v.offers range (λ key has. law.offers race near i v at key has)) in
      ⊎_elim
      (λ (o : IsOffered views race (get_or words (winner_word race) 0)). let m : least_offer race views ≤ least_of race o.offerer.offers = least-at (offer_of race) views o.by o.offerer o.stands in
      let c : least_of race o.offerer.offers ≤ get_or words (winner_word race) 0 = least_of-contains race (get_or words (winner_word race) 0) o.offerer.offers o.offers in omega arith)
      (λ (n : (get_or words (winner_word race) 0 ≡ NO_OFFER) × IsUnoffered views race). let e : get_or words (winner_word race) 0 ≡ NO_OFFER = n.0 in
      let t : least_offer race views ≤ NO_OFFER = least-le_top (offer_of race) views in omega arith)
      (law.winner_words race near)

  pub balanced : Lawful jobs races words views → Balanced jobs races words views
  balanced law = record {
    size = law.size;
    few = law.few;
    job_words = λ job near. ⊎_elim
        (λ (t : (job < jobs → get_or words (job_word job) 0 ≡ 1) × TakenOnce views job). t.0 near ∙ sym (takers_one job t.1))
        (λ (t : (job < jobs → get_or words (job_word job) 0 ≡ 0) × IsFree views job). t.0 near ∙ sym (takers_none job t.1))
        (law.job_words job);
    one_taker = λ job. ⊎_elim
        (λ (t : (job < jobs → get_or words (job_word job) 0 ≡ 1) × TakenOnce views job). let e : takers job views ≡ 1 = takers_one job t.1 in omega arith)
        (λ (t : (job < jobs → get_or words (job_word job) 0 ≡ 0) × IsFree views job). let e : takers job views ≡ 0 = takers_none job t.1 in omega arith)
        (law.job_words job);
    free_unknown = λ job none. ⊎_elim
        (λ (t : (job < jobs → get_or words (job_word job) 0 ≡ 1) × TakenOnce views job). let e : takers job views ≡ 1 = takers_one job t.1 in absurd (omega arith))
        (λ (t : (job < jobs → get_or words (job_word job) 0 ≡ 0) × IsFree views job). knowers_none job t.1)
        (law.job_words job);
    offered = word_is_least law;
    looked = λ race near. let range : get_or words (winner_word race) 0 ≤ NO_OFFER = word_in_range law race near in
        least-ge (looked_of race) views (get_or words (winner_word race) 0) range (λ i v at. least_of-ge race (get_or words (winner_word race) 0) v.looked range (λ value has. law.looked race near i v at value has));
    keys = λ i v at. are_keys-each v.offers (law.keys i v at);
    parts = law.parts;
    idle = law.idle;
  }
