-- Which offer wins, and what is told of a race's attempts, once all workers are back.
use Rattle.std.proofs.Common.{◌≡◌, ℕ, zero, suc, ◌<◌, ◌≤◌, ◌/◌, ◌%◌, Bool, cond, eq-eqb, ne_eqb, List, [], ◌∷◌, length, map, Option, Some, None, refl, sym, subst, ap, ◌∙◌, inl, inr, ⊎_elim, arith}
use Rattle.std.specs.List.{All, AllZip, Contains, slice_get}
use Rattle.std.specs.Option.{option_map}
use Rattle.std.proofs.lemmas.Bool.{cases_eq, cases_lt}
use Rattle.std.proofs.lemmas.List.Elements.{All-contains}
use Rattle.std.proofs.lemmas.Option.{slice_get-map, slice_get_within}
use Rattle.he_board.specs.declared.limits.TheConstants.{NO_OFFER, PLACES}
use Rattle.he_board.specs.declared.view.View.{View}
use Rattle.he_board.specs.Notes.{key_of, least_of, winner_of}
use Rattle.he_board.proofs.Found.{least_of-one_of}
use Rattle.he_plan.specs.declared.attempts.Attempt.{Attempt}
use Rattle.he_plan.specs.declared.finish.Fate.{Fate}
use Rattle.he_plan.specs.declared.finish.Fate.TheVariants.{Skipped, Succeeded}
use Rattle.he_timeline.specs.declared.limits.TheConstants.{MAX_LIMIT}
use Rattle.he_plan.specs.Attempts.{AreAttempts}
use Rattle.he_plan.specs.Finish.{ComesFirst, IsSuccess, IsWinner, fate_of}
use Rattle.he_timeline.specs.Race.{Race}
use Rattle.he_timeline.specs.Timeline.{IsRace}
use Rattle.he_plan.specs.Transcript.{AreTold, IsToldFate}
use Rattle.he_plan.proofs.Finishing.{success-in_range}
use Rattle.he_plan.proofs.Lawful.{plan-one}
use Rattle.he_pool.specs.Batch.{IsOfSuccess}
use Rattle.he_pool.specs.Working.{AreHonestTold, IsHonest}

some_one : {X : Type 0} (x y : X) → Some x ≡ Some y → x ≡ y
some_one {X} x y e = cc

get_some : {X : Type 0} (xs : List X) (n : ℕ) → n < length xs → (x : X) × (slice_get xs n ≡ Some x)
get_some [] n lt = absurd (omega arith)
get_some (x ∷ xs) zero lt = (x, refl)
get_some (x ∷ xs) (suc n) lt = get_some xs n (omega arith)

pub AllZip-from : {X Y : Type 0} (R : X → Y → Type 0) (xs : List X) (ys : List Y) → length ys ≡ length xs → ((n : ℕ) (x : X) (y : Y) → slice_get xs n ≡ Some x → slice_get ys n ≡ Some y → R x y) → AllZip R xs ys
AllZip-from R [] [] same each = tt
AllZip-from R [] (y ∷ ys) same each = absurd (omega arith)
AllZip-from R (x ∷ xs) [] same each = absurd (omega arith)
AllZip-from R (x ∷ xs) (y ∷ ys) same each = (each zero x y refl refl, AllZip-from R xs ys (omega arith) (λ n v w. each (suc n) v w))

of_option : (race : Race) (o : Option Attempt) (fate : Fate) → option_map (fate_of race) o ≡ Some fate → (x : Attempt) × (o ≡ Some x) × (fate_of race x ≡ fate)
of_option race None fate e = cc
of_option race (Some x) fate e = (x, refl, some_one _ _ e)

comes_first : (word finish place : ℕ) → place < PLACES → word ≤ key_of finish place → ComesFirst (word / PLACES, word % PLACES) (finish, place)
comes_first word finish place few le =
    elim (cases_lt (word / PLACES) finish) [
      | inl before ↦ inl before
      | inr after ↦ inr (omega arith, omega arith)
    ]

none_is : (word : ℕ) → word ≡ NO_OFFER → winner_of word ≡ None
none_is word e = let F : Bool → Option (ℕ × ℕ) = λ b. cond b None (Some (word / PLACES, word % PLACES)) in ap F (eq-eqb word NO_OFFER e)

some_is : (word : ℕ) → (word ≡ NO_OFFER → ⊥) → winner_of word ≡ Some (word / PLACES, word % PLACES)
some_is word ne = let F : Bool → Option (ℕ × ℕ) = λ b. cond b None (Some (word / PLACES, word % PLACES)) in ap F (ne_eqb word NO_OFFER ne)

module _
    (races : List Race) (race : Race) (number : ℕ) (v : View) (attempts : List Attempt) (told : List Fate)
    (stands : slice_get races number ≡ Some race)
    (is_race : IsRace race)
    (are : AreAttempts race attempts)
    (few : length attempts ≤ PLACES)
    (real : All (IsOfSuccess races) v.offers)
    (honest : AreHonestTold race number v attempts told)
    (below : least_of number v.offers ≤ least_of number v.looked)
  where
    own_fates : List Fate
    own_fates = map (fate_of race) attempts

    best : ℕ
    best = least_of number v.offers

    own_at : (place : ℕ) (fate : Fate) → slice_get (map (fate_of race) attempts) place ≡ Some fate → (x : Attempt) × (slice_get attempts place ≡ Some x) × (fate_of race x ≡ fate)
    own_at place fate e = of_option race (slice_get attempts place) fate (sym (slice_get-map (fate_of race) attempts place) ∙ e)

    own_from : (place : ℕ) (x : Attempt) (fate : Fate) → slice_get attempts place ≡ Some x → fate_of race x ≡ fate → slice_get (map (fate_of race) attempts) place ≡ Some fate
    own_from place x fate at is = slice_get-map (fate_of race) attempts place ∙ (ap (option_map (fate_of race)) at ∙ ap (λ (f : Fate). Some f) is)

    early : (place : ℕ) (x : Attempt) → slice_get attempts place ≡ Some x → x.tick < MAX_LIMIT
    early place x at = let starts : x.tick < race.settings.limit = (are.in_turn place x at).tick.holds.0 in let most : race.settings.limit ≤ MAX_LIMIT = is_race.settings.limit_most in omega arith

    told_at : (place : ℕ) (x : Attempt) → slice_get attempts place ≡ Some x → (fate : Fate) × (slice_get told place ≡ Some fate) × IsHonest race number place v x fate
    told_at place x at =
        let lt : place < length attempts = slice_get_within attempts place x at in
        let size : length told ≡ length attempts = honest.size in
        let there = get_some told place (omega arith) in
        (there.0, there.1, honest.honest place x there.0 at there.1)

    -- an attempt that succeeds was run or skipped: the least offer is at most its key
    below_run : (place finish : ℕ) (x : Attempt) (fate : Fate) → fate_of race x ≡ Succeeded finish → IsHonest race number place v x fate → least_of number v.offers ≤ key_of finish place
    below_run place finish x fate is (inl run) = run.offered finish (run.own ∙ is)
    below_run place finish x fate is (inr skipped) =
        let after : x.tick < finish = (success-in_range race is_race x finish is).0 in
        let late : least_of number v.looked / PLACES ≤ x.tick = skipped.late in
        let le : least_of number v.offers ≤ least_of number v.looked = below in
        omega arith

    below_key : (finish place : ℕ) → IsSuccess (map (fate_of race) attempts) (finish, place) → (least_of number v.offers ≤ key_of finish place) × (finish ≤ MAX_LIMIT) × (place < PLACES)
    below_key finish place success =
        let own = own_at place (Succeeded finish) success in
        let there = told_at place own.0 own.1 in
        let lt : place < length attempts = slice_get_within attempts place own.0 own.1 in
        let ends : finish ≤ race.settings.limit = (success-in_range race is_race own.0 finish own.2).1 in
        let most : race.settings.limit ≤ MAX_LIMIT = is_race.settings.limit_most in
        (below_run place finish own.0 there.0 own.2 there.2, omega arith, omega arith)

    -- what is told as a success is the attempt's own
    own_success : (finish place : ℕ) → IsSuccess told (finish, place) → IsSuccess (map (fate_of race) attempts) (finish, place)
    own_success finish place success =
        let lt : place < length told = slice_get_within told place (Succeeded finish) success in
        let size : length told ≡ length attempts = honest.size in
        let there = get_some attempts place (omega arith) in
        own_from place there.0 (Succeeded finish) there.1 (own_run place finish there.0 (honest.honest place there.0 (Succeeded finish) there.1 success))
      where
        own_run : (place finish : ℕ) (x : Attempt) → IsHonest race number place v x (Succeeded finish) → fate_of race x ≡ Succeeded finish
        own_run place finish x (inl run) = sym run.own
        own_run place finish x (inr skipped) = let bad : Succeeded finish ≡ Skipped = skipped.skipped in cc

    -- the success of the least offer is told
    told_success : (place : ℕ) → IsSuccess (map (fate_of race) attempts) (least_of number v.offers / PLACES, place) → IsSuccess told (least_of number v.offers / PLACES, place)
    told_success place success =
        let own = own_at place (Succeeded (least_of number v.offers / PLACES)) success in
        let there = told_at place own.0 own.1 in
        there.1 ∙ ap (λ (f : Fate). Some f) (told_run place own.0 there.0 own.2 there.2)
      where
        told_run : (place : ℕ) (x : Attempt) (fate : Fate) → fate_of race x ≡ Succeeded (least_of number v.offers / PLACES) → IsHonest race number place v x fate → fate ≡ Succeeded (least_of number v.offers / PLACES)
        told_run place x fate is (inl run) = run.own ∙ is
        told_run place x fate is (inr skipped) =
            let after : x.tick < least_of number v.offers / PLACES = (success-in_range race is_race x _ is).0 in
            let late : least_of number v.looked / PLACES ≤ x.tick = skipped.late in
            let le : least_of number v.offers ≤ least_of number v.looked = below in
            absurd (omega arith)

    real_success : (least_of number v.offers ≡ NO_OFFER → ⊥) → IsSuccess (map (fate_of race) attempts) (least_of number v.offers / PLACES, least_of number v.offers % PLACES)
    real_success ne = ⊎_elim
        (λ (there : Contains v.offers (number, least_of number v.offers)). of_offer (All-contains (IsOfSuccess races) v.offers _ real there))
        (λ (none : least_of number v.offers ≡ NO_OFFER). absurd (ne none))
        (least_of-one_of number v.offers)
      where
        of_offer : IsOfSuccess races (number, least_of number v.offers) → IsSuccess (map (fate_of race) attempts) (least_of number v.offers / PLACES, least_of number v.offers % PLACES)
        of_offer offer =
            let same : offer.race ≡ race = some_one _ _ (sym offer.stands ∙ stands) in
            let theirs : AreAttempts race offer.success.attempts = subst (λ (r : Race). AreAttempts r offer.success.attempts) same offer.success.are in
            let list : offer.success.attempts ≡ attempts = plan-one race offer.success.attempts attempts theirs are in
            let P : Race → Type 0 = λ r. IsSuccess (map (fate_of r) offer.success.attempts) (least_of number v.offers / PLACES, least_of number v.offers % PLACES) in
            let Q : List Attempt → Type 0 = λ xs. IsSuccess (map (fate_of race) xs) (least_of number v.offers / PLACES, least_of number v.offers % PLACES) in
            subst Q list (subst P same offer.success.success)

    told_none : least_of number v.offers ≡ NO_OFFER → (place : ℕ) (x : Attempt) (fate : Fate) → slice_get attempts place ≡ Some x → IsHonest race number place v x fate → IsToldFate race told x fate
    told_none none place x fate at (inl run) = inl run.own
    told_none none place x fate at (inr skipped) =
        let starts : x.tick < MAX_LIMIT = early place x at in
        let late : least_of number v.looked / PLACES ≤ x.tick = skipped.late in
        let le : least_of number v.offers ≤ least_of number v.looked = below in
        absurd (omega arith)

    told_some : (least_of number v.offers ≡ NO_OFFER → ⊥) → (place : ℕ) (x : Attempt) (fate : Fate) → slice_get attempts place ≡ Some x → IsHonest race number place v x fate → IsToldFate race told x fate
    told_some ne place x fate at (inl run) = inl run.own
    told_some ne place x fate at (inr skipped) =
        let late : least_of number v.looked / PLACES ≤ x.tick = skipped.late in
        let le : least_of number v.offers ≤ least_of number v.looked = below in
        inr (
          skipped.skipped,
          record {
            key = (least_of number v.offers / PLACES, least_of number v.offers % PLACES);
            success = told_success _ (real_success ne);
            before = omega arith;
          },
        )

    no_success : least_of number v.offers ≡ NO_OFFER → (finish place : ℕ) → IsSuccess (map (fate_of race) attempts) (finish, place) → ⊥
    no_success none finish place success =
        let le = below_key finish place success in
        let k : least_of number v.offers ≤ key_of finish place = le.0 in
        let m : finish ≤ MAX_LIMIT = le.1 in
        let p : place < PLACES = le.2 in
        omega arith

    first_success : (finish place : ℕ) → IsSuccess (map (fate_of race) attempts) (finish, place) → ComesFirst (least_of number v.offers / PLACES, least_of number v.offers % PLACES) (finish, place)
    first_success finish place success =
        let le = below_key finish place success in
        comes_first (least_of number v.offers) finish place le.2 le.0

    -- the least offer is the race's winner, and what is told leads to its transcript
    pub settled : IsWinner (map (fate_of race) attempts) (winner_of (least_of number v.offers)) × AreTold race attempts told (winner_of (least_of number v.offers))
    settled =
        elim (cases_eq (least_of number v.offers) NO_OFFER) [
          | inl none ↦
              subst (λ (w : Option (ℕ × ℕ)). IsWinner (map (fate_of race) attempts) w × AreTold race attempts told w) (sym (none_is _ none)) (
                λ key success. no_success none key.0 key.1 success,
                record {
                  are = are;
                  fates = AllZip-from (IsToldFate race told) attempts told honest.size (λ place x fate at there. told_none none place x fate at (honest.honest place x fate at there));
                  wins = λ key success. no_success none key.0 key.1 (own_success key.0 key.1 success);
                },
              )
          | inr ne ↦
              subst (λ (w : Option (ℕ × ℕ)). IsWinner (map (fate_of race) attempts) w × AreTold race attempts told w) (sym (some_is _ ne)) (
                (real_success ne, λ key success. first_success key.0 key.1 success),
                record {
                  are = are;
                  fates = AllZip-from (IsToldFate race told) attempts told honest.size (λ place x fate at there. told_some ne place x fate at (honest.honest place x fate at there));
                  wins = (told_success _ (real_success ne), λ key success. first_success key.0 key.1 (own_success key.0 key.1 success));
                },
              )
        ]
