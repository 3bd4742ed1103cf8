-- What `seen` answers: the least free tick at or after a tick.
use Rattle.std.proofs.Common.{◌≡◌, ℕ, zero, suc, ◌≤◌, ◌<◌, ◌&&◌, Bool, true, false, List, [], ◌∷◌, if◌then◌else◌, drop, length, get_or, nat_le, nat_lt, max, refl, sym, ◌∙◌, arith, drop-cons}
use Rattle.he_timeline.specs.declared.limits.TheConstants.{MAX_PAUSE_END}
use Rattle.he_timeline.specs.Seen.{IsLeast, IsSeen, is_paused, seen, seen_past}
use Rattle.he_timeline.specs.Race.{Race}
use Rattle.he_timeline.specs.Ahead.{are_ahead}
use Rattle.he_timeline.specs.Timeline.{IsRace, are_pauses}
use Rattle.he_timeline.proofs.Bools.{and_left, and_right, and_both, le_test, lt_test, or_none, or_left_none, or_right_none, le_from, lt_from, outside, before, inside, past_end, above}

abbrev covers : ℕ × ℕ → ℕ → Bool
covers p x = nat_le p.0 x && nat_lt x p.1

-- what `are_pauses low (p ∷ pauses)` says
pub record IsFirst (low : ℕ) (p : ℕ × ℕ) (pauses : List (ℕ × ℕ)) : Type 0 where
  pub after : low ≤ p.0
  pub some : p.0 < p.1
  pub most : p.1 ≤ MAX_PAUSE_END
  pub rest : are_pauses p.1 pauses ≡ true

pub first : (low : ℕ) (p : ℕ × ℕ) (pauses : List (ℕ × ℕ)) → are_pauses low (p ∷ pauses) ≡ true → IsFirst low p pauses
first low p pauses are = record {
  after = le_from low p.0 (and_left _ _ (and_left _ _ (and_left _ _ are)));
  some = lt_from p.0 p.1 (and_right _ _ (and_left _ _ (and_left _ _ are)));
  most = le_from p.1 MAX_PAUSE_END (and_right _ _ (and_left _ _ are));
  rest = and_right _ _ are;
}

seen_before : (pauses : List (ℕ × ℕ)) (low x : ℕ) → are_pauses low pauses ≡ true → x < low → seen_past pauses x ≡ x
seen_before [] low x are h = refl
seen_before (p ∷ pauses) low x are h =
    let f : IsFirst low p pauses = first low p pauses are in
    let out : covers p x ≡ false = before p.0 p.1 x (omega (arith, f.after)) in
    rw out (seen_before pauses p.1 x f.rest (omega (arith, f.after, f.some)))

abbrev IsSeenPast : List (ℕ × ℕ) → ℕ → ℕ → Type 0
IsSeenPast pauses x = IsLeast (λ t. (x ≤ t) × (is_paused pauses t ≡ false))

-- a tick that the first pause does not cover is seen outside of it
stays_out : (p : ℕ × ℕ) (pauses : List (ℕ × ℕ)) (x : ℕ) (b : Bool) → nat_le p.0 x ≡ b → covers p x ≡ false → p.0 < p.1 → are_pauses p.1 pauses ≡ true → x ≤ seen_past pauses x → covers p (seen_past pauses x) ≡ false
stays_out p pauses x true begun out some are after =
    outside p.0 p.1 (seen_past pauses x) (omega (arith, after, past_end p.0 p.1 x out (le_from p.0 x begun)))
stays_out p pauses x false begun out some are after =
    let early : x < p.0 = above p.0 x begun in
    rw (seen_before pauses p.1 x are (omega arith)) out

seen_step : (p : ℕ × ℕ) (pauses : List (ℕ × ℕ)) (x : ℕ) (b : Bool) → covers p x ≡ b → p.0 < p.1 → are_pauses p.1 pauses ≡ true → ((y : ℕ) → IsSeenPast pauses y (seen_past pauses y)) → IsSeenPast (p ∷ pauses) x (seen_past pauses (if b then p.1 else x))
seen_step p pauses x true covered some are rest =
    let r : IsSeenPast pauses p.1 (seen_past pauses p.1) = rest p.1 in
    let within : (p.0 ≤ x) × (x < p.1) = inside p.0 p.1 x covered in
    record {
      holds = (omega (arith, r.holds.0, within.1), or_none _ _ (outside p.0 p.1 (seen_past pauses p.1) r.holds.0) r.holds.1);
      least = λ m h. r.least m (past_end p.0 p.1 m (or_left_none _ _ h.1) (omega (arith, h.0, within.0)), or_right_none _ _ h.1);
    }
seen_step p pauses x false out some are rest =
    let r : IsSeenPast pauses x (seen_past pauses x) = rest x in
    record {
      holds = (r.holds.0, or_none _ _ (stays_out p pauses x (nat_le p.0 x) refl out some are r.holds.0) r.holds.1);
      least = λ m h. r.least m (h.0, or_right_none _ _ h.1);
    }

pub seen_past-is : (pauses : List (ℕ × ℕ)) (low x : ℕ) → are_pauses low pauses ≡ true → IsSeenPast pauses x (seen_past pauses x)
seen_past-is [] low x are = record { holds = (omega arith, refl); least = λ m h. h.0 }
seen_past-is (p ∷ pauses) low x are =
    let f : IsFirst low p pauses = first low p pauses are in
    seen_step p pauses x (covers p x) refl f.some f.rest (λ y. seen_past-is pauses p.1 y f.rest)

pub seen_past-most : (pauses : List (ℕ × ℕ)) (low x : ℕ) → are_pauses low pauses ≡ true → seen_past pauses x ≤ max x MAX_PAUSE_END
seen_past-most [] low x are = omega arith
seen_past-most (p ∷ pauses) low x are =
    let f : IsFirst low p pauses = first low p pauses are in
    most_by p pauses x (covers p x) f.most (λ y. seen_past-most pauses p.1 y f.rest)
  where
    most_by : (p : ℕ × ℕ) (pauses : List (ℕ × ℕ)) (x : ℕ) (b : Bool) → p.1 ≤ MAX_PAUSE_END → ((y : ℕ) → seen_past pauses y ≤ max y MAX_PAUSE_END) → seen_past pauses (if b then p.1 else x) ≤ max x MAX_PAUSE_END
    most_by p pauses x true most rest = omega (arith, rest p.1)
    most_by p pauses x false most rest = rest x

-- a pause that ends at or before the tick changes nothing
seen_over : (p : ℕ × ℕ) (pauses : List (ℕ × ℕ)) (x : ℕ) → p.1 ≤ x → seen_past pauses x ≡ seen_past (p ∷ pauses) x
seen_over p pauses x over = let out : covers p x ≡ false = outside p.0 p.1 x over in rw out

pub seen_drop : (pauses : List (ℕ × ℕ)) (n x : ℕ) → ((k : ℕ) (d : ℕ × ℕ) → k < n → (get_or pauses k d).1 ≤ x) → seen_past (drop n pauses) x ≡ seen_past pauses x
seen_drop pauses zero x over = refl
seen_drop [] (suc n) x over = refl
seen_drop (p ∷ pauses) (suc n) x over =
    seen_drop pauses n x (λ k d h. over (suc k) d (omega arith)) ∙ seen_over p pauses x (over 0 p (omega arith))

-- where the first pause ends after the tick, from its begin on it covers it
ahead : (low x : ℕ) (p : ℕ × ℕ) (pauses : List (ℕ × ℕ)) → are_pauses low (p ∷ pauses) ≡ true → x < p.1 → are_ahead x (p ∷ pauses) ≡ true
ahead low x p pauses are after =
    let f : IsFirst low p pauses = first low p pauses are in
    and_both _ _ (lt_test x p.1 after) (and_both _ _ (and_both _ _ (and_both _ _ (le_test p.0 p.0 (omega arith)) (lt_test p.0 p.1 f.some)) (le_test p.1 MAX_PAUSE_END f.most)) f.rest)

pub ahead_drop : (pauses : List (ℕ × ℕ)) (low n x : ℕ) → are_pauses low pauses ≡ true → ((d : ℕ × ℕ) → n < length pauses → x < (get_or pauses n d).1) → are_ahead x (drop n pauses) ≡ true
ahead_drop [] low zero x are after = refl
ahead_drop [] low (suc n) x are after = refl
ahead_drop (p ∷ pauses) low zero x are after = ahead low x p pauses are (after p (omega arith))
ahead_drop (p ∷ pauses) low (suc n) x are after =
    let f : IsFirst low p pauses = first low p pauses are in
    ahead_drop pauses p.1 n x f.rest (λ d h. after d (omega arith))

ends_after : (pauses : List (ℕ × ℕ)) (low j : ℕ) (d : ℕ × ℕ) → are_pauses low pauses ≡ true → j < length pauses → low ≤ (get_or pauses j d).1
ends_after [] low j d are below = absurd (omega arith)
ends_after (p ∷ pauses) low zero d are below = let f : IsFirst low p pauses = first low p pauses are in omega (arith, f.after, f.some)
ends_after (p ∷ pauses) low (suc j) d are below =
    let f : IsFirst low p pauses = first low p pauses are in
    omega (arith, f.after, f.some, ends_after pauses p.1 j d f.rest (omega arith))

-- pauses end in their order
pub ends_rise : (pauses : List (ℕ × ℕ)) (low i j : ℕ) (d : ℕ × ℕ) → are_pauses low pauses ≡ true → i ≤ j → j < length pauses → (get_or pauses i d).1 ≤ (get_or pauses j d).1
ends_rise [] low i j d are up below = absurd (omega arith)
ends_rise (p ∷ pauses) low zero zero d are up below = omega arith
ends_rise (p ∷ pauses) low zero (suc j) d are up below = let f : IsFirst low p pauses = first low p pauses are in ends_after pauses p.1 j d f.rest (omega arith)
ends_rise (p ∷ pauses) low (suc i) zero d are up below = absurd (omega arith)
ends_rise (p ∷ pauses) low (suc i) (suc j) d are up below = let f : IsFirst low p pauses = first low p pauses are in ends_rise pauses p.1 i j d f.rest (omega arith) (omega arith)

-- pauses ahead of the tick, of which the first one begins after it
pub ahead_free : (p : ℕ × ℕ) (pauses : List (ℕ × ℕ)) (x : ℕ) → are_ahead x (p ∷ pauses) ≡ true → x < p.0 → seen_past (p ∷ pauses) x ≡ x
ahead_free p pauses x are early = seen_before (p ∷ pauses) p.0 x (and_right _ _ are) early

-- where the next pause begins after the tick, the tick is seen
pub ahead_stops : (pauses : List (ℕ × ℕ)) (i x whole : ℕ) (d : ℕ × ℕ) → i < length pauses → are_ahead x (drop i pauses) ≡ true → x < (get_or pauses i d).0 → seen_past (drop i pauses) x ≡ whole → x ≡ whole
ahead_stops pauses i x whole d below are early same =
    let split : drop i pauses ≡ get_or pauses i d ∷ drop (suc i) pauses = drop-cons pauses i d below in
    sym (ahead_free (get_or pauses i d) (drop (suc i) pauses) x (rw split at are) early) ∙ (rw split at same)

pub IsSeen-seen : (race : Race) → IsRace race → (x : ℕ) → IsSeen race x (seen race x)
IsSeen-seen race r x = seen_past-is race.pauses 0 x r.pauses
