-- An attempt that may start has an address to try, and comes after the one before it.
use Rattle.std.proofs.Common.{◌≡◌, ℕ, ◌+◌, ◌-◌, ◌≤◌, ◌<◌, ◌||◌, ◌++◌, Bool, true, false, List, [], ◌∷◌, if◌then◌else◌, length, filter, Option, Some, None, MatchOption, IfSome, refl, ◌∙◌, arith, inl, inr, length-append}
use Rattle.std.specs.List.{list_any, slice_get}
use Rattle.std.specs.Option.{option_map_or}
use Rattle.std.proofs.lemmas.List.Folds.{list_any-append}
use Rattle.he_addr.specs.declared.ip.Ip.{Ip}
use Rattle.he_addr.specs.Ip.{is_usable}
use Rattle.he_plan.specs.declared.attempts.Attempt.{Attempt}
use Rattle.he_timeline.specs.declared.limits.TheConstants.{MAX_LIMIT}
use Rattle.he_plan.specs.Attempts.{IsPositive, MayBegin, MayFollow, MayStart, received_of, received, is_untried, last_of}
use Rattle.he_timeline.specs.Seen.{seen}
use Rattle.he_plan.specs.Planning.{IsLater}
use Rattle.he_timeline.specs.Race.{Race, Reply}
use Rattle.he_timeline.specs.Timeline.{IsRace}
use Rattle.he_plan.specs.RaceState.{MakesNext}
use Rattle.he_timeline.proofs.Bools.{le_test, or_left, or_right}
use Rattle.he_plan.proofs.Failing.{waited_later}

get_end : (xs : List Attempt) (x : Attempt) → slice_get (xs ++ x ∷ []) (length xs) ≡ Some x
get_end [] x = refl
get_end (y ∷ xs) x = get_end xs x

pub last_of-more : (done : List Attempt) (next : Attempt) → last_of (done ++ next ∷ []) ≡ Some next
last_of-more done next =
    let e : length (done ++ next ∷ []) - 1 ≡ length done = omega (arith, length-append done (next ∷ [])) in
    rw e (get_end done next)

get_some : (xs : List Attempt) (x : Attempt) → slice_get (x ∷ xs) (length xs) ≡ None → ⊥
get_some [] x h = cc
get_some (y ∷ xs) x h = get_some xs y h

pub last_of-some : (xs : List Attempt) (x : Attempt) → last_of (x ∷ xs) ≡ None → ⊥
last_of-some xs x h =
    let e : length (x ∷ xs) - 1 ≡ length xs = omega arith in
    get_some xs x (rw e at h)

untried_usable : (ips : List Ip) → list_any is_usable ips ≡ true → list_any (is_untried []) (filter is_usable ips) ≡ true
untried_usable [] h = cc
untried_usable (ip ∷ ips) h = untried_by (is_usable ip) h (untried_usable ips)
  where
    untried_by : (b : Bool) → (b || list_any is_usable ips) ≡ true → (list_any is_usable ips ≡ true → list_any (is_untried []) (filter is_usable ips) ≡ true) → list_any (is_untried []) (if b then ip ∷ filter is_usable ips else filter is_usable ips) ≡ true
    untried_by true h rest = refl
    untried_by false h rest = rest h

positive_untried : (race : Race) (t : ℕ) (reply : Option Reply) → IsPositive race t reply → list_any (is_untried []) (received_of race t reply) ≡ true
positive_untried race t None p = absurd p
positive_untried race t (Some r) p = rw (le_test (seen race r.tick) t p.1) (untried_usable r.addresses p.0)

begins_untried : (race : Race) (t : ℕ) → MayBegin race t → list_any (is_untried []) (received race t) ≡ true
begins_untried race t m =
    list_any-append (is_untried []) (received_of race t race.aaaa) (received_of race t race.a)
    ∙ elim m.1 [ inl p ↦ or_left _ _ (positive_untried race t race.aaaa p) | inr p ↦ or_right _ _ (positive_untried race t race.a p.0) ]

may_untried : (race : Race) (t : ℕ) (done : List Attempt) (last : Option Attempt) → last_of done ≡ last → MatchOption last (MayBegin race t) (MayFollow race done t) → list_any (is_untried done) (received race t) ≡ true
may_untried race t [] None e m = begins_untried race t m
may_untried race t (x ∷ xs) None e m = absurd (last_of-some xs x e)
may_untried race t done (Some last) e m = m.some

-- where an attempt may start, a received address is untried
pub starts_any : (race : Race) (done : List Attempt) (t : ℕ) → MayStart race done t → list_any (is_untried done) (received race t) ≡ true
starts_any race done t m = may_untried race t done (last_of done) refl m.1

later_by : (race : Race) (done : List Attempt) (t : ℕ) (last : Option Attempt) → IsRace race → MatchOption last (MayBegin race t) (MayFollow race done t) → IfSome last (λ x. x.tick < t)
later_by race done t None r m = tt
later_by race done t (Some last) r m = waited_later race r done t last m.waited

pub start_later : (race : Race) → IsRace race → (done : List Attempt) (t : ℕ) → MayStart race done t → IsLater done t
start_later race r done t m = (omega (arith, m.0, r.settings.limit_most), later_by race done t (last_of done) r m.1)

-- how much is left before the greatest limit
abbrev pub ticks_left : Option Attempt → ℕ
ticks_left last = option_map_or (λ x. MAX_LIMIT - x.tick) last (MAX_LIMIT + 1)

left_by : (last : Option Attempt) (next : Attempt) → next.tick ≤ MAX_LIMIT → IfSome last (λ x. x.tick < next.tick) → MAX_LIMIT - next.tick < ticks_left last
left_by None next h later = omega arith
left_by (Some last) next h later = omega arith

ticks_left-more : (done : List Attempt) (next : Attempt) → IsLater done next.tick → ticks_left (last_of (done ++ next ∷ [])) < ticks_left (last_of done)
ticks_left-more done next later = rw (last_of-more done next) (left_by (last_of done) next later.0 later.1)

pub last_in_range : (done : List Attempt) (next : Attempt) → IsLater done next.tick → IfSome (last_of (done ++ next ∷ [])) (λ x. x.tick ≤ MAX_LIMIT)
last_in_range done next later = rw (last_of-more done next) later.0

pub ticks_next : (race : Race) → IsRace race → (done all : List Attempt) (tick : ℕ) → MakesNext race done all tick → ticks_left (last_of all) < ticks_left (last_of done)
ticks_next race r done all tick makes = rw makes.more (ticks_left-more done makes.next (start_later race r done makes.next.tick makes.is.tick.holds))
