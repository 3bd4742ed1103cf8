-- What is kept of sources and routes is a host's.
use Rattle.std.proofs.Common.{◌≡◌, ℕ, ◌+◌, ◌||◌, Bool, true, false, not, cond, nat_lt, nat_le, List, [], ◌∷◌, ◌++◌, length, length-append, refl, ◌∙◌, ap, arith, inl, inr}
use Rattle.std.specs.Prelude.{Option, None, Some, Result, Ok, Err, option_map}
use Rattle.std.specs.List.{list_any, position_from}
use Rattle.std.specs.Option.{option_or}
use Rattle.std.proofs.lemmas.Bool.{cases_Bool}
use Rattle.std.proofs.lemmas.Bool.Decides.{nat_tests}
use Rattle.he_select.proofs.Causes.{none_of_five}
use Rattle.he_select.proofs.Repeats.{repeats_law}
use Rattle.he_select.specs.Refusals.{cause_if, first_repeat}
use Rattle.he_select.specs.HostFaults.{host_fault, is_sound_route, is_sound_source}
use Rattle.he_select.specs.Hosts.{same_route, same_source}
use Rattle.he_select.specs.declared.host.HostFault.TheVariants as faults
use Rattle.he_select.specs.declared.host.Route.{Route}
use Rattle.he_select.specs.declared.host.Source.{Source}
use Rattle.he_select.specs.declared.limits.TheConstants.{SOURCES, ROUTES}
use Rattle.he_kernel.specs.declared.why.Why.{Why}
use Rattle.he_kernel.specs.Keeping.{judged_route, judged_source, route_behind, routes_kept, same_way, source_behind, sources_kept, with_kept}

-- a list that a host may have: no longer than the limit, no member twice, and each one sound
record Fits {X : Type 0} (sound : X → Bool) (same : X → X → Bool) (most : ℕ) (kept : List X) : Type 0 where
  few : nat_lt most (length kept) ≡ false
  apart : first_repeat same kept ≡ None
  all_sound : position_from (λ x. not (sound x)) 0 kept ≡ None

not_here : (b : Bool) (n : ℕ) (rest : Option ℕ) → cond b (Some n) rest ≡ None → (b ≡ false) × (rest ≡ None)
not_here true n rest h = cc
not_here false n rest h = (refl, h)

no_other : {X : Type 0} (test : X → Bool) (place : ℕ) (xs : List X) (x : X)
    → position_from test place xs ≡ None → test x ≡ false → position_from test place (xs ++ x ∷ []) ≡ None
no_other test place [] x none fails = ap (λ b. cond b (Some place) None) fails
no_other test place (y ∷ ys) x none fails =
    let gone = not_here (test y) place (position_from test (place + 1) ys) none in
    ap (λ b. cond b (Some place) (position_from test (place + 1) (ys ++ x ∷ []))) gone.0 ∙ no_other test (place + 1) ys x gone.1 fails

fits_more : {X : Type 0} (sound : X → Bool) (same : X → X → Bool) (most : ℕ) (kept : List X) (x : X) → Fits sound same most kept
    → sound x ≡ true → list_any (same x) kept ≡ false → nat_le most (length kept) ≡ false → Fits sound same most (kept ++ x ∷ [])
fits_more sound same most kept x fits is_sound is_new has_place = record {
  few = grind (arith, nat_tests, length-append kept (x ∷ []), has_place);
  apart = repeats_law same kept x ∙ ap (λ o. option_or o (cause_if (list_any (same x) kept) (length kept))) fits.apart ∙ ap (λ b. cause_if b (length kept)) is_new;
  all_sound = no_other (λ x. not (sound x)) 0 kept x fits.all_sound (ap not is_sound);
}

abbrev FitSources : List Source → Type 0
FitSources kept = Fits is_sound_source same_source SOURCES kept

abbrev FitRoutes : List Route → Type 0
FitRoutes kept = Fits is_sound_route same_route ROUTES kept

source_chosen : (kept : List Source) (source : Source) → FitSources kept → FitSources (with_kept kept (source_behind kept source))
source_chosen kept source fits =
    elim (cases_Bool (is_sound_source source)) [
      | inr bad ↦ rw bad fits
      | inl is_sound ↦ rw is_sound (elim (cases_Bool (list_any (same_source source) kept)) [
        | inl there ↦ rw there fits
        | inr is_new ↦ rw is_new (elim (cases_Bool (nat_le SOURCES (length kept))) [
          | inl full ↦ rw full fits
          | inr has_place ↦ rw has_place (fits_more is_sound_source same_source SOURCES kept source fits is_sound is_new has_place)
        ])
      ])
    ]

source_judged : (kept : List Source) (read : Result Source Why) → FitSources kept → FitSources (with_kept kept (judged_source kept read))
unfolding judged_source
source_judged kept (Err why) fits = fits
source_judged kept (Ok source) fits = source_chosen kept source fits

sources_fit : (found : List (Result Source Why)) (kept : List Source) → FitSources kept → FitSources (sources_kept kept found)
sources_fit [] kept fits = fits
sources_fit (read ∷ more) kept fits = sources_fit more (with_kept kept (judged_source kept read)) (source_judged kept read fits)

route_chosen : (kept : List Route) (route : Route) → FitRoutes kept → FitRoutes (with_kept kept (route_behind kept route))
route_chosen kept route fits =
    elim (cases_Bool (is_sound_route route)) [
      | inr bad ↦ rw bad fits
      | inl is_sound ↦ rw is_sound (elim (cases_Bool (list_any (same_way route) kept)) [
        | inl again ↦ rw again fits
        | inr not_again ↦ rw not_again (elim (cases_Bool (list_any (same_route route) kept)) [
          | inl there ↦ rw there fits
          | inr is_new ↦ rw is_new (elim (cases_Bool (nat_le ROUTES (length kept))) [
            | inl full ↦ rw full fits
            | inr has_place ↦ rw has_place (fits_more is_sound_route same_route ROUTES kept route fits is_sound is_new has_place)
          ])
        ])
      ])
    ]

route_judged : (kept : List Route) (read : Result Route Why) → FitRoutes kept → FitRoutes (with_kept kept (judged_route kept read))
unfolding judged_route
route_judged kept (Err why) fits = fits
route_judged kept (Ok route) fits = route_chosen kept route fits

routes_fit : (found : List (Result Route Why)) (kept : List Route) → FitRoutes kept → FitRoutes (routes_kept kept found)
routes_fit [] kept fits = fits
routes_fit (read ∷ more) kept fits = routes_fit more (with_kept kept (judged_route kept read)) (route_judged kept read fits)

few : (sources : List Source) (routes : List Route) → FitSources sources → FitRoutes routes → (nat_lt SOURCES (length sources) || nat_lt ROUTES (length routes)) ≡ false
few sources routes s r = rw s.few r.few

no_fault : (sources : List Source) (routes : List Route) → FitSources sources → FitRoutes routes → host_fault sources routes ≡ None
unfolding host_fault
no_fault sources routes s r =
    none_of_five _ _ _ _ _
    (ap (λ b. cause_if b faults.TooMany) (few sources routes s r))
    (ap (option_map faults.RepeatedSource) s.apart)
    (ap (option_map faults.RepeatedRoute) r.apart)
    (ap (option_map faults.BadSource) s.all_sound)
    (ap (option_map faults.BadRoute) r.all_sound)

-- what is kept is a machine's, whatever is found
pub kept_is_host : (sources : List (Result Source Why)) (routes : List (Result Route Why)) → host_fault (sources_kept [] sources) (routes_kept [] routes) ≡ None
kept_is_host sources routes =
    no_fault (sources_kept [] sources) (routes_kept [] routes)
    (sources_fit sources [] (record { few = refl; apart = refl; all_sound = refl }))
    (routes_fit routes [] (record { few = refl; apart = refl; all_sound = refl }))
