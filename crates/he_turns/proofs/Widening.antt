-- What a race takes of the lines that are told for a family: its host stays one, keeps its lines, and has more of the
-- family alone.
use Rattle.std.proofs.Common.{◌≡◌, ◌≢◌, ℕ, zero, suc, ◌-◌, ◌≤◌, ◌==◌, ◌&&◌, Bool, true, false, not, List, [], ◌∷◌, filter, length, take, nat_le, refl, sym, ◌∙◌, ap, subst, arith}
use Rattle.std.specs.Prelude.{All, AllPairs, Err, Ok, Option, Result}
use Rattle.std.specs.List.{list_all, list_any}
use Rattle.std.specs.Option.{option_map_or}
use Rattle.std.proofs.lemmas.Bool.{false≢true}
use Rattle.std.proofs.lemmas.Bool.Decides.{nat_tests}
use Rattle.std.proofs.lemmas.List.Elements.{All-cons, All-nil, All-head, All-tail}
use Rattle.std.proofs.lemmas.List.Kept.{AllPairs-cons}
use Rattle.he_addr.specs.declared.ip.Family.{Family}
use Rattle.he_addr.specs.declared.ip.Family.TheVariants as families
use Rattle.he_addr.specs.declared.ip.Ip.{Ip}
use Rattle.he_addr.specs.Ip.{is_usable, same_ip}
use Rattle.he_addr.specs.Prefix.{PrefixBits, width_of}
use Rattle.he_select.specs.declared.host.HostFault.{HostFault}
use Rattle.he_select.specs.declared.host.Route.{Route}
use Rattle.he_select.specs.declared.host.Source.{Source}
use Rattle.he_select.specs.declared.limits.TheConstants.{ROUTES, SOURCES}
use Rattle.he_select.specs.HostFaults.{host_of, is_sound_route, is_sound_source}
use Rattle.he_select.specs.Hosts.{HostLists, IsHost, IsSoundRoute, IsSoundSource, same_route, same_source}
use Rattle.he_select.specs.Ranges.{least_interface}
use Rattle.he_select.specs.Tables.{same_prefix}
use Rattle.he_select.proofs.Equality.{ip_from, ip_self, prefix_from, prefix_self}
use Rattle.he_select.proofs.Hosted.{no_fault_from}
use Rattle.he_timeline.proofs.Bools.{and_both, and_left, and_right, or_left_none, or_none, or_right_none}
use Rattle.he_timeline.proofs.Ranges.{same_ip-sym}
use Rattle.he_turns.specs.Heard.{AnswerLists, each_once, is_route_of, is_source_of, widened, with_routes, with_sources}
use Rattle.he_turns.proofs.Once.{all-both, all-weaker, are_apart, from_not, new-apart, new-few, new-wanted, not_true, stands}

pub source_sym : (x y : Source) → same_source x y ≡ same_source y x
source_sym x y = same_ip-sym x.ip y.ip

pub source_alike : (x y z : Source) → same_source x y ≡ true → same_source z x ≡ same_source z y
source_alike x y z h = ap (same_ip z.ip) (ip_from x.ip y.ip h)

source_equal : (x y : Source) → same_source x y ≡ true → x.ip ≡ y.ip
source_equal x y h = ip_from x.ip y.ip h

source_itself : (x y : Source) → x.ip ≡ y.ip → same_source x y ≡ true
source_itself x y e = subst (λ (ip : Ip). same_ip x.ip ip ≡ true) e (ip_self x.ip)

prefix_back : (x y : PrefixBits) → same_prefix x y ≡ true → same_prefix y x ≡ true
prefix_back x y h = subst (λ (z : PrefixBits). same_prefix z x ≡ true) (prefix_from x y h) (prefix_self x)

prefix_sym : (x y : PrefixBits) → same_prefix x y ≡ same_prefix y x
prefix_sym x y = by_tests (same_prefix x y) (same_prefix y x) refl refl
  where
    by_tests : (b c : Bool) → same_prefix x y ≡ b → same_prefix y x ≡ c → b ≡ c
    by_tests true c e f = sym (prefix_back x y e) ∙ f
    by_tests false true e f = sym e ∙ prefix_back y x f
    by_tests false false e f = refl

pub route_sym : (x y : Route) → same_route x y ≡ same_route y x
route_sym x y = prefix_sym x.prefix y.prefix

pub route_alike : (x y z : Route) → same_route x y ≡ true → same_route z x ≡ same_route z y
route_alike x y z h = ap (same_prefix z.prefix) (prefix_from x.prefix y.prefix h)

route_equal : (x y : Route) → same_route x y ≡ true → x.prefix ≡ y.prefix
route_equal x y h = prefix_from x.prefix y.prefix h

route_itself : (x y : Route) → x.prefix ≡ y.prefix → same_route x y ≡ true
route_itself x y e = subst (λ (p : PrefixBits). same_prefix x.prefix p ≡ true) e (prefix_self x.prefix)

-- members of which no two are the same have no field in common
module _ {X K : Type 0} (key : X → K) (same : X → X → Bool) (equal : (x y : X) → same x y ≡ true → key x ≡ key y) (itself : (x y : X) → key x ≡ key y → same x y ≡ true) where
  none_equal : (x : X) (xs : List X) → stands same x xs ≡ false → All (λ y. key x ≢ key y) xs
  none_equal x [] h = All-nil (λ y. key x ≢ key y)
  none_equal x (y ∷ xs) h =
      All-cons (λ z. key x ≢ key z) y xs (λ e. false≢true (sym (or_left_none (same y x) _ h) ∙ itself y x (sym e))) (none_equal x xs (or_right_none (same y x) _ h))

  pairs_from : (xs : List X) → are_apart same xs ≡ true → AllPairs (λ x y. key x ≢ key y) xs
  pairs_from [] h = λ i j d lt within. absurd (let no : ⊥ = omega (arith, within) in no)
  pairs_from (x ∷ xs) h =
      AllPairs-cons (λ y z. key y ≢ key z) x xs (none_equal x xs (from_not _ (and_left (not (stands same x xs)) _ h))) (pairs_from xs (and_right (not (stands same x xs)) _ h))

  none_stands : (x : X) (xs : List X) → All (λ y. key x ≢ key y) xs → stands same x xs ≡ false
  none_stands x [] h = refl
  none_stands x (y ∷ xs) h = or_none (same y x) _ (by_test (same y x) refl) (none_stands x xs (All-tail (λ z. key x ≢ key z) y xs h))
    where
      by_test : (b : Bool) → same y x ≡ b → same y x ≡ false
      by_test true e = absurd (All-head (λ z. key x ≢ key z) y xs h (sym (equal y x e)))
      by_test false e = e

  apart_from : (xs : List X) → AllPairs (λ x y. key x ≢ key y) xs → are_apart same xs ≡ true
  apart_from [] h = refl
  apart_from (x ∷ xs) h =
      and_both (not (stands same x xs)) _ (not_true _ (none_stands x xs (λ k d within. h zero (suc k) d (omega arith) (omega (arith, within)))))
      (apart_from xs (λ i j d lt within. h (suc i) (suc j) d (omega (arith, lt)) (omega (arith, within))))

module _ {X : Type 0} (P : X → Type 0) (p : X → Bool) where
  all_hold : ((x : X) → p x ≡ true → P x) → (xs : List X) → list_all p xs ≡ true → All P xs
  all_hold holds [] h = All-nil P
  all_hold holds (x ∷ xs) h = All-cons P x xs (holds x (and_left (p x) _ h)) (all_hold holds xs (and_right (p x) _ h))

  all_pass : ((x : X) → P x → p x ≡ true) → (xs : List X) → All P xs → list_all p xs ≡ true
  all_pass passes [] h = refl
  all_pass passes (x ∷ xs) h = and_both (p x) _ (passes x (All-head P x xs h)) (all_pass passes xs (All-tail P x xs h))

le_from : (m n : ℕ) → nat_le m n ≡ true → m ≤ n
le_from m n h = grind (arith, nat_tests)

from_le : (m n : ℕ) → m ≤ n → nat_le m n ≡ true
from_le m n h = grind (arith, nat_tests)

numbered_from : (n : ℕ) → not (n == 0) ≡ true → least_interface ≤ n
numbered_from n h = grind (arith, nat_tests)

from_numbered : (n : ℕ) → least_interface ≤ n → not (n == 0) ≡ true
from_numbered n h = grind (arith, nat_tests)

source_sound : (source : Source) → is_sound_source source ≡ true → IsSoundSource source
source_sound source h =
    let ranges : (is_usable source.ip && nat_le source.plen (width_of source.ip)) ≡ true = and_left (is_usable source.ip && nat_le source.plen (width_of source.ip)) (not (source.interface == 0)) h in
    record {
      usable = and_left (is_usable source.ip) (nat_le source.plen (width_of source.ip)) ranges;
      plen = le_from source.plen (width_of source.ip) (and_right (is_usable source.ip) (nat_le source.plen (width_of source.ip)) ranges);
      interface = numbered_from source.interface (and_right (is_usable source.ip && nat_le source.plen (width_of source.ip)) (not (source.interface == 0)) h);
    }

sound_source : (source : Source) → IsSoundSource source → is_sound_source source ≡ true
sound_source source h =
    and_both (is_usable source.ip && nat_le source.plen (width_of source.ip)) _ (and_both (is_usable source.ip) _ h.usable (from_le source.plen (width_of source.ip) h.plen)) (from_numbered source.interface h.interface)

route_sound : (route : Route) → is_sound_route route ≡ true → IsSoundRoute route
route_sound route h = numbered_from route.interface h

sound_route : (route : Route) → IsSoundRoute route → is_sound_route route ≡ true
sound_route route h = from_numbered route.interface h

route_of_sound : (family : Family) (route : Route) → is_route_of family route ≡ true → is_sound_route route ≡ true
route_of_sound families.V6 route h = and_left (is_sound_route route) _ h
route_of_sound families.V4 route h = and_left (is_sound_route route) _ h

-- the lines of a family that come after those of the host
abbrev pub more_sources : Family → AnswerLists → HostLists → List Source
more_sources family answer host = take (SOURCES - length host.sources) (each_once same_source (filter (λ x. is_source_of family x && not (list_any (same_source x) host.sources)) answer.sources))

abbrev pub more_routes : Family → AnswerLists → HostLists → List Route
more_routes family answer host = take (ROUTES - length host.routes) (each_once same_route (filter (λ x. is_route_of family x && not (list_any (same_route x) host.routes)) answer.routes))

pub sources-own : (family : Family) (answer : AnswerLists) (host : HostLists) → list_all (is_source_of family) (more_sources family answer host) ≡ true
sources-own family answer host = new-wanted same_source source_sym source_alike (is_source_of family) SOURCES host.sources answer.sources

pub routes-own : (family : Family) (answer : AnswerLists) (host : HostLists) → list_all (is_route_of family) (more_routes family answer host) ≡ true
routes-own family answer host = new-wanted same_route route_sym route_alike (is_route_of family) ROUTES host.routes answer.routes

-- a host that has more lines stays one
module _ (family : Family) (answer : AnswerLists) (host : HostLists) (h : IsHost host) where
  pub wider-host : IsHost (widened family answer host)
  wider-host =
      let few : length host.sources ≤ SOURCES = h.size.0 in
      let also : length host.routes ≤ ROUTES = h.size.1 in
      record {
        size = (
          new-few same_source source_sym source_alike (is_source_of family) SOURCES host.sources few answer.sources,
          new-few same_route route_sym route_alike (is_route_of family) ROUTES host.routes also answer.routes,
        );
        different_sources = pairs_from (λ (x : Source). x.ip) same_source source_equal source_itself (with_sources family host.sources answer.sources)
            (new-apart same_source source_sym source_alike (is_source_of family) SOURCES host.sources (apart_from (λ (x : Source). x.ip) same_source source_equal source_itself host.sources h.different_sources) answer.sources);
        different_routes = pairs_from (λ (x : Route). x.prefix) same_route route_equal route_itself (with_routes family host.routes answer.routes)
            (new-apart same_route route_sym route_alike (is_route_of family) ROUTES host.routes (apart_from (λ (x : Route). x.prefix) same_route route_equal route_itself host.routes h.different_routes) answer.routes);
        sound_sources = all_hold IsSoundSource is_sound_source source_sound (with_sources family host.sources answer.sources)
            (all-both is_sound_source host.sources (more_sources family answer host) (all_pass IsSoundSource is_sound_source sound_source host.sources h.sound_sources)
            (all-weaker (is_source_of family) is_sound_source (more_sources family answer host) (λ x own. and_left (is_sound_source x) _ own) (sources-own family answer host)));
        sound_routes = all_hold IsSoundRoute is_sound_route route_sound (with_routes family host.routes answer.routes)
            (all-both is_sound_route host.routes (more_routes family answer host) (all_pass IsSoundRoute is_sound_route sound_route host.routes h.sound_routes)
            (all-weaker (is_route_of family) is_sound_route (more_routes family answer host) (route_of_sound family) (routes-own family answer host)));
      }

  -- and is made of its lists
  pub wider-made : (sources : List Source) (routes : List Route) → sources ≡ with_sources family host.sources answer.sources → routes ≡ with_routes family host.routes answer.routes → host_of sources routes ≡ Ok (widened family answer host)
  wider-made sources routes e f =
      let wide : HostLists = widened family answer host in
      let made : ◌≡◌ {A = Result HostLists HostFault} (host_of wide.sources wide.routes) (Ok wide) = ap (λ (fault : Option HostFault). option_map_or Err fault (Ok wide)) (no_fault_from wide wider-host) in
      ap (λ (xs : List Source). host_of xs routes) e ∙ ap (λ (xs : List Route). host_of wide.sources xs) f ∙ made
