-- What a line keeps to that is right by itself, where it says what address selection looks at: a row of the policy
-- table, a source or a route.
use Rattle.std.proofs.Common.{◌≡◌, ℕ, ◌≤◌, ◌&&◌, Bool, true, false, cond, leb, ltb, List, [], ◌∷◌, ◌++◌, length, Option, Some, None, Ok, Err, refl, sym, ◌∙◌, ap, subst, arith}
use Rattle.std.specs.Prelude.{codes, option_and_then}
use Rattle.std.specs.Option.{ok_or}
use Rattle.std.specs.Str.{bytes_eq}
use Rattle.std.proofs.lemmas.Slice.Eq.{bytes_eq-Decides}
use Rattle.std.proofs.lemmas.Bool.{leb-true, ltb-false, and_parts}
use Rattle.he_addr.specs.declared.ip.Ip.{Ip}
use Rattle.he_addr.specs.Ip.{is_usable}
use Rattle.he_addr.specs.Prefix.{PrefixBits, width_of}
use Rattle.he_addr.specs.Reading.{numeral_in, ip_in, cut_in, prefix_in, source_in}
use Rattle.he_select.specs.declared.host.Route.{Route}
use Rattle.he_select.specs.declared.host.Source.{Source}
use Rattle.he_select.specs.declared.policy.Row.{Row}
use Rattle.he_words.specs.declared.fault.TextKind.TheVariants as kinds
use Rattle.he_words.specs.declared.limits.TheConstants.{MAX_PRECEDENCE, MAX_LABEL, MIN_INTERFACE, MAX_INTERFACE, SOURCE_MARKS, ROUTE_MARKS}
use Rattle.he_reading.specs.Forms.{◌>>=◌, number_from, row_in, source_address_in, interface_in, source_marks_in, host_source_in, route_marks_in, host_route_in}
use Rattle.he_words.specs.Marks.{marked, source_marks, route_marks}
use Rattle.he_reading.proofs.LineReads.{ReadsNumber}
use Rattle.he_reading.proofs.FormFacts.{number_ok}
use Rattle.he_reading.proofs.Results.{bind_ok, ok_or_ok, let_through, not_stopped}

-- policy PREFIX PRECEDENCE LABEL
pub record IsRow (tokens : List (List ℕ)) (row : Row) : Type 0 where
  pub first : List ℕ
  pub second : List ℕ
  pub third : List ℕ
  pub tokens_are : tokens ≡ first ∷ second ∷ third ∷ []
  pub prefix_is : prefix_in first ≡ Some row.prefix
  pub precedence_is : ReadsNumber 0 MAX_PRECEDENCE second row.precedence
  pub label_is : ReadsNumber 0 MAX_LABEL third row.label

abbrev row_with : PrefixBits → ℕ → ℕ → Row
row_with prefix precedence label = record { prefix = prefix; precedence = precedence; label = label }

pub row_ok : (tokens : List (List ℕ)) (row : Row) → row_in tokens ≡ Ok row → IsRow tokens row
unfolding row_in
row_ok [] row h = cc
row_ok (a ∷ []) row h = cc
row_ok (a ∷ b ∷ []) row h = cc
row_ok (a ∷ b ∷ c ∷ d ∷ more) row h = cc
row_ok (a ∷ b ∷ c ∷ []) row h =
    let prefix = bind_ok (ok_or (prefix_in a) kinds.Prefix) (λ prefix. number_from 0 MAX_PRECEDENCE b >>= λ precedence. number_from 0 MAX_LABEL c >>= λ label. Ok (row_with prefix precedence label)) row h in
    let precedence = bind_ok (number_from 0 MAX_PRECEDENCE b) (λ precedence. number_from 0 MAX_LABEL c >>= λ label. Ok (row_with prefix.0 precedence label)) row prefix.2 in
    let label = bind_ok (number_from 0 MAX_LABEL c) (λ label. Ok (row_with prefix.0 precedence.0 label)) row precedence.2 in
    let same : row_with prefix.0 precedence.0 label.0 ≡ row = cc (label.2) in
    let P : Row → Type 0 = IsRow (a ∷ b ∷ c ∷ []) in
    subst P same (record {
      first = a;
      second = b;
      third = c;
      tokens_are = refl;
      prefix_is = ok_or_ok (prefix_in a) kinds.Prefix prefix.0 prefix.1;
      precedence_is = number_ok 0 MAX_PRECEDENCE b precedence.0 precedence.1;
      label_is = number_ok 0 MAX_LABEL c label.0 label.1;
    })

-- source SOURCE INTERFACE [deprecated] [temporary]
pub record IsHostSource (tokens : List (List ℕ)) (source : Source) : Type 0 where
  pub first : List ℕ
  pub second : List ℕ
  pub tokens_are : tokens ≡ first ∷ second ∷ source_marks source
  pub source_is : source_in first ≡ Some (source.ip, source.plen)
  pub usable : is_usable source.ip ≡ true
  pub within_width : source.plen ≤ width_of source.ip
  pub interface_is : ReadsNumber MIN_INTERFACE MAX_INTERFACE second source.interface

some_step : {A B : Type 0} (o : Option A) (f : A → Option B) (y : B) → option_and_then f o ≡ Some y → (x : A) × (f x ≡ Some y)
some_step None f y h = cc
some_step (Some x) f y h = (x, h)

fits_width : (len width : ℕ) (ip : Ip) (b : Bool) (source : Ip × ℕ) → leb len width ≡ b → width ≡ width_of ip → cond b (Some (ip, len)) None ≡ Some source → source.1 ≤ width_of source.0
fits_width len width ip false source e w h = cc
fits_width len width ip true source e w h =
    let same : (ip, len) ≡ source = cc (h) in
    let P : Ip × ℕ → Type 0 = λ source. source.1 ≤ width_of source.0 in
    let fits : len ≤ width = leb-true len width e in
    let within : len ≤ width_of ip = omega arith in
    subst P same within

source_fits : (token : List ℕ) (source : Ip × ℕ) → source_in token ≡ Some source → source.1 ≤ width_of source.0
unfolding source_in
source_fits token source h =
    let cut = some_step (cut_in 47 token) _ source h in
    let ip = some_step (ip_in cut.0.0) _ source cut.1 in
    let len = some_step (numeral_in 3 cut.0.1) _ source ip.1 in
    fits_width len.0 (width_of ip.0) ip.0 (leb len.0 (width_of ip.0)) source refl refl len.1

source_address_ok : (token : List ℕ) (source : Ip × ℕ) → source_address_in token ≡ Ok source → (source_in token ≡ Some source) × (is_usable source.0 ≡ true)
unfolding source_address_in
source_address_ok token source h =
    let read = bind_ok (ok_or (source_in token) kinds.Prefix) (λ source. cond (is_usable source.0) (Ok source) (Err kinds.Address)) source h in
    let usable = let_through (is_usable read.0.0) (Ok read.0) kinds.Address source read.2 in
    let same : read.0 ≡ source = cc (usable.1) in
    (ok_or_ok (source_in token) kinds.Prefix read.0 read.1 ∙ ap Some same, ap (λ (s : Ip × ℕ). is_usable s.0) (sym same) ∙ usable.0)

-- the tokens of the marks that are set
abbrev marks_for : Bool × Bool → List (List ℕ)
marks_for is = marked is.0 (codes "deprecated") ++ marked is.1 (codes "temporary")

one_mark_by : (only : List ℕ) (deprecated temporary : Bool) (is : Bool × Bool) → bytes_eq only (codes "deprecated") ≡ deprecated → bytes_eq only (codes "temporary") ≡ temporary
    → cond deprecated (Ok (true, false)) (cond temporary (Ok (false, true)) (Err kinds.Word)) ≡ Ok is → only ∷ [] ≡ marks_for is
one_mark_by only true temporary is d t h =
    let same : (true, false) ≡ is = cc (h) in
    ap (λ mark. mark ∷ []) ((bytes_eq-Decides only (codes "deprecated")).0 d) ∙ ap marks_for same
one_mark_by only false true is d t h =
    let same : (false, true) ≡ is = cc (h) in
    ap (λ mark. mark ∷ []) ((bytes_eq-Decides only (codes "temporary")).0 t) ∙ ap marks_for same
one_mark_by only false false is d t h = cc

two_marks_by : (first second : List ℕ) (both : Bool) (is : Bool × Bool) → bytes_eq first (codes "deprecated") && bytes_eq second (codes "temporary") ≡ both
    → cond both (Ok (true, true)) (Err kinds.Word) ≡ Ok is → first ∷ second ∷ [] ≡ marks_for is
two_marks_by first second true is e h =
    let same : (true, true) ≡ is = cc (h) in
    let parts = and_parts (bytes_eq first (codes "deprecated")) (bytes_eq second (codes "temporary")) e in
    ap (λ mark. mark ∷ second ∷ []) ((bytes_eq-Decides first (codes "deprecated")).0 parts.0)
    ∙ ap (λ mark. codes "deprecated" ∷ mark ∷ []) ((bytes_eq-Decides second (codes "temporary")).0 parts.1)
    ∙ ap marks_for same
two_marks_by first second false is e h = cc

source_marks_ok : (marks : List (List ℕ)) (is : Bool × Bool) → length marks ≤ SOURCE_MARKS → source_marks_in marks ≡ Ok is → marks ≡ marks_for is
unfolding source_marks_in
source_marks_ok [] is few h = let same : (false, false) ≡ is = cc (h) in ap marks_for same
source_marks_ok (only ∷ []) is few h = one_mark_by only (bytes_eq only (codes "deprecated")) (bytes_eq only (codes "temporary")) is refl refl h
source_marks_ok (first ∷ second ∷ []) is few h = two_marks_by first second (bytes_eq first (codes "deprecated") && bytes_eq second (codes "temporary")) is refl h
source_marks_ok (first ∷ second ∷ third ∷ more) is few h = absurd (omega arith)

abbrev source_with : Ip × ℕ → ℕ → Bool × Bool → Source
source_with source interface is = record { ip = source.0; plen = source.1; interface = interface; deprecated = is.0; temporary = is.1 }

pub source_ok : (tokens : List (List ℕ)) (source : Source) → host_source_in tokens ≡ Ok source → IsHostSource tokens source
unfolding host_source_in
source_ok [] source h = cc
source_ok (a ∷ []) source h = cc
source_ok (a ∷ b ∷ marks) source h =
    let few = not_stopped (ltb SOURCE_MARKS (length marks)) (source_address_in a >>= λ address. interface_in b >>= λ interface. source_marks_in marks >>= λ is. Ok (source_with address interface is)) kinds.Word source h in
    let address = bind_ok (source_address_in a) (λ address. interface_in b >>= λ interface. source_marks_in marks >>= λ is. Ok (source_with address interface is)) source few.1 in
    let interface = bind_ok (interface_in b) (λ interface. source_marks_in marks >>= λ is. Ok (source_with address.0 interface is)) source address.2 in
    let is = bind_ok (source_marks_in marks) (λ is. Ok (source_with address.0 interface.0 is)) source interface.2 in
    let same : source_with address.0 interface.0 is.0 ≡ source = cc (is.2) in
    let read = source_address_ok a address.0 address.1 in
    let P : Source → Type 0 = IsHostSource (a ∷ b ∷ marks) in
    subst P same (record {
      first = a;
      second = b;
      tokens_are = ap (λ marks. a ∷ b ∷ marks) (source_marks_ok marks is.0 (ltb-false SOURCE_MARKS (length marks) few.0) is.1);
      source_is = read.0;
      usable = read.1;
      within_width = source_fits a address.0 read.0;
      interface_is = number_ok MIN_INTERFACE MAX_INTERFACE b interface.0 interface.1;
    })

-- route PREFIX INTERFACE [tunnel]
pub record IsHostRoute (tokens : List (List ℕ)) (route : Route) : Type 0 where
  pub first : List ℕ
  pub second : List ℕ
  pub tokens_are : tokens ≡ first ∷ second ∷ route_marks route
  pub prefix_is : prefix_in first ≡ Some route.prefix
  pub interface_is : ReadsNumber MIN_INTERFACE MAX_INTERFACE second route.interface

tunnel_by : (mark : List ℕ) (tunnel is : Bool) → bytes_eq mark (codes "tunnel") ≡ tunnel → cond tunnel (Ok true) (Err kinds.Word) ≡ Ok is → mark ∷ [] ≡ marked is (codes "tunnel")
tunnel_by mark true is e h =
    let same : true ≡ is = cc (h) in
    ap (λ mark. mark ∷ []) ((bytes_eq-Decides mark (codes "tunnel")).0 e) ∙ ap (λ is. marked is (codes "tunnel")) same
tunnel_by mark false is e h = cc

route_marks_ok : (marks : List (List ℕ)) (is : Bool) → length marks ≤ ROUTE_MARKS → route_marks_in marks ≡ Ok is → marks ≡ marked is (codes "tunnel")
unfolding route_marks_in
route_marks_ok [] is few h = let same : false ≡ is = cc (h) in ap (λ is. marked is (codes "tunnel")) same
route_marks_ok (mark ∷ []) is few h = tunnel_by mark (bytes_eq mark (codes "tunnel")) is refl h
route_marks_ok (mark ∷ next ∷ more) is few h = absurd (omega arith)

abbrev route_with : PrefixBits → ℕ → Bool → Route
route_with prefix interface tunnel = record { prefix = prefix; interface = interface; tunnel = tunnel }

pub route_ok : (tokens : List (List ℕ)) (route : Route) → host_route_in tokens ≡ Ok route → IsHostRoute tokens route
unfolding host_route_in
route_ok [] route h = cc
route_ok (a ∷ []) route h = cc
route_ok (a ∷ b ∷ marks) route h =
    let few = not_stopped (ltb ROUTE_MARKS (length marks)) (ok_or (prefix_in a) kinds.Prefix >>= λ prefix. interface_in b >>= λ interface. route_marks_in marks >>= λ tunnel. Ok (route_with prefix interface tunnel)) kinds.Word route h in
    let prefix = bind_ok (ok_or (prefix_in a) kinds.Prefix) (λ prefix. interface_in b >>= λ interface. route_marks_in marks >>= λ tunnel. Ok (route_with prefix interface tunnel)) route few.1 in
    let interface = bind_ok (interface_in b) (λ interface. route_marks_in marks >>= λ tunnel. Ok (route_with prefix.0 interface tunnel)) route prefix.2 in
    let tunnel = bind_ok (route_marks_in marks) (λ tunnel. Ok (route_with prefix.0 interface.0 tunnel)) route interface.2 in
    let same : route_with prefix.0 interface.0 tunnel.0 ≡ route = cc (tunnel.2) in
    let P : Route → Type 0 = IsHostRoute (a ∷ b ∷ marks) in
    subst P same (record {
      first = a;
      second = b;
      tokens_are = ap (λ marks. a ∷ b ∷ marks) (route_marks_ok marks tunnel.0 (ltb-false ROUTE_MARKS (length marks) few.0) tunnel.1);
      prefix_is = ok_or_ok (prefix_in a) kinds.Prefix prefix.0 prefix.1;
      interface_is = number_ok MIN_INTERFACE MAX_INTERFACE b interface.0 interface.1;
    })
