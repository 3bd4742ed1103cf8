-- The equality of tables and of hosts says yes of equal lists, and of no others.
use Rattle.std.proofs.Common.{◌≡◌, ℕ, ◌==◌, ◌&&◌, Bool, true, false, List, refl, sym, ◌∙◌, ap, subst}
use Rattle.std.specs.Bool.{Decides, beq}
use Rattle.std.specs.Cmp.Lexicographic.{pointwise}
use Rattle.std.proofs.lemmas.Bool.Decides.{Decides-eqb}
use Rattle.std.proofs.lemmas.Slice.Eq.{slice_eq-Decides}
use Rattle.he_addr.specs.Ip.{same_ip}
use Rattle.he_addr.specs.declared.ip.Ip.{Ip}
use Rattle.he_addr.specs.declared.ip.Ip.TheVariants.{V4, V6}
use Rattle.he_addr.specs.Prefix.{PrefixBits}
use Rattle.he_select.specs.declared.host.Route.{Route}
use Rattle.he_select.specs.declared.host.Source.{Source}
use Rattle.he_select.specs.declared.policy.Row.{Row}
use Rattle.he_select.specs.Hosts.{HostLists}
use Rattle.he_select.specs.Tables.{same_prefix}
use Rattle.he_select.specs.Equality.{equal_row, equal_source, equal_route, equal_tables, equal_hosts}

is_true : Bool → Type 0
is_true true = Unit {0}
is_true false = ⊥

no : true ≡ false → ⊥
unfolding is_true
no h = subst is_true h tt

pub and_left : (a b : Bool) → (a && b) ≡ true → a ≡ true
and_left true b h = refl
and_left false b h = h

pub and_right : (a b : Bool) → (a && b) ≡ true → b ≡ true
and_right true b h = h
and_right false b h = absurd (no (sym h))

pub and_both : (a b : Bool) → a ≡ true → b ≡ true → (a && b) ≡ true
and_both true b h k = k
and_both false b h k = h

-- a test that says yes only of equals, and of each thing and itself, decides equality
decides_by : {A : Type 0} (E : A → A → Bool) (x y : A) → (E x y ≡ true → x ≡ y) → E x x ≡ true → Decides (E x y) (x ≡ y)
decides_by {A} E x y same self = (same, λ e. subst (λ (z : A). E x z ≡ true) e self)

eq_from : (m n : ℕ) → (m == n) ≡ true → m ≡ n
eq_from m n h = (Decides-eqb m n).0 h

eq_self : (n : ℕ) → (n == n) ≡ true
eq_self n = (Decides-eqb n n).1 refl

pub ip_from : (x y : Ip) → same_ip x y ≡ true → x ≡ y
ip_from (V4 m) (V4 n) h = ap V4 (eq_from m n h)
ip_from (V6 m) (V6 n) h = ap V6 (eq_from m n h)
ip_from (V4 m) (V6 n) h = absurd (no (sym h))
ip_from (V6 m) (V4 n) h = absurd (no (sym h))

pub ip_self : (x : Ip) → same_ip x x ≡ true
ip_self (V4 m) = eq_self m
ip_self (V6 m) = eq_self m

flag_from : (x y : Bool) → beq x y ≡ true → x ≡ y
flag_from true true h = refl
flag_from false false h = refl
flag_from true false h = absurd (no (sym h))
flag_from false true h = absurd (no (sym h))

flag_self : (x : Bool) → beq x x ≡ true
flag_self true = refl
flag_self false = refl

pub prefix_from : (x y : PrefixBits) → same_prefix x y ≡ true → x ≡ y
prefix_from x y h =
    let f : ℕ → PrefixBits = λ v. record { bits = v; len = x.len } in
    let g : ℕ → PrefixBits = λ v. record { bits = y.bits; len = v } in
    ap f (eq_from x.bits y.bits (and_left _ _ h)) ∙ ap g (eq_from x.len y.len (and_right _ _ h))

pub prefix_self : (x : PrefixBits) → same_prefix x x ≡ true
prefix_self x = and_both _ _ (eq_self x.bits) (eq_self x.len)

row_from : (x y : Row) → equal_row x y ≡ true → x ≡ y
row_from x y h =
    let f : PrefixBits → Row = λ v. record x { prefix = v } in
    let g : ℕ → Row = λ v. record y { precedence = v; label = x.label } in
    let k : ℕ → Row = λ v. record y { label = v } in
    ap f (prefix_from x.prefix y.prefix (and_left _ _ (and_left _ _ h)))
    ∙ ap g (eq_from x.precedence y.precedence (and_right _ _ (and_left _ _ h)))
    ∙ ap k (eq_from x.label y.label (and_right _ _ h))

row_self : (x : Row) → equal_row x x ≡ true
row_self x = and_both _ _ (and_both _ _ (prefix_self x.prefix) (eq_self x.precedence)) (eq_self x.label)

source_from : (x y : Source) → equal_source x y ≡ true → x ≡ y
source_from x y h =
    let f : Ip → Source = λ v. record x { ip = v } in
    let g : ℕ → Source = λ v. record x { ip = y.ip; plen = v } in
    let k : ℕ → Source = λ v. record x { ip = y.ip; plen = y.plen; interface = v } in
    let l : Bool → Source = λ v. record y { deprecated = v; temporary = x.temporary } in
    let m : Bool → Source = λ v. record y { temporary = v } in
    ap f (ip_from x.ip y.ip (and_left _ _ (and_left _ _ (and_left _ _ (and_left _ _ h)))))
    ∙ ap g (eq_from x.plen y.plen (and_right _ _ (and_left _ _ (and_left _ _ (and_left _ _ h)))))
    ∙ ap k (eq_from x.interface y.interface (and_right _ _ (and_left _ _ (and_left _ _ h))))
    ∙ ap l (flag_from x.deprecated y.deprecated (and_right _ _ (and_left _ _ h)))
    ∙ ap m (flag_from x.temporary y.temporary (and_right _ _ h))

source_self : (x : Source) → equal_source x x ≡ true
source_self x = and_both _ _ (and_both _ _ (and_both _ _ (and_both _ _ (ip_self x.ip) (eq_self x.plen)) (eq_self x.interface)) (flag_self x.deprecated)) (flag_self x.temporary)

route_from : (x y : Route) → equal_route x y ≡ true → x ≡ y
route_from x y h =
    let f : PrefixBits → Route = λ v. record x { prefix = v } in
    let g : ℕ → Route = λ v. record y { interface = v; tunnel = x.tunnel } in
    let k : Bool → Route = λ v. record y { tunnel = v } in
    ap f (prefix_from x.prefix y.prefix (and_left _ _ (and_left _ _ h)))
    ∙ ap g (eq_from x.interface y.interface (and_right _ _ (and_left _ _ h)))
    ∙ ap k (flag_from x.tunnel y.tunnel (and_right _ _ h))

route_self : (x : Route) → equal_route x x ≡ true
route_self x = and_both _ _ (and_both _ _ (prefix_self x.prefix) (eq_self x.interface)) (flag_self x.tunnel)

pub tables_decide : (xs ys : List Row) → Decides (equal_tables xs ys) (xs ≡ ys)
tables_decide xs ys = slice_eq-Decides (λ x y. decides_by equal_row x y (row_from x y) (row_self x)) xs ys (equal_tables xs ys) refl

sources_decide : (xs ys : List Source) → Decides (pointwise equal_source xs ys) (xs ≡ ys)
sources_decide xs ys = slice_eq-Decides (λ x y. decides_by equal_source x y (source_from x y) (source_self x)) xs ys (pointwise equal_source xs ys) refl

routes_decide : (xs ys : List Route) → Decides (pointwise equal_route xs ys) (xs ≡ ys)
routes_decide xs ys = slice_eq-Decides (λ x y. decides_by equal_route x y (route_from x y) (route_self x)) xs ys (pointwise equal_route xs ys) refl

host_from : (x y : HostLists) → equal_hosts x y ≡ true → x ≡ y
host_from x y h =
    let f : List Source → HostLists = λ v. record { sources = v; routes = x.routes } in
    let g : List Route → HostLists = λ v. record { sources = y.sources; routes = v } in
    ap f ((sources_decide x.sources y.sources).0 (and_left _ _ h)) ∙ ap g ((routes_decide x.routes y.routes).0 (and_right _ _ h))

host_self : (x : HostLists) → equal_hosts x x ≡ true
host_self x = and_both _ _ ((sources_decide x.sources x.sources).1 refl) ((routes_decide x.routes x.routes).1 refl)

pub hosts_decide : (x y : HostLists) → Decides (equal_hosts x y) (x ≡ y)
hosts_decide x y = decides_by equal_hosts x y (host_from x y) (host_self x)

-- what is told by the same test is decided by it
pub decided : {P : Type 0} {test told : Bool} → Decides test P → told ≡ test → (told ≡ true → P) × (P → told ≡ true)
decided h e = (λ is. h.0 (sym e ∙ is), λ p. e ∙ h.1 p)
