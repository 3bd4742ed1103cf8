-- Proofs of the laws of `==` on timelines: two are equal exactly if their values are. They are here since the laws of
-- an impl may not cite `proofs` of their own crate; they are proofs, not definitions to review.
use Rattle.std.proofs.Common.{◌≡◌, ℕ, ◌==◌, ◌&&◌, Bool, true, false, List, Option, Some, None, refl, sym, ◌∙◌, ap, subst}
use Rattle.std.specs.Bool.{Decides}
use Rattle.std.specs.Cmp.{IsPartialEquivalence, IsEquivalence, equiv}
use Rattle.std.specs.Cmp.Lexicographic.{pointwise}
use Rattle.std.proofs.lemmas.Bool.Decides.{Decides-eqb}
use Rattle.std.proofs.lemmas.Slice.Eq.{slice_eq-Decides}
use Rattle.he_addr.specs.Ip.{same_ip}
use Rattle.he_addr.specs.declared.ip.Ip.{Ip}
use Rattle.he_addr.specs.declared.ip.Ip.TheVariants.{V4, V6}
use Rattle.he_timeline.specs.declared.outcome.Outcome.{Outcome}
use Rattle.he_timeline.specs.declared.outcome.Outcome.TheVariants as outcomes
use Rattle.he_timeline.specs.Equality.{same_floor, same_history, same_outcome, same_rtt, same_told, same_pause, same_reply, same_settings, same_race}
use Rattle.he_timeline.specs.Race.{History, Race, Reply}
use Rattle.he_timeline.specs.Settings.{SettingValues}
use Rattle.he_select.specs.declared.policy.Row.{Row}
use Rattle.he_select.specs.Hosts.{HostLists}
use Rattle.he_select.proofs.Equality.{hosts_decide, tables_decide}

is_true : Bool → Type 0
is_true true = Unit {0}
is_true false = ⊥

no : true ≡ false → ⊥
unfolding is_true
no h = subst is_true h tt

and_left : (a b : Bool) → (a && b) ≡ true → a ≡ true
and_left true b h = refl
and_left false b h = h

and_right : (a b : Bool) → (a && b) ≡ true → b ≡ true
and_right true b h = h
and_right false b h = absurd (no (sym h))

and_both : (a b : Bool) → a ≡ true → b ≡ true → (a && b) ≡ true
and_both true b h k = k
and_both false b h k = h

-- a test that accepts only equal values, and every value with itself, decides equality
decides_by : {A : Type 0} (E : A → A → Bool) (x y : A) → (E x y ≡ true → x ≡ y) → E x x ≡ true
    → Decides (E x y) (x ≡ y)
decides_by {A} E x y same self = (same, λ e. subst (λ (z : A). E x z ≡ true) e self)

eq_from : (m n : ℕ) → (m == n) ≡ true → m ≡ n
eq_from m n h = (Decides-eqb m n).0 h

eq_self : (n : ℕ) → (n == n) ≡ true
eq_self n = (Decides-eqb n n).1 refl

ip_from : (x y : Ip) → same_ip x y ≡ true → x ≡ y
ip_from (V4 m) (V4 n) h = ap V4 (eq_from m n h)
ip_from (V6 m) (V6 n) h = ap V6 (eq_from m n h)
ip_from (V4 m) (V6 n) h = absurd (no (sym h))
ip_from (V6 m) (V4 n) h = absurd (no (sym h))

ip_self : (x : Ip) → same_ip x x ≡ true
ip_self (V4 m) = eq_self m
ip_self (V6 m) = eq_self m

outcome_from : (x y : Outcome) → same_outcome x y ≡ true → x ≡ y
outcome_from (outcomes.Ok m) (outcomes.Ok n) h = ap outcomes.Ok (eq_from m n h)
outcome_from (outcomes.Fail m) (outcomes.Fail n) h = ap outcomes.Fail (eq_from m n h)
outcome_from (outcomes.Ok m) (outcomes.Fail n) h = absurd (no (sym h))
outcome_from (outcomes.Fail m) (outcomes.Ok n) h = absurd (no (sym h))

outcome_self : (x : Outcome) → same_outcome x x ≡ true
outcome_self (outcomes.Ok m) = eq_self m
outcome_self (outcomes.Fail m) = eq_self m

pair_is : {A B : Type 0} (p q : A × B) → p.0 ≡ q.0 → p.1 ≡ q.1 → p ≡ q
pair_is {A} {B} p q e f =
    let g : A → A × B = λ a. (a, p.1) in
    let h : B → A × B = λ b. (q.0, b) in
    ap g e ∙ ap h f

ips_decide : (xs ys : List Ip) → Decides (pointwise same_ip xs ys) (xs ≡ ys)
ips_decide xs ys =
    slice_eq-Decides (λ x y. decides_by same_ip x y (ip_from x y) (ip_self x)) xs ys (pointwise same_ip xs ys) refl

told_decide : (xs ys : List (Ip × Outcome)) → Decides (pointwise same_told xs ys) (xs ≡ ys)
told_decide xs ys =
    slice_eq-Decides
    (λ x y. decides_by same_told x y
    (λ h. pair_is x y (ip_from x.0 y.0 (and_left _ _ h)) (outcome_from x.1 y.1 (and_right _ _ h)))
    (and_both _ _ (ip_self x.0) (outcome_self x.1))) xs ys (pointwise same_told xs ys) refl

rtts_decide : (xs ys : List (Ip × ℕ)) → Decides (pointwise same_rtt xs ys) (xs ≡ ys)
rtts_decide xs ys =
    slice_eq-Decides
    (λ x y. decides_by same_rtt x y
    (λ h. pair_is x y (ip_from x.0 y.0 (and_left _ _ h)) (eq_from x.1 y.1 (and_right _ _ h)))
    (and_both _ _ (ip_self x.0) (eq_self x.1))) xs ys (pointwise same_rtt xs ys) refl

pauses_decide : (xs ys : List (ℕ × ℕ)) → Decides (pointwise same_pause xs ys) (xs ≡ ys)
pauses_decide xs ys =
    slice_eq-Decides
    (λ x y. decides_by same_pause x y
    (λ h. pair_is x y (eq_from x.0 y.0 (and_left _ _ h)) (eq_from x.1 y.1 (and_right _ _ h)))
    (and_both _ _ (eq_self x.0) (eq_self x.1))) xs ys (pointwise same_pause xs ys) refl

reply_from : (x y : Option Reply) → same_reply x y ≡ true → x ≡ y
reply_from None None h = refl
reply_from (Some x) (Some y) h =
    let g : ℕ → Option Reply = λ t. Some (record { tick = t; addresses = x.addresses }) in
    let k : List Ip → Option Reply = λ ips. Some (record { tick = y.tick; addresses = ips }) in
    ap g (eq_from x.tick y.tick (and_left _ _ h)) ∙ ap k ((ips_decide x.addresses y.addresses).0 (and_right _ _ h))
reply_from None (Some y) h = absurd (no (sym h))
reply_from (Some x) None h = absurd (no (sym h))

reply_self : (x : Option Reply) → same_reply x x ≡ true
reply_self None = refl
reply_self (Some x) = and_both _ _ (eq_self x.tick) ((ips_decide x.addresses x.addresses).1 refl)

floor_from : (x y : Option ℕ) → same_floor x y ≡ true → x ≡ y
floor_from None None h = refl
floor_from (Some m) (Some n) h = ap Some (eq_from m n h)
floor_from None (Some n) h = absurd (no (sym h))
floor_from (Some m) None h = absurd (no (sym h))

floor_self : (x : Option ℕ) → same_floor x x ≡ true
floor_self None = refl
floor_self (Some m) = eq_self m

history_from : (x y : History) → same_history x y ≡ true → x ≡ y
history_from x y h =
    let f : List (Ip × ℕ) → History = λ v. record { rtts = v; used = x.used } in
    let g : List Ip → History = λ v. record { rtts = y.rtts; used = v } in
    ap f ((rtts_decide x.rtts y.rtts).0 (and_left _ _ h)) ∙ ap g ((ips_decide x.used y.used).0 (and_right _ _ h))

history_self : (x : History) → same_history x x ≡ true
history_self x = and_both _ _ ((rtts_decide x.rtts x.rtts).1 refl) ((ips_decide x.used x.used).1 refl)

settings_from : (x y : SettingValues) → same_settings x y ≡ true → x ≡ y
settings_from x y h =
    let f : ℕ → SettingValues =
    λ v. record { resolution = v; attempt = x.attempt; count = x.count; limit = x.limit; floor = x.floor } in
    let g : ℕ → SettingValues =
    λ v. record { resolution = y.resolution; attempt = v; count = x.count; limit = x.limit; floor = x.floor } in
    let k : ℕ → SettingValues =
    λ v. record { resolution = y.resolution; attempt = y.attempt; count = v; limit = x.limit; floor = x.floor } in
    let l : ℕ → SettingValues =
    λ v. record { resolution = y.resolution; attempt = y.attempt; count = y.count; limit = v; floor = x.floor } in
    let m : Option ℕ → SettingValues = λ v. record y { floor = v } in
    let but_floor = and_left _ _ h in
    ap f (eq_from x.resolution y.resolution (and_left _ _ (and_left _ _ (and_left _ _ but_floor))))
    ∙ ap g (eq_from x.attempt y.attempt (and_right _ _ (and_left _ _ (and_left _ _ but_floor))))
    ∙ ap k (eq_from x.count y.count (and_right _ _ (and_left _ _ but_floor)))
    ∙ ap l (eq_from x.limit y.limit (and_right _ _ but_floor))
    ∙ ap m (floor_from x.floor y.floor (and_right _ _ h))

settings_self : (x : SettingValues) → same_settings x x ≡ true
settings_self x =
    and_both _ _
    (and_both _ _ (and_both _ _ (and_both _ _ (eq_self x.resolution) (eq_self x.attempt)) (eq_self x.count))
    (eq_self x.limit)) (floor_self x.floor)

pub race_from : (x y : Race) → same_race x y ≡ true → x ≡ y
race_from x y h =
    let but_pauses = and_left _ _ h in
    let but_outcomes = and_left _ _ but_pauses in
    let but_history = and_left _ _ but_outcomes in
    let but_a = and_left _ _ but_history in
    let but_aaaa = and_left _ _ but_a in
    let but_host = and_left _ _ but_aaaa in
    let e : SettingValues → Race = λ v. record x { settings = v } in
    let f : List Row → Race = λ v. record x { settings = y.settings; policy = v } in
    let g : HostLists → Race = λ v. record x { settings = y.settings; policy = y.policy; host = v } in
    let k : Option Reply → Race =
    λ v. record y { aaaa = v; a = x.a; history = x.history; outcomes = x.outcomes; pauses = x.pauses } in
    let l : Option Reply → Race =
    λ v. record y { a = v; history = x.history; outcomes = x.outcomes; pauses = x.pauses } in
    let o : History → Race = λ v. record y { history = v; outcomes = x.outcomes; pauses = x.pauses } in
    let m : List (Ip × Outcome) → Race = λ v. record y { outcomes = v; pauses = x.pauses } in
    let n : List (ℕ × ℕ) → Race = λ v. record y { pauses = v } in
    ap e (settings_from x.settings y.settings (and_left _ _ but_host))
    ∙ ap f ((tables_decide x.policy y.policy).0 (and_right _ _ but_host))
    ∙ ap g ((hosts_decide x.host y.host).0 (and_right _ _ but_aaaa))
    ∙ ap k (reply_from x.aaaa y.aaaa (and_right _ _ but_a))
    ∙ ap l (reply_from x.a y.a (and_right _ _ but_history))
    ∙ ap o (history_from x.history y.history (and_right _ _ but_outcomes))
    ∙ ap m ((told_decide x.outcomes y.outcomes).0 (and_right _ _ but_pauses))
    ∙ ap n ((pauses_decide x.pauses y.pauses).0 (and_right _ _ h))

pub race_self : (x : Race) → same_race x x ≡ true
race_self x =
    and_both _ _
    (and_both _ _
    (and_both _ _
    (and_both _ _
    (and_both _ _
    (and_both _ _ (and_both _ _ (settings_self x.settings) ((tables_decide x.policy x.policy).1 refl))
    ((hosts_decide x.host x.host).1 refl)) (reply_self x.aaaa)) (reply_self x.a)) (history_self x.history))
    ((told_decide x.outcomes x.outcomes).1 refl)) ((pauses_decide x.pauses x.pauses).1 refl)

pub race_is : (x y : Race) → x ≡ y → same_race x y ≡ true
race_is x y e = subst (λ (z : Race). same_race x z ≡ true) e (race_self x)

alike : (b c : Bool) → (b ≡ true → c ≡ true) → (c ≡ true → b ≡ true) → b ≡ c
alike true c h k = sym (h refl)
alike false true h k = k refl
alike false false h k = refl

pub same_race-per : IsPartialEquivalence same_race
same_race-per = record {
  symm = λ x y. alike (same_race x y) (same_race y x) (λ h. race_is y x (sym (race_from x y h)))
      (λ h. race_is x y (sym (race_from y x h)));
  trans = λ x y z h k. race_is x z (race_from x y h ∙ race_from y z k);
}

pub same_race-equivalence : IsEquivalence same_race
same_race-equivalence = equiv same_race-per race_self
