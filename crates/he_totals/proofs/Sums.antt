-- Sums over addresses and over races.
use Rattle.std.proofs.Common.{ℕ, ◌≡◌, ◌+◌, ◌≤◌, ◌++◌, Bool, true, false, cond, List, [], ◌∷◌, length, map, Option, Some, None, refl, sym, ◌∙◌, ap, subst, append_assoc, arith, sum}
use Rattle.std.specs.List.{AllByRecursion, IsDistinct, sum_by, zip}
use Rattle.std.specs.Map.{keys_of, lookup}
use Rattle.std.specs.Option.{unwrap_or}
use Rattle.std.proofs.lemmas.List.Elements.{All-head, All-tail}
use Rattle.std.proofs.lemmas.List.Sums.{sum_by-append, sum_by-cons}
use Rattle.std.proofs.lemmas.Map.Keys.{IsDistinct-head, IsDistinct-tail}
use Rattle.he_addr.specs.Ip.{same_ip}
use Rattle.he_addr.specs.declared.ip.Ip.{Ip}
use Rattle.he_course.proofs.AccountLaws.{times_add_up}
use Rattle.he_course.specs.Accounts.{race_times}
use Rattle.he_course.specs.declared.accounts.Times.{Times}
use Rattle.he_plan.proofs.Distinct.{same_ip-is, same_ip-self}
use Rattle.he_plan.specs.declared.transcript.Line.{Line}
use Rattle.he_record.specs.Given.{untried_given}
use Rattle.he_record.specs.Said.{Said}
use Rattle.he_timeline.proofs.Ranges.{same_ip-sym}
use Rattle.he_timeline.specs.Race.{Race}
use Rattle.he_totals.specs.Kept.{IsCharged, kept_of, nobody_of}
use Rattle.he_totals.specs.Laws.{AddressesAddUp, LossesAddUp, SumsAddUp}
use Rattle.he_totals.specs.Summed.{all_tries}
use Rattle.he_totals.specs.Tries.{AreTallies, Try, lost_on, tally_of, tries_of, try_of}
use Rattle.he_totals.specs.declared.kept.Kept.{Kept}
use Rattle.he_totals.specs.declared.tallies.Tally.{Tally}

pub sum_both : {X : Type 0} (f g : X → ℕ) (xs : List X) → sum_by (λ x. f x + g x) xs ≡ sum_by f xs + sum_by g xs
sum_both f g [] = refl
sum_both {X = X} f g (x ∷ xs) =
    let more = sum_both f g xs in
    let all = sum_by-cons {X = X} (λ y. f y + g y) x xs in
    let one = sum_by-cons {X = X} f x xs in
    let two = sum_by-cons {X = X} g x xs in
    omega arith

pub sum_none : {X : Type 0} (xs : List X) → sum_by (λ x. 0) xs ≡ 0
sum_none [] = refl
sum_none {X = X} (x ∷ xs) =
    let more = sum_none xs in
    let all = sum_by-cons {X = X} (λ y. 0) x xs in
    omega arith

pub sum_alike : {X : Type 0} (f g : X → ℕ) (xs : List X) → ((x : X) → f x ≡ g x) → sum_by f xs ≡ sum_by g xs
sum_alike f g [] same = refl
sum_alike {X = X} f g (x ∷ xs) same =
    let here = same x in
    let more = sum_alike f g xs same in
    let one = sum_by-cons {X = X} f x xs in
    let two = sum_by-cons {X = X} g x xs in
    omega arith

sum_mapped : {X Y : Type 0} (f : Y → ℕ) (g : X → Y) (xs : List X) → sum_by f (map g xs) ≡ sum_by (λ x. f (g x)) xs
sum_mapped f g [] = refl
sum_mapped {X = X} {Y = Y} f g (x ∷ xs) =
    let more = sum_mapped f g xs in
    let one = sum_by-cons {X = Y} f (g x) (map g xs) in
    let two = sum_by-cons {X = X} (λ y. f (g y)) x xs in
    omega arith

-- how many of these keys are the address
abbrev ones : Ip → List Ip → ℕ
ones ip keys = sum_by (λ (k : Ip). cond (same_ip k ip) 1 0) keys

-- what is charged to them
abbrev charged : Ip → ℕ → List Ip → ℕ
charged ip ms keys = sum_by (λ (k : Ip). cond (same_ip k ip) ms 0) keys

none_step : (b : Bool) (ms one_or some : ℕ) → cond b 1 0 + one_or ≡ 0 → (one_or ≡ 0 → some ≡ 0) → cond b ms 0 + some ≡ 0
none_step true ms one_or some h more = absurd (omega arith)
none_step false ms one_or some h more = let e = more (omega arith) in omega arith

charge_none : (ip : Ip) (ms : ℕ) (keys : List Ip) → ones ip keys ≡ 0 → charged ip ms keys ≡ 0
charge_none ip ms [] h = refl
charge_none ip ms (k ∷ keys) h =
    let one = sum_by-cons (λ (j : Ip). cond (same_ip j ip) 1 0) k keys in
    let all = sum_by-cons (λ (j : Ip). cond (same_ip j ip) ms 0) k keys in
    let step = none_step (same_ip k ip) ms (ones ip keys) (charged ip ms keys) (omega arith) (charge_none ip ms keys) in
    omega arith

once_step : (b : Bool) (ms one_or some : ℕ) → cond b 1 0 + one_or ≡ 1 → (one_or ≡ 0 → some ≡ 0) → (one_or ≡ 1 → some ≡ ms) → cond b ms 0 + some ≡ ms
once_step true ms one_or some h none more = let e = none (omega arith) in omega arith
once_step false ms one_or some h none more = let e = more (omega arith) in omega arith

charge_once : (ip : Ip) (ms : ℕ) (keys : List Ip) → ones ip keys ≡ 1 → charged ip ms keys ≡ ms
charge_once ip ms [] h = absurd (omega arith)
charge_once ip ms (k ∷ keys) h =
    let one = sum_by-cons (λ (j : Ip). cond (same_ip j ip) 1 0) k keys in
    let all = sum_by-cons (λ (j : Ip). cond (same_ip j ip) ms 0) k keys in
    let step = once_step (same_ip k ip) ms (ones ip keys) (charged ip ms keys) (omega arith) (charge_none ip ms keys) (charge_once ip ms keys) in
    omega arith

-- each attempt's address is once among the keys
abbrev AreOnce : List Ip → List Try → Type 0
AreOnce keys [] = Unit {0}
AreOnce keys (x ∷ tries) = (ones x.ip keys ≡ 1) × AreOnce keys tries

over_keys : (keys : List Ip) (tries : List Try) → AreOnce keys tries → sum_by (λ (k : Ip). lost_on tries k) keys ≡ sum_by (λ (x : Try). x.lost) tries
over_keys keys [] are = sum_none keys
over_keys keys (x ∷ tries) are =
    let here = charge_once x.ip x.lost keys are.0 in
    let more = over_keys keys tries are.1 in
    let split = sum_alike (λ (k : Ip). lost_on (x ∷ tries) k) (λ (k : Ip). cond (same_ip k x.ip) x.lost 0 + lost_on tries k) keys
    (λ k. sum_by-cons (λ (y : Try). cond (same_ip k y.ip) y.lost 0) x tries) in
    let parts = sum_both (λ (k : Ip). cond (same_ip k x.ip) x.lost 0) (λ (k : Ip). lost_on tries k) keys in
    let all = sum_by-cons (λ (y : Try). y.lost) x tries in
    omega arith

-- nothing is charged by a test that fails, and the same by equal ones
off : (b : Bool) (n : ℕ) → b ≡ false → cond b n 0 ≡ 0
off b n is = ap (λ (c : Bool). cond c n 0) is

same_charge : (a b : Bool) (n : ℕ) → a ≡ b → cond a n 0 ≡ cond b n 0
same_charge a b n is = ap (λ (c : Bool). cond c n 0) is

-- no key is the address
no_ones : (ip : Ip) (keys : List Ip) → AllByRecursion (λ k. same_ip ip k ≡ false) keys → ones ip keys ≡ 0
no_ones ip [] none = refl
no_ones ip (k ∷ keys) none =
    let here = off (same_ip k ip) 1 (same_ip-sym k ip ∙ none.0) in
    let rest = no_ones ip keys none.1 in
    let all = sum_by-cons (λ (j : Ip). cond (same_ip j ip) 1 0) k keys in
    omega arith

found_step : (b : Bool) (one_or : ℕ) (first : Tally) (rest : Option Tally) (t : Tally) → cond b (Some first) rest ≡ Some t → (b ≡ true → one_or ≡ 0) → (rest ≡ Some t → one_or ≡ 1) → cond b 1 0 + one_or ≡ 1
found_step true one_or first rest t is none more = let e = none refl in omega arith
found_step false one_or first rest t is none more = let e = more is in omega arith

-- the address of an entry that a look-up finds is once among the keys
ones_found : (ip : Ip) (es : List (Ip × Tally)) → IsDistinct same_ip (keys_of es) → (t : Tally) → lookup (same_ip ip) es ≡ Some t → ones ip (keys_of es) ≡ 1
ones_found ip [] once t is = cc
ones_found ip (e ∷ es) once t is =
    let all = sum_by-cons (λ (j : Ip). cond (same_ip j ip) 1 0) e.0 (keys_of es) in
    let flipped = same_charge (same_ip e.0 ip) (same_ip ip e.0) 1 (same_ip-sym e.0 ip) in
    let step = found_step (same_ip ip e.0) (ones ip (keys_of es)) e.1 (lookup (same_ip ip) es) t is
    (λ same. no_ones ip (keys_of es) (subst (λ (q : Ip). AllByRecursion (λ k. same_ip q k ≡ false) (keys_of es)) (sym (same_ip-is ip e.0 same)) (IsDistinct-head same_ip e.0 (keys_of es) once)))
    (λ found. ones_found ip es (IsDistinct-tail same_ip e.0 (keys_of es) once) t found) in
    omega arith

-- an address with an attempt has an entry
has_entry : (found : Option Tally) (attempts : ℕ) → 1 ≤ attempts → (unwrap_or found (record { attempts = 0; failed = 0; no_answer = 0; lost = 0 })).attempts ≡ attempts → (t : Tally) × (found ≡ Some t)
has_entry None attempts some is = absurd (omega arith)
has_entry (Some t) attempts some is = (t, refl)

are_once : (front back : List Try) (es : List (Ip × Tally)) → AreTallies (front ++ back) es → AreOnce (keys_of es) back
are_once front [] es are = tt
are_once front (x ∷ back) es are =
    let passes : Try → ℕ = λ y. cond (same_ip x.ip y.ip) 1 0 in
    let all = sum_by-append passes front (x ∷ back) in
    let later = sum_by-cons passes x back in
    let here : passes x ≡ 1 = ap (λ b. cond b 1 0) (same_ip-self x.ip) in
    let (t, found) = has_entry (lookup (same_ip x.ip) es) (tally_of (front ++ x ∷ back) x.ip).attempts (omega arith) (ap (λ (tally : Tally). tally.attempts) (are.each x.ip)) in (
      ones_found x.ip es are.once t found,
      are_once (front ++ x ∷ []) back es (subst (λ (tries : List Try). AreTallies tries es) (sym (append_assoc front (x ∷ []) back)) are),
    )

pub addresses_add_up : AddressesAddUp
addresses_add_up tries tallies are =
    sym (sum_mapped (λ (k : Ip). lost_on tries k) (λ (tallied : Ip × Tally). tallied.0) tallies)
    ∙ over_keys (keys_of tallies) tries (are_once [] tries tallies are)

-- what the attempts of a race own
tries_own : (said : List Said) (race : Race) (lines : List Line) (charges : List ℕ) → length charges ≡ length lines → sum_by (λ (x : Try). x.lost) (map (try_of said race) (zip lines charges)) ≡ sum charges
tries_own said race [] [] long = refl
tries_own said race [] (c ∷ charges) long = absurd (omega arith)
tries_own said race (line ∷ lines) [] long = absurd (omega arith)
tries_own said race (line ∷ lines) (c ∷ charges) long =
    let rest = tries_own said race lines charges (omega arith) in
    let one = sum_by-cons (λ (x : Try). x.lost) (try_of said race (line, c)) (map (try_of said race) (zip lines charges)) in
    let two = sum_by-cons (λ (n : ℕ). n) c charges in
    omega arith

pub losses_add_up : LossesAddUp
losses_add_up [] all = refl
losses_add_up (run ∷ runs) all =
    let is = All-head IsCharged run runs all in
    let rest = losses_add_up runs (All-tail IsCharged run runs all) in
    let own = tries_own run.said run.race run.report.lines run.charges is.as_many in
    let lost = is.lost in
    let tries = sum_by-append (λ (x : Try). x.lost) (tries_of run) (all_tries runs) in
    let nobody = sum_by-cons nobody_of run runs in
    let kept = sum_by-cons (λ (race : Kept). race.times.lost) (kept_of run) (map kept_of runs) in
    omega arith

-- the times of one race
one_adds_up : (times whole : Times) → times ≡ whole → whole.names + whole.lost + whole.unknown + whole.machine + whole.connecting ≡ whole.all
    → times.names + times.lost + times.unknown + times.machine + times.connecting ≡ times.all
one_adds_up times whole is sums = subst (λ (t : Times). t.names + t.lost + t.unknown + t.machine + t.connecting ≡ t.all) (sym is) sums

pub sums_add_up : SumsAddUp
sums_add_up [] all = refl
sums_add_up (run ∷ runs) all =
    let is = All-head IsCharged run runs all in
    let rest = sums_add_up runs (All-tail IsCharged run runs all) in
    let untried = untried_given run.said in
    let one = one_adds_up run.times (race_times run.race run.report untried) is.times (times_add_up run.race run.report untried) in
    let names = sum_by-cons (λ (race : Kept). race.times.names) (kept_of run) (map kept_of runs) in
    let lost = sum_by-cons (λ (race : Kept). race.times.lost) (kept_of run) (map kept_of runs) in
    let unknown = sum_by-cons (λ (race : Kept). race.times.unknown) (kept_of run) (map kept_of runs) in
    let machine = sum_by-cons (λ (race : Kept). race.times.machine) (kept_of run) (map kept_of runs) in
    let connecting = sum_by-cons (λ (race : Kept). race.times.connecting) (kept_of run) (map kept_of runs) in
    let whole = sum_by-cons (λ (race : Kept). race.times.all) (kept_of run) (map kept_of runs) in
    omega arith
