-- The account of a race, stage by stage.
use Rattle.std.proofs.Common.{◌≡◌, ◌+◌, ◌-◌, ◌<◌, ◌≤◌, ◌++◌, ◌∙◌, ℕ, Bool, true, false, if◌then◌else◌, List, [], ◌∷◌, length, take, drop, get_or, sum, refl, sym, ap, subst, arith, add-one, append_assoc}
use Rattle.std.specs.Prelude.{Option, None, Some, nat_le}
use Rattle.std.proofs.Math.Seq.{drop-cons, take-suc}
use Rattle.std.proofs.lemmas.List.{append-nil, drop_all}
use Rattle.std.proofs.lemmas.Option.{slice_get_within}
use Rattle.std.proofs.lemmas.Bool.Decides.{nat_tests}
use Rattle.he_addr.specs.declared.ip.Ip.{Ip}
use Rattle.he_plan.specs.declared.transcript.Line.{Line}
use Rattle.he_plan.specs.Transcript.{Report}
use Rattle.he_timeline.specs.Race.{Race, has_ip}
use Rattle.he_course.specs.declared.accounts.Account.{Account}
use Rattle.he_course.specs.declared.owners.Owner.{Owner}
use Rattle.he_course.specs.declared.owners.Owner.TheVariants as owners
use Rattle.he_course.specs.declared.owners.Stage.{Stage}
use Rattle.he_course.specs.Accounts.{EachTickHasAnOwner, IsAccount, OwnersBalance, TimesAddUp, end_of, last_line, owned, owner_at, owner_of, race_times, stage_by, stage_of, stage_without_winner, started_by}
use Rattle.he_course.specs.Amounts.{HasAtMost, HasGained, amount_of, lost_of, times_of, total_of}
use Rattle.he_course.specs.LeastFloor.{winner_of}
use Rattle.he_course.specs.Owners.{IsOwner, is_idle, owner_awake, owner_in, sum_below, ticks_of}
use Rattle.he_course.proofs.Balance.{one_has, sum_tried, ticks_balance, total_balance}
use Rattle.he_course.proofs.Counting.{ticks_alike, ticks_few}

-- each owner is one that the race can have
owner_if : (n : ℕ) (b : Bool) (x y : Owner) → IsOwner n x → IsOwner n y → IsOwner n (if b then x else y)
owner_if n true x y hx hy = hx
owner_if n false x y hx hy = hy

owner_of_valid : (n place : ℕ) (untried : List Ip) (ip : Ip) → place < n → IsOwner n (owner_of untried place ip)
owner_of_valid n place untried ip h = owner_if n (has_ip ip untried) owners.Unknown (owners.Tried place) tt h

without_valid : (race : Race) (end : ℕ) (untried : List Ip) (started : List Line) (n : ℕ) (last : Option Line)
    → last_line started ≡ last → length started ≤ n → IsOwner n (stage_without_winner race end untried started last).owner
without_valid race end untried started n None e few = tt
without_valid race end untried started n (Some last) e few =
    let within = slice_get_within started (length started - 1) last e in
    owner_of_valid n (length started - 1) untried last.ip (omega arith)

by_valid : (race : Race) (end : ℕ) (untried : List Ip) (started : List Line) (n : ℕ) (winner : Option Line)
    → length started ≤ n → IsOwner n (stage_by race end untried started winner).owner
by_valid race end untried started n None few = without_valid race end untried started n (last_line started) refl few
by_valid race end untried started n (Some line) few = tt

pub stage_valid : (race : Race) (report : Report) (untried : List Ip) (started : List Line) (n : ℕ) → length started ≤ n
    → IsOwner n (stage_of race report untried started).owner
unfolding stage_of
stage_valid race report untried started n few =
    by_valid race (end_of report) untried started n (winner_of started report.result) few

owner_in_valid : (n : ℕ) (pauses : List (ℕ × ℕ)) (stage : Stage) (t : ℕ) → IsOwner n stage.owner
    → IsOwner n (owner_in pauses stage t)
owner_in_valid n pauses stage t valid =
    owner_if n _ owners.Machine (owner_awake stage t) tt
    (owner_if n (is_idle stage t) _ stage.owner (owner_if n _ owners.Names owners.Nobody tt tt) valid)

fewer : (b : Bool) (line : Line) (xs ys : List Line) → length xs ≤ length ys
    → length (if b then line ∷ xs else []) ≤ length (line ∷ ys)
fewer true line xs ys h = omega arith
fewer false line xs ys h = omega arith

started_few : (t : ℕ) (lines : List Line) → length (started_by t lines) ≤ length lines
started_few t [] = omega arith
started_few t (line ∷ more) = fewer (nat_le line.tick t) line (started_by t more) more (started_few t more)

pub owner_at_valid : (race : Race) (report : Report) (untried : List Ip) (t : ℕ)
    → IsOwner (length report.lines) (owner_at race report untried t)
owner_at_valid race report untried t =
    owner_in_valid (length report.lines) race.pauses (stage_of race report untried (started_by t report.lines)) t
    (stage_valid race report untried (started_by t report.lines) (length report.lines) (started_few t report.lines))

-- an attempt that has started by a tick is among those that have
started_head : (t : ℕ) (line : Line) (more : List Line) → line.tick ≤ t → started_by t (line ∷ more) ≡ line ∷ started_by t more
started_head t line more h =
    let by : nat_le line.tick t ≡ true = grind (arith, nat_tests) in
    rw by refl

later_head : (t : ℕ) (line : Line) (more : List Line) → t < line.tick → started_by t (line ∷ more) ≡ []
later_head t line more h =
    let ahead : nat_le line.tick t ≡ false = grind (arith, nat_tests) in
    rw ahead refl

-- the attempts up to this place have started by t
abbrev pub ArePassed : List Line → ℕ → ℕ → Type 0
ArePassed lines i t = started_by t lines ≡ take i lines ++ started_by t (drop i lines)

pub passed_more : (lines : List Line) (i : ℕ) (d : Line) (t : ℕ) → i < length lines → (get_or lines i d).tick ≤ t
    → ArePassed lines i t → ArePassed lines (i + 1) t
passed_more lines i d t within by passed =
    let line = get_or lines i d in
    let next : drop i lines ≡ line ∷ drop (i + 1) lines = rw (add-one i) (drop-cons lines i d within) in
    let more : take (i + 1) lines ≡ take i lines ++ line ∷ [] = rw (add-one i) (take-suc lines i d within) in
    passed
    ∙ ap (λ xs. take i lines ++ started_by t xs) next
    ∙ ap (λ xs. take i lines ++ xs) (started_head t line (drop (i + 1) lines) by)
    ∙ sym (append_assoc (take i lines) (line ∷ []) (started_by t (drop (i + 1) lines)))
    ∙ ap (λ xs. xs ++ started_by t (drop (i + 1) lines)) (sym more)

pub started_here : (lines : List Line) (i : ℕ) (d : Line) (t : ℕ) → i < length lines → t < (get_or lines i d).tick
    → ArePassed lines i t → started_by t lines ≡ take i lines
started_here lines i d t within ahead passed =
    let line = get_or lines i d in
    let next : drop i lines ≡ line ∷ drop (i + 1) lines = rw (add-one i) (drop-cons lines i d within) in
    passed
    ∙ ap (λ xs. take i lines ++ started_by t xs) next
    ∙ ap (λ xs. take i lines ++ xs) (later_head t line (drop (i + 1) lines) ahead)
    ∙ append-nil (take i lines)

-- a stage whose owner is the race's own adds the race's ticks
pub gained_more : {A : Type 0} (one two : ℕ → Owner) (from to : ℕ) (old new : Account A) (who : Owner) → from ≤ to
    → HasGained one from to old new → IsOwner (length old.tried.items) who
    → ((t : ℕ) → from ≤ t → t < to → one t ≡ two t)
    → amount_of old who ≡ ticks_of two from who → amount_of new who ≡ ticks_of two to who
gained_more one two from to old new who h gained valid same had =
    let each = gained.each who valid in
    let alike = ticks_alike one two from to who h same in
    omega arith

-- the owner in a stage is the race's own, while its attempts are those that have started
pub owner_here : (race : Race) (report : Report) (untried : List Ip) (started : List Line) (t : ℕ)
    → started_by t report.lines ≡ started
    → owner_in race.pauses (stage_of race report untried started) t ≡ owner_at race report untried t
owner_here race report untried started t e =
    ap (λ xs. owner_in race.pauses (stage_of race report untried xs) t) (sym e)

pub started_last : (lines : List Line) (i t : ℕ) → length lines ≤ i → ArePassed lines i t → started_by t lines ≡ take i lines
started_last lines i t past passed =
    passed ∙ ap (λ xs. take i lines ++ started_by t xs) (drop_all i lines past) ∙ append-nil (take i lines)

-- an account of the ticks below one has no more than that for each owner
pub has_at_most : {A : Type 0} (owner : ℕ → Owner) (at n : ℕ) (account : Account A) → length account.tried.items ≡ n
    → ((who : Owner) → IsOwner n who → amount_of account who ≡ ticks_of owner at who) → HasAtMost at account
has_at_most owner at n account as_many each who valid =
    let own = subst (λ k. IsOwner k who) as_many valid in
    let has = each who own in
    let few = ticks_few owner at who in
    omega arith

pub each_tick : EachTickHasAnOwner
each_tick race report untried t =
    one_has (length report.lines) (owner_at race report untried t) (owner_at_valid race report untried t)

pub owners_balance : OwnersBalance
owners_balance race report untried =
    ticks_balance (owner_at race report untried) (length report.lines) (owner_at_valid race report untried) (end_of report)

pub account_balance : {A : Type 0} (race : Race) (report : Report) (untried : List Ip) (account : Account A)
    → IsAccount race report untried account → total_of account ≡ end_of report
account_balance race report untried account is =
    total_balance (owner_at race report untried) (end_of report) (length report.lines) account
    (owner_at_valid race report untried) is.as_many is.each

pub times_add_up : TimesAddUp
times_add_up race report untried = let balance = owners_balance race report untried in omega arith

-- the times of an account are the race's
pub account_times : {A : Type 0} (race : Race) (report : Report) (untried : List Ip) (account : Account A)
    → IsAccount race report untried account → account.lost ≡ lost_of account
    → times_of (end_of report) account ≡ race_times race report untried
account_times race report untried account is lost =
    let places = length report.lines in
    let sums : sum account.tried.items ≡ sum_below (λ place. owned race report untried (owners.Tried place)) places =
    sum_tried (owner_at race report untried) (end_of report) places account is.as_many is.each in
    let nobody = is.each owners.Nobody tt in
    let whole : account.lost
    ≡ sum_below (λ place. owned race report untried (owners.Tried place)) places
    + owned race report untried owners.Nobody =
    omega arith in
    rw (is.each owners.Names tt, whole, is.each owners.Unknown tt, is.each owners.Machine tt, is.each owners.Connecting tt)
    refl
