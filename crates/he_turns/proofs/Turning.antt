-- What the unfinished attempts and the record of a race are after a poll of them, and at its end.
use Rattle.std.proofs.Common.{◌≡◌, ℕ, zero, suc, ◌+◌, ◌≤◌, ◌<◌, ◌==◌, ◌&&◌, ◌||◌, ◌++◌, Bool, true, false, List, [], ◌∷◌, if◌then◌else◌, length, take, drop, find, get_or, Option, Some, None, Result, IfSome, is_some, nat_le, nat_lt, refl, sym, ◌∙◌, ap, subst, arith, inl, inr, length-append, vec_len}
use Rattle.std.specs.List.{All, Contains, remove, slice_set}
use Rattle.std.specs.Option.{option_map}
use Rattle.std.proofs.lemmas.List.{get_or_append_left}
use Rattle.std.proofs.lemmas.List.Elements.{All-append, All-drop, All-take, All-weaker}
use Rattle.he_addr.specs.declared.ip.Ip.{Ip}
use Rattle.he_addr.specs.Ip.{same_ip}
use Rattle.he_plan.specs.declared.attempts.Attempt.{Attempt}
use Rattle.he_timeline.specs.declared.outcome.Outcome.{Outcome}
use Rattle.he_timeline.specs.declared.outcome.Outcome.TheVariants as outcomes
use Rattle.he_plan.specs.Agreement.{AreAlike}
use Rattle.he_plan.specs.Attempts.{MayStart}
use Rattle.he_timeline.specs.Building.{with_pause}
use Rattle.he_timeline.specs.Race.{outcome_in, outcome_of, Race, Reply, has_outcome}
use Rattle.he_timeline.specs.Timeline.{IsRace}
use Rattle.he_plan.specs.RaceState.{IsUnderway}
use Rattle.he_timeline.proofs.Bools.{above, and_left, and_right, le_from, or_left_none, or_one, or_right_none}
use Rattle.he_plan.proofs.Growing.{pauses-over}
use Rattle.he_plan.proofs.Stopping.{none_left-ends}
use Rattle.he_turns.specs.declared.recorder.Recorder.{Recorder}
use Rattle.he_turns.specs.declared.connector.Connector.{Ghosts as ConnectorOf}
use Rattle.he_turns.specs.declared.faults.AttemptFault.{AttemptFault}
use Rattle.he_turns.specs.declared.live.Live.{Live}
use Rattle.he_turns.specs.declared.live.Unfinished.{Unfinished}
use Rattle.he_turns.specs.declared.trial.Trial.{Ghosts as TrialOf}
use Rattle.he_turns.specs.Answered.{is_tried_out_by}
use Rattle.he_turns.specs.Kept.{Begins, FailedBelow, InTurn, IsEnded, MakesOne, IsUnfinished, are_untold}
use Rattle.he_turns.specs.Recording.{EndedBy, EndsRace, slept}
use Rattle.he_turns.specs.Polling.{Answers, Polled, Records}
use Rattle.he_turns.specs.Turns.{is_connection, is_over, told}
use Rattle.he_turns.proofs.Recorded.{finished}

pub take-set : {X : Type 0} (xs : List X) (i : ℕ) (a : X) → take i (slice_set xs i a) ≡ take i xs
take-set [] zero a = refl
take-set [] (suc i) a = refl
take-set (x ∷ xs) zero a = refl
take-set (x ∷ xs) (suc i) a = ap (λ ys. x ∷ ys) (take-set xs i a)

pub drop-set : {X : Type 0} (xs : List X) (i : ℕ) (a : X) → drop (suc i) (slice_set xs i a) ≡ drop (suc i) xs
drop-set [] zero a = refl
drop-set [] (suc i) a = refl
drop-set (x ∷ xs) zero a = refl
drop-set (x ∷ xs) (suc i) a = drop-set xs i a

-- what is true of all is true of those that are left where one goes
pub All-left : {X : Type 0} (P : X → Type 0) (xs : List X) (i : ℕ) (a : X) → All P xs → All P (remove (slice_set xs i a) i)
All-left P xs i a h = rw (take-set xs i a, drop-set xs i a) (All-append P (take i xs) (drop (suc i) xs) (All-take P i xs h) (All-drop P (suc i) xs h))

no_outcome : (told : List (Ip × Outcome)) (ip : Ip) → has_outcome ip told ≡ false → outcome_in told ip ≡ None
no_outcome [] ip h = refl
no_outcome (p ∷ told) ip h = by_head (same_ip p.0 ip) (or_left_none _ _ h) (no_outcome told ip (or_right_none _ _ h))
  where
    by_head : (b : Bool) → b ≡ false → outcome_in told ip ≡ None → option_map (λ (q : Ip × Outcome). q.1) (if b then Some p else find (λ (q : Ip × Outcome). same_ip q.0 ip) told) ≡ None
    by_head true e rest = cc
    by_head false e rest = rest

-- the turn goes on where an attempt was recorded
pub recorded-turn : {Conn : Type 0} (old new : Recorder) (now : ℕ) (won : Bool) (answer : Result Conn AttemptFault) → InTurn old.recorded now old.underway.attempts won → Records old now answer new → InTurn new.recorded now new.underway.attempts (won || is_connection answer)
recorded-turn old new now won answer t r =
    let after : InTurn (told old.recorded r.x now answer) now old.underway.attempts (won || is_connection answer) = finished old.recorded now old.underway.attempts won (is_connection answer) r.x t r.made (no_outcome old.recorded.outcomes r.x.ip r.first) r.first (subst IsRace r.is r.valid) in
    rw (r.is, r.attempts) after

pub alike-later : (x y z : Race) → AreAlike x y → AreAlike y z → AreAlike x z
alike-later x y z e f = f ∙ ap (λ (r : Race). record r { outcomes = z.outcomes; pauses = z.pauses }) e

pub polled-none : (old : Recorder) → IsUnderway old.recorded old.underway → Polled old old
polled-none old underway = record { attempts = refl; alike = refl; pauses = refl; underway = underway }

pub polled-more : {Conn : Type 0} (first old new : Recorder) (now : ℕ) (answer : Result Conn AttemptFault) → Polled first old → Records old now answer new → Polled first new
polled-more first old new now answer p r = record {
  attempts = r.attempts ∙ p.attempts;
  alike = alike-later first.recorded old.recorded new.recorded p.alike (subst (AreAlike old.recorded) (sym r.is) refl);
  pauses = ap (λ (race : Race). race.pauses) r.is ∙ p.pauses;
  underway = r.underway;
}

-- past the limit the race ends at it
pub ends-late : (race : Race) (now : ℕ) (xs : List Attempt) → Begins race now xs → now ≡ race.settings.limit + 1 → EndsRace race race.settings.limit xs false
ends-late race now xs b e = record {
  valid = b.in_turn.valid;
  in_turn = b.in_turn.made.in_turn;
  past = All-weaker (λ (x : Attempt). x.tick < now) (λ (x : Attempt). x.tick ≤ race.settings.limit) (λ x h. omega (arith, h)) xs b.in_turn.past;
  before = λ won. absurd (not_won won);
  free = λ won. absurd (not_won won);
  early = omega arith;
  ended = All-weaker (λ (x : Attempt). IfSome (outcome_of race x.ip) (FailedBelow race now x)) (λ (x : Attempt). IfSome (outcome_of race x.ip) (EndedBy race race.settings.limit false x)) (λ x h. by_outcome x (outcome_of race x.ip) h) xs b.failed;
  stops = λ t m. omega (arith, b.in_turn.stops t m);
  success = λ won. absurd (not_won won);
  over = λ lost t m. omega (arith, b.in_turn.stops t m, m.0);
}
  where
    not_won : false ≡ true → ⊥
    not_won e = cc

    by_outcome : (x : Attempt) (o : Option Outcome) → IfSome o (FailedBelow race now x) → IfSome o (EndedBy race race.settings.limit false x)
    by_outcome x None h = tt
    by_outcome x (Some (outcomes.Ok d)) h = absurd h
    by_outcome x (Some (outcomes.Fail d)) h = (h.0, omega (arith, h.1))

pub ended-late : (race : Race) (now : ℕ) (xs : List Attempt) → Begins race now xs → now ≡ race.settings.limit + 1 → IsEnded race xs false
ended-late race now xs b e = record { stop = race.settings.limit; ends = ends-late race now xs b e }

tried_out : (race : Race) (now : ℕ) (xs : List Attempt) (aaaa a : Option Reply) → race.aaaa ≡ aaaa → race.a ≡ a → is_tried_out_by now xs aaaa ≡ true → is_tried_out_by now xs a ≡ true → (t : ℕ) → ¬ MayStart race xs t
tried_out race now xs None a six four h k = cc
tried_out race now xs (Some s) None six four h k = cc
tried_out race now xs (Some s) (Some r) six four h k = none_left-ends race xs s r six four (and_right _ _ h) (and_right _ _ k)

-- a turn that is over ends the race
pub ends-turn : {X : Type 0} (race : Race) (xs : List Attempt) (now : ℕ) (unfinished : List X) (won : Bool) → InTurn race now xs won → now ≤ race.settings.limit → is_over race xs now unfinished won ≡ true → EndsRace race now xs won
ends-turn race xs now unfinished won t early over = record {
  valid = t.valid;
  in_turn = t.made.in_turn;
  past = All-weaker (λ (x : Attempt). x.tick < now) (λ (x : Attempt). x.tick ≤ now) (λ x h. omega (arith, h)) xs t.past;
  before = λ yes. t.past;
  free = λ yes. pauses-over race t.valid now t.over;
  early = early;
  ended = t.ended;
  stops = t.stops;
  success = t.success;
  over = λ lost s m. none lost over s m;
}
  where
    none : won ≡ false → is_over race xs now unfinished won ≡ true → (s : ℕ) → ¬ MayStart race xs s
    none lost over s m =
        let late : Bool = nat_le race.settings.limit now in
        let six : Bool = is_tried_out_by now xs race.aaaa in
        let four : Bool = is_tried_out_by now xs race.a in
        let e : (late || ((length unfinished == 0) && (six && four))) ≡ true = subst (λ (b : Bool). is_over race xs now unfinished b ≡ true) lost over in
        elim (or_one late ((length unfinished == 0) && (six && four)) e) [
          | inl limit ↦ let k : now ≤ s = t.stops s m in let l : race.settings.limit ≤ now = le_from race.settings.limit now limit in omega (arith, m.0)
          | inr out ↦
              let both : (six && four) ≡ true = and_right (length unfinished == 0) (six && four) out in
              tried_out race now xs race.aaaa race.a refl refl (and_left six four both) (and_right six four both) s m
        ]

pub ended-turn : {X : Type 0} (race : Race) (xs : List Attempt) (now : ℕ) (unfinished : List X) (won : Bool) → InTurn race now xs won → now ≤ race.settings.limit → is_over race xs now unfinished won ≡ true → IsEnded race xs won
ended-turn race xs now unfinished won t early over = record { stop = now; ends = ends-turn race xs now unfinished won t early over }

-- a race that goes on is below its limit
pub going-early : {X : Type 0} (race : Race) (xs : List Attempt) (now : ℕ) (unfinished : List X) (won : Bool) → is_over race xs now unfinished won ≡ false → now < race.settings.limit
going-early race xs now unfinished won e = above race.settings.limit now (or_left_none _ _ (or_right_none won _ e))

pub contains-at : (xs : List Attempt) (k : ℕ) (d : Attempt) → k < length xs → Contains xs (get_or xs k d)
contains-at xs k d lt = (k, lt, same xs k (get_or xs k d) d lt)
  where
    same : (ys : List Attempt) (j : ℕ) (a b : Attempt) → j < length ys → get_or ys j a ≡ get_or ys j b
    same [] j a b lt = absurd (let no : ⊥ = omega arith in no)
    same (y ∷ ys) zero a b lt = refl
    same (y ∷ ys) (suc j) a b lt = same ys j a b (omega arith)

-- what is kept while the unfinished attempts are polled
module _ {C Conn Run : Type 0} (connector : ConnectorOf C Conn Run) (trial : TrialOf Run Conn) where
  pub record Polling (first : Recorder) (now : ℕ) (cur : Live C Conn Run) (i : ℕ) (won : Bool) : Type 0 where
    pub turn : InTurn cur.recorder.recorded now cur.recorder.underway.attempts won
    pub unfinished : All (IsUnfinished connector trial cur.recorder.underway.attempts) cur.unfinished.items
    pub untold : are_untold cur.recorder.recorded.outcomes cur.unfinished.items ≡ true
    pub polled : Polled first cur.recorder
    pub within : i ≤ vec_len cur.unfinished

  -- an attempt of a race is one of it later
  made_later : (race : Race) (xs all : List Attempt) (now : ℕ) (x : Attempt) → MakesOne race xs all now → Contains xs x → Contains all x
  made_later race xs all now x (inl same) h = subst (λ (ys : List Attempt). Contains ys x) (sym same) h
  made_later race xs all now x (inr p) h =
      subst (λ (ys : List Attempt). Contains ys x) (sym p.more) (h.0, let l : length (xs ++ p.next ∷ []) ≡ length xs + 1 = length-append xs (p.next ∷ []) in omega (arith, h.1), get_or_append_left xs (p.next ∷ []) x h.0 h.1 ∙ h.2)

  pub unfinished-later : (race : Race) (xs all : List Attempt) (now : ℕ) (os : List (Unfinished C Conn Run)) → MakesOne race xs all now → All (IsUnfinished connector trial xs) os → All (IsUnfinished connector trial all) os
  unfinished-later race xs all now os m h = All-weaker (IsUnfinished connector trial xs) (IsUnfinished connector trial all) (λ o u. record { made = made_later race xs all now o.attempt m u.made; can = u.can }) os h

  pub polling-none : (first : Recorder) (now : ℕ) (cur new : Live C Conn Run) (i : ℕ) (won : Bool) (answer : Option (Result Conn AttemptFault)) → Polling first now cur i won → i < vec_len cur.unfinished → answer ≡ None → Answers cur.recorder now answer new.recorder → All (IsUnfinished connector trial cur.recorder.underway.attempts) new.unfinished.items → are_untold new.recorder.recorded.outcomes new.unfinished.items ≡ true → vec_len new.unfinished + (if is_some answer then 1 else 0) ≡ vec_len cur.unfinished → Polling first now new (i + 1) won
  polling-none first now cur new i won (Some a) p lt e recorder left untold len = cc
  polling-none first now cur new i won None p lt e recorder left untold len =
      let P : Recorder → Type 0 = λ c. InTurn c.recorded now c.underway.attempts won in
      let Q : Recorder → Type 0 = λ c. All (IsUnfinished connector trial c.underway.attempts) new.unfinished.items in
      record {
        turn = subst P (sym recorder) p.turn;
        unfinished = subst Q (sym recorder) left;
        untold = untold;
        polled = subst (Polled first) (sym recorder) p.polled;
        within = omega (arith, len);
      }

  pub polling-some : (first : Recorder) (now : ℕ) (cur new : Live C Conn Run) (i : ℕ) (won more : Bool) (answer : Option (Result Conn AttemptFault)) (a : Result Conn AttemptFault) → Polling first now cur i won → i < vec_len cur.unfinished → answer ≡ Some a → more ≡ (won || is_connection a) → Answers cur.recorder now answer new.recorder → All (IsUnfinished connector trial cur.recorder.underway.attempts) new.unfinished.items → are_untold new.recorder.recorded.outcomes new.unfinished.items ≡ true → vec_len new.unfinished + (if is_some answer then 1 else 0) ≡ vec_len cur.unfinished → Polling first now new i more
  polling-some first now cur new i won more None a p lt e m recorder left untold len = cc
  polling-some first now cur new i won more (Some b) a p lt e m recorder left untold len =
      let same : b ≡ a = cc in
      let r : Records cur.recorder now a new.recorder = subst (λ (x : Result Conn AttemptFault). Records cur.recorder now x new.recorder) same recorder in
      let turn : InTurn new.recorder.recorded now new.recorder.underway.attempts (won || is_connection a) = recorded-turn cur.recorder new.recorder now won a p.turn r in
      let Q : List Attempt → Type 0 = λ xs. All (IsUnfinished connector trial xs) new.unfinished.items in
      record {
        turn = subst (InTurn new.recorder.recorded now new.recorder.underway.attempts) (sym m) turn;
        unfinished = subst Q (sym r.attempts) left;
        untold = untold;
        polled = polled-more first cur.recorder new.recorder now a p.polled r;
        within = omega (arith, len);
      }

-- a race that has slept has the same settings, policy, host, answers and history
pub slept-alike : (race : Race) (due now : ℕ) → AreAlike race (slept race due now)
slept-alike race due now = by_test (nat_lt due now)
  where
    by_test : (b : Bool) → AreAlike race (if b then with_pause race due now else race)
    by_test true = refl
    by_test false = refl

pub same_limit : (x y : Race) → AreAlike x y → y.settings.limit ≡ x.settings.limit
same_limit x y e = ap (λ (r : Race). r.settings.limit) e
