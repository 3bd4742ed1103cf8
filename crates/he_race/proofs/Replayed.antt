-- What the transcript of a race's record is, where the record is that of a script: the script's own.
use Rattle.std.proofs.Common.{◌≡◌, ℕ, ◌+◌, ◌-◌, ◌≤◌, ◌<◌, ◌⊎◌, ◌&&◌, ◌||◌, ◌++◌, Bool, true, false, List, [], ◌∷◌, if◌then◌else◌, length, get_or, map, find, Option, Some, None, IfSome, is_some, nat_le, refl, sym, ◌∙◌, ap, subst, arith, inl, inr, append_assoc}
use Rattle.std.specs.List.{All, Contains, list_all, slice_get}
use Rattle.std.specs.Option.{option_map, option_map_or}
use Rattle.std.proofs.lemmas.Bool.{cases_lt}
use Rattle.std.proofs.lemmas.List.{append-nil}
use Rattle.std.proofs.lemmas.List.Elements.{All-head, All-tail}
use Rattle.he_addr.specs.Ip.{InRange, same_ip}
use Rattle.he_addr.specs.declared.ip.Ip.{Ip}
use Rattle.he_plan.specs.declared.attempts.Attempt.{Attempt}
use Rattle.he_plan.specs.declared.finish.Fate.{Fate}
use Rattle.he_plan.specs.declared.finish.Fate.TheVariants.{Succeeded, Failed, Running}
use Rattle.he_timeline.specs.declared.outcome.Outcome.{Outcome}
use Rattle.he_timeline.specs.declared.outcome.Outcome.TheVariants as outcomes
use Rattle.he_plan.specs.declared.transcript.Outcome3.{Outcome3}
use Rattle.he_plan.specs.declared.transcript.Outcome3.TheVariants as results
use Rattle.he_plan.specs.Agreement.{AreAlike}
use Rattle.he_plan.specs.Attempts.{AreNextInTurn, MayStart, has_failed, has_failed_by}
use Rattle.he_timeline.specs.Seen.{IsFree, seen}
use Rattle.he_plan.specs.Finish.{IsWinner, fate_by, fate_of, known_at, known_by}
use Rattle.he_timeline.specs.Race.{outcome_in, outcome_of, Race, Reply, addresses_of, has_outcome}
use Rattle.he_plan.specs.Planning.{next_winner, told_lines}
use Rattle.he_timeline.specs.Timeline.{IsRace, duration_of}
use Rattle.he_plan.specs.Transcript.{AreKnown, IsTranscript, Report, failures, greatest, is_failed, is_tried_out, result_of, stop_of, without_winner}
use Rattle.he_plan.proofs.Agreeing.{starts-shared}
use Rattle.he_timeline.proofs.Bools.{le_from, le_test, not_le}
use Rattle.he_plan.proofs.Dueness.{finish-failed, finish-silent, finish-succeeded, starts-free}
use Rattle.he_plan.proofs.Finishing.{IsWinner-more}
use Rattle.he_plan.proofs.Lawful.{transcript-one}
use Rattle.he_plan.proofs.Stopping.{stopped-is}
use Rattle.he_race.specs.Following.{EndsAs, IsAsScripted, IsScript}
use Rattle.he_turns.specs.Recording.{EndedBy, EndsRace}
use Rattle.he_turns.proofs.Ending.{Known, ended-known, winner-stop}
use Rattle.he_turns.proofs.Failing.{all-same, seen-free}
use Rattle.he_turns.proofs.Recorded.{same-attempt}
use Rattle.he_turns.proofs.Turning.{contains-at, same_limit}

-- attempts of a race have a winner, or none
winner_from : (done more : List Fate) (best : Option (ℕ × ℕ)) → IsWinner done best → (winner : Option (ℕ × ℕ)) × IsWinner (done ++ more) winner
winner_from done [] best h = (best, subst (λ (fates : List Fate). IsWinner fates best) (sym (append-nil done)) h)
winner_from done (x ∷ more) best h =
    let rest : (winner : Option (ℕ × ℕ)) × IsWinner ((done ++ x ∷ []) ++ more) winner = winner_from (done ++ x ∷ []) more (next_winner best (length done) x) (IsWinner-more done x best h) in
    (rest.0, subst (λ (fates : List Fate). IsWinner fates rest.0) (append_assoc done (x ∷ []) more) rest.1)

winner_of : (fates : List Fate) → (winner : Option (ℕ × ℕ)) × IsWinner fates winner
winner_of fates = winner_from [] fates None (λ key h. none key h)
  where
    none : (key : ℕ × ℕ) → ¬ (slice_get [] key.1 ≡ Some (Succeeded key.0))
    none key h = cc

-- the script's outcome of what is recorded
pub record IsToldAs (script : Race) (x : Attempt) (told : Outcome) : Type 0 where
  pub outcome : Outcome
  pub is : outcome_of script x.ip ≡ Some outcome
  pub ends : EndsAs script x.tick told outcome

pub told-as : (script : Race) (xs : List Attempt) → AreNextInTurn script xs → (x : Attempt) → Contains xs x → (told : List (Ip × Outcome)) → All (IsAsScripted script xs) told → IfSome (outcome_in told x.ip) (IsToldAs script x)
told-as script xs turn x made [] h = tt
told-as script xs turn x made (p ∷ told) h = by_head (same_ip p.0 x.ip) refl (told-as script xs turn x made told (All-tail (IsAsScripted script xs) p told h))
  where
    by_head : (b : Bool) → same_ip p.0 x.ip ≡ b → IfSome (outcome_in told x.ip) (IsToldAs script x) → IfSome (option_map (λ (q : Ip × Outcome). q.1) (if b then Some p else find (λ (q : Ip × Outcome). same_ip q.0 x.ip) told)) (IsToldAs script x)
    by_head true e rest =
        let k : IsAsScripted script xs p = All-head (IsAsScripted script xs) p told h in
        let same : k.x ≡ x = same-attempt script xs turn x k.x made k.made (ap (λ (ip : Ip). same_ip ip x.ip) k.at ∙ e) in
        subst (λ (y : Attempt). IsToldAs script y p.1) same (record { outcome = k.outcome; is = k.is; ends = k.ends })
    by_head false e rest = rest

-- an address without an outcome
pub none-told : (told : List (Ip × Outcome)) (ip : Ip) → outcome_in told ip ≡ None → has_outcome ip told ≡ false
none-told [] ip h = refl
none-told (p ∷ told) ip h = by_head (same_ip p.0 ip) h (none-told told ip)
  where
    by_head : (b : Bool) → option_map (λ (q : Ip × Outcome). q.1) (if b then Some p else find (λ (q : Ip × Outcome). same_ip q.0 ip) told) ≡ None → (outcome_in told ip ≡ None → has_outcome ip told ≡ false) → (b || has_outcome ip told) ≡ false
    by_head true h rest = cc
    by_head false h rest = rest h

-- an attempt of which nothing is recorded ends later in the script
abbrev pub EndsAfter : Race → ℕ → Attempt → Type 0
EndsAfter script tick x = IfSome (outcome_of script x.ip) (λ outcome. tick < seen script (x.tick + duration_of outcome))

pub ends-sooner : (script : Race) (low tick : ℕ) (x : Attempt) → tick ≤ low → EndsAfter script low x → EndsAfter script tick x
ends-sooner script low tick x up h = by_outcome (outcome_of script x.ip) h
  where
    by_outcome : (o : Option Outcome) → IfSome o (λ outcome. low < seen script (x.tick + duration_of outcome)) → IfSome o (λ outcome. tick < seen script (x.tick + duration_of outcome))
    by_outcome None h = tt
    by_outcome (Some outcome) h = let k : low < seen script (x.tick + duration_of outcome) = h in omega arith

ok_not_fail : (d n : ℕ) → outcomes.Ok d ≡ outcomes.Fail n → ⊥
ok_not_fail d n same = cc

pub fail-same : (d n : ℕ) → outcomes.Fail d ≡ outcomes.Fail n → d ≡ n
fail-same d n same = cc

late_runs : (script : Race) (x : Attempt) (tick : ℕ) (o : Option Outcome) → outcome_of script x.ip ≡ o → IfSome o (λ outcome. tick < seen script (x.tick + duration_of outcome)) → known_at script tick x ≡ Running
late_runs script x tick None is late = ap (λ (o : Option Outcome). known_by tick (fate_by script x.tick o)) is
late_runs script x tick (Some (outcomes.Ok d)) is late = ap (λ (o : Option Outcome). known_by tick (fate_by script x.tick o)) is ∙ by_limit (nat_le (seen script (x.tick + d)) script.settings.limit)
  where
    by_limit : (b : Bool) → known_by tick (if b then Succeeded (seen script (x.tick + d)) else Running) ≡ Running
    by_limit true = rw (not_le (seen script (x.tick + d)) tick late)
    by_limit false = refl
late_runs script x tick (Some (outcomes.Fail d)) is late = ap (λ (o : Option Outcome). known_by tick (fate_by script x.tick o)) is ∙ by_limit (nat_le (seen script (x.tick + d)) script.settings.limit)
  where
    by_limit : (b : Bool) → known_by tick (if b then Failed (seen script (x.tick + d)) else Running) ≡ Running
    by_limit true = rw (not_le (seen script (x.tick + d)) tick late)
    by_limit false = refl

-- an attempt that ended, or still runs, as the script has it, has failed by a tick in both or in neither
pub failed-script : (script race : Race) → IsRace race → (tick : ℕ) (x : Attempt) → (o : Option Outcome) → IfSome o (λ out. (d : ℕ) → out ≡ outcomes.Fail d → IsFree race (x.tick + d)) → IfSome o (IsToldAs script x) → (o ≡ None → EndsAfter script tick x) → has_failed_by race tick x.tick o ≡ has_failed script tick x
failed-script script race r tick x None ended told late = by_outcome (outcome_of script x.ip) (late refl)
  where
    by_outcome : (u : Option Outcome) → IfSome u (λ outcome. tick < seen script (x.tick + duration_of outcome)) → false ≡ has_failed_by script tick x.tick u
    by_outcome None h = refl
    by_outcome (Some (outcomes.Ok n)) h = refl
    by_outcome (Some (outcomes.Fail n)) h = sym (not_le (seen script (x.tick + n)) tick h)
failed-script script race r tick x (Some (outcomes.Ok d)) ended told late = by_outcome told.outcome told.is told.ends
  where
    by_outcome : (u : Outcome) → outcome_of script x.ip ≡ Some u → EndsAs script x.tick (outcomes.Ok d) u → false ≡ has_failed script tick x
    by_outcome (outcomes.Ok n) same ends = sym (ap (has_failed_by script tick x.tick) same)
    by_outcome (outcomes.Fail n) same ends = absurd ends
failed-script script race r tick x (Some (outcomes.Fail d)) ended told late = by_outcome told.outcome told.is told.ends
  where
    at : seen race (x.tick + d) ≡ x.tick + d
    at = seen-free race r (x.tick + d) (ended d refl)

    by_outcome : (u : Outcome) → outcome_of script x.ip ≡ Some u → EndsAs script x.tick (outcomes.Fail d) u → nat_le (seen race (x.tick + d)) tick ≡ has_failed script tick x
    by_outcome (outcomes.Ok n) same ends = absurd ends
    by_outcome (outcomes.Fail n) same ends = ap (λ (k : ℕ). nat_le k tick) (at ∙ ends) ∙ sym (ap (has_failed_by script tick x.tick) same)

-- what the script has of an attempt that ends by the tick
known_ok : (script : Race) (x : Attempt) (d finish tick : ℕ) → outcome_of script x.ip ≡ Some (outcomes.Ok d) → finish ≡ seen script (x.tick + d) → finish ≤ tick → finish ≤ script.settings.limit → known_at script tick x ≡ Succeeded finish
known_ok script x d finish tick is e by early =
    ap (λ (o : Option Outcome). known_by tick (fate_by script x.tick o)) is ∙ rw (sym e, le_test finish script.settings.limit early, le_test finish tick by) refl

known_fail : (script : Race) (x : Attempt) (d finish tick : ℕ) → outcome_of script x.ip ≡ Some (outcomes.Fail d) → finish ≡ seen script (x.tick + d) → finish ≤ tick → finish ≤ script.settings.limit → known_at script tick x ≡ Failed finish
known_fail script x d finish tick is e by early =
    ap (λ (o : Option Outcome). known_by tick (fate_by script x.tick o)) is ∙ rw (sym e, le_test finish script.settings.limit early, le_test finish tick by) refl

-- an answer is seen in both races at the same tick, or in both after the limit
abbrev pub SeesAlike : Race → Race → ℕ → Type 0
SeesAlike script race k = (seen race k ≡ seen script k) ⊎ ((script.settings.limit < seen race k) × (script.settings.limit < seen script k))

-- how two races end that see their answers alike
same_first : (limit x y : ℕ) → (x ≡ y) ⊎ ((limit < x) × (limit < y)) → nat_le x limit ≡ nat_le y limit
same_first limit x y (inl same) = ap (λ (k : ℕ). nat_le k limit) same
same_first limit x y (inr late) = not_le x limit late.0 ∙ sym (not_le y limit late.1)

same_seen : (limit x y : ℕ) → (x ≡ y) ⊎ ((limit < x) × (limit < y)) → nat_le y limit ≡ true → x ≡ y
same_seen limit x y (inl same) early = same
same_seen limit x y (inr late) early = let by : y ≤ limit = le_from y limit early in absurd (let none : ⊥ = omega (arith, late.1) in none)

ends_by : (limit : ℕ) (known : List Fate) (b c d : Bool) (x y u v : ℕ) → (x ≡ y) ⊎ ((limit < x) × (limit < y)) → (u ≡ v) ⊎ ((limit < u) × (limit < v))
    → ◌≡◌ {A = Outcome3} (if nat_le x limit && nat_le u limit && b && c && d then results.Exhausted (greatest (x ∷ u ∷ failures known)) else results.Limit limit) (if nat_le y limit && nat_le v limit && b && c && d then results.Exhausted (greatest (y ∷ v ∷ failures known)) else results.Limit limit)
ends_by limit known b c d x y u v six four = rw (same_first limit x y six, same_first limit u v four) (by_test (nat_le y limit) (nat_le v limit) (same_seen limit x y six) (same_seen limit u v four))
  where
    by_test : (p q : Bool) → (p ≡ true → x ≡ y) → (q ≡ true → u ≡ v) → ◌≡◌ {A = Outcome3} (if p && q && b && c && d then results.Exhausted (greatest (x ∷ u ∷ failures known)) else results.Limit limit) (if p && q && b && c && d then results.Exhausted (greatest (y ∷ v ∷ failures known)) else results.Limit limit)
    by_test false q one two = refl
    by_test true false one two = refl
    by_test true true one two = rw (one refl, two refl) refl

ends_of : (script : Race) (told : List (Ip × Outcome)) (pauses : List (ℕ × ℕ)) (xs : List Attempt) (known : List Fate) (aaaa a : Option Reply) → IfSome aaaa (λ r. SeesAlike script (record script { outcomes = told; pauses = pauses }) r.tick) → IfSome a (λ r. SeesAlike script (record script { outcomes = told; pauses = pauses }) r.tick)
    → without_winner (record script { outcomes = told; pauses = pauses }) xs known aaaa a ≡ without_winner script xs known aaaa a
ends_of script told pauses xs known None a six four = refl
ends_of script told pauses xs known (Some s) None six four = refl
ends_of script told pauses xs known (Some s) (Some r) six four =
    ends_by script.settings.limit known (is_tried_out xs s) (is_tried_out xs r) (list_all is_failed known) (seen (record script { outcomes = told; pauses = pauses }) s.tick) (seen script s.tick) (seen (record script { outcomes = told; pauses = pauses }) r.tick) (seen script r.tick) six four

ends-alike : (script race : Race) → AreAlike script race → (xs : List Attempt) (known : List Fate) → IfSome script.aaaa (λ r. SeesAlike script race r.tick) → IfSome script.a (λ r. SeesAlike script race r.tick)
    → without_winner race xs known race.aaaa race.a ≡ without_winner script xs known script.aaaa script.a
ends-alike script race e xs known =
    let P : Race → Type 0 = λ z. IfSome script.aaaa (λ r. SeesAlike script z r.tick) → IfSome script.a (λ r. SeesAlike script z r.tick) → without_winner z xs known z.aaaa z.a ≡ without_winner script xs known script.aaaa script.a in
    subst P (sym e) (ends_of script race.outcomes race.pauses xs known script.aaaa script.a)

module _ (script race : Race) (ss : IsScript script) (alike : AreAlike script race) (free : (t : ℕ) → IsFree script t → IsFree race t) (xs : List Attempt) (turn : AreNextInTurn script xs) (stop : ℕ) (won : Bool) (e : EndsRace race stop xs won) where
  limit_is : race.settings.limit ≡ script.settings.limit
  limit_is = same_limit script race alike

  -- what is known of an attempt at a tick from the stop on
  one_fate : (tick : ℕ) → stop ≤ tick → (x : Attempt) → x.tick ≤ stop → (o : Option Outcome) → outcome_of race x.ip ≡ o → IfSome o (EndedBy race stop won x) → IfSome o (IsToldAs script x) → (o ≡ None → EndsAfter script tick x) → fate_of race x ≡ known_at script tick x
  one_fate tick up x begun None is ended told late = finish-silent race x is ∙ sym (late_runs script x tick (outcome_of script x.ip) refl (late refl))
  one_fate tick up x begun (Some (outcomes.Ok d)) is ended told late = by_outcome told.outcome told.is told.ends
    where
      by_outcome : (o : Outcome) → outcome_of script x.ip ≡ Some o → EndsAs script x.tick (outcomes.Ok d) o → fate_of race x ≡ known_at script tick x
      by_outcome (outcomes.Fail n) same ends = absurd ends
      by_outcome (outcomes.Ok n) same ends =
          let at : d ≡ stop - x.tick = omega (arith, ended.1) in
          let fate : fate_of race x ≡ Succeeded stop = finish-succeeded race e.valid x stop (e.free ended.0) begun e.early (is ∙ ap (λ (k : ℕ). Some (outcomes.Ok k)) at) in
          fate ∙ sym (known_ok script x n stop tick same (sym ended.1 ∙ ends) up (omega (arith, e.early, limit_is)))
  one_fate tick up x begun (Some (outcomes.Fail d)) is ended told late = by_outcome told.outcome told.is told.ends
    where
      by_outcome : (o : Outcome) → outcome_of script x.ip ≡ Some o → EndsAs script x.tick (outcomes.Fail d) o → fate_of race x ≡ known_at script tick x
      by_outcome (outcomes.Ok n) same ends = absurd ends
      by_outcome (outcomes.Fail n) same ends =
          let at : d ≡ (x.tick + d) - x.tick = omega arith in
          let fate : fate_of race x ≡ Failed (x.tick + d) = finish-failed race e.valid x (x.tick + d) ended.0 (omega arith) (omega (arith, ended.1, e.early)) (is ∙ ap (λ (k : ℕ). Some (outcomes.Fail k)) at) in
          fate ∙ sym (known_fail script x n (x.tick + d) tick same ends (omega (arith, ended.1)) (omega (arith, ended.1, e.early, limit_is)))

  all_fates : (tick : ℕ) → stop ≤ tick → All (IsAsScripted script xs) race.outcomes → ((x : Attempt) → Contains xs x → outcome_of race x.ip ≡ None → EndsAfter script tick x) → All (λ (x : Attempt). fate_of race x ≡ known_at script tick x) xs
  all_fates tick up told late k d lt =
      let x : Attempt = get_or xs k d in
      let made : Contains xs x = contains-at xs k d lt in
      one_fate tick up x (e.past k d lt) (outcome_of race x.ip) refl (e.ended k d lt) (told-as script xs turn x made race.outcomes told) (λ none. late x made none)

  map_fates : (tick : ℕ) (ys : List Attempt) → All (λ (x : Attempt). fate_of race x ≡ known_at script tick x) ys → map (fate_of race) ys ≡ map (known_at script tick) ys
  map_fates tick [] h = refl
  map_fates tick (y ∷ ys) h =
      let P : Attempt → Type 0 = λ x. fate_of race x ≡ known_at script tick x in
      let head : fate_of race y ≡ known_at script tick y = All-head P y ys h in
      let tail : map (fate_of race) ys ≡ map (known_at script tick) ys = map_fates tick ys (All-tail P y ys h) in
      cc

  free_fail : (x : Attempt) (o : Option Outcome) → IfSome o (EndedBy race stop won x) → IfSome o (λ out. (d : ℕ) → out ≡ outcomes.Fail d → IsFree race (x.tick + d))
  free_fail x None h = tt
  free_fail x (Some (outcomes.Ok d)) h = λ n same. absurd (ok_not_fail d n same)
  free_fail x (Some (outcomes.Fail d)) h = λ n same. subst (λ (k : ℕ). IsFree race (x.tick + k)) (fail-same d n same) h.0

  -- each attempt has failed by a tick, up to the stop, in both races or in neither
  all_failed : (tick : ℕ) → All (IsAsScripted script xs) race.outcomes → ((x : Attempt) → Contains xs x → outcome_of race x.ip ≡ None → EndsAfter script tick x) → list_all (has_failed race tick) xs ≡ list_all (has_failed script tick) xs
  all_failed tick told late = all-same (has_failed race tick) (has_failed script tick) xs (λ k d lt. one (get_or xs k d) (contains-at xs k d lt) (e.ended k d lt))
    where
      one : (x : Attempt) → Contains xs x → IfSome (outcome_of race x.ip) (EndedBy race stop won x) → has_failed race tick x ≡ has_failed script tick x
      one x made ended = failed-script script race e.valid tick x (outcome_of race x.ip) (free_fail x (outcome_of race x.ip) ended) (told-as script xs turn x made race.outcomes told) (λ none. late x made none)

  stops : (t : ℕ) → All (IsAsScripted script xs) race.outcomes → ((x : Attempt) → Contains xs x → outcome_of race x.ip ≡ None → EndsAfter script t x) → MayStart script xs t → MayStart race xs t
  stops t told late m =
      let clear : IsFree script t = starts-free script ss.valid xs t m in
      let same : list_all (has_failed race t) xs ≡ list_all (has_failed script t) xs = all_failed t told late in
      (starts-shared script race ss.valid e.valid alike xs t (λ h. same ∙ h, λ h. sym same ∙ h) clear (free t clear)).0 m

  -- what the race knows at its end: of each attempt the script's fate by then, and where no attempt has won, when the
  -- answers were seen
  pub record KnowsScript : Type 0 where
    pub told : All (IsAsScripted script xs) race.outcomes
    pub late : (x : Attempt) → Contains xs x → outcome_of race x.ip ≡ None → EndsAfter script (if won then stop else script.settings.limit) x
    pub aaaa : won ≡ false → IfSome script.aaaa (λ r. SeesAlike script race r.tick)
    pub a : won ≡ false → IfSome script.a (λ r. SeesAlike script race r.tick)

  -- the script's transcript, by what is known at its stop
  known_script : (known : List Fate) (winner : Option (ℕ × ℕ)) → known ≡ map (fate_of race) xs → IsWinner known winner → stop_of script winner ≡ (if won then stop else script.settings.limit) → stop ≤ stop_of script winner → ((t : ℕ) → MayStart race xs t → stop_of script winner ≤ t) → KnowsScript → AreKnown script xs known winner
  known_script known winner is w same up after k = record {
    in_turn = turn;
    stops = λ t m. elim (cases_lt t (stop_of script winner)) [
      | inl sooner ↦ after t (stops t k.told (λ x made none. ends-sooner script (stop_of script winner) t x (omega arith) (subst (λ (tick : ℕ). EndsAfter script tick x) (sym same) (k.late x made none))) m)
      | inr later ↦ later
    ];
    fates = is ∙ map_fates (stop_of script winner) xs (all_fates (stop_of script winner) up k.told (λ x made none. subst (λ (tick : ℕ). EndsAfter script tick x) (sym same) (k.late x made none)));
    wins = w;
  }

  stop_alike : (winner : Option (ℕ × ℕ)) → stop_of race winner ≡ stop_of script winner
  stop_alike winner = ap (option_map_or (λ (w : ℕ × ℕ). w.0) winner) limit_is

  -- a winner finishes at the stop
  stop_is : (winner : Option (ℕ × ℕ)) → IsWinner (map (fate_of race) xs) winner → is_some winner ≡ won → stop_of script winner ≡ (if won then stop else script.settings.limit)
  stop_is None w same = ap (λ (b : Bool). if b then stop else script.settings.limit) same
  stop_is (Some key) w same = winner-stop race stop xs won e key w ∙ ap (λ (b : Bool). if b then stop else script.settings.limit) same

  stop_up : (b : Bool) → stop ≤ (if b then stop else script.settings.limit)
  stop_up true = omega arith
  stop_up false = omega (arith, e.early, limit_is)

  same_result : (winner : Option (ℕ × ℕ)) (known : List Fate) → is_some winner ≡ won → KnowsScript → result_of race xs known winner ≡ result_of script xs known winner
  same_result None known same k = ends-alike script race alike xs known (k.aaaa (sym same)) (k.a (sym same))
  same_result (Some key) known same k = refl

  -- the transcript of the race is the script's
  pub replays-script : (report : Report) → KnowsScript → IsTranscript race report → IsTranscript script report
  replays-script report k t = let w = winner_of (map (fate_of race) xs) in by_winner w.0 w.1
    where
      by_winner : (winner : Option (ℕ × ℕ)) → IsWinner (map (fate_of race) xs) winner → IsTranscript script report
      by_winner winner w =
          let known : Known race xs won winner = ended-known race xs won (record { stop = stop; ends = e }) winner w in
          let six : All InRange (addresses_of race.aaaa) = subst (λ (o : Option Reply). All InRange (addresses_of o)) (sym (ap (λ (z : Race). z.aaaa) alike)) ss.six in
          let four : All InRange (addresses_of race.a) = subst (λ (o : Option Reply). All InRange (addresses_of o)) (sym (ap (λ (z : Race). z.a) alike)) ss.four in
          let own : IsTranscript race (record { lines = told_lines (stop_of race winner) winner xs (map (fate_of race) xs); result = result_of race xs (map (fate_of race) xs) winner }) = stopped-is race e.valid six four xs (map (fate_of race) xs) winner known.known in
          let at : stop_of script winner ≡ (if won then stop else script.settings.limit) = stop_is winner w known.same in
          let is : AreKnown script xs (map (fate_of race) xs) winner = known_script (map (fate_of race) xs) winner refl w at (omega (arith, at, stop_up won)) (λ m may. omega (arith, known.known.stops m may, stop_alike winner)) k in
          let given : IsTranscript script (record { lines = told_lines (stop_of script winner) winner xs (map (fate_of race) xs); result = result_of script xs (map (fate_of race) xs) winner }) = stopped-is script ss.valid ss.six ss.four xs (map (fate_of race) xs) winner is in
          let made : ℕ → Outcome3 → Report = λ s r. record { lines = told_lines s winner xs (map (fate_of race) xs); result = r } in
          let same : report ≡ made (stop_of script winner) (result_of script xs (map (fate_of race) xs) winner) =
          transcript-one race report _ t own
          ∙ ap (λ s. made s (result_of race xs (map (fate_of race) xs) winner)) (stop_alike winner)
          ∙ ap (made (stop_of script winner)) (same_result winner (map (fate_of race) xs) known.same k) in
          subst (IsTranscript script) (sym same) given
