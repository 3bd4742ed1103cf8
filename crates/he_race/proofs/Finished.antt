-- What a race that follows a script gives at its end: the script's transcript.
use Rattle.std.proofs.Common.{◌≡◌, ℕ, ◌+◌, ◌≤◌, ◌<◌, ◌==◌, ◌&&◌, ◌||◌, Bool, true, false, List, [], ◌∷◌, if◌then◌else◌, length, Option, Some, None, IfSome, is_some, min, nat_le, refl, sym, ap, subst, arith, inl, inr}
use Rattle.std.specs.List.{All, Contains, list_all, list_any}
use Rattle.std.proofs.lemmas.Bool.{cases_lt}
use Rattle.std.proofs.lemmas.Bool.Decides.{Decides-eqb}
use Rattle.std.proofs.lemmas.List.{append-nil}
use Rattle.std.proofs.lemmas.List.Elements.{All-nil, All-weaker}
use Rattle.he_addr.specs.Ip.{same_ip}
use Rattle.he_addr.specs.declared.ip.Ip.{Ip}
use Rattle.he_plan.specs.declared.attempts.Attempt.{Attempt}
use Rattle.he_timeline.specs.declared.outcome.Outcome.{Outcome}
use Rattle.he_plan.specs.Agreement.{AreAlike}
use Rattle.he_timeline.specs.Seen.{IsFree, seen}
use Rattle.he_plan.specs.Due.{IsAnswerDue}
use Rattle.he_timeline.specs.Race.{outcome_of, Race, Reply, has_outcome}
use Rattle.he_timeline.specs.Timeline.{duration_of}
use Rattle.he_plan.specs.Transcript.{IsTranscript, Report}
use Rattle.he_timeline.proofs.Bools.{and_left, and_right, le_from, or_one}
use Rattle.he_turns.specs.declared.connector.Connector.{Ghosts as ConnectorOf}
use Rattle.he_turns.specs.declared.live.Live.{Live}
use Rattle.he_turns.specs.declared.live.Raced.{Raced}
use Rattle.he_turns.specs.declared.live.Unfinished.{Unfinished}
use Rattle.he_race.specs.declared.scripted.ScriptedTrial.{ScriptedTrial}
use Rattle.he_turns.specs.Answered.{is_tried_out_by}
use Rattle.he_race.specs.Following.{Follows, IsAsScripted, IsConnecting, IsScript, SeesAs, is_held}
use Rattle.he_turns.specs.Kept.{first_after, IsLive}
use Rattle.he_turns.specs.Recording.{EndsRace, slept}
use Rattle.he_race.specs.Running.{IsScripted, scripted_trial}
use Rattle.he_turns.specs.Turns.{EndsLate, EndsPolled, Sweep, begun, is_over}
use Rattle.he_race.proofs.Awake.{free-slept, sees-by}
use Rattle.he_race.proofs.Held.{held-all}
use Rattle.he_race.proofs.Onward.{above-turn, due-four, due-six, free-end, polled-at, sees-end, slept_outcomes}
use Rattle.he_race.proofs.Replayed.{EndsAfter, SeesAlike, ends-sooner, replays-script}
use Rattle.he_race.proofs.Runs.{seen_from}
use Rattle.he_race.proofs.Swept.{IsPending, Sweeps}
use Rattle.he_turns.proofs.Turning.{alike-later, same_limit, slept-alike}

module _ {C : Type 0} (connector : ConnectorOf C (Unit {0}) ScriptedTrial) (race : Race) (ss : IsScript race) (c : C) (sc : IsScripted connector race c) (live : Live C (Unit {0}) ScriptedTrial) (at : ℕ) (f : Follows race live at) (kept : IsLive connector scripted_trial live) where
  abbrev Held : Type 0
  Held = Unfinished C (Unit {0}) ScriptedTrial

  abbrev made : List Attempt
  made = live.recorder.underway.attempts

  abbrev IsLeft : ℕ → Held → Type 0
  IsLeft tick o = Contains made o.attempt × EndsAfter race tick o.attempt

  pending_left : (o : Held) → IsPending connector race ss.valid c made at f.awake o → IsLeft at o
  pending_left o p = (p.made, by_outcome (outcome_of race o.attempt.ip) p.late)
    where
      by_outcome : (x : Option Outcome) → IfSome x (λ outcome. at < o.attempt.tick + duration_of outcome) → IfSome x (λ outcome. at < seen race (o.attempt.tick + duration_of outcome))
      by_outcome None h = tt
      by_outcome (Some outcome) h = let k : at < o.attempt.tick + duration_of outcome = h in let up : o.attempt.tick + duration_of outcome ≤ seen race (o.attempt.tick + duration_of outcome) = seen_from race ss.valid (o.attempt.tick + duration_of outcome) in omega arith

  connecting_left : (tick : ℕ) → tick < at → (o : Held) → IsConnecting race made at o → IsLeft tick o
  connecting_left tick early o p = (p.made, by_outcome (outcome_of race o.attempt.ip) p.ends)
    where
      by_outcome : (x : Option Outcome) → IfSome x (λ outcome. at ≤ seen race (o.attempt.tick + duration_of outcome)) → IfSome x (λ outcome. tick < seen race (o.attempt.tick + duration_of outcome))
      by_outcome None h = tt
      by_outcome (Some outcome) h = let k : at ≤ seen race (o.attempt.tick + duration_of outcome) = h in omega arith

  all_none : (P : Held → Type 0) (os : List (Held)) → (length os == 0) ≡ true → All P os
  all_none P [] h = All-nil P
  all_none P (o ∷ os) h = let none : length (o ∷ os) ≡ 0 = (Decides-eqb (length (o ∷ os)) 0).0 h in absurd (let no_length : ⊥ = omega arith in no_length)

  -- a turn at the tick ends the race
  module _ (to : Sweep C (Unit {0}) ScriptedTrial) (w : Sweeps connector race ss.valid c made at f.awake (slept live.recorder.recorded live.recorder.due at).pauses to []) (won : Bool) (over : is_over to.recorded to.attempts at to.pending won ≡ true) (e : EndsRace to.recorded at made won) where
    free_to : (t : ℕ) → IsFree race t → IsFree to.recorded t
    free_to = free-end connector race ss c sc live at f kept to.recorded e.valid w.alike w.pauses

    limit_to : to.recorded.settings.limit ≡ race.settings.limit
    limit_to = same_limit race to.recorded w.alike

    held_to : list_all (is_held to.pending to.recorded) made ≡ true
    held_to = subst (λ (os : List (Held)). list_all (is_held os to.recorded) made ≡ true) (append-nil to.pending) w.held

    left_to : All (IsLeft at) to.pending
    left_to = All-weaker (IsPending connector race ss.valid c made at f.awake) (IsLeft at) pending_left to.pending w.pending

    abbrev six : Bool
    six = is_tried_out_by at to.attempts to.recorded.aaaa

    abbrev four : Bool
    four = is_tried_out_by at to.attempts to.recorded.a

    -- a race that isn't won is at its limit or exhausted
    lost_by : won ≡ false → (nat_le to.recorded.settings.limit at || ((length to.pending == 0) && (six && four))) ≡ true
    lost_by lost = subst (λ (b : Bool). is_over to.recorded to.attempts at to.pending b ≡ true) lost over

    late_to : (b : Bool) → won ≡ b → (x : Attempt) → Contains made x → outcome_of to.recorded x.ip ≡ None → EndsAfter race (if b then at else race.settings.limit) x
    late_to true is x at_x none = held-all race to.recorded made f.in_turn (EndsAfter race at) to.pending left_to held_to x at_x none
    late_to false is x at_x none = elim (or_one (nat_le to.recorded.settings.limit at) ((length to.pending == 0) && (six && four)) (lost_by is)) [
      | inl limit ↦
          let by : to.recorded.settings.limit ≤ at = le_from to.recorded.settings.limit at limit in
          ends-sooner race at race.settings.limit x (omega (arith, limit_to)) (held-all race to.recorded made f.in_turn (EndsAfter race at) to.pending left_to held_to x at_x none)
      | inr out ↦
          held-all race to.recorded made f.in_turn (EndsAfter race race.settings.limit) to.pending (all_none (IsLeft race.settings.limit) to.pending (and_left (length to.pending == 0) (six && four) out)) held_to x at_x none
    ]

    -- where the race isn't won its answers were seen as in the script, or come after the limit
    sees_limit : race.settings.limit ≤ at → (o : Option Reply) → SeesAs race to.recorded (at + 1) o → IfSome o (λ r. SeesAlike race to.recorded r.tick)
    sees_limit by None h = tt
    sees_limit by (Some r) h = elim (cases_lt at r.tick) [
      | inl later ↦
          let one : r.tick ≤ seen to.recorded r.tick = seen_from to.recorded e.valid r.tick in
          let two : r.tick ≤ seen race r.tick = seen_from race ss.valid r.tick in
          inr (omega arith, omega arith)
      | inr came ↦ inl (h (omega arith))
    ]

    sees_out : (o : Option Reply) → is_tried_out_by at to.attempts o ≡ true → SeesAs race to.recorded (at + 1) o → IfSome o (λ r. SeesAlike race to.recorded r.tick)
    sees_out None out h = tt
    sees_out (Some r) out h = let by : r.tick ≤ at = le_from r.tick at (and_left (nat_le r.tick at) _ out) in inl (h (omega arith))

    sees_to : won ≡ false → IfSome race.aaaa (λ r. SeesAlike race to.recorded r.tick) × IfSome race.a (λ r. SeesAlike race to.recorded r.tick)
    sees_to lost =
        let one : SeesAs race to.recorded (at + 1) race.aaaa = sees-end connector race ss c sc live at f kept to.recorded e.valid w.alike w.pauses race.aaaa f.aaaa (due-six connector race ss c sc live at f kept) in
        let two : SeesAs race to.recorded (at + 1) race.a = sees-end connector race ss c sc live at f kept to.recorded e.valid w.alike w.pauses race.a f.a (due-four connector race ss c sc live at f kept) in
        elim (or_one (nat_le to.recorded.settings.limit at) ((length to.pending == 0) && (six && four)) (lost_by lost)) [
          | inl limit ↦
              let by : to.recorded.settings.limit ≤ at = le_from to.recorded.settings.limit at limit in
              (sees_limit (omega (arith, limit_to)) race.aaaa one, sees_limit (omega (arith, limit_to)) race.a two)
          | inr out ↦
              let both : (six && four) ≡ true = and_right (length to.pending == 0) (six && four) out in
              let tried : Option Reply → Bool = is_tried_out_by at to.attempts in (
                sees_out race.aaaa (subst (λ (o : Option Reply). is_tried_out_by at to.attempts o ≡ true) (ap (λ (z : Race). z.aaaa) w.alike) (and_left six four both)) one,
                sees_out race.a (subst (λ (o : Option Reply). is_tried_out_by at to.attempts o ≡ true) (ap (λ (z : Race). z.a) w.alike) (and_right six four both)) two,
              )
        ]

    pub transcript-polled : (report : Report) → IsTranscript to.recorded report → IsTranscript race report
    transcript-polled report t =
        replays-script race to.recorded ss w.alike free_to made f.in_turn at won e report (record { told = w.told; late = late_to won refl; aaaa = λ lost. (sees_to lost).0; a = λ lost. (sees_to lost).1 }) t

  pub ended-polled : (now : ℕ) (c' : C) (raced : Raced (Unit {0})) → now ≡ min at (live.recorder.recorded.settings.limit + 1) → EndsPolled connector scripted_trial (begun c live now) live.unfinished.items now c' raced → IsTranscript race raced.transcript
  ended-polled now c' raced is h =
      let g : EndsPolled connector scripted_trial (begun c live at) live.unfinished.items at c' raced = subst (λ (n : ℕ). EndsPolled connector scripted_trial (begun c live n) live.unfinished.items n c' raced) here h in
      let w : Sweeps connector race ss.valid c made at f.awake (slept live.recorder.recorded live.recorder.due at).pauses g.swept [] = polled-at connector race ss c sc live at f kept g.swept g.polled in
      let e : EndsRace g.swept.recorded at made (is_some g.swept.first) = subst (λ (xs : List Attempt). EndsRace g.swept.recorded at xs (is_some g.swept.first)) w.attempts g.ended in
      transcript-polled g.swept w (is_some g.swept.first) g.over e raced.transcript (subst (λ (z : Race). IsTranscript z raced.transcript) g.recorded g.replays.transcript)
    where
      here : now ≡ at
      here =
          let one : raced.recorded.settings.limit ≡ (begun c live now).recorded.settings.limit = same_limit (begun c live now).recorded raced.recorded h.replays.alike in
          let two : (begun c live now).recorded.settings.limit ≡ live.recorder.recorded.settings.limit = same_limit live.recorder.recorded (slept live.recorder.recorded live.recorder.due now) (slept-alike live.recorder.recorded live.recorder.due now) in
          let three : raced.recorded.settings.limit ≡ h.swept.recorded.settings.limit = ap (λ (z : Race). z.settings.limit) h.recorded in
          omega (arith, h.ended.early)

  pub ended-late : (now : ℕ) (c' : C) (raced : Raced (Unit {0})) → now ≡ min at (live.recorder.recorded.settings.limit + 1) → EndsLate connector scripted_trial (begun c live now) now c' raced → IsTranscript race raced.transcript
  ended-late now c' raced is g =
      replays-script race end ss alike free made f.in_turn end.settings.limit false g.ended raced.transcript
      (record {
        told = subst (λ (told : List (Ip × Outcome)). All (IsAsScripted race made) told) (sym same) f.told;
        late = λ x at_x none. held-all race end made f.in_turn (EndsAfter race race.settings.limit) live.unfinished.items (All-weaker (IsConnecting race made at) (IsLeft race.settings.limit) (connecting_left race.settings.limit early) live.unfinished.items f.connecting) held x at_x none;
        aaaa = λ lost. sees race.aaaa f.aaaa (due-six connector race ss c sc live at f kept);
        a = λ lost. sees race.a f.a (due-four connector race ss c sc live at f kept);
      })
      (subst (λ (z : Race). IsTranscript z raced.transcript) g.recorded g.replays.transcript)
    where
      end : Race
      end = slept live.recorder.recorded live.recorder.due now

      same : end.outcomes ≡ live.recorder.recorded.outcomes
      same = slept_outcomes live.recorder.recorded live.recorder.due now

      alike : AreAlike race end
      alike = alike-later race live.recorder.recorded end f.alike (slept-alike live.recorder.recorded live.recorder.due now)

      limit : race.settings.limit < now
      limit = omega (arith, g.late, same_limit race end alike)

      by : now ≤ at
      by = omega arith

      early : race.settings.limit < at
      early = omega (arith, limit, by)

      free : (t : ℕ) → IsFree race t → IsFree end t
      free = free-slept race live.recorder.recorded live.recorder.due at now f.free f.due by

      held : list_all (is_held live.unfinished.items end) made ≡ true
      held = subst (λ (told : List (Ip × Outcome)). list_all (λ (x : Attempt). list_any (λ (o : Held). same_ip o.attempt.ip x.ip) live.unfinished.items || has_outcome x.ip told) made ≡ true) (sym same) f.held

      sees : (o : Option Reply) → SeesAs race live.recorder.recorded (first_after live.recorder.turn) o → ((d : ℕ) → IsAnswerDue live.recorder.turn o d → live.recorder.due ≤ d) → IfSome o (λ r. SeesAlike race end r.tick)
      sees None was due = tt
      sees (Some r) was due =
          elim (sees-by race live.recorder.recorded end ss.valid kept.recorder.rests.valid g.ended.valid live.recorder.turn made live.recorder.due at now refl kept.recorder.rests.after (above-turn connector race ss c sc live at f kept) f.due by r was (λ untaken. due r.tick (untaken, refl))) [
            | inl equal ↦ inl equal
            | inr late ↦ inr (omega (arith, late.0, limit), omega (arith, late.1, limit))
          ]
