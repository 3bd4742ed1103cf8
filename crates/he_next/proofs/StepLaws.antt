-- What a turn of a race does where the client is in time.
use Rattle.std.proofs.Common.{ℕ, ◌≡◌, ◌≤◌, ◌<◌, Bool, true, false, Option, Some, None, nat_le, nat_lt, refl, sym, ◌∙◌, arith, inl, inr}
use Rattle.std.specs.List.{slice_get}
use Rattle.std.proofs.lemmas.Bool.{cases_lt}
use Rattle.he_addr.specs.declared.ip.Ip.{Ip}
use Rattle.he_plan.specs.Transcript.{Report}
use Rattle.he_plan.specs.declared.transcript.Line.{Line}
use Rattle.he_plan.specs.declared.transcript.Outcome3.{Outcome3}
use Rattle.he_plan.specs.declared.transcript.Outcome3.TheVariants as results
use Rattle.he_timeline.proofs.Bools.{above, clash, le_from, lt_test}
use Rattle.he_next.specs.Steps.{action_of, before_tick, due_action, end_action, end_tick, late_start}
use Rattle.he_next.specs.declared.step.Action.TheVariants.{Start, Wait}

pub lt_past : (m n : ℕ) → nat_lt m n ≡ false → n ≤ m
lt_past m n h = elim (cases_lt m n) [
  | inl less ↦ absurd (clash (nat_lt m n) (lt_test m n less) h)
  | inr past ↦ past
]

pub not_late : (line : Line) (now : ℕ) → before_tick now (Some line) ≡ None → now ≤ line.tick
not_late line now h = by_tick (nat_lt line.tick now) refl
  where
    by_tick : (b : Bool) → nat_lt line.tick now ≡ b → now ≤ line.tick
    by_tick true late = let wrong : Some line.tick ≡ None = sym (rw late refl) ∙ h in cc
    by_tick false past = lt_past line.tick now past

-- the action of a turn, where the client is in time
pub starts_now : (report : Report) (started now place tick : ℕ) (ip : Ip) → late_start report started now ≡ None → action_of report started now ≡ Start place tick ip → tick ≡ now
starts_now report started now place tick ip time h = by_end (nat_le (end_tick report.result) now) refl
  where
    by_result : (result : Outcome3) → end_action result ≡ Start place tick ip → tick ≡ now
    by_result (results.Won p t) h = cc
    by_result (results.Exhausted t) h = cc
    by_result (results.Limit t) h = cc

    by_line : (found : Option Line) → before_tick now found ≡ None → due_action report.result now found ≡ Start place tick ip → tick ≡ now
    by_line None time h = cc
    by_line (Some line) time h = by_tick (nat_le line.tick now) refl
      where
        by_tick : (b : Bool) → nat_le line.tick now ≡ b → tick ≡ now
        by_tick true come =
            let same : Start line.place line.tick line.ip ≡ Start place tick ip = sym (rw come refl) ∙ h in
            let ticks : line.tick ≡ tick = cc in
            let low = not_late line now time in
            let high = le_from _ _ come in
            omega (arith, ticks, low, high)
        by_tick false wait = let wrong : Wait line.tick ≡ Start place tick ip = sym (rw wait refl) ∙ h in cc

    by_end : (b : Bool) → nat_le (end_tick report.result) now ≡ b → tick ≡ now
    by_end true over = by_result report.result (sym (rw over refl) ∙ h)
    by_end false running = by_line (slice_get report.lines started) time (sym (rw running refl) ∙ h)

-- what a turn starts does so by its tick
pub starts_by : (report : Report) (started now place tick : ℕ) (ip : Ip) → action_of report started now ≡ Start place tick ip → tick ≤ now
starts_by report started now place tick ip h = by_end (nat_le (end_tick report.result) now) refl
  where
    by_result : (result : Outcome3) → end_action result ≡ Start place tick ip → tick ≤ now
    by_result (results.Won p t) h = cc
    by_result (results.Exhausted t) h = cc
    by_result (results.Limit t) h = cc

    by_line : (found : Option Line) → due_action report.result now found ≡ Start place tick ip → tick ≤ now
    by_line None h = cc
    by_line (Some line) h = by_tick (nat_le line.tick now) refl
      where
        by_tick : (b : Bool) → nat_le line.tick now ≡ b → tick ≤ now
        by_tick true come =
            let same : Start line.place line.tick line.ip ≡ Start place tick ip = sym (rw come refl) ∙ h in
            let ticks : line.tick ≡ tick = cc in
            let high = le_from _ _ come in
            omega (arith, ticks, high)
        by_tick false wait = let wrong : Wait line.tick ≡ Start place tick ip = sym (rw wait refl) ∙ h in cc

    by_end : (b : Bool) → nat_le (end_tick report.result) now ≡ b → tick ≤ now
    by_end true over = by_result report.result (sym (rw over refl) ∙ h)
    by_end false running = by_line (slice_get report.lines started) (sym (rw running refl) ∙ h)

pub waits_later : (report : Report) (started now tick : ℕ) → late_start report started now ≡ None → action_of report started now ≡ Wait tick → now < tick
waits_later report started now tick time h = by_end (nat_le (end_tick report.result) now) refl
  where
    by_result : (result : Outcome3) → end_action result ≡ Wait tick → now < tick
    by_result (results.Won p t) h = cc
    by_result (results.Exhausted t) h = cc
    by_result (results.Limit t) h = cc

    by_line : now < end_tick report.result → (found : Option Line) → due_action report.result now found ≡ Wait tick → now < tick
    by_line later None h = let same : end_tick report.result ≡ tick = cc in omega (arith, same, later)
    by_line later (Some line) h = by_tick (nat_le line.tick now) refl
      where
        by_tick : (b : Bool) → nat_le line.tick now ≡ b → now < tick
        by_tick true come = let wrong : Start line.place line.tick line.ip ≡ Wait tick = sym (rw come refl) ∙ h in cc
        by_tick false wait =
            let same : Wait line.tick ≡ Wait tick = sym (rw wait refl) ∙ h in
            let ticks : line.tick ≡ tick = cc in
            let high = above _ _ wait in
            omega (arith, ticks, high)

    by_end : (b : Bool) → nat_le (end_tick report.result) now ≡ b → now < tick
    by_end true over = by_result report.result (sym (rw over refl) ∙ h)
    by_end false running = by_line (above _ _ running) (slice_get report.lines started) (sym (rw running refl) ∙ h)
