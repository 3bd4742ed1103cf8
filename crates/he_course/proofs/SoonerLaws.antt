-- A floor that changes nothing makes no race end sooner.
use Rattle.std.proofs.Common.{◌≡◌, ◌&&◌, Bool, true, false, Some, None, if◌then◌else◌, is_none, refl, ap, sym, ◌∙◌, arith}
use Rattle.he_timeline.specs.Race.{Race}
use Rattle.he_timeline.proofs.Bools.{not_lt}
use Rattle.he_plan.specs.Transcript.{Report}
use Rattle.he_course.specs.Events.{end_event}
use Rattle.he_course.specs.LeastFloor.{ended_of, ends_sooner, sooner_by}

and_none : (b : Bool) → (b && false) ≡ false
and_none true = refl
and_none false = refl

never_sooner : (race : Race) (report : Report) → ends_sooner race report report ≡ false
unfolding ends_sooner
never_sooner race report =
    ap (λ b. is_none race.settings.floor && b)
    (not_lt (end_event report.result).tick (end_event report.result).tick (omega (arith)))
    ∙ and_none (is_none race.settings.floor)

pub not_sooner : (race : Race) (report : Report) → None ≡ sooner_by race report report
not_sooner race report = sym (ap (λ b. if b then Some (ended_of report) else None) (never_sooner race report))
