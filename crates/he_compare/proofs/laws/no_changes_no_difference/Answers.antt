use Rattle.std.proofs.Common.{ℕ, ◌≡◌, ◌≤◌, Option, Some, None, IfSome, min, option_map, refl, ap, subst, arith}
use Rattle.he_timeline.specs.Changes.{changed}
use Rattle.he_timeline.specs.Race.{Race}
use Rattle.he_timeline.specs.Settings.{IsSettings}
use Rattle.he_plan.specs.Transcript.{IsTranscript}
use Rattle.he_timeline.specs.declared.limits.TheConstants.{MIN_FLOOR}
use Rattle.he_compare.proofs.laws.no_changes_no_difference.Goals as goal

-- a floor at most the Connection Attempt Delay stays
same_floor : (floor : Option ℕ) (attempt : ℕ) → IfSome floor (λ f. (MIN_FLOOR ≤ f) × (f ≤ attempt)) → option_map (min attempt) floor ≡ floor
same_floor None attempt is = refl
same_floor (Some floor) attempt is = let most : floor ≤ attempt = is.1 in ap Some (omega arith)

unchanged : (race : Race) → IsSettings race.settings → changed (record { resolution = None; attempt = None; count = None; limit = None; floor = None }) race ≡ race
unchanged race is =
    ap (λ (floor : Option ℕ). record race { settings = record race.settings { floor = floor } }) (same_floor race.settings.floor race.settings.attempt is.floor)

pub returns : goal.returns
returns c = λ race stands other is own with_changes.
    c.one_transcript.ensures race other stands (subst (λ (r : Race). IsTranscript r other) (unchanged race is.settings) with_changes) own
