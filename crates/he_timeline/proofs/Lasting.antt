-- What an address does lasts as long as the ranges of a race allow.
use Rattle.std.proofs.Common.{◌≡◌, ◌≤◌, Bool, true, false, List, [], ◌∷◌, if◌then◌else◌, Some, IfSome}
use Rattle.std.specs.List.{list_all, find}
use Rattle.std.specs.Option.{option_map}
use Rattle.he_addr.specs.Ip.{same_ip}
use Rattle.he_addr.specs.declared.ip.Ip.{Ip}
use Rattle.he_timeline.specs.declared.limits.TheConstants.{MIN_DURATION, MAX_DURATION}
use Rattle.he_timeline.specs.declared.outcome.Outcome.{Outcome}
use Rattle.he_timeline.specs.Race.{Race, outcome_in}
use Rattle.he_timeline.specs.Timeline.{is_outcome, duration_of}
use Rattle.he_timeline.proofs.Bools.{and_left, and_right, le_from}

abbrev pub Lasts : Outcome → Type 0
Lasts outcome = (MIN_DURATION ≤ duration_of outcome) × (duration_of outcome ≤ MAX_DURATION)

pub outcome_in-lasts : (race : Race) (told : List (Ip × Outcome)) (ip : Ip) → list_all (is_outcome race) told ≡ true → IfSome (outcome_in told ip) Lasts
outcome_in-lasts race [] ip h = tt
outcome_in-lasts race (p ∷ told) ip h =
    lasts_by p told (same_ip p.0 ip) (le_from _ _ (and_left _ _ (and_left _ _ (and_left _ _ h))), le_from _ _ (and_right _ _ (and_left _ _ (and_left _ _ h)))) (outcome_in-lasts race told ip (and_right _ _ h))
  where
    lasts_by : (p : Ip × Outcome) (told : List (Ip × Outcome)) (b : Bool) → Lasts p.1 → IfSome (outcome_in told ip) Lasts → IfSome (option_map (λ (q : Ip × Outcome). q.1) (if b then Some p else find (λ (q : Ip × Outcome). same_ip q.0 ip) told)) Lasts
    lasts_by p told true here rest = here
    lasts_by p told false here rest = rest
