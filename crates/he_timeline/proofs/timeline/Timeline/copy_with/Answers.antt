use Rattle.std.proofs.Common.{◌≡◌, ◌≤◌, sym, subst, List, IsTrue, ℕ, length}
use Rattle.std.specs.List.{list_all}
use Rattle.he_addr.specs.declared.ip.Ip.{Ip}
use Rattle.he_timeline.specs.declared.limits.TheConstants.{MAX_PAUSES}
use Rattle.he_timeline.specs.declared.outcome.Outcome.{Outcome}
use Rattle.he_timeline.specs.Race.{Race}
use Rattle.he_timeline.specs.Timeline.{IsRace, are_pauses, are_told_once, is_outcome}
use Rattle.he_timeline.proofs.timeline.Timeline.copy_with.Goals as goal

with_record : (inside race : Race) (outcomes : List (Ip × Outcome)) (pauses : List (ℕ × ℕ)) → IsRace inside → inside ≡ race → IsTrue (list_all (is_outcome race) outcomes) → IsTrue (are_told_once outcomes) → IsTrue (are_pauses 0 pauses) → length pauses ≤ MAX_PAUSES → IsRace (record inside { outcomes = outcomes; pauses = pauses })
with_record inside race outcomes pauses held same told once paused few =
    record {
      settings = held.settings;
      policy = held.policy;
      host = held.host;
      aaaa = held.aaaa;
      a = held.a;
      rtts = held.rtts;
      rtts_once = held.rtts_once;
      used = held.used;
      used_once = held.used_once;
      outcomes = subst (λ r. IsTrue (list_all (is_outcome r) outcomes)) (sym same) told;
      once = once;
      pauses = paused;
      few = few;
    }

pub invariant_of-result : goal.invariant_of-result
invariant_of-result g c =
    let kept = with_record _ _ _ _ c.self.invariant c.self.view_is c.requires.outcomes c.requires.once c.requires.pauses c.requires.few in
    rw (c.in_ok-policy.ensures, c.in_ok-host.ensures, c.in_ok-aaaa.ensures, c.in_ok-a.ensures, c.in_ok-history.ensures) kept
