-- What the calls of the builder leave where their checks are met.
use Rattle.std.proofs.Common.{◌≡◌, ℕ, ◌≤◌, ◌<◌, true, false, List, length, None, Result, Ok, Err, IfErr, OnOk, is_some, refl, sym, ap, subst}
use Rattle.he_addr.specs.declared.ip.Family.{Family}
use Rattle.he_addr.specs.declared.ip.Ip.{Ip}
use Rattle.he_timeline.specs.declared.builder.BuildFault.{BuildFault}
use Rattle.he_timeline.specs.declared.builder.BuildFault.TheVariants as faults
use Rattle.he_timeline.specs.declared.limits.TheConstants.{MAX_ADDRESSES, MAX_PAUSES, MAX_PAUSE_END, MAX_TICK}
use Rattle.he_timeline.specs.declared.outcome.Outcome.{Outcome}
use Rattle.he_timeline.specs.Building.{Becomes, add_answer, add_outcome, add_pause, add_rtt, add_used, last_end, with_answer, with_outcome, with_pause, with_rtt, with_used}
use Rattle.he_timeline.specs.Race.{Race, has_ip, has_outcome, is_in_answer, is_told, reply_of}
use Rattle.he_timeline.specs.Timeline.{IsRace, are_distinct, are_of, duration_of, is_duration}
use Rattle.he_timeline.proofs.Bools.{le_test, lt_test, not_le, not_lt}
use Rattle.he_timeline.proofs.Ranges.{IsRace-with_answer}

-- what a call of the builder leaves where its checks are met: the race with what was added, and it refuses nothing but
-- memory
only_memory : (answer : Result (Unit {0}) BuildFault) (old new made : Race) → Becomes answer old new (Ok made) → IfErr answer (λ fault. fault ≡ faults.Memory)
only_memory (Ok done) old new made b = tt
only_memory (Err faults.Memory) old new made b = refl
only_memory (Err faults.Answered) old new made b = let no : ◌≡◌ {A = Result Race BuildFault} (Ok made) (Err faults.Answered) = b.1 in cc
only_memory (Err faults.Range) old new made b = let no : ◌≡◌ {A = Result Race BuildFault} (Ok made) (Err faults.Range) = b.1 in cc
only_memory (Err faults.TooMany) old new made b = let no : ◌≡◌ {A = Result Race BuildFault} (Ok made) (Err faults.TooMany) = b.1 in cc
only_memory (Err faults.Stranger) old new made b = let no : ◌≡◌ {A = Result Race BuildFault} (Ok made) (Err faults.Stranger) = b.1 in cc
only_memory (Err faults.Repeated) old new made b = let no : ◌≡◌ {A = Result Race BuildFault} (Ok made) (Err faults.Repeated) = b.1 in cc

same_race : (x y : Race) → ◌≡◌ {A = Result Race BuildFault} (Ok x) (Ok y) → y ≡ x
same_race x y h = cc

pub record Adds (answer : Result (Unit {0}) BuildFault) (new made : Race) : Type 0 where
  pub refused : IfErr answer (λ fault. fault ≡ faults.Memory)
  pub left : answer ≡ Ok tt → new ≡ made

adds : (answer : Result (Unit {0}) BuildFault) (old new made : Race) → Becomes answer old new (Ok made) → Adds answer new made
adds answer old new made b = record {
  refused = only_memory answer old new made b;
  left = λ done. (let P : Result (Unit {0}) BuildFault → Type 0 = λ r. Becomes r old new (Ok made) in same_race made new (subst P done b));
}

pub left-ok : {E : Type 0} (answer : Result (Unit {0}) BuildFault) (new made : Race) (r : Result (Unit {0}) E) → Adds answer new made → OnOk r (answer ≡ Ok tt) → OnOk r (new ≡ made)
left-ok answer new made (Ok done) a h = a.left h
left-ok answer new made (Err fault) a h = tt

pub valid-ok : {E : Type 0} (answer : Result (Unit {0}) BuildFault) (new made : Race) (r : Result (Unit {0}) E) → Adds answer new made → IsRace made → OnOk r (answer ≡ Ok tt) → OnOk r (IsRace new)
valid-ok answer new made (Ok done) a v h = let P : Race → Type 0 = IsRace in subst P (sym (a.left h)) v
valid-ok answer new made (Err fault) a v h = tt

pub pause-adds : (answer : Result (Unit {0}) BuildFault) (race new : Race) (from to : ℕ) → last_end race.pauses ≤ from → from < to → to ≤ MAX_PAUSE_END → length race.pauses < MAX_PAUSES → Becomes answer race new (add_pause from to race) → Adds answer new (with_pause race from to)
pause-adds answer race new from to later some early few b =
    let fits : add_pause from to race ≡ Ok (with_pause race from to) = rw (le_test (last_end race.pauses) from later, lt_test from to some, le_test to MAX_PAUSE_END early, not_le MAX_PAUSES (length race.pauses) few) refl in
    adds answer race new (with_pause race from to) (subst (Becomes answer race new) fits b)

pub outcome-adds : (answer : Result (Unit {0}) BuildFault) (race new : Race) (ip : Ip) (outcome : Outcome) → is_duration (duration_of outcome) ≡ true → is_in_answer race ip ≡ true → has_outcome ip race.outcomes ≡ false → Becomes answer race new (add_outcome ip outcome race) → Adds answer new (with_outcome race ip outcome)
outcome-adds answer race new ip outcome lasts known first b =
    let fits : add_outcome ip outcome race ≡ Ok (with_outcome race ip outcome) = rw (lasts, known, first) refl in
    adds answer race new (with_outcome race ip outcome) (subst (Becomes answer race new) fits b)

pub rtt-adds : (answer : Result (Unit {0}) BuildFault) (race new : Race) (ip : Ip) (rtt : ℕ) → is_duration rtt ≡ true → is_in_answer race ip ≡ true → is_told ip race.history.rtts ≡ false → Becomes answer race new (add_rtt ip rtt race) → Adds answer new (with_rtt race ip rtt)
rtt-adds answer race new ip rtt lasts known first b =
    let fits : add_rtt ip rtt race ≡ Ok (with_rtt race ip rtt) = rw (lasts, known, first) refl in
    adds answer race new (with_rtt race ip rtt) (subst (Becomes answer race new) fits b)

pub used-adds : (answer : Result (Unit {0}) BuildFault) (race new : Race) (ip : Ip) → is_in_answer race ip ≡ true → has_ip ip race.history.used ≡ false → Becomes answer race new (add_used ip race) → Adds answer new (with_used race ip)
used-adds answer race new ip known first b =
    let fits : add_used ip race ≡ Ok (with_used race ip) = rw (known, first) refl in
    adds answer race new (with_used race ip) (subst (Becomes answer race new) fits b)

pub answer-adds : (answer : Result (Unit {0}) BuildFault) (race new : Race) (family : Family) (tick : ℕ) (ips : List Ip) → reply_of race family ≡ None → tick ≤ MAX_TICK → length ips ≤ MAX_ADDRESSES → are_of family ips ≡ true → are_distinct ips ≡ true → Becomes answer race new (add_answer family tick ips race) → Adds answer new (with_answer race family (record { tick = tick; addresses = ips }))
answer-adds answer race new family tick ips none early few own distinct b =
    let made : Race = with_answer race family (record { tick = tick; addresses = ips }) in
    let fits : add_answer family tick ips race ≡ Ok made = rw (none, not_lt MAX_TICK tick early, not_lt MAX_ADDRESSES (length ips) few, own, distinct) refl in
    adds answer race new made (subst (Becomes answer race new) fits b)

pub answer-valid : (race : Race) (family : Family) (tick : ℕ) (ips : List Ip) → IsRace race → reply_of race family ≡ None → tick ≤ MAX_TICK → length ips ≤ MAX_ADDRESSES → are_of family ips ≡ true → are_distinct ips ≡ true → IsRace (with_answer race family (record { tick = tick; addresses = ips }))
answer-valid race family tick ips r none early few own distinct =
    IsRace-with_answer race family tick ips r (ap is_some none) (not_lt MAX_TICK tick early) (not_lt MAX_ADDRESSES (length ips) few) own distinct
