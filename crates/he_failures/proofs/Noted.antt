-- Name servers that are noted event by event.
use Rattle.std.proofs.Common.{◌≡◌, ℕ, ◌+◌, ◌<◌, Bool, true, List, [], ◌∷◌, ◌++◌, length, drop, get_or, sym, ◌∙◌, ap, add-one}
use Rattle.std.specs.Prelude.{Option, Some, if◌then◌else◌}
use Rattle.std.specs.List.{list_any}
use Rattle.std.proofs.Math.Seq.{drop-cons}
use Rattle.he_addr.specs.Ip.{same_ip}
use Rattle.he_asking.specs.declared.log.LookupEvent.{LookupEvent}
use Rattle.he_recording.specs.declared.facts.ServerFailure.{ServerFailure}
use Rattle.he_failures.specs.Failures.{all_noted, noted_all}

pub one_more : (f : LookupEvent → Option ServerFailure) (events : List LookupEvent) (i : ℕ) (d : LookupEvent)
    (before failed new : List ServerFailure) → i < length events
    → noted_all f failed (drop i events) ≡ noted_all f before events
    → new ≡ all_noted failed (f (get_or events i d))
    → noted_all f new (drop (i + 1) events) ≡ noted_all f before events
one_more f events i d before failed new within so e =
    let step : drop i events ≡ get_or events i d ∷ drop (i + 1) events = rw add-one (drop-cons events i d within) in
    ap (λ (t : List ServerFailure). noted_all f t (drop (i + 1) events)) e
    ∙ ap (λ (xs : List LookupEvent). noted_all f failed xs) (sym step)
    ∙ so

-- a server that is there is not added
pub noted_before : (failed : List ServerFailure) (option : Option ServerFailure) (failure : ServerFailure) → option ≡ Some failure
    → list_any (λ other. same_ip other.ip failure.ip) failed ≡ true → failed ≡ all_noted failed option
noted_before failed option failure is has =
    sym (ap (λ (o : Option ServerFailure). all_noted failed o) is
    ∙ ap (λ (b : Bool). if b then failed else failed ++ failure ∷ []) has)
