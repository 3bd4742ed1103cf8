-- What a pump has done after so many steps of its input.
use Rattle.std.proofs.Common.{◌≡◌, ℕ, suc, ◌+◌, ◌<◌, Bool, List, [], ◌++◌, take, refl, sym, subst, arith, inr}
use Rattle.std.specs.Prelude.{Option, true, Result, Ok, Err, IsErr, IsErrAnd}
use Rattle.std.specs.Io.KnownBytes.{Consumes, Keeps}
use Rattle.std.proofs.KnownBytes.{Consumes-kept, Consumes-nil, Consumes-trans}
use Rattle.he_stream.specs.declared.answer.Flushed.{Flushed}
use Rattle.he_stream.specs.declared.answer.Put.{Put}
use Rattle.he_stream.specs.declared.answer.Taken.{Taken}
use Rattle.he_stream.specs.declared.answer.Taken.TheVariants as taken
use Rattle.he_stream.specs.Input.{Gives, GivesSoFar, TakesOn}
use Rattle.he_stream.specs.Limits.{most_reads}
use Rattle.he_stream.specs.Output.{PutsInRounds, PutsPart, PutsRoundsPart, PutsWhole}
use Rattle.he_stream.specs.Runs.{StepsOn}
use Rattle.he_stream.specs.Steps.{Takes}
use Rattle.he_stream.proofs.Chains.{one_step_more}
use Rattle.he_relay.specs.declared.fault.PumpFault.{PumpFault}
use Rattle.he_relay.specs.declared.fault.PumpFault.TheVariants as faults
use Rattle.he_relay.specs.Pumps.{Pumps}

module _ {S T : Type 0} (remaining : S → Option (List ℕ)) (takes : S → Taken → S → Type 0)
    (contents : T → Option (List ℕ)) (puts : T → Put → T → Type 0) (flushes : T → Flushed → T → Type 0)
  where
    -- what the input lost is what the output took in whole rounds, and each step of the input went on
    abbrev pub Pumped : ℕ → S → S → T → T → Type 0
    Pumped steps first state out now =
        (bytes : List ℕ) × Consumes (remaining first) (remaining state) bytes × StepsOn takes TakesOn steps first state × PutsInRounds contents puts flushes out now bytes

    pub nothing_yet : (first : S) (out : T) → Pumped 0 first first out out
    nothing_yet first out = ([], Consumes-nil (remaining first), refl, (0, (refl, refl)))

    pub one_piece_more : (room : List ℕ) (count steps : ℕ) (first state last : S) (out now after : T)
        → Pumped steps first state out now → Takes (remaining state) (remaining last) (taken.Bytes count) room → takes state (taken.Bytes count) last
        → PutsWhole contents puts flushes now after (take count room) → Pumped (steps + 1) first last out after
    one_piece_more room count steps first state last out now after (bytes, lost, before, (rounds, put)) (some, few, read) step all = (
      bytes ++ take count room,
      Consumes-trans (remaining first) (remaining state) (remaining last) bytes (take count room) lost read,
      one_step_more takes TakesOn steps first state last (taken.Bytes count) before tt step,
      (suc rounds, (bytes, take count room, now, refl, put, all)),
    )

    pub no_piece_more : (steps : ℕ) (first state last : S) (out now : T)
        → Pumped steps first state out now → Keeps (remaining state) (remaining last) → takes state taken.Interrupted last → Pumped (steps + 1) first last out now
    no_piece_more steps first state last out now (bytes, lost, before, put) kept step =
        (bytes, Consumes-kept (remaining first) (remaining state) (remaining last) bytes lost kept, one_step_more takes TakesOn steps first state last taken.Interrupted before tt step, put)

    pub all_steps_made : (steps : ℕ) (first state : S) (out now : T) → Pumped steps first state out now → steps ≡ most_reads
        → (bytes : List ℕ) × Gives remaining takes first state bytes true × PutsInRounds contents puts flushes out now bytes
    all_steps_made steps first state out now (bytes, lost, before, put) all =
        (bytes, record { taken = lost; whole = tt; told = inr (record { steps = steps; all = all; before = before }) }, put)

    pub piece_not_put : (room : List ℕ) (count steps : ℕ) (first state last : S) (out now after : T)
        → Pumped steps first state out now → steps < most_reads → Takes (remaining state) (remaining last) (taken.Bytes count) room → takes state (taken.Bytes count) last
        → PutsPart contents puts flushes now after (take count room)
        → (bytes : List ℕ) × GivesSoFar remaining takes first last bytes × PutsRoundsPart contents puts flushes out after bytes
    piece_not_put room count steps first state last out now after (bytes, lost, before, put) below (some, few, read) step failed = (
      bytes ++ take count room,
      record {
        taken = Consumes-trans (remaining first) (remaining state) (remaining last) bytes (take count room) lost read;
        told = record { steps = steps + 1; few = omega (arith, below); before = one_step_more takes TakesOn steps first state last (taken.Bytes count) before tt step };
      },
      record { before = bytes; more = take count room; state = now; parts = refl; put = put; failed = failed },
    )

-- the output's fault, as `?` hands it on
pub handed_on : (Gave : List ℕ → Bool → Type 0) (GaveSoFar Took TookPart : List ℕ → Type 0) (result : Result (Unit {0}) PumpFault)
    → IsErr result × IsErrAnd result (λ f. f ≡ faults.Output) → (bytes : List ℕ) × GaveSoFar bytes × TookPart bytes → Pumps Gave GaveSoFar Took TookPart result
handed_on Gave GaveSoFar Took TookPart (Ok done) handed of = absurd handed.1
handed_on Gave GaveSoFar Took TookPart (Err fault) handed of = subst (λ (f : PumpFault). Pumps Gave GaveSoFar Took TookPart (Err f)) (sym handed.1) of
