-- How a relay ends, by how each way did.
use Rattle.std.proofs.Common.{◌≡◌, ℕ, List, Bool, true, false, inl, inr, subst, sym}
use Rattle.std.specs.Prelude.{Result, Ok, Err}
use Rattle.he_relay.specs.declared.fault.PumpFault.{PumpFault}
use Rattle.he_relay.specs.declared.fault.PumpFault.TheVariants as pumps
use Rattle.he_relay.specs.declared.fault.RelayFault.{RelayFault}
use Rattle.he_relay.specs.Pumps.{Pumps}
use Rattle.he_relay.specs.Relays.{IsEnd, Relays, Some, SomeGiven}

-- of what a way took, or of what it put, nothing is said
pub what_was_taken : (Gave : List ℕ → Bool → Type 0) (GaveSoFar Took TookPart : List ℕ → Type 0) (end : Result (Unit {0}) PumpFault)
    → Pumps Gave GaveSoFar Took TookPart end → Pumps Gave GaveSoFar Some Some end
what_was_taken Gave GaveSoFar Took TookPart (Ok done) (bytes, gave, put) = (bytes, gave, tt)
what_was_taken Gave GaveSoFar Took TookPart (Err pumps.Input) (bytes, gave, put) = (bytes, gave, tt)
what_was_taken Gave GaveSoFar Took TookPart (Err pumps.Cut) (bytes, gave, put) = (bytes, gave, tt)
what_was_taken Gave GaveSoFar Took TookPart (Err pumps.Output) (bytes, gave, put) = (bytes, gave, tt)

pub what_was_put : (Gave : List ℕ → Bool → Type 0) (GaveSoFar Took TookPart : List ℕ → Type 0) (end : Result (Unit {0}) PumpFault)
    → Pumps Gave GaveSoFar Took TookPart end → Pumps SomeGiven Some Took TookPart end
what_was_put Gave GaveSoFar Took TookPart (Ok done) (bytes, gave, put) = (bytes, tt, put)
what_was_put Gave GaveSoFar Took TookPart (Err pumps.Input) (bytes, gave, put) = (bytes, tt, put)
what_was_put Gave GaveSoFar Took TookPart (Err pumps.Cut) (bytes, gave, put) = (bytes, tt, put)
what_was_put Gave GaveSoFar Took TookPart (Err pumps.Output) (bytes, gave, put) = (bytes, tt, put)

module _ (Gave : List ℕ → Bool → Type 0) (GaveSoFar Put PutPart : List ℕ → Type 0) (Kept : Type 0) where
  told_so : (result told : Result (Unit {0}) RelayFault) → result ≡ told → Relays Put PutPart Kept told → Relays Put PutPart Kept result
  told_so result told same of = subst (Relays Put PutPart Kept) (sym same) of

  pub put_so : (has_more : Bool) (sent received : Result (Unit {0}) PumpFault) (result : Result (Unit {0}) RelayFault)
      → Pumps Gave GaveSoFar Put PutPart received → IsEnd has_more sent received result → Relays Put PutPart Kept result
  put_so has_more sent (Err pumps.Output) result (bytes, gave, put) is = told_so result _ is (bytes, put)
  put_so has_more sent (Err pumps.Input) result (bytes, gave, put) (how, traffic, is) = told_so result _ is (bytes, put)
  put_so has_more sent (Err pumps.Cut) result (bytes, gave, put) (how, traffic, is) = told_so result _ is (bytes, put)
  put_so has_more (Err pumps.Output) (Ok done) result (bytes, gave, put) (inl (how, traffic, is)) = told_so result _ is (bytes, put)
  put_so has_more (Err pumps.Output) (Ok done) result (bytes, gave, put) (inr (unsent, is)) = told_so result _ is (bytes, put)
  put_so has_more (Err pumps.Input) (Ok done) result (bytes, gave, put) is = told_so result _ is (bytes, put)
  put_so true (Err pumps.Cut) (Ok done) result (bytes, gave, put) is = told_so result _ is (bytes, put)
  put_so false (Err pumps.Cut) (Ok done) result (bytes, gave, put) (inl is) = told_so result _ is (bytes, put)
  put_so false (Err pumps.Cut) (Ok done) result (bytes, gave, put) (inr (how, traffic, is)) = told_so result _ is (bytes, put)
  put_so has_more (Ok sent) (Ok done) result (bytes, gave, put) (inl is) = told_so result _ is (bytes, put)
  put_so has_more (Ok sent) (Ok done) result (bytes, gave, put) (inr (how, traffic, is)) = told_so result _ is (bytes, put)
