-- A context that keeps its facts keeps those for which attempts have registered.
use Rattle.std.proofs.Common.{List, Option, None, Some, IfSome, inl, inr}
use Rattle.std.proofs.lemmas.List.Elements.{All-weaker}
use Rattle.futures.specs.Task.{Keeps, Lasting}
use Rattle.futures.specs.declared.task.context.Context.{Context}
use Rattle.he_turns.specs.declared.attempt.AttemptFuture.{AttemptFuture}
use Rattle.he_turns.specs.declared.connector.Connector.{Ghosts as ConnectorOf}
use Rattle.he_turns.specs.declared.trial.Trial.{Ghosts as TrialOf}
use Rattle.he_turns.specs.Listening.{Listens}
use Rattle.he_probe.specs.Probing.{AllWait, Waits}
use Rattle.he_probe.specs.declared.probe.Probe.{Probe}

module _ {C Conn Run : Type 0} (connector : ConnectorOf C Conn Run) (trial : TrialOf Run Conn) where
  listens_kept : (old new : Context) (attempt : AttemptFuture C Conn Run) → Keeps old new
      → Listens connector trial old attempt → Listens connector trial new attempt
  listens_kept old new attempt keeps (inl covers) =
      inl (keeps Lasting.armed covers.0, λ s needs. keeps (Lasting.hears s) (covers.1 s needs))
  listens_kept old new attempt keeps (inr waits) = inr waits

  some_kept : (old new : Context) (attempt : Option (AttemptFuture C Conn Run)) → Keeps old new
      → IfSome attempt (Listens connector trial old) → IfSome attempt (Listens connector trial new)
  some_kept old new None keeps h = h
  some_kept old new (Some attempt) keeps h = listens_kept old new attempt keeps h

  pub all_kept : (old new : Context) (probes : List (Probe C Conn Run)) → Keeps old new
      → AllWait connector trial old probes → AllWait connector trial new probes
  all_kept old new probes keeps h =
      All-weaker (Waits connector trial old) (Waits connector trial new)
      (λ probe waits. some_kept old new probe.attempt keeps waits) probes h
