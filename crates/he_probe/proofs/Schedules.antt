-- The schedule of a probe, address by address.
use Rattle.std.proofs.Common.{◌≡◌, ℕ, suc, ◌+◌, ◌*◌, ◌<◌, ◌++◌, List, [], ◌∷◌, None, Some, get_or, length, map, take, ap, refl, sym, ◌∙◌, add-zero, arith}
use Rattle.std.proofs.lemmas.List.Elements.{All-cons, All-nil}
use Rattle.std.proofs.lemmas.List.{length-take-le, take_more}
use Rattle.he_addr.specs.declared.ip.Ip.{Ip}
use Rattle.he_turns.specs.declared.attempt.AttemptFuture.TheVariants.{Sleeping}
use Rattle.he_turns.specs.declared.connector.Connector.{Ghosts as ConnectorOf}
use Rattle.he_turns.specs.declared.trial.Trial.{Ghosts as TrialOf}
use Rattle.he_probe.specs.Probing.{AreReady, IsReady, ip_of}
use Rattle.he_probe.specs.Schedule.{probe_at, scheduled}
use Rattle.he_probe.specs.declared.probe.Probe.{Probe}

module _ (C Conn Run : Type 0) where
  -- one address more
  pub scheduled-push : (pace timeout place : ℕ) (ips : List Ip) (ip : Ip)
      → scheduled {C = C} {Conn = Conn} {Run = Run} pace timeout place (ips ++ ip ∷ [])
      ≡ scheduled pace timeout place ips ++ probe_at pace timeout (place + length ips) ip ∷ []
  scheduled-push pace timeout place [] ip = ap (λ k. probe_at pace timeout k ip ∷ []) (sym (add-zero place))
  scheduled-push pace timeout place (first ∷ ips) ip =
      let later : place + 1 + length ips ≡ place + suc (length ips) = omega arith in
      ap (λ probes. probe_at pace timeout place first ∷ probes) (scheduled-push pace timeout (place + 1) ips ip
      ∙ ap (λ k. scheduled pace timeout (place + 1) ips ++ probe_at pace timeout k ip ∷ []) later)

  -- it has the addresses
  pub scheduled-ips : (pace timeout place : ℕ) (ips : List Ip)
      → map (ip_of {C = C} {Conn = Conn} {Run = Run}) (scheduled pace timeout place ips) ≡ ips
  scheduled-ips pace timeout place [] = refl
  scheduled-ips pace timeout place (ip ∷ ips) = ap (λ more. ip ∷ more) (scheduled-ips pace timeout (place + 1) ips)

  pub scheduled-length : (pace timeout place : ℕ) (ips : List Ip)
      → length (scheduled {C = C} {Conn = Conn} {Run = Run} pace timeout place ips) ≡ length ips
  scheduled-length pace timeout place [] = refl
  scheduled-length pace timeout place (ip ∷ ips) = ap suc (scheduled-length pace timeout (place + 1) ips)

  -- the attempt of the address at this place, after those before it
  pub one-more : (pace timeout : ℕ) (ips : List Ip) (i start place : ℕ) (d : Ip) (probes : List (Probe C Conn Run))
      (new : Probe C Conn Run) → i < length ips → start ≡ i * pace → probes ≡ scheduled pace timeout 0 (take i ips)
      → place ≡ length probes
      → new ≡ record {
        ip = get_or ips i d;
        attempt = Some (Sleeping place (get_or ips i d) start);
        end = start + timeout;
        outcome = None;
      }
      → probes ++ new ∷ [] ≡ scheduled pace timeout 0 (take (i + 1) ips)
  one-more pace timeout ips i start place d probes new below at so count is =
      let same : length (take i ips) ≡ i = length-take-le i ips (omega (arith, below)) in
      let here : place ≡ i = count ∙ ap length so ∙ scheduled-length pace timeout 0 (take i ips) ∙ same in
      let placed : 0 + length (take i ips) ≡ i = omega (arith, same) in
      let pushed : scheduled pace timeout 0 (take i ips ++ get_or ips i d ∷ [])
      ≡ scheduled pace timeout 0 (take i ips) ++ probe_at pace timeout i (get_or ips i d) ∷ [] =
      scheduled-push pace timeout 0 (take i ips) (get_or ips i d)
      ∙ ap (λ k. scheduled pace timeout 0 (take i ips) ++ probe_at pace timeout k (get_or ips i d) ∷ []) placed in
      let more : scheduled pace timeout 0 (take (i + 1) ips)
      ≡ scheduled pace timeout 0 (take i ips) ++ probe_at pace timeout i (get_or ips i d) ∷ [] =
      ap (scheduled pace timeout 0) (take_more ips i d below) ∙ pushed in
      rw is (rw here (rw at (rw so (sym more))))

module _ {C Conn Run : Type 0} (connector : ConnectorOf C Conn Run) (trial : TrialOf Run Conn) where
  -- each attempt may be polled
  pub scheduled-ready : (pace timeout place : ℕ) (ips : List Ip)
      → AreReady connector trial (scheduled pace timeout place ips)
  scheduled-ready pace timeout place [] = All-nil (IsReady connector trial)
  scheduled-ready pace timeout place (ip ∷ ips) =
      All-cons (IsReady connector trial) (probe_at pace timeout place ip) (scheduled pace timeout (place + 1) ips) tt
      (scheduled-ready pace timeout (place + 1) ips)
