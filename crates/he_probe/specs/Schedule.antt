-- The start and the end of each attempt of a probe.
use Rattle.std.specs.Prelude.{ℕ, ◌+◌, ◌*◌, List, [], ◌∷◌, None, Some}
use Rattle.he_addr.specs.declared.ip.Ip.{Ip}
use Rattle.he_turns.specs.declared.attempt.AttemptFuture.TheVariants.{Sleeping}
use Rattle.he_probe.specs.declared.probe.Probe.{Probe}

-- the attempt at this place: it starts after the pace for each one before it, and has the timeout from then on
abbrev pub probe_at : {C Conn Run : Type 0} → ℕ → ℕ → ℕ → Ip → Probe C Conn Run
probe_at pace timeout place ip = record {
  ip = ip;
  attempt = Some (Sleeping place ip (place * pace));
  end = place * pace + timeout;
  outcome = None;
}

-- the attempts of these addresses, the first at this place
abbrev pub scheduled : {C Conn Run : Type 0} → ℕ → ℕ → ℕ → List Ip → List (Probe C Conn Run)
scheduled pace timeout place [] = []
scheduled pace timeout place (ip ∷ ips) = probe_at pace timeout place ip ∷ scheduled pace timeout (place + 1) ips
