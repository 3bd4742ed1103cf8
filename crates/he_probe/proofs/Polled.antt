-- The rows of probes, poll by poll.
use Rattle.std.proofs.Common.{◌≡◌, ◌∙◌, ℕ, All, List, [], ◌∷◌, map, refl}
use Rattle.std.specs.Global.{Vec}
use Rattle.std.specs.List.{AllZip}
use Rattle.std.specs.Prelude.{Result, Ok, Err, IfOk}
use Rattle.he_turns.specs.declared.connector.Connector.{Ghosts as ConnectorOf}
use Rattle.he_turns.specs.declared.faults.RaceFault.{RaceFault}
use Rattle.he_turns.specs.declared.trial.Trial.{Ghosts as TrialOf}
use Rattle.he_probe.specs.Probing.{AreRowsOf, IsClosed, PollsAt, SomePoll, ip_of, row_ip, row_of}
use Rattle.he_probe.specs.declared.probe.Probe.{Probe}
use Rattle.he_probe.specs.declared.probe.ProbeRow.{ProbeRow}

module _ {C Conn Run : Type 0} (connector : ConnectorOf C Conn Run) (trial : TrialOf Run Conn) where
  -- one poll, and no other
  polled-once : (now : ℕ) (olds news : List (Probe C Conn Run)) → AllZip (SomePoll connector trial now) olds news
      → AllZip (PollsAt connector trial (now ∷ [])) olds news
  polled-once now [] [] each = tt
  polled-once now [] (new ∷ news) each = absurd each
  polled-once now (old ∷ olds) [] each = absurd each
  polled-once now (old ∷ olds) (new ∷ news) each = ((new, each.0, refl), polled-once now olds news each.1)

  -- one poll before others
  polled-more : (now : ℕ) (ticks : List ℕ) (olds news last : List (Probe C Conn Run))
      → AllZip (SomePoll connector trial now) olds news → AllZip (PollsAt connector trial ticks) news last
      → AllZip (PollsAt connector trial (now ∷ ticks)) olds last
  polled-more now ticks [] [] [] each more = tt
  polled-more now ticks [] [] (end ∷ last) each more = absurd more
  polled-more now ticks [] (new ∷ news) last each more = absurd each
  polled-more now ticks (old ∷ olds) [] last each more = absurd each
  polled-more now ticks (old ∷ olds) (new ∷ news) [] each more = absurd more
  polled-more now ticks (old ∷ olds) (new ∷ news) (end ∷ last) each more =
      ((new, each.0, more.0), polled-more now ticks olds news last each.1 more.1)

  -- the last poll of all gives their rows
  pub rows-now : (now : ℕ) (olds news : List (Probe C Conn Run)) (result : Result (Vec ProbeRow) RaceFault)
      → AllZip (SomePoll connector trial now) olds news → All IsClosed news → map ip_of news ≡ map ip_of olds
      → IfOk result (λ rows. rows.items ≡ map row_of news) → IfOk result (λ rows. map row_ip rows.items ≡ map ip_of news)
      → IfOk result (λ rows. AreRowsOf connector trial olds rows.items)
  rows-now now olds news (Ok rows) each closed same are ips = record {
    ticks = now ∷ [];
    last = news;
    polled = polled-once now olds news each;
    closed = closed;
    are = are;
    ips = ips ∙ same;
  }
  rows-now now olds news (Err fault) each closed same are ips = tt

  -- the rows after a poll are those before it
  pub rows-later : (now : ℕ) (olds news : List (Probe C Conn Run)) (result : Result (Vec ProbeRow) RaceFault)
      → AllZip (SomePoll connector trial now) olds news → map ip_of news ≡ map ip_of olds
      → IfOk result (λ rows. AreRowsOf connector trial news rows.items)
      → IfOk result (λ rows. AreRowsOf connector trial olds rows.items)
  rows-later now olds news (Ok rows) each same of = record {
    ticks = now ∷ of.ticks;
    last = of.last;
    polled = polled-more now of.ticks olds news of.last each of.polled;
    closed = of.closed;
    are = of.are;
    ips = of.ips ∙ same;
  }
  rows-later now olds news (Err fault) each same of = tt
