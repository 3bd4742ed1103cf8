use Rattle.std.proofs.Common.{subst, sym}
use Rattle.he_inputs.specs.RaceStreams.{StreamState}
use Rattle.he_totals.specs.Steps.{HasRead}
use Rattle.he_totals.proofs.Walked.{none_read}
use Rattle.he_totals.proofs.races.Races.add.Goals as goal

pub loop-arena-init : goal.loop-arena-init
loop-arena-init g c =
    let first = c.args.input.now in
    subst (λ (s : StreamState). HasRead c.args.file g.I.InputStream first first s c.args.self.now c.args.self.now) (sym c.restart.ensures) (none_read c.args.file g.I.InputStream first c.args.self.now)

pub returns : goal.returns
returns g c =
    let next = c.in_ok-add_next.ensures.added c.args.input.now c.args.self.now c.loop-arena.invariant in
    rw c.if-branch.false at next
