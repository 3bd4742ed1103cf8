use Rattle.std.proofs.Common.{rules, ◌≡◌, length, arith}
use Rattle.he_stream.specs.Input.{Gives, GivesSoFar}
use Rattle.he_stream.specs.Output.{PutsInRounds, PutsRoundsPart}
use Rattle.he_relay.proofs.Pumped.{all_steps_made, handed_on, no_piece_more, one_piece_more, piece_not_put}
use Rattle.he_relay.proofs.pumping.pump.Goals as goal
use Rattle.he_relay.proofs.pumping.pump.Goals.{in-Bytes+in_ok-write_whole-in-Bytes, in-Interrupted}

pub loop-steps-preserved : goal.loop-steps-preserved
loop-steps-preserved g c =
    let before = c.loop-steps.invariant in
    let same : length c.take.new.buffer ≡ length c.args.room.now = search rules in
    elim c.match-take.branch [
      | in-Bytes+in_ok-write_whole-in-Bytes w ↦
          rw w.output-is (same, one_piece_more g.I.InputStream.remaining g.I.InputStream.takes g.O.OutputStream.contents g.O.OutputStream.puts g.O.OutputStream.flushes c.take.new.buffer w.in-Bytes.count c.loop-steps._steps c.args.input.now c.loop-steps.input c.take.new.self c.args.output.now c.loop-steps.output w.write_whole.new.output before.1 w.in-Bytes.ensures.bytes w.in-Bytes.ensures.step w.in_ok-write_whole-in-Bytes.ensures.ok)
      | in-Interrupted w ↦
          rw w.output-is (same, no_piece_more g.I.InputStream.remaining g.I.InputStream.takes g.O.OutputStream.contents g.O.OutputStream.puts g.O.OutputStream.flushes c.loop-steps._steps c.args.input.now c.loop-steps.input c.take.new.self c.args.output.now c.loop-steps.output before.1 w.in-Interrupted.ensures.bytes w.in-Interrupted.ensures.step)
    ]

pub returns-in_err-write_whole-in-Bytes : goal.returns-in_err-write_whole-in-Bytes
returns-in_err-write_whole-in-Bytes g c =
    handed_on (Gives g.I.InputStream.remaining g.I.InputStream.takes c.args.input.now c.take.new.self) (GivesSoFar g.I.InputStream.remaining g.I.InputStream.takes c.args.input.now c.take.new.self) (PutsInRounds g.O.OutputStream.contents g.O.OutputStream.puts g.O.OutputStream.flushes c.args.output.now c.write_whole.new.output) (PutsRoundsPart g.O.OutputStream.contents g.O.OutputStream.puts g.O.OutputStream.flushes c.args.output.now c.write_whole.new.output) c.from_residual.result c.from_residual.ensures (piece_not_put g.I.InputStream.remaining g.I.InputStream.takes g.O.OutputStream.contents g.O.OutputStream.puts g.O.OutputStream.flushes c.take.new.buffer c.in-Bytes.count c.loop-steps._steps c.args.input.now c.loop-steps.input c.take.new.self c.args.output.now c.loop-steps.output c.write_whole.new.output c.loop-steps.invariant.1 c.loop-steps-test.true c.in-Bytes.ensures.bytes c.in-Bytes.ensures.step c.in_err-write_whole-in-Bytes.ensures.err)

pub returns : goal.returns
returns g c =
    all_steps_made g.I.InputStream.remaining g.I.InputStream.takes g.O.OutputStream.contents g.O.OutputStream.puts g.O.OutputStream.flushes c.loop-steps._steps c.args.input.now c.loop-steps.input c.args.output.now c.loop-steps.output c.loop-steps.invariant.1 (omega (arith, c.loop-steps-test.false, c.loop-steps.auto._steps-end))
