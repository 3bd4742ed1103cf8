use Rattle.he_recording.specs.Facts.{server_line}
use Rattle.he_recording.proofs.Adding.{one_more}
use Rattle.he_recording.proofs.making.add_servers.Goals as goal

pub loop-server-preserved : goal.loop-server-preserved
loop-server-preserved c =
    one_more server_line c.args.servers.now c.loop-server.server-index _ c.args.told.now c.loop-server.told c.add.new.told
    c.loop-server-test.true c.loop-server.invariant c.in_ok-add.ensures
