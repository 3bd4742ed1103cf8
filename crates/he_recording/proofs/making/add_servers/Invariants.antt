use Rattle.std.proofs.Common.{◌≡◌, drop, map}
use Rattle.he_recording.specs.Added.{added}
use Rattle.he_recording.specs.Facts.{server_line}
use Rattle.he_recording.proofs.making.add_servers.Given as goal

abbrev pub invariant-loop-server : goal.invariant-loop-server
invariant-loop-server l = added l.told (map server_line (drop l.server-index l.servers)) ≡ added l.fn.told (map server_line l.servers)
