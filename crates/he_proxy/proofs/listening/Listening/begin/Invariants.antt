use Rattle.he_proxy.specs.Sockets.{MayAccept}
use Rattle.he_proxy.proofs.listening.Listening.begin.Given as goal

abbrev pub invariant-loop-address : goal.invariant-loop-address
invariant-loop-address g l = MayAccept l.listening.sockets
