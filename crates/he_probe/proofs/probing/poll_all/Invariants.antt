use Rattle.std.proofs.Common.{◌≡◌, drop, map, take, vec_len, IfNone}
use Rattle.std.specs.List.{AllWithin, AllZip}
use Rattle.futures.specs.Task.{Keeps}
use Rattle.he_probe.specs.Probing.{AllWait, AreReady, IsClosed, SomePoll, ip_of}
use Rattle.he_probe.proofs.probing.poll_all.Given as goal

abbrev pub invariant-loop-i : goal.invariant-loop-i
invariant-loop-i g l = record {
  ready : AreReady g.C.Connector g.C.Run.Trial l.probes.items;
  ips : map ip_of l.probes.items ≡ map ip_of l.initial.probes.items;
  count : vec_len l.probes ≡ vec_len l.initial.probes;
  each : AllZip (SomePoll g.C.Connector g.C.Run.Trial l.now) (take l.i l.initial.probes.items) (take l.i l.probes.items);
  rest : drop l.i l.probes.items ≡ drop l.i l.initial.probes.items;
  closed : IfNone l.next (AllWithin IsClosed l.probes.items 0 l.i);
  waits : AllWait g.C.Connector g.C.Run.Trial l.cx (take l.i l.probes.items);
  kept : Keeps l.initial.cx l.cx;
}
