use Rattle.std.proofs.Common.{◌≡◌, take}
use Rattle.he_names.specs.Answers.{each_once}
use Rattle.he_names.proofs.answers.clean.Given as goal

abbrev pub invariant-loop-ip : goal.invariant-loop-ip
invariant-loop-ip g l = l.kept.items ≡ each_once (take l.ip-index l.ips)
