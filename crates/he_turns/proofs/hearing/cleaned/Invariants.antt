use Rattle.std.proofs.Common.{◌≡◌, take}
use Rattle.he_turns.specs.Heard.{cleaned, ips_of}
use Rattle.he_turns.proofs.hearing.cleaned.Given as goal

abbrev pub invariant-loop-one : goal.invariant-loop-one
invariant-loop-one l = l.clean.items ≡ cleaned l.family (ips_of (take l.one-index l.told))
