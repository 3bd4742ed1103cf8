use Rattle.std.proofs.Common.{◌≡◌, drop}
use Rattle.he_names.specs.Targets.{sign_in}
use Rattle.he_names.proofs.target.sign_in.Given as goal

-- the first sign from here is the first of all
abbrev pub invariant-loop-byte : goal.invariant-loop-byte
invariant-loop-byte l = sign_in (drop l.byte-index l.text) ≡ sign_in l.text
