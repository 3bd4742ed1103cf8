use Rattle.std.proofs.Common.{◌≡◌, length}
use Rattle.he_reading.specs.Forms.{addresses_in}
use Rattle.he_reading.specs.Left.{tokens_left}
use Rattle.he_reading.specs.Reading.{prepend}
use Rattle.he_reading.proofs.forms.answers.addresses.Given as goal

-- the addresses so far, and what is read of the tokens that are left
abbrev pub invariant-loop-token : goal.invariant-loop-token
invariant-loop-token g l = prepend l.ips.items (addresses_in l.family (tokens_left l.left)) ≡ addresses_in l.family (tokens_left l.tokens)

abbrev pub decreases-loop-token : goal.decreases-loop-token
decreases-loop-token g l = length (tokens_left l.left)
