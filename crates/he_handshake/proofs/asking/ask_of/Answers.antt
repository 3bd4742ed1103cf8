use Rattle.std.proofs.Common.{refl}
use Rattle.he_handshake.proofs.asking.ask_of.Goals as goal

pub returns : goal.returns
returns c = λ users octets reads admitted. (
  refl,
  record { forward = c.args.forward; reads = reads; asked_is = refl; head_is = refl; framing_is = refl; len_is = refl },
  admitted,
)
