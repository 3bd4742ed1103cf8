use Rattle.std.proofs.Common.{rules}
use Rattle.he_proxy.proofs.keeping.Keeping.hand_out.Goals as goal

pub returns-in-Ok-Some-Some : goal.returns-in-Ok-Some-Some
returns-in-Ok-Some-Some g c = record {
  winner = search rules;
  joined = c.in-Ok-Some-Some.joined;
  is_winner = search rules;
  stream = c.into_stream.ensures;
}
