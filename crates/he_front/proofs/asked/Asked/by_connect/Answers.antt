use Rattle.he_front.proofs.Authorities.{authority_is_ascii}
use Rattle.he_front.proofs.asked.Asked.by_connect.Goals as goal

pub text-requires : goal.text-requires
text-requires g c = authority_is_ascii c.args.target.now c.in-Some.host.now c.in-Some.port c.in-Some.ensures.found
