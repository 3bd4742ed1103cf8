use Rattle.std.proofs.lemmas.Str.{IsUtf8-from_ascii}
use Rattle.he_front.proofs.asked.text.Goals as goal

pub unreachable-requires : goal.unreachable-requires
unreachable-requires g c = c.in-Err.ensures.cases.0 (IsUtf8-from_ascii c.args.octets.now c.requires)
