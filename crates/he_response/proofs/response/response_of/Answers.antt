use Rattle.std.proofs.Common.{refl, rules, take}
use Rattle.he_response.proofs.Heads.{is_code, is_head}
use Rattle.he_response.proofs.response.response_of.Goals as goal

pub returns : goal.returns
returns c = record {
  head = c.in_ok-head.ensures;
  grammar = is_head c.args.octets.now c.args.room.now c.args.spans.now c.requires.at.0 c.requires.at.1 c.requires.within.code;
  code = is_code c.args.octets.now (take c.args.spans.now.headers c.args.room.now) c.args.spans.now c.requires.within.code;
  framing = c.in-Some.ensures.found;
  len = refl;
  final = refl;
  goes_on = search rules;
}
