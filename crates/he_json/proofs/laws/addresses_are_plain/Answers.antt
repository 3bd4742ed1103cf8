use Rattle.he_json.proofs.CharacterLaws.{printed_plain}
use Rattle.he_json.proofs.laws.addresses_are_plain.Goals as goal

pub returns : goal.returns
returns c = printed_plain
