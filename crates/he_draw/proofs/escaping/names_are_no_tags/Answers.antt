use Rattle.he_draw.proofs.EscapedLaws.{names_are_no_tags}
use Rattle.he_draw.proofs.escaping.names_are_no_tags.Goals as goal

pub returns : goal.returns
returns c = names_are_no_tags
