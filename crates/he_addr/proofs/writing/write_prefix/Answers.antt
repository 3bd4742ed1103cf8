use Rattle.he_addr.proofs.PrintedTexts.{printed_prefix}
use Rattle.he_addr.proofs.writing.write_prefix.Goals as goal

pub returns-then-is_v4-clause-text : goal.returns-then-is_v4-clause-text
returns-then-is_v4-clause-text g c = printed_prefix c.args.dotted c.args.prefix

pub returns-clause-text : goal.returns-clause-text
returns-clause-text g c = printed_prefix c.args.dotted c.args.prefix
