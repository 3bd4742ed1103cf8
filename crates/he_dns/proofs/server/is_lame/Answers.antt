use Rattle.std.proofs.Common.{sym, ◌∙◌}
use Rattle.he_dns.proofs.ServerLaws.{lame_found, lame_stands}
use Rattle.he_dns.proofs.server.is_lame.Goals as goal

pub returns-clause-lame : goal.returns-clause-lame
returns-clause-lame c h = lame_stands _ (sym c.find_lame.ensures ∙ h)

pub returns-clause-able : goal.returns-clause-able
returns-clause-able c h = c.find_lame.ensures ∙ lame_found _ h
