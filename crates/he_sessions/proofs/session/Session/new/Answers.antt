use Rattle.std.proofs.Common.{refl, rules}
use Rattle.he_sessions.proofs.Going.{is_new}
use Rattle.he_sessions.proofs.session.Session.new.Goals as goal

pub returns-clause-can : goal.returns-clause-can
returns-clause-can g c = (c.requires, (c.args.client, is_new _ _ c.args.client _ _ refl (search rules) refl (search rules)))

pub returns-clause-begun : goal.returns-clause-begun
returns-clause-begun g c = is_new _ _ c.args.client _ _ refl (search rules) refl (search rules)
