use Rattle.std.proofs.Common.{refl}
use Rattle.he_sessions.proofs.Talking.{talks_more}
use Rattle.he_sessions.proofs.session.Session.announce.Goals as goal

pub returns-in-Ok-clause-asked : goal.returns-in-Ok-clause-asked
returns-in-Ok-clause-asked g c = λ first at. record {
  asks = at.asks;
  told = _;
  opened = record {
    protocol = c.args.protocol;
    asks_by = at.asked;
    told_of = record { reply = c.in-Ok.reply.items; replied = c.in-Ok.ensures; whole = refl };
  };
  is_won = record { given = c.requires.won; noted = refl };
  talks = talks_more _ _ first _ _ _ _ at.talks;
}
