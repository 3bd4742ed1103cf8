use Rattle.he_command.proofs.Rounds.{put-all, put-part}
use Rattle.he_command.proofs.probe.next_round.Goals as goal

pub returns-in-Ok-text_of-clause-ok : goal.returns-in-Ok-text_of-clause-ok
returns-in-Ok-text_of-clause-ok g c =
    put-all g.O.OutputStream c.args.probe.now c.args.request.now c.in-Ok.round c.in-Ok-text_of.text.items c.deref-in-Ok-text_of.result.now c.args.session.now.output c.put_round.new.session.output c.put_round.result c.in-Ok.ensures c.in-Ok-text_of.ensures c.deref-in-Ok-text_of.ensures.value c.put_round.ensures.ok

pub returns-in-Ok-text_of-clause-err : goal.returns-in-Ok-text_of-clause-err
returns-in-Ok-text_of-clause-err g c =
    put-part g.O.OutputStream c.args.probe.now c.args.request.now c.in-Ok.round c.in-Ok-text_of.text.items c.deref-in-Ok-text_of.result.now c.args.session.now.output c.put_round.new.session.output c.put_round.result c.in-Ok.ensures c.in-Ok-text_of.ensures c.deref-in-Ok-text_of.ensures.value c.put_round.ensures.err
