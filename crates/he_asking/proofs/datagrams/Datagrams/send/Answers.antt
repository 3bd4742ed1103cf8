use Rattle.he_asking.proofs.datagrams.Datagrams.send.Goals as goal

pub returns-clause-sent : goal.returns-clause-sent
returns-clause-sent g c = (c.args.room, c.in_ok-query.ensures)
