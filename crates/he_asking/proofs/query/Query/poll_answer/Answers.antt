use Rattle.he_asking.proofs.query.Query.poll_answer.Goals as goal

pub returns-in-Some-clause-heard : goal.returns-in-Some-clause-heard
returns-in-Some-clause-heard g c = c.in-Some.ensures.heard _ c.in-Ready.ensures.heard
