use Rattle.he_asking.proofs.streams.StreamQuery.poll_reply.Goals as goal

pub returns-in-Ends-clause-heard : goal.returns-in-Ends-clause-heard
returns-in-Ends-clause-heard c = c.reply_of.ensures _ _ _

pub returns-in-Err-clause-heard : goal.returns-in-Err-clause-heard
returns-in-Err-clause-heard c = c.reply_of-in-Err.ensures _ _ _
