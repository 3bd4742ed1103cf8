use Rattle.std.proofs.Common.{inl, refl}
use Rattle.he_asking.proofs.Replied.{told_replies}
use Rattle.he_asking.proofs.replies.read_reply.Goals as goal

pub returns-in-Ok-clause-comes : goal.returns-in-Ok-clause-comes
returns-in-Ok-clause-comes c = inl (c.in-Ok.answer, c.reply_of.result, c.in-Ok.ensures.found, c.in-Ok.ensures.ttl, c.reply_of.ensures, refl)

pub returns-in-Ok-clause-heard : goal.returns-in-Ok-clause-heard
returns-in-Ok-clause-heard c =
    told_replies c.args.message.now c.args.id c.args.question.name.now.octets c.args.question.family c.in-Ok.answer c.reply_of.result
    c.in-Ok.ensures.found c.in-Ok.ensures.ttl c.reply_of.ensures
