-- What a reply tells is what the message answers.
use Rattle.std.proofs.Common.{ℕ, List, Global, subst, sym}
use Rattle.he_addr.specs.declared.ip.Family.{Family}
use Rattle.he_addr.specs.declared.ip.Ip.{Ip}
use Rattle.he_dns.specs.Answers.{Answers}
use Rattle.he_dns.specs.Ttls.{MayKeep}
use Rattle.he_dns.specs.declared.answer.Answer.{Answer}
use Rattle.he_asking.specs.Said.{IsAnswer, RepliesTo}
use Rattle.he_asking.specs.Replies.{TellsAnswer}
use Rattle.he_asking.specs.declared.replies.Reply.{Reply}
use Rattle.he_asking.specs.declared.replies.Reply.TheVariants as replies

pub told_replies : (message : List ℕ) (id : ℕ) (octets : List ℕ) (family : Family) (answer : Answer Global) (told : Reply)
    → Answers message id octets family answer.addresses.items → MayKeep message id octets family answer.ttl
    → TellsAnswer message answer told → RepliesTo id octets family told
told_replies message id octets family answer (replies.Addresses given) answers keep tells =
    subst (λ (a : Answer Global). IsAnswer id octets family a) (sym tells.0) (message, answers, keep)
told_replies message id octets family answer replies.NoAddress answers keep tells =
    (message, subst (λ (ips : List Ip). Answers message id octets family ips) tells.0 answers)
told_replies message id octets family answer replies.NoSuchName answers keep tells = absurd tells
told_replies message id octets family answer replies.Truncated answers keep tells = tt
told_replies message id octets family answer (replies.Failure failure) answers keep tells = tt
told_replies message id octets family answer replies.Memory answers keep tells = tt
told_replies message id octets family answer replies.Files answers keep tells = tt
