use Rattle.he_course.proofs.AccountLaws.{account_balance}
use Rattle.he_course.proofs.accounts.Account.of.Goals as goal

pub returns-clause-whole : goal.returns-clause-whole
returns-clause-whole g c =
    account_balance c.args.timeline.now c.args.transcript.now c.args.untried.now c.in_ok-account.account
    c.in_ok-account.ensures.account
