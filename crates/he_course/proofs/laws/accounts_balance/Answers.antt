use Rattle.he_course.proofs.AccountLaws.{each_tick, owners_balance, times_add_up}
use Rattle.he_course.proofs.laws.accounts_balance.Goals as goal

pub returns-clause-one : goal.returns-clause-one
returns-clause-one c = each_tick

pub returns-clause-whole : goal.returns-clause-whole
returns-clause-whole c = owners_balance

pub returns-clause-times : goal.returns-clause-times
returns-clause-times c = times_add_up
