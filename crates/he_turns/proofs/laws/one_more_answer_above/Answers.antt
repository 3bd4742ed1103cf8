use Rattle.he_turns.specs.Heard.{cleaned, ips_of}
use Rattle.he_turns.proofs.Cleaned.{cleaned-own}
use Rattle.he_turns.proofs.Learnt.{heard-attempts, heard-order, heard-starts}
use Rattle.he_turns.proofs.laws.one_more_answer_above.Goals as goal

pub returns-clause-starts : goal.returns-clause-starts
returns-clause-starts c = λ race family now answer r none. heard-starts race r family none now answer (cleaned family (ips_of answer.known)) (cleaned-own family (ips_of answer.known))

pub returns-clause-order : goal.returns-clause-order
returns-clause-order c = λ race family now answer r none. heard-order race r family none now answer (cleaned family (ips_of answer.known)) (cleaned-own family (ips_of answer.known))

pub returns-clause-attempts : goal.returns-clause-attempts
returns-clause-attempts c = λ race family now answer r none. heard-attempts race r family none now answer (cleaned family (ips_of answer.known)) (cleaned-own family (ips_of answer.known))
