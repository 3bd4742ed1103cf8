use Rattle.std.proofs.Common.{◌≡◌, ◌⊎◌, Ok, Err, subst}
use Rattle.std.specs.Result.{IfOk, MatchResult}
use Rattle.he_dns.specs.declared.fault.AnswerFault.TheVariants as faults
use Rattle.he_dns.specs.Reading.{answer_of, ttl_of}
use Rattle.he_dns.proofs.AnswerLaws.{found_is, fault_is, none_missed}
use Rattle.he_dns.proofs.TtlLaws.{ttl_is}
use Rattle.he_dns.proofs.answer.read_answer.Goals as goal

pub returns-clause-found : goal.returns-clause-found
returns-clause-found g c =
    found_is c.find_answer.result (λ found. found.addresses.items) c.args.message.now c.args.id c.args.name.now.octets c.args.family
    (subst (λ octets. MatchResult c.find_answer.result (λ found. answer_of c.args.message.now c.args.id octets c.args.family ≡ Ok found.addresses.items)
    (λ fault. (fault ≡ faults.Memory) ⊎ (answer_of c.args.message.now c.args.id octets c.args.family ≡ Err fault))) c.octets.ensures c.find_answer.ensures.addresses)

pub returns-clause-fault : goal.returns-clause-fault
returns-clause-fault g c =
    fault_is c.find_answer.result (λ found. found.addresses.items) c.args.message.now c.args.id c.args.name.now.octets c.args.family
    (subst (λ octets. MatchResult c.find_answer.result (λ found. answer_of c.args.message.now c.args.id octets c.args.family ≡ Ok found.addresses.items)
    (λ fault. (fault ≡ faults.Memory) ⊎ (answer_of c.args.message.now c.args.id octets c.args.family ≡ Err fault))) c.octets.ensures c.find_answer.ensures.addresses)

pub returns-clause-none : goal.returns-clause-none
returns-clause-none g c =
    none_missed c.find_answer.result (λ found. found.addresses.items) c.args.message.now c.args.id c.args.name.now.octets c.args.family
    (subst (λ octets. MatchResult c.find_answer.result (λ found. answer_of c.args.message.now c.args.id octets c.args.family ≡ Ok found.addresses.items)
    (λ fault. (fault ≡ faults.Memory) ⊎ (answer_of c.args.message.now c.args.id octets c.args.family ≡ Err fault))) c.octets.ensures c.find_answer.ensures.addresses)

pub returns-clause-ttl : goal.returns-clause-ttl
returns-clause-ttl g c =
    ttl_is c.find_answer.result (λ found. found.addresses.items) (λ found. found.ttl) c.args.message.now c.args.id c.args.name.now.octets c.args.family
    (subst (λ octets. MatchResult c.find_answer.result (λ found. answer_of c.args.message.now c.args.id octets c.args.family ≡ Ok found.addresses.items)
    (λ fault. (fault ≡ faults.Memory) ⊎ (answer_of c.args.message.now c.args.id octets c.args.family ≡ Err fault))) c.octets.ensures c.find_answer.ensures.addresses)
    (subst (λ octets. IfOk c.find_answer.result (λ found. found.ttl ≡ ttl_of c.args.message.now c.args.id octets c.args.family)) c.octets.ensures c.find_answer.ensures.ttl)
