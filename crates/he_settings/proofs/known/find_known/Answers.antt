use Rattle.he_settings.proofs.Faulty.{found_fault}
use Rattle.he_settings.proofs.known.find_known.Goals as goal

pub returns-clause-fault : goal.returns-clause-fault
returns-clause-fault g c =
    found_fault c.args.host.now c.known_to.result c.in_ok-target.target c.in_ok-target.ensures.target c.known_to.ensures.fault
