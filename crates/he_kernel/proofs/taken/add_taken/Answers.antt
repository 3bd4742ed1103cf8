use Rattle.std.proofs.Common.{◌≡◌, true, map, rules}
use Rattle.std.specs.Prelude.{Some}
use Rattle.std.specs.List.{list_any}
use Rattle.he_addr.specs.Ip.{same_ip}
use Rattle.he_kernel.specs.Ways.{ip_of}
use Rattle.he_kernel.proofs.KnownSources.{there_already}
use Rattle.he_kernel.proofs.taken.add_taken.Goals as goal

pub returns-else-not-is_taken_already : goal.returns-else-not-is_taken_already
returns-else-not-is_taken_already g c =
    let there : list_any (λ other. same_ip other c.in-Some.ip) (map ip_of c.args.taken.now.items) ≡ true = search rules in
    let from : c.args.from ≡ Some c.in-Some.ip = search rules in
    there_already (map ip_of c.args.taken.now.items) c.args.from c.in-Some.ip from there
