use Rattle.std.proofs.Common.{sym}
use Rattle.he_addr.proofs.NetTexts.{ip_in_v4, ip_in_v6, v4_in_some, v6_in_some}
use Rattle.he_addr.proofs.reading.read_ip.Goals as goal

pub returns-in-Some-clause-value : goal.returns-in-Some-clause-value
returns-in-Some-clause-value c = sym (ip_in_v4 c.args.text.now c.in-Some.number c.in-Some.ensures)

pub returns-in-Some-clause-found : goal.returns-in-Some-clause-found
returns-in-Some-clause-found c = v4_in_some c.args.text.now c.in-Some.number c.in-Some.ensures

pub returns-in-Some-read_groups-clause-value : goal.returns-in-Some-read_groups-clause-value
returns-in-Some-read_groups-clause-value c =
    sym (ip_in_v6 c.args.text.now c.in-Some-read_groups.number c.in-Some-read_groups.ensures)

pub returns-in-Some-read_groups-clause-found : goal.returns-in-Some-read_groups-clause-found
returns-in-Some-read_groups-clause-found c =
    v6_in_some c.args.text.now c.in-Some-read_groups.number c.in-Some-read_groups.ensures
