-- The address to connect to for one in a file or an answer.
use Rattle.std.specs.Prelude.{◌==◌, if◌then◌else◌}
use Rattle.he_addr.specs.declared.ip.Ip.{Ip}
use Rattle.he_addr.specs.declared.ip.Ip.TheVariants as ips

-- the unspecified address means this machine, as for connect(2): it can't be a destination (RFC 1122 section 3.2.1.3,
-- RFC 4291 section 2.5.2)
abbrev pub meant_by : Ip → Ip
meant_by (ips.V4 n) = if n == 0 then ips.V4 2130706433 else ips.V4 n
meant_by (ips.V6 n) = if n == 0 then ips.V6 1 else ips.V6 n
