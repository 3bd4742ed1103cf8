-- /proc/net/if_inet6: one line for each IPv6 address, with six fields: address, interface index, prefix length, scope
-- and flags, all in hexadecimal, and the interface's name.
use Rattle.std.specs.Prelude.{ℕ, ◌||◌, not, List, Option, Some, None, Result, Ok, Err, nat_lt, if◌then◌else◌}
use Rattle.he_addr.specs.declared.ip.Ip.TheVariants.{V6}
use Rattle.he_addr.specs.Ip.{is_usable}
use Rattle.he_addr.specs.Reading.{◌>>=◌}
use Rattle.he_select.specs.declared.host.Source.{Source}
use Rattle.he_kernel.specs.declared.if_inet6.AddressLine.{AddressLine}
use Rattle.he_kernel.specs.declared.if_inet6.TheConstants.{TEMPORARY, DAD_FAILED, DEPRECATED, TENTATIVE}
use Rattle.he_kernel.specs.declared.link.Link.{Link}
use Rattle.he_kernel.specs.declared.why.Why.{Why}
use Rattle.he_kernel.specs.declared.why.Why.TheVariants as whys
use Rattle.he_kernel.specs.Hex.{has, hex_field}

-- the numbers of a line
unfoldable pub address_line : List ℕ → Option AddressLine
address_line line = do
  number ← hex_field 32 0 line
  len ← hex_field 2 2 line
  flags ← hex_field 8 4 line
  Some (record { number = number; len = len; flags = flags })

abbrev pub source_on : AddressLine → Option Link → Result Source Why
source_on read None = Err whys.Down
source_on read (Some link) =
    Ok (record {
      ip = V6 read.number;
      plen = read.len;
      interface = link.number;
      deprecated = has read.flags DEPRECATED;
      temporary = has read.flags TEMPORARY;
    })

-- the source of a line, by its interface; an address that is tentative or that failed duplicate address detection is
-- not in use
unfoldable pub source_of : AddressLine → Option Link → Result Source Why
source_of read link =
    if nat_lt 128 read.len then Err whys.Unclear
    else (if has read.flags TENTATIVE || has read.flags DAD_FAILED then Err whys.Unready
    else (if not (is_usable (V6 read.number)) then Err whys.Unusable
    else source_on read link))
