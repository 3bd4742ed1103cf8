-- IPv4 hosts that a machine with only IPv6 reaches through its network's NAT64 (RFC 8305 section 7): when they are
-- embedded, and by which prefixes.
use Rattle.std.specs.Prelude.{ℕ, ◌≡◌, ⊤, ◌&&◌, Bool, true, false, not, List, Option, Some, None, codes, map}
use Rattle.std.specs.List.{filter_map, list_all}
use Rattle.he_addr.specs.declared.ip.Family.TheVariants as families
use Rattle.he_addr.specs.declared.ip.Ip.{Ip}
use Rattle.he_addr.specs.declared.ip.Ip.TheVariants.{V4, V6}
use Rattle.he_addr.specs.Ip.{is_v6}
use Rattle.he_nat64.specs.Discovery.{discovered}
use Rattle.he_nat64.specs.Synthesis.{synthesized}
use Rattle.he_setup.specs.declared.request.ConnectRequest.{ConnectRequest}
use Rattle.he_setup.specs.declared.request.Families.{Families}
use Rattle.he_setup.specs.declared.request.Families.TheVariants as tried
use Rattle.he_setup.specs.declared.request.Lines.{Lines}
use Rattle.he_setup.specs.declared.request.Lines.TheVariants as lines

-- ---- when hosts are embedded

-- not with -4
abbrev pub takes_six : Families → Bool
takes_six (tried.Only families.V4) = false
takes_six other = true

-- the lines are this machine's
abbrev pub is_of_machine : Lines → Bool
is_of_machine lines.Machine = true
is_of_machine other = false

-- By the families of the request; by whether all known addresses are of IPv4; by whether the kernel has a way to one
-- of them or to the IPv4 internet or, if none is known, this machine can use IPv4; and by whether the kernel has a way
-- to the IPv6 internet.
abbrev pub is_embedded : Families → Bool → Bool → Bool → Bool
is_embedded wanted only_v4 has_four has_six = takes_six wanted && only_v4 && not has_four && has_six

abbrev pub are_v4 : List Ip → Bool
are_v4 ips = list_all (λ ip. not (is_v6 ip)) ips

abbrev pub v4_number : Ip → Option ℕ
v4_number (V4 n) = Some n
v4_number (V6 n) = None

abbrev pub v6_number : Ip → Option ℕ
v6_number (V4 n) = None
v6_number (V6 n) = Some n

-- hosts are embedded only if -4 isn't given and the lines are this machine's
abbrev pub MayEmbed : Bool → ConnectRequest → Type 0
MayEmbed false request = ⊤
MayEmbed true request = (takes_six request.families ≡ true) × (is_of_machine request.lines ≡ true)

-- ---- which addresses are embedded

-- the name that shows the prefixes; the final dot leaves out the search list
abbrev pub known_name : List ℕ
known_name = codes "ipv4only.arpa."

-- the hosts, embedded by the prefixes that these addresses of ipv4only.arpa. show
abbrev pub embedded_ips : List ℕ → List Ip → List Ip
embedded_ips hosts ips = map (λ n. V6 n) (synthesized (discovered (filter_map v6_number ips)) hosts)
