-- The machine by the files: the result for each line, and which are kept.
use Rattle.std.specs.Prelude.{◌≡◌, ◌++◌, false, true, List, [], Option, Some, None, Ok, drop, length, map, min, take, option_to_list}
use Rattle.he_select.specs.HostFaults.{host_of}
use Rattle.he_select.specs.Hosts.{HostLists}
use Rattle.he_host.specs.declared.found.FoundRoute.{FoundRoute}
use Rattle.he_host.specs.declared.found.FoundSource.{FoundSource}
use Rattle.he_host.specs.declared.host.Files.{Files}
use Rattle.he_host.specs.declared.host.TheConstants.{FIRST, LOOPBACK_BITS, LOOPBACK_LEN}
use Rattle.he_host.specs.declared.interface.Interface.{Interface}
use Rattle.he_kernel.specs.declared.link.Link.{Link}
use Rattle.he_host.specs.declared.left_out.File.TheVariants as files
use Rattle.he_host.specs.declared.left_out.LeftOut.{LeftOut}
use Rattle.he_host.specs.declared.placing.InterfaceAnswer.{InterfaceAnswer}
use Rattle.he_host.specs.FibTrie.{own_addresses}
use Rattle.he_host.specs.Found.{found_v4_route, found_v6_route, found_v6_source}
use Rattle.he_host.specs.Gathering.{route_read, routes_left, source_read, sources_left}
use Rattle.he_kernel.specs.Keeping.{routes_kept, sources_kept}
use Rattle.he_host.specs.Interfaces.{loopback_of}
use Rattle.he_kernel.specs.Lines.{numbered}
use Rattle.he_host.specs.Placing.{found_own}

-- the route to the loopback's IPv4 addresses, 127.0.0.0/8, which no file has
abbrev pub loopback_found : Option Link → Option FoundRoute
loopback_found None = None
loopback_found (Some link) =
    Some (record {
      file = files.Ipv4Route;
      line = 0;
      read = Ok
          (record {
            route = record {
              prefix = record { bits = LOOPBACK_BITS; len = LOOPBACK_LEN };
              interface = link.number;
              tunnel = false;
            };
            metric = 0;
            connected = false;
            carrier = true;
          });
    })

-- the routes found
unfoldable pub routes_in : Files → List Interface → List FoundRoute
routes_in given interfaces =
    option_to_list (loopback_found (loopback_of interfaces))
    ++ map (found_v6_route interfaces) (numbered given.ipv6_route.now)
    ++ map (found_v4_route interfaces) (numbered given.route.now)

-- the IPv6 sources found
unfoldable pub v6_sources_in : Files → List Interface → List FoundSource
v6_sources_in given interfaces = map (found_v6_source interfaces) (numbered given.if_inet6.now)

-- the IPv4 sources found, at places by the routes
unfoldable pub v4_sources_in : Files → List Interface → List FoundRoute → List InterfaceAnswer → List FoundSource
v4_sources_in given interfaces routes asked =
    map (found_own interfaces routes asked) (own_addresses (numbered given.fib_trie.now))

-- the order in which sources are kept: the first IPv4 ones, the IPv6 ones, and the other IPv4 ones
abbrev pub in_turn : List FoundSource → List FoundSource → List FoundSource
in_turn v4 v6 = take (min (length v4) FIRST) v4 ++ v6 ++ drop (min (length v4) FIRST) v4

-- the machine has the kept ones of these, and the report has those left out, sources first
pub record HasKept (sources_found : List FoundSource) (routes_found : List FoundRoute) (host : HostLists)
    (left : List LeftOut) : Type 0 where
  pub made : Ok host ≡ host_of (sources_kept [] (map source_read sources_found)) (routes_kept [] (map route_read routes_found))
  pub told : left ≡ sources_left [] sources_found ++ routes_left [] routes_found

-- the machine by the files, and the lines left out, with the files' routes by rank
abbrev pub IsHostOf : Files → List Interface → List FoundRoute → List InterfaceAnswer → HostLists → List LeftOut → Type 0
IsHostOf given interfaces routes asked host left =
    HasKept (in_turn (v4_sources_in given interfaces routes asked) (v6_sources_in given interfaces)) routes host left
