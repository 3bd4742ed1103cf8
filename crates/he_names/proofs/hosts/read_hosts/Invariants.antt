use Rattle.std.proofs.Common.{◌≡◌, ◌++◌, drop}
use Rattle.std.specs.List.{filter_map}
use Rattle.he_names.specs.Fields.{texts}
use Rattle.he_names.specs.Hosts.{line_gives}
use Rattle.he_names.proofs.hosts.read_hosts.Given as goal

-- the addresses found so far and those of the lines from here are all
abbrev pub invariant-loop-line : goal.invariant-loop-line
invariant-loop-line g l = l.found.items ++ filter_map (line_gives l.name) (texts (drop l.line-index l.line-items))
    ≡ filter_map (line_gives l.name) (texts l.line-items)
