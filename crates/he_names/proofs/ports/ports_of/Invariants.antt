use Rattle.std.proofs.Common.{◌≡◌, ◌++◌, drop}
use Rattle.std.specs.List.{filter_map}
use Rattle.he_names.specs.Fields.{texts}
use Rattle.he_names.specs.Ports.{line_port}
use Rattle.he_names.proofs.ports.ports_of.Given as goal

-- the ports found so far and those of the lines from here are all
abbrev pub invariant-loop-line : goal.invariant-loop-line
invariant-loop-line g l = l.ports.items ++ filter_map (line_port l.service) (texts (drop l.line-index l.line-items))
    ≡ filter_map (line_port l.service) (texts l.line-items)
