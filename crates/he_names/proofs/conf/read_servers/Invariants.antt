use Rattle.std.proofs.Common.{◌≡◌, ◌++◌, drop, map}
use Rattle.std.specs.List.{filter_map}
use Rattle.he_names.specs.Conf.{entry_of, server_of}
use Rattle.he_names.specs.Fields.{texts}
use Rattle.he_names.specs.Literals.{zoned_of}
use Rattle.he_names.proofs.conf.read_servers.Given as goal

-- the servers found so far and those of the lines from here are all
abbrev pub invariant-loop-line : goal.invariant-loop-line
invariant-loop-line g l = map zoned_of l.servers.items ++ filter_map server_of (map entry_of (texts (drop l.line-index l.line-items)))
    ≡ filter_map server_of (map entry_of (texts l.line-items))
