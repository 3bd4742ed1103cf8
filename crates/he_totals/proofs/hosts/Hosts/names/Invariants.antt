use Rattle.std.proofs.Common.{◌≡◌, ◌++◌, map, string_bytes, vec_items}
use Rattle.he_totals.proofs.hosts.Hosts.names.Given as goal

abbrev pub invariant-loop-name : goal.invariant-loop-name
invariant-loop-name g l = map string_bytes l.names.items ++ map vec_items l.name-iterator ≡ l.self.names
